-- The texts of replies to the entries of a journal.
use Rattle.std.specs.Prelude.{◌≡◌, ℕ, suc, ◌+◌, List, [], ◌∷◌, ◌++◌, length, drop, slice_get, Some}
use Rattle.namespace_model.specs.declared.request.Entry.{Entry}
use Rattle.namespace_model.specs.declared.reply.Reply.{Reply}
use Rattle.namespace_model.specs.Step.{step, tree_after, replies_of}
use Rattle.reply_text.specs.ReplyText.{reply_text}

-- the texts of replies to entries with numbers from this one on
unfoldable pub texts_from : ℕ → List Reply → List Entry → List (List ℕ)
texts_from number [] entries = []
texts_from number (r ∷ rs) [] = []
texts_from number (r ∷ rs) (e ∷ es) = reply_text r number e.moment e.request.head ∷ texts_from (suc number) rs es

-- for each entry of a journal in order, the text of the reply that the run of the journal gives at its place
unfoldable pub texts_of : List Entry → List (List ℕ)
texts_of journal = texts_from 1 (replies_of journal) journal

-- the text of the reply to an entry behind a journal: its step on the tree that the journal leaves, under the number of its place
abbrev pub next_text : List Entry → Entry → List ℕ
next_text journal e = reply_text (step (tree_after journal) e (length journal + 1)).reply (length journal + 1) e.moment e.request.head

-- What is worked out entry after entry is what the run of the whole journal gives at each place. Places count from 1 here, as numbers do.
pub record SpellsTheRun (journal : List Entry) : Type 0 where
  pub one_more : (e : Entry) → texts_of (journal ++ e ∷ []) ≡ texts_of journal ++ next_text journal e ∷ []
  pub at_place : (n : ℕ) (e : Entry) (r : Reply) → slice_get journal n ≡ Some e → slice_get (replies_of journal) n ≡ Some r
      → slice_get (texts_of journal) n ≡ Some (reply_text r (n + 1) e.moment e.request.head)
  pub as_many : length (texts_of journal) ≡ length journal

-- the bytes of an entry's body
abbrev pub body_of : Entry → ℕ
body_of e = length e.request.body
