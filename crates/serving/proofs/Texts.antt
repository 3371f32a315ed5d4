-- The texts of a journal with one entry more.
use Rattle.std.proofs.Common.{◌≡◌, ℕ, suc, ◌+◌, List, [], ◌∷◌, ◌++◌, zero, length, slice_get, Some, refl, sym, ap, ◌∙◌, append_assoc, append-nil, arith}
use Rattle.namespace_model.specs.declared.request.Entry.{Entry}
use Rattle.namespace_model.specs.declared.reply.Reply.{Reply}
use Rattle.namespace_model.specs.Step.{step, tree_after, replies_of}
use Rattle.namespace_model.proofs.Runs.{replies_push, length-replies_of}
use Rattle.reply_text.specs.ReplyText.{reply_text}
use Rattle.serving.specs.Texts.{texts_from, texts_of, next_text, SpellsTheRun}

texts_from_push : (n : ℕ) (rs : List Reply) (es : List Entry) (r : Reply) (e : Entry) → length rs ≡ length es
    → texts_from n (rs ++ r ∷ []) (es ++ e ∷ []) ≡ texts_from n rs es ++ reply_text r (length es + n) e.moment e.request.head ∷ []
unfolding texts_from
texts_from_push n [] [] r e same = let place : 0 + n ≡ n = omega arith in rw place refl
texts_from_push n [] (x ∷ es) r e same = absurd (omega arith)
texts_from_push n (s ∷ rs) [] r e same = absurd (omega arith)
texts_from_push n (s ∷ rs) (x ∷ es) r e same =
    let place : suc (length es) + n ≡ length es + suc n = omega arith in
    let less : length rs ≡ length es = omega arith in
    rw place (ap (λ ts. reply_text s n x.moment x.request.head ∷ ts) (texts_from_push (suc n) rs es r e less))

-- one entry more adds the text of its reply and leaves the earlier ones
pub texts_push : (es : List Entry) (e : Entry) → texts_of (es ++ e ∷ []) ≡ texts_of es ++ next_text es e ∷ []
unfolding texts_of
texts_push es e =
    let r = (step (tree_after es) e (length es + 1)).reply in
    rw (replies_push es e) (texts_from_push 1 (replies_of es) es r e (length-replies_of es))

length-texts_from : (n : ℕ) (rs : List Reply) (es : List Entry) → length rs ≡ length es → length (texts_from n rs es) ≡ length es
unfolding texts_from
length-texts_from n [] [] same = refl
length-texts_from n [] (x ∷ es) same = absurd (omega arith)
length-texts_from n (s ∷ rs) [] same = absurd (omega arith)
length-texts_from n (s ∷ rs) (x ∷ es) same =
    let less : length rs ≡ length es = omega arith in
    ap suc (length-texts_from (suc n) rs es less)

-- each entry has one text
pub length-texts_of : (es : List Entry) → length (texts_of es) ≡ length es
unfolding texts_of
length-texts_of es = length-texts_from 1 (replies_of es) es (length-replies_of es)

texts_from_at : (n k : ℕ) (rs : List Reply) (es : List Entry) (r : Reply) (e : Entry) → slice_get es k ≡ Some e → slice_get rs k ≡ Some r
    → slice_get (texts_from n rs es) k ≡ Some (reply_text r (k + n) e.moment e.request.head)
unfolding texts_from
texts_from_at n k [] es r e here there = absurd (cc)
texts_from_at n k (s ∷ rs) [] r e here there = absurd (cc)
texts_from_at n zero (s ∷ rs) (x ∷ es) r e here there =
    let place : 0 + n ≡ n = omega arith in
    let entry : x ≡ e = cc in
    let reply : s ≡ r = cc in
    rw (place, entry, reply) refl
texts_from_at n (suc k) (s ∷ rs) (x ∷ es) r e here there =
    let place : suc k + n ≡ k + suc n = omega arith in
    rw place (texts_from_at (suc n) k rs es r e here there)

-- the texts of a journal are those of its run, place by place
pub spells_the_run : (journal : List Entry) → SpellsTheRun journal
unfolding texts_of
spells_the_run journal = record {
  one_more = texts_push journal;
  at_place = λ n e r here there. texts_from_at 1 n (replies_of journal) journal r e here there;
  as_many = length-texts_of journal;
}

-- the texts of a journal that goes on
pub record GoesOnAs (front back : List Entry) : Type 0 where
  pub further : List (List ℕ)
  pub whole : texts_of (front ++ back) ≡ texts_of front ++ further

-- those of its front stay
pub texts_stay : (front back : List Entry) → GoesOnAs front back
texts_stay front [] = record {
  further = [];
  whole = ap texts_of (append-nil front) ∙ sym (append-nil (texts_of front));
}
texts_stay front (e ∷ back) =
    let on = texts_stay (front ++ e ∷ []) back in
    record {
      further = next_text front e ∷ on.further;
      whole =
          ap texts_of (sym (append_assoc front (e ∷ []) back)) ∙ on.whole ∙ ap (λ (l : List (List ℕ)). l ++ on.further) (texts_push front e)
          ∙ append_assoc (texts_of front) (next_text front e ∷ []) on.further;
    }
