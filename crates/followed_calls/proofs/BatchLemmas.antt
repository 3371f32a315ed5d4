-- What the answer to a batch tells, and what it writes.
use Rattle.std.proofs.Common.{◌≡◌, ◌⊎◌, inl, inr, ℕ, ◌==◌, Bool, true, false, cond, List, [], ◌∷◌, length, slice_get, Option, None, Result, Ok, Err, refl, ap, sym, ◌∙◌}
use Rattle.std.proofs.lemmas.Bool.{false≢true}
use Rattle.acl_text.specs.declared.acl.AclPair.{AclPair}
use Rattle.namespace_model.specs.declared.code.Code.{Code}
use Rattle.namespace_model.specs.declared.op.BatchChange.{BatchChange}
use Rattle.namespace_model.specs.declared.op.Op.TheVariants as op
use Rattle.namespace_model.specs.declared.request.Entry.{Entry}
use Rattle.namespace_model.specs.Locality.{Among}
use Rattle.namespace_model.specs.Nodes.{Node}
use Rattle.namespace_model.specs.PageRuns.{of_batch, page_at}
use Rattle.namespace_model.specs.Pages.{Page}
use Rattle.namespace_model.specs.Refusals.{caller_of}
use Rattle.namespace_model.specs.SetAccessRecursive.{Batch, Failure, batch_below, batch_body, batch_next, batch_of, batch_page, batched, resume_at, set_access_recursive, turn_of, with_turn}
use Rattle.namespace_model.specs.Step.{acts, outcome}
use Rattle.namespace_model.specs.Trees.{Path, Tree, node_at}
use Rattle.followed_calls.specs.Calls.{AnsweredCall, KeepsPromise, outcome_of}
use Rattle.followed_calls.specs.Told.{AreHandled, changed_paths, failed_paths}
use Rattle.followed_calls.proofs.ReplyLemmas.{was_found}
use Rattle.followed_calls.proofs.ListingLemmas.{IsPageReply, asked_of, clean_there, page_reply}

-- ---- the nodes that were handled

-- the paths that a batch handled are some of those that it was to handle, and all of them where no failure ends it
pub record Handled (force : Bool) (ps : List Path) (b : Batch) : Type 0 where
  pub paths : List Path
  pub in_turn : AreHandled paths (changed_paths b) (failed_paths b)
  pub within : (q : Path) → Among q paths → Among q ps
  pub whole : (force ≡ true) ⊎ (b.failed ≡ []) → paths ≡ ps

one_more : (p : Path) (xs ps : List Path) → ((q : Path) → Among q xs → Among q ps) → (q : Path) → Among q (p ∷ xs) → Among q (p ∷ ps)
one_more p xs ps more q (inl e) = inl e
one_more p xs ps more q (inr h) = inr (more q h)

any_failed : List Failure → Bool
any_failed [] = false
any_failed (f ∷ fs) = true

failed_some : (f : Failure) (fs : List Failure) → ◌≡◌ {A = List Failure} (f ∷ fs) [] → ⊥
unfolding any_failed
failed_some f fs e = false≢true (sym (ap any_failed e))

with_one : (e : Entry) (force : Bool) (p : Path) (ps : List Path) (x : Node) (r : Result AclPair Code) (rest : Batch) → Handled force ps rest → Handled force (p ∷ ps) (with_turn e force p x r rest)
with_one e force p ps x (Ok pair) rest h = record {
  paths = p ∷ h.paths;
  in_turn = inl (changed_paths rest, (refl, h.in_turn));
  within = one_more p h.paths ps h.within;
  whole = λ goes. ap (λ l. p ∷ l) (h.whole goes);
}
with_one e true p ps x (Err code) rest h = record {
  paths = p ∷ h.paths;
  in_turn = inr (failed_paths rest, (refl, h.in_turn));
  within = one_more p h.paths ps h.within;
  whole = λ goes. ap (λ l. p ∷ l) (h.whole (inl refl));
}
with_one e false p ps x (Err code) rest h = record {
  paths = p ∷ [];
  in_turn = inr ([], (refl, (refl, refl)));
  within = one_more p [] ps (λ q k. absurd k);
  whole = λ goes. absurd (elim goes [ inl k ↦ false≢true k | inr k ↦ failed_some _ _ k ]);
}

pub handled_of : (t : Tree) (e : Entry) (change : BatchChange) (force : Bool) (ps : List Path) → Handled force ps (batch_of t e change force ps)
handled_of t e change force [] = record { paths = []; in_turn = (refl, refl); within = λ q h. h; whole = λ goes. refl }
handled_of t e change force (p ∷ ps) =
    with_one e force p ps (node_at t p) (turn_of (caller_of e) change (node_at t p)) (batch_of t e change force ps) (handled_of t e change force ps)

-- ---- what is replied

pub record IsBatchReply (c : AnsweredCall) (p : Path) (force : Bool) (token : Option Path) (page : Page) (b : Batch) : Type 0 where
  pub replied : IsPageReply (slice_get p 0) (batch_next force token page b) (batch_body b) c.draft.reply
  pub put : (outcome_of c).effect.puts ≡ b.changed

effect_is : (t : Tree) (e : Entry) → (outcome t e).effect ≡ (acts t e e.request.op).effect
unfolding outcome
effect_is t e = refl

batch_done : (t : Tree) (e : Entry) (p : Path) (change : BatchChange) (token : Option Path) (max : ℕ) (force : Bool) → (set_access_recursive t e p change token max force).reply.code ≡ None
    → ((set_access_recursive t e p change token max force).reply ≡ (batched e p force token (batch_page t p token max) (batch_of t e change force (batch_page t p token max).paths)).reply)
    × ((set_access_recursive t e p change token max force).effect ≡ (batched e p force token (batch_page t p token max) (batch_of t e change force (batch_page t p token max).paths)).effect)
unfolding set_access_recursive
batch_done t e p change token max force clean =
    let at_p = was_found t e p (batch_below t e p change token force (batch_page t p token max)) clean in (at_p.replied, at_p.done)

pub batch_told : (c : AnsweredCall) (p : Path) (change : BatchChange) (token : Option Path) (max : ℕ) (force : Bool) → KeepsPromise c → c.request.op ≡ op.SetAccessRecursive p change token max force → c.draft.reply.code ≡ None
    → IsBatchReply c p force token (page_at (of_batch p) max token c.tree) (batch_of c.tree c.entry.entry change force (page_at (of_batch p) max token c.tree).paths)
batch_told c p change token max force is e clean =
    let asked = op.SetAccessRecursive p change token max force in
    let done = batch_done c.tree c.entry.entry p change token max force (clean_there c is asked e clean) in
    record {
      replied = page_reply c is asked e _ _ _ done.0;
      put = ap (λ f. f.puts) (effect_is c.tree c.entry.entry) ∙ ap (λ o. (acts c.tree c.entry.entry o).effect.puts) (asked_of c is asked e) ∙ ap (λ f. f.puts) done.1;
    }

-- a batch that no failure ends goes on by the token of its page
pub next_of_page : (force : Bool) (token : Option Path) (page : Page) (b : Batch) → (force ≡ true) ⊎ (b.failed ≡ []) → batch_next force token page b ≡ page.next
next_of_page true token page b goes = refl
next_of_page false token page b (inl e) = absurd (false≢true e)
next_of_page false token page b (inr e) = ap (λ (l : List Failure). cond (length l == 0) page.next (resume_at token b.changed)) e
