-- What a submit makes of the sequential engine.
use Rattle.std.proofs.Common.{◌≡◌, ℕ, zero, suc, ◌+◌, ◌%◌, ◌<◌, ◌≤◌, Bool, true, false, List, [], ◌∷◌, ◌++◌, map, zip, length, slice_get, Some, None, option_map, refl, ap, sym, subst, ◌∙◌, length-append, arith}
use Rattle.std.proofs.lemmas.Bool.{false≢true}
use Rattle.std.proofs.lemmas.Option.{same_Some}
use Rattle.std.specs.Int.{bit_at}
use Rattle.lease_state.specs.declared.lease.TheConstants.{LAST_MOMENT}
use Rattle.lock_core.specs.declared.object.LockMode.TheVariants as mode
use Rattle.namespace_model.specs.declared.request.Entry.{Entry}
use Rattle.namespace_model.specs.declared.request.Request.{Request}
use Rattle.namespace_model.specs.Sound.{IsSound}
use Rattle.namespace_model.specs.Step.{step, new_paths, tree_from, tree_after}
use Rattle.namespace_model.specs.Trees.{Path, Tree, opening_tree}
use Rattle.namespace_model.proofs.Runs.{tree_push}
use Rattle.namespace_model.proofs.LineLaws.{outcome_few}
use Rattle.inode_tree.specs.declared.change.Change.{Change}
use Rattle.inode_tree.specs.declared.draft.Draft.{Draft}
use Rattle.inode_tree.specs.declared.fresh.Fresh.{Fresh}
use Rattle.inode_tree.specs.declared.id.NodeId.{NodeId}
use Rattle.inode_tree.specs.declared.need.Need.{Need}
use Rattle.inode_tree.specs.declared.placed.Placed.{Placed}
use Rattle.inode_tree.specs.After.{turns_on, outcome_on, known, drawn_ids, after}
use Rattle.inode_tree.specs.Changes.{Part, applied}
use Rattle.inode_tree.specs.Drawing.{next_ids}
use Rattle.inode_tree.specs.Footprints.{HasDate, read_ids, written_ids, lies_in, reads, writes}
use Rattle.inode_tree.specs.Parts.{Parts, inode_at}
use Rattle.inode_tree.specs.Promises.{applied_all, numbers_of, is_one_of, IsEntryOf, IsOfStep, IsDraft, IsNeed}
use Rattle.inode_tree.specs.Rows.{fresh_id}
use Rattle.inode_tree.specs.Stands.{Stands}
use Rattle.inode_tree.specs.Views.{Held, Shown, ArePossible, covers, HasDates}
use Rattle.inode_tree.proofs.PromiseLemmas.{lies_one, at-applied_all}
use Rattle.inode_tree.proofs.FrameLemmas.{others_stay}
use Rattle.inode_tree.proofs.TurnLemmas.{Lacks, inode-after}
use Rattle.parted_namespace.proofs.GivenIds.{at_within}
use Rattle.parted_namespace.proofs.StepLemmas.{dates_step, known_lacks, turns_leave}
use Rattle.path_walk.proofs.SetLemmas.{one_lies}
use Rattle.engine.specs.Solos.{SoloView, parts_in, placed_behind, IsKept, made_from, made_by}
use Rattle.engine.specs.Stripes.{LeaveOthers}
use Rattle.reply_text.specs.ReplyText.{CanSpell, reply_text}
use Rattle.std.proofs.Math.Dec.{lit<}
use Rattle.std.proofs.Math.Nat.{mod-lt}
use Rattle.striped_store.specs.Receipts.{AreBits}
use Rattle.inode_tree.specs.Parts as parts
use Rattle.engine.specs.declared.solo.Answer.{Answer}
use Rattle.engine.specs.Submits.{Submits}
use Rattle.engine.proofs.FineSteps.{outcome_fine}
use Rattle.serving.specs.Texts.{texts_of}
use Rattle.reply_marks.specs.Marks.{mark_of}
use Rattle.serving.proofs.Texts.{texts_push}

-- ---- moments

has_date : (moment : ℕ) → moment ≤ LAST_MOMENT → HasDate moment
has_date moment timely = let last : LAST_MOMENT ≡ 253402300799999 = refl in omega (arith, timely, last)

-- ---- all stripes are held

abbrev all_held : Held
all_held stripe = mode.Exclusive

-- nothing is needed
pub needs_nothing : (shown : Shown) (request : Request) (moment : ℕ) (fresh : Fresh) (n : Need) → ¬ IsNeed all_held shown request moment fresh n
needs_nothing shown request moment fresh n need = by_mode n.mode need.lacks
  where
    by_mode : (m : _) → covers mode.Exclusive m ≡ false → ⊥
    by_mode mode.None h = false≢true (sym h)
    by_mode mode.Shared h = false≢true (sym h)
    by_mode mode.Exclusive h = false≢true (sym h)

-- ---- how many nodes were made

plus_assoc : (a b c : ℕ) → a + (b + c) ≡ (a + b) + c
plus_assoc a b c = omega arith

made_from_push : (t : Tree) (n : ℕ) (es : List Entry) (e : Entry) → made_from t n (es ++ e ∷ []) ≡ made_from t n es + length (new_paths (tree_from t n es) e)
unfolding made_from tree_from
made_from_push t n [] e = let h : length (new_paths t e) + 0 ≡ 0 + length (new_paths t e) = omega arith in h
made_from_push t n (x ∷ es) e =
    ap (λ m. length (new_paths t x) + m) (made_from_push (step t x n).tree (suc n) es e)
    ∙ plus_assoc (length (new_paths t x)) (made_from (step t x n).tree (suc n) es) (length (new_paths (tree_from (step t x n).tree (suc n) es) e))

-- one entry more makes those of its own
made_push : (es : List Entry) (e : Entry) → made_by (es ++ e ∷ []) ≡ made_by es + length (new_paths (tree_after es) e)
unfolding made_by tree_after
made_push es e = made_from_push opening_tree 1 es e

-- ---- ids that stay free

-- ids that were drawn before are not the one at a later place
lacks_later : (paths : List Path) (used many k : ℕ) → used + many ≤ k → Lacks (fresh_id 0 k) (zip paths (map (λ (i : NodeId). i.0) (next_ids 0 used many)))
lacks_later [] used many k h = tt
lacks_later (p ∷ paths) used zero k h = tt
lacks_later (p ∷ paths) used (suc many) k h = (λ e. absurd (omega arith), lacks_later paths (suc used) many k (omega arith))

-- ---- the stripes of a footprint

same_tests : (a b : Bool) → (a ≡ true → b ≡ true) → (b ≡ true → a ≡ true) → a ≡ b
same_tests true b to from = sym (to refl)
same_tests false false to from = refl
same_tests false true to from = from refl

same_stripes : (xs ys : List ℕ) → ((id : ℕ) → is_one_of id xs ≡ is_one_of id ys) → (stripe : ℕ) → lies_in stripe xs ≡ lies_in stripe ys
same_stripes xs ys same stripe =
    same_tests _ _
    (λ h. let l = lies_one stripe xs h in one_lies stripe l.0 ys (sym (same l.0) ∙ l.1) l.2)
    (λ h. let l = lies_one stripe ys h in one_lies stripe l.0 xs (same l.0 ∙ l.1) l.2)

-- ---- a submit

module _ (old : SoloView) (kept : IsKept old) (e : Entry) (sound : IsSound e.request) (timely : e.moment ≤ LAST_MOMENT)
    (shown : Shown) (shows : (stripe : ℕ) → shown stripe ≡ slice_get (parts_in old) stripe) (fresh : Fresh) (pass : fresh.pass ≡ 0) (used : fresh.used ≡ old.used)
    (d : Draft) (draft : IsDraft all_held shown e.request e.moment fresh d) where
  abbrev t : Tree
  t = tree_after old.entries

  abbrev placed : Placed
  placed = placed_behind old e

  entry_of : IsEntryOf e.request e.moment fresh t placed
  entry_of = record {
    asks = refl;
    comes_at = refl;
    by = sym pass;
    draws = ap (λ p. next_ids p old.used (length (new_paths t e))) (sym pass) ∙ ap (λ u. next_ids fresh.pass u (length (new_paths t e))) (sym used);
  }

  possible : ArePossible shown fresh.pass fresh.used (parts_in old) t
  possible = record {
    stands = kept.stands;
    agrees = λ stripe part h. sym (shows stripe) ∙ h;
    free = λ k h. ap (λ p. inode_at (parts_in old) (fresh_id p k)) pass ∙ kept.free k (subst (λ u. u ≤ k) used h);
  }

  pub of_step : IsOfStep d (parts_in old) t placed
  of_step = draft.of_step (parts_in old) t placed possible entry_of

  pub spelled : CanSpell d.reply
  spelled = subst CanSpell (sym of_step.reply) (outcome_fine t e timely kept.dates).spelled

  abbrev number : ℕ
  number = length old.entries + 1

  pub parts_after : (parts : Parts) → parts ≡ applied_all number d.changes.items (parts_in old) → parts ≡ after (parts_in old) placed number
  parts_after parts is = is ∙ of_step.parts_after number

  -- the parts with the changes stand for the tree that they show
  pub stand_so : Stands (applied_all number d.changes.items (parts_in old)) (parts.tree_of (applied_all number d.changes.items (parts_in old)))
  stand_so = let s = of_step.stands number in subst (Stands (applied_all number d.changes.items (parts_in old))) (sym s.shown) s

  free_after : (k : ℕ) → old.used + length (new_paths t e) ≤ k → inode_at (after (parts_in old) placed number) (fresh_id 0 k) ≡ None
  free_after k h =
      let there = part_there (fresh_id 0 k % 64) (mod-lt (fresh_id 0 k) (lit< tt)) in
      inode-after number (fresh_id 0 k) (turns_on (parts_in old) placed) (parts_in old) there.0 there.1
      ∙ turns_leave (outcome_on (parts_in old) placed) (known (parts_in old) (outcome_on (parts_in old) placed).written) (drawn_ids placed) number (fresh_id 0 k) (inode_at (parts_in old) (fresh_id 0 k))
      (known_lacks (parts_in old) t (fresh_id 0 k) (outcome_on (parts_in old) placed).written kept.stands free_now)
      (lacks_later (outcome_on (parts_in old) placed).fresh old.used (length (new_paths t e)) k h)
      ∙ free_now
    where
      free_now : inode_at (parts_in old) (fresh_id 0 k) ≡ None
      free_now = kept.free k (omega arith)

      part_there : (stripe : ℕ) → stripe < 64 → (part : Part) × (slice_get (parts_in old) stripe ≡ Some part)
      part_there stripe h = at_within (parts_in old) stripe (subst (λ n. stripe < n) (sym kept.stands.striped.long) h)

  -- what is kept behind the entry
  pub kept_after : (new : SoloView) → new.entries ≡ old.entries ++ e ∷ [] → parts_in new ≡ applied_all number d.changes.items (parts_in old) → new.used ≡ old.used + d.drawn → IsKept new
  kept_after new pushed is drawn =
      let tree_is : tree_after new.entries ≡ (step t e number).tree = ap tree_after pushed ∙ tree_push old.entries e in
      record {
        stands = subst (Stands (parts_in new)) (sym tree_is) (subst (λ (ps : Parts). Stands ps (step t e number).tree) (sym is) (of_step.stands number));
        made = drawn ∙ ap (λ n. old.used + n) of_step.drawn ∙ ap (λ n. n + length (new_paths t e)) kept.made ∙ sym (made_push old.entries e) ∙ sym (ap made_by pushed);
        dates = subst HasDates (sym tree_is) (dates_step t kept.stands.tree e number sound (has_date e.moment timely) kept.dates);
        few = omega (arith, ap length pushed, length-append old.entries (e ∷ []), drawn, of_step.drawn, outcome_few t e sound, kept.few);
        free = λ k h. ap (λ (ps : Parts). inode_at ps (fresh_id 0 k)) (parts_after (parts_in new) is) ∙ free_after k (omega (arith, h, drawn, of_step.drawn));
      }

  pub written_stripes : (k : ℕ) → lies_in k (numbers_of d.writes.items) ≡ writes (parts_in old) placed k
  written_stripes k = same_stripes (numbers_of d.writes.items) (written_ids (parts_in old) placed) of_step.written_ids k

  pub read_stripes : (k : ℕ) → lies_in k (numbers_of d.reads.items) ≡ reads (parts_in old) placed k
  read_stripes k = same_stripes (numbers_of d.reads.items) (read_ids (parts_in old) placed) of_step.read_ids k

  -- the changes leave the stripes that the entry doesn't write
  pub others_left : (written n : ℕ) (changes : List Change) (ps : Parts) → AreBits written (λ k. lies_in k (numbers_of d.writes.items) ≡ true) → n ≡ number → changes ≡ d.changes.items → ps ≡ parts_in old
      → LeaveOthers written n changes ps
  others_left written n changes ps are a b c =
      subst (λ qs. LeaveOthers written n changes qs) (sym c) (subst (λ cs. LeaveOthers written n cs (parts_in old)) (sym b) (subst (λ m. LeaveOthers written m d.changes.items (parts_in old)) (sym a) left))
    where
      unwritten : (k : ℕ) → k < 64 → bit_at written k ≡ 0 → (w : Bool) → lies_in k (numbers_of d.writes.items) ≡ w → writes (parts_in old) placed k ≡ false
      unwritten k small free true is = absurd (let set : bit_at written k ≡ 1 = (are k small).1 is in omega (arith, set, free))
      unwritten k small free false is = sym (written_stripes k) ∙ is

      left : LeaveOthers written number d.changes.items (parts_in old)
      left k part small free there =
          same_Some _ part
          (sym (at-applied_all number d.changes.items (parts_in old) k ∙ ap (option_map (applied k number d.changes.items)) there)
          ∙ ap (λ (qs : Parts). slice_get qs k) (of_step.parts_after number)
          ∙ others_stay (parts_in old) placed k number (unwritten k small free (lies_in k (numbers_of d.writes.items)) refl)
          ∙ there)

  -- the entry is submitted
  pub submits : (new : SoloView) (answer : Answer) → new.entries ≡ old.entries ++ e ∷ [] → parts_in new ≡ applied_all number d.changes.items (parts_in old) → new.used ≡ old.used + d.drawn
      → answer.bytes.items ≡ reply_text d.reply number e.moment e.request.head → answer.mark ≡ mark_of d.reply → answer.receipt.number ≡ number
      → AreBits answer.receipt.exclusive (λ k. lies_in k (numbers_of d.writes.items) ≡ true)
      → AreBits answer.receipt.shared (λ k. (lies_in k (numbers_of d.writes.items) ≡ false) × (lies_in k (numbers_of d.reads.items) ≡ true))
      → answer.receipt.rounds ≡ 1 → Submits old new e answer
  submits new answer pushed is drawn text marked numbered exclusive shared rounds =
      let longer : length new.entries ≡ number = ap length pushed ∙ length-append old.entries (e ∷ []) in
      record {
        journal = pushed;
        text = ap texts_of pushed ∙ texts_push old.entries e ∙ ap (λ x. texts_of old.entries ++ x ∷ []) (sym (text ∙ ap (λ r. reply_text r number e.moment e.request.head) of_step.reply));
        mark = marked ∙ ap mark_of of_step.reply;
        parts = parts_after (parts_in new) is ∙ ap (after (parts_in old) placed) (sym longer);
        ids = drawn ∙ ap (λ n. old.used + n) of_step.drawn;
        number = numbered ∙ sym longer;
        written = λ k h. let b = exclusive k h in (λ x. sym (written_stripes k) ∙ b.0 x, λ x. b.1 (written_stripes k ∙ x));
        read = λ k h. let b = shared k h in
            (λ x. let both = b.0 x in (sym (written_stripes k) ∙ both.0, sym (read_stripes k) ∙ both.1), λ x. b.1 (written_stripes k ∙ x.0, read_stripes k ∙ x.1));
        rounds = rounds;
      }

  -- the changes in the words of the code
  pub applied_is : (n : ℕ) (changes : List Change) (ps : Parts) → n ≡ number → changes ≡ d.changes.items → ps ≡ parts_in old → applied_all n changes ps ≡ applied_all number d.changes.items (parts_in old)
  applied_is n changes ps a b c = ap (λ m. applied_all m changes ps) a ∙ ap (λ cs. applied_all number cs ps) b ∙ ap (applied_all number d.changes.items) c

  pub stand_as : (ps : Parts) → ps ≡ applied_all number d.changes.items (parts_in old) → Stands ps (parts.tree_of ps)
  stand_as ps is = subst (λ (qs : Parts). Stands qs (parts.tree_of qs)) (sym is) stand_so

  pub date_as : (ps : Parts) → ps ≡ applied_all number d.changes.items (parts_in old) → HasDates (parts.tree_of ps)
  date_as ps is =
      subst (λ (qs : Parts). HasDates (parts.tree_of qs)) (sym is)
      (subst HasDates (sym (of_step.stands number).shown) (dates_step t kept.stands.tree e number sound (has_date e.moment timely) kept.dates))
