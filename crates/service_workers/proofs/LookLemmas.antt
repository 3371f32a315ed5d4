-- What a pass has found is what one journal leaves.
use Rattle.std.proofs.Common.{◌≡◌, ◌≢◌, inl, inr, ℕ, zero, suc, ◌%◌, ◌<◌, List, [], ◌∷◌, length, slice_get, Some, None, option_map, option_and_then, is_some, refl, ap, sym, ◌∙◌, arith}
use Rattle.std.specs.Cmp.{unsigned_Decides}
use Rattle.std.specs.FinMap as fin
use Rattle.std.proofs.lemmas.Bool.{false≢true}
use Rattle.std.proofs.lemmas.Option.{same_Some}
use Rattle.lock_core.specs.declared.machine.Hold.{Hold}
use Rattle.lock_core.specs.Machine.{hold_at, note_of}
use Rattle.lock_core.specs.Object.{replay}
use Rattle.inode_tree.specs.Changes.{Part}
use Rattle.inode_tree.specs.Parts.{inode_at}
use Rattle.inode_tree.specs.Stripes.{StripeRecord}
use Rattle.inode_tree.specs.Views.{Shown, Agrees, Grows, Agreeing, IsKnown}
use Rattle.inode_tree.proofs.TurnLemmas.{number_tells}
use Rattle.namespace_model.specs.Step.{tree_after}
use Rattle.striped_store.specs.Views.{found_by, FindsOneJournal}
use Rattle.parted_namespace.specs.Laws.{option_of, get-elem, part_at}
use Rattle.parted_namespace.specs.Journals.{entries_of, StandsFor}
use Rattle.parted_namespace.specs.Namespace.{parts_of, namespace}
use Rattle.parted_namespace.proofs.JournalLemmas.{fitting_stand}
use Rattle.service_workers.specs.Looks.{NamespacePass, shown_by}
use mathlib.Core.Option as maybe
use mathlib.Core.Option.{none, some, some-ne-none}

-- a stripe with a note is one of the list
note_within : (hs : List (Hold StripeRecord)) (k : ℕ) (x : StripeRecord) → note_of (hold_at hs k) ≡ some x → k < length hs
note_within [] k x e = absurd (some-ne-none x (sym e))
note_within (h ∷ hs) zero x e = omega arith
note_within (h ∷ hs) (suc k) x e = let less = note_within hs k x e in omega (arith, less)

-- the stripe whose part is shown
some_note : (o : maybe.Option StripeRecord) (part : Part) → option_map (λ (s : StripeRecord). s.part) (option_of o) ≡ Some part → (s : StripeRecord) × (o ≡ some s) × (s.part ≡ part)
some_note none part e = absurd (false≢true (ap is_some e))
some_note (some s) part e = (s, refl, same_Some s.part part e)

module _ {K : Type 0} where
  module _ (p : NamespacePass K) (found : FindsOneJournal namespace p) where
    abbrev stripes : List StripeRecord
    stripes = replay namespace found.journal

    pub so : StandsFor found.journal
    so = fitting_stand found.journal found.fit

    noted : (k : ℕ) (s : StripeRecord) → found_by p k ≡ some s → slice_get (parts_of stripes) k ≡ Some s.part
    noted k s e =
        let less : k < 64 = (let w = note_within p.seat.me.0.at.holds k s e in omega (arith, w, found.wide)) in
        part_at stripes k ∙ ap (option_map (λ (z : StripeRecord). z.part)) (get-elem stripes k ∙ ap option_of (found.notes k s less e))

    pub agrees : Agrees (shown_by p) (parts_of stripes)
    agrees k part e = let s = some_note (found_by p k) part e in noted k s.0 s.1 ∙ ap (λ q. Some q) s.2

    -- parts that stand for a tree agree with what was shown
    pub agreeing : Agreeing (shown_by p)
    agreeing = record { parts = parts_of stripes; tree = tree_after (entries_of found.journal); stands = so.stands; agrees = agrees; dates = so.dates }

    -- an id that was known before is in the part that was found
    pub known_there : (old : Shown) → Grows old (shown_by p) → (id : ℕ) → IsKnown old id → (s : StripeRecord) → found_by p (id % 64) ≡ some s → fin.get s.part id ≡ None → ⊥
    known_there old grows id known s e nothing =
        let there = known (parts_of stripes) (tree_after (entries_of found.journal)) so.stands (λ k part h. agrees k part (grows k part h)) in
        let lost : inode_at (parts_of stripes) id ≡ None = ap (option_and_then (λ (part : Part). fin.get part id)) (noted (id % 64) s e) ∙ nothing in
        false≢true (sym (ap is_some lost) ∙ there)

  -- a look at one stripe leaves what was shown
  pub looked_grows : (old new : NamespacePass K) (stripe : ℕ) → ((x : StripeRecord) → found_by old stripe ≡ some x → found_by new stripe ≡ some x)
      → ((k : ℕ) → k ≢ stripe → hold_at new.seat.me.0.at.holds k ≡ hold_at old.seat.me.0.at.holds k) → Grows (shown_by old) (shown_by new)
  looked_grows old new stripe again others k part h = elim (number_tells k stripe) [
    | inl same ↦
        let s = some_note (found_by old stripe) part (ap (shown_by old) (sym same) ∙ h) in
        ap (shown_by new) same ∙ ap (λ o. option_map (λ (z : StripeRecord). z.part) (option_of o)) (again s.0 s.1) ∙ ap (λ q. Some q) s.2
    | inr other ↦
        ap (λ (x : Hold StripeRecord). option_map (λ (z : StripeRecord). z.part) (option_of (note_of x))) (others k (λ e. false≢true (sym other ∙ (unsigned_Decides k stripe).1 e))) ∙ h
  ]
