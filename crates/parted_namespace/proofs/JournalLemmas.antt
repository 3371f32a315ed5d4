-- The replay of a journal in which each entry fits stands for the run of its entries.
use Rattle.std.proofs.Common.{◌≡◌, ◌⊎◌, inl, inr, ℕ, ◌+◌, ◌*◌, ◌%◌, ◌<◌, ◌≤◌, nat_lt, leb, Bool, true, false, cond, List, [], ◌∷◌, ◌++◌, map, flat_map, zip, length, sum_by, slice_get, Option, Some, None, is_some, IsSome, refl, ap, sym, subst, ◌∙◌, append_assoc, append-nil, length-append, arith}
use Rattle.std.proofs.Math.Dec.{lit<}
use Rattle.std.proofs.Math.Nat.{mod-lt}
use Rattle.std.proofs.Math.Seq.{take-append_seam}
use Rattle.std.proofs.lemmas.Bool.{false≢true}
use Rattle.std.proofs.lemmas.List.{length-map, map-append}
use Rattle.std.proofs.lemmas.List.Sums.{sum_by-append}
use Rattle.std.proofs.lemmas.Option.{same_Some, slice_get_within}
use Rattle.std.specs.FinMap as fin
use Rattle.namespace_model.specs.Outcomes.{Outcome}
use Rattle.namespace_model.specs.Step.{outcome, step, tree_after}
use Rattle.namespace_model.specs.Trees.{Tree}
use Rattle.namespace_model.proofs.LineLaws.{outcome_few}
use Rattle.namespace_model.proofs.Runs.{tree_push, tree_after-nil}
use Rattle.inode_tree.specs.declared.id.NodeId.{NodeId}
use Rattle.inode_tree.specs.declared.placed.Placed.{Placed}
use Rattle.inode_tree.specs.After.{turns_on, outcome_on, known, drawn_ids, after}
use Rattle.inode_tree.specs.Changes.{Part}
use Rattle.inode_tree.specs.Drawing.{DrawsRightly}
use Rattle.inode_tree.specs.Footprints.{Fits}
use Rattle.inode_tree.specs.Inodes.{BareInode}
use Rattle.inode_tree.specs.Parts.{Parts, inode_at}
use Rattle.inode_tree.specs.Rows.{fresh_id}
use Rattle.inode_tree.specs.Stands.{Stands}
use Rattle.inode_tree.specs.Stripes.{StripeRecord}
use Rattle.inode_tree.specs.Views.{HasDates}
use Rattle.inode_tree.proofs.AfterStands.{after_stands}
use Rattle.inode_tree.proofs.TurnLemmas.{number_tells, Lacks, inode-after, length-after}
use Rattle.lock_core.specs.Object.{by_pass, replay}
use Rattle.lock_core.specs.Sound.{AllFit}
use Rattle.lock_core.proofs.Histories.{replay-snoc, by_pass_own, by_pass_other}
use Rattle.parted_namespace.specs.Laws.{with_part, with_parts_at, parts_with, length-parts}
use Rattle.parted_namespace.specs.Namespace.{parts_of, namespace}
use Rattle.parted_namespace.specs.Opening.{opening_stripes}
use Rattle.parted_namespace.specs.Journals.{entries_of, ids_given, IsGiven, uses, StandsFor}
use Rattle.parted_namespace.proofs.OpeningTree.{opening_is, opening_parts, opening_stands, opening_dates, alone}
use Rattle.parted_namespace.proofs.StepLemmas.{dates_step, known_lacks, turns_leave}
use Rattle.parted_namespace.proofs.GivenIds.{get_behind, at_within, ids_own, ids_other, differs, given_grows, drawn_or}
use mathlib.Core.Option.{some}
use lib.ListN.{get_elem?}

-- ---- ids that are still to be given

-- an id that a pass has still to give is kept nowhere
pub free_later : (h : List Placed) → StandsFor h → (pass k : ℕ) → pass < 64 → length (ids_given pass h) ≤ k → inode_at (parts_of (replay namespace h)) (fresh_id pass k) ≡ None
free_later h so pass k small later = by_inode (inode_at (parts_of (replay namespace h)) (fresh_id pass k)) refl
  where
    not_given : IsGiven h (fresh_id pass k) → ⊥
    not_given g =
        let row : 1 + pass + 65 * k ≡ 1 + g.pass + 65 * g.place = g.is in
        let same : pass ≡ g.pass = omega (arith, row, small, g.below) in
        let many : length (ids_given pass h) ≡ length (ids_given g.pass h) = ap (λ p. length (ids_given p h)) same in
        absurd (omega (arith, row, same, many, later, g.within))

    by_inode : (o : Option BareInode) → inode_at (parts_of (replay namespace h)) (fresh_id pass k) ≡ o → o ≡ None
    by_inode None e = refl
    by_inode (Some x) e = elim (so.given (fresh_id pass k) (ap is_some e)) [
      | inl zero_is ↦ absurd (let z : 1 + pass + 65 * k ≡ 0 = zero_is in omega (arith, z))
      | inr g ↦ absurd (not_given g)
    ]

-- ---- one entry more

-- the stripe that has another part
which : (o : Option StripeRecord) (p : Option Part) (s : StripeRecord) → with_part o p ≡ Some s → (r : StripeRecord) × (o ≡ Some r) × (s.stripe ≡ r.stripe) × (s.ready ≡ r.ready)
which None p s e = absurd (false≢true (ap is_some e))
which (Some r) None s e = (r, refl, ap (λ (z : StripeRecord). z.stripe) (sym (same_Some r s e)), ap (λ (z : StripeRecord). z.ready) (sym (same_Some r s e)))
which (Some r) (Some part) s e =
    let same : record r { part = part } ≡ s = same_Some (record r { part = part }) s e in
    (r, refl, ap (λ (z : StripeRecord). z.stripe) (sym same), ap (λ (z : StripeRecord). z.ready) (sym same))

module _ (h : List Placed) (so : StandsFor h) (e : Placed) (fits : Fits e.pass (by_pass namespace e.pass h) (parts_of (replay namespace h)) e) where
  abbrev xs : List StripeRecord
  xs = replay namespace h

  abbrev parts : Parts
  parts = parts_of xs

  abbrev t : Tree
  t = tree_after (entries_of h)

  abbrev number : ℕ
  number = length h + 1

  abbrev old : ℕ
  old = length (ids_given e.pass h)

  parts_are : parts_of (replay namespace (h ++ e ∷ [])) ≡ after parts e number
  parts_are =
      ap (λ ys. parts_of ys) (replay-snoc namespace h e)
      ∙ parts_with xs (after parts e number) (length-after number (turns_on parts e) parts ∙ length-parts xs)

  tree_is : tree_after (entries_of (h ++ e ∷ [])) ≡ (step t e.entry number).tree
  tree_is =
      ap tree_after (map-append (λ (x : Placed). x.entry) h (e ∷ []))
      ∙ tree_push (entries_of h) e.entry
      ∙ ap (λ n. (step t e.entry (n + 1)).tree) (length-map h (λ (x : Placed). x.entry))

  same_outcome : outcome_on parts e ≡ outcome t e.entry
  same_outcome = ap (λ (u : Tree). outcome u e.entry) so.stands.shown

  few : length e.ids ≤ 60
  few = omega (arith, fits.as_many, ap (λ (o : Outcome). length o.fresh) same_outcome, outcome_few t e.entry fits.sound)

  -- a drawn id has its place in the row
  place : (k id : ℕ) → slice_get (drawn_ids e) k ≡ Some id → id ≡ fresh_id e.pass (old + k)
  place k id there = fits.next (old + k) id (get_behind (ids_given e.pass h) (drawn_ids e) k ∙ there)

  draws : DrawsRightly parts t e
  draws = record {
    as_many = fits.as_many ∙ ap (λ (o : Outcome). length o.fresh) same_outcome;
    once = λ j k id a b. (let both : 1 + e.pass + 65 * (old + j) ≡ 1 + e.pass + 65 * (old + k) = sym (place j id a) ∙ place k id b in let same : j ≡ k = omega (arith, both) in same);
    free = λ k id a. ap (inode_at parts) (place k id a) ∙ free_later h so e.pass (old + k) fits.below (omega arith);
  }

  stands_after : Stands (parts_of (replay namespace (h ++ e ∷ []))) (tree_after (entries_of (h ++ e ∷ [])))
  stands_after =
      subst (λ (u : Tree). Stands (parts_of (replay namespace (h ++ e ∷ []))) u) (sym tree_is)
      (subst (λ (ps : Parts). Stands ps (step t e.entry number).tree) (sym parts_are) (after_stands parts t e number so.stands fits.sound draws))

  numbered_after : (k : ℕ) (s : StripeRecord) → slice_get (replay namespace (h ++ e ∷ [])) k ≡ Some s → (s.stripe ≡ k) × (s.ready ≡ fin.empty)
  numbered_after k s q =
      let r = which (slice_get xs k) (slice_get (after parts e number) k) s (sym (with_parts_at xs (after parts e number) k) ∙ ap (λ ys. slice_get ys k) (sym (replay-snoc namespace h e)) ∙ q) in
      let was = so.numbered k r.0 r.1 in
      (r.2 ∙ was.0, r.3 ∙ was.1)

  dates_after : HasDates (tree_after (entries_of (h ++ e ∷ [])))
  dates_after = subst HasDates (sym tree_is) (dates_step t so.stands.tree e.entry number fits.sound fits.moment so.dates)

  given_after : (id : ℕ) → IsSome (inode_at (after parts e number) id) → (id ≡ 0) ⊎ IsGiven (h ++ e ∷ []) id
  given_after id there = by_before (inode_at parts id) refl
    where
      part_there : (stripe : ℕ) → stripe < 64 → (part : Part) × (slice_get parts stripe ≡ Some part)
      part_there stripe small = at_within parts stripe (subst (λ n. stripe < n) (sym so.stands.striped.long) small)

      by_drawn : inode_at parts id ≡ None → Lacks id (zip (outcome_on parts e).fresh (drawn_ids e)) ⊎ ((k : ℕ) × (slice_get (drawn_ids e) k ≡ Some id)) → (id ≡ 0) ⊎ IsGiven (h ++ e ∷ []) id
      by_drawn none (inl lacks) =
          let part = part_there (id % 64) (mod-lt id (lit< tt)) in
          let stays : inode_at (after parts e number) id ≡ None =
          inode-after number id (turns_on parts e) parts part.0 part.1
          ∙ turns_leave (outcome_on parts e) (known parts (outcome_on parts e).written) (drawn_ids e) number id (inode_at parts id) (known_lacks parts t id (outcome_on parts e).written so.stands none) lacks
          ∙ none in
          absurd (false≢true (sym (ap is_some stays) ∙ there))
      by_drawn none (inr k) =
          let within : k.0 < length (drawn_ids e) = slice_get_within (drawn_ids e) k.0 id k.1 in
          inr (record {
            pass = e.pass;
            place = old + k.0;
            below = fits.below;
            within = omega (arith, within, ap length (ids_own e.pass h e refl), length-append (ids_given e.pass h) (drawn_ids e));
            is = place k.0 id k.1;
          })

      by_before : (o : Option BareInode) → inode_at parts id ≡ o → (id ≡ 0) ⊎ IsGiven (h ++ e ∷ []) id
      by_before None none = by_drawn none (drawn_or id (outcome_on parts e).fresh (drawn_ids e))
      by_before (Some x) is = elim (so.given id (ap is_some is)) [ inl zero_is ↦ inl zero_is | inr g ↦ inr (given_grows h e id g) ]

  rows_after : (pass : ℕ) (k id : ℕ) → slice_get (ids_given pass (h ++ e ∷ [])) k ≡ Some id → id ≡ fresh_id pass k
  rows_after pass k id there = elim (number_tells e.pass pass) [
    | inl is ↦
        let next = fits.next k id (sym (ap (λ (l : List ℕ). slice_get l k) (ids_own e.pass h e refl)) ∙ ap (λ p. slice_get (ids_given p (h ++ e ∷ [])) k) is ∙ there) in
        next ∙ ap (λ p. fresh_id p k) is
    | inr other ↦ so.rows pass k id (sym (ap (λ (l : List ℕ). slice_get l k) (ids_other pass h e (differs e.pass pass other))) ∙ there)
  ]

  uses_all : uses e ≡ length e.ids
  uses_all = let small = few in omega (arith, small)

  counted_after : (pass : ℕ) → sum_by uses (by_pass namespace pass (h ++ e ∷ [])) ≡ length (ids_given pass (h ++ e ∷ []))
  counted_after pass = elim (number_tells e.pass pass) [
    | inl is ↦
        let sum : sum_by uses (by_pass namespace pass (h ++ e ∷ [])) ≡ sum_by uses (by_pass namespace pass h) + sum_by uses (e ∷ []) =
        ap (λ l. sum_by uses l) (by_pass_own namespace pass h e is) ∙ sum_by-append uses (by_pass namespace pass h) (e ∷ []) in
        let one : sum_by uses (e ∷ []) ≡ length e.ids = (let z : 0 + uses e ≡ uses e = omega arith in z) ∙ uses_all in
        let drawn : length (drawn_ids e) ≡ length e.ids = length-map e.ids (λ (i : NodeId). i.0) in
        omega (arith, sum, one, drawn, so.counted pass, ap length (ids_own pass h e is), length-append (ids_given pass h) (drawn_ids e))
    | inr other ↦
        ap (λ l. sum_by uses l) (by_pass_other namespace pass h e (differs e.pass pass other)) ∙ so.counted pass
        ∙ sym (ap length (ids_other pass h e (differs e.pass pass other)))
  ]

  stands_next : StandsFor (h ++ e ∷ [])
  stands_next = record {
    stands = stands_after;
    numbered = numbered_after;
    dates = dates_after;
    given = λ id there. given_after id (ap (λ (ps : Parts). is_some (inode_at ps id)) (sym parts_are) ∙ there);
    rows = rows_after;
    counted = counted_after;
  }

-- ---- the start

stands_at_start : StandsFor []
stands_at_start = record {
  stands = subst (Stands (parts_of opening_stripes)) (sym tree_after-nil) (opening_stands (parts_of opening_stripes) opening_parts);
  numbered = λ k s there. let is = opening_is k s there in (ap (λ (z : StripeRecord). z.stripe) is, ap (λ (z : StripeRecord). z.ready) is);
  dates = subst HasDates (sym tree_after-nil) opening_dates;
  given = λ id there. inl (alone (parts_of opening_stripes) opening_parts id there);
  rows = λ pass k id there. absurd (false≢true (ap is_some there));
  counted = λ pass. refl;
}

-- ---- a whole journal

elem_seam : (done rest : List Placed) (e : Placed) → get_elem? (done ++ e ∷ rest) (length done) ≡ some e
elem_seam [] rest e = refl
elem_seam (x ∷ done) rest e = elem_seam done rest e

-- the entry behind a beginning fits there
fits_at : (done rest : List Placed) (e : Placed) → AllFit namespace (done ++ e ∷ rest) → Fits e.pass (by_pass namespace e.pass done) (parts_of (replay namespace done)) e
fits_at done rest e all =
    subst (λ (l : List Placed). Fits e.pass (by_pass namespace e.pass l) (parts_of (replay namespace l)) e) (take-append_seam done (e ∷ rest)) (all (length done) e (elem_seam done rest e))

stands_from : (rest done : List Placed) → AllFit namespace (done ++ rest) → StandsFor done → StandsFor (done ++ rest)
stands_from [] done all so = subst StandsFor (sym (append-nil done)) so
stands_from (e ∷ rest) done all so =
    let joined : (done ++ e ∷ []) ++ rest ≡ done ++ e ∷ rest = append_assoc done (e ∷ []) rest in
    subst StandsFor joined (stands_from rest (done ++ e ∷ []) (subst (λ l. AllFit namespace l) (sym joined) all) (stands_next done so e (fits_at done rest e all)))

pub fitting_stand : (journal : List Placed) → AllFit namespace journal → StandsFor journal
fitting_stand h all = stands_from h [] all stands_at_start
