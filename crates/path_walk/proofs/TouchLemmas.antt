-- A shared hold is needed of a stripe in which a node lies that is read or written.
use Rattle.std.proofs.Common.{◌≡◌, ◌⊎◌, inl, inr, ℕ, ◌<◌, true, false, ◌||◌, List, [], ◌∷◌, ◌++◌, ap, sym, subst, ◌∙◌}
use Rattle.lock_core.specs.declared.object.LockMode.TheVariants as mode
use Rattle.namespace_model.specs.declared.request.Request.{Request}
use Rattle.namespace_model.specs.Locality.{Among}
use Rattle.namespace_model.specs.Outcomes.{Outcome, touched}
use Rattle.namespace_model.specs.Step.{outcome}
use Rattle.namespace_model.specs.Trees.{Path, Tree}
use Rattle.inode_tree.specs.declared.fresh.Fresh.{Fresh}
use Rattle.inode_tree.specs.declared.need.Need.{Need}
use Rattle.inode_tree.specs.declared.placed.Placed.{Placed}
use Rattle.inode_tree.specs.After.{known, drawn_ids, outcome_on}
use Rattle.inode_tree.specs.Footprints.{ids_of, lies_in, reads, writes}
use Rattle.inode_tree.specs.Parts.{Parts}
use Rattle.inode_tree.specs.Promises.{IsEntryOf, IsNeed, NeedsStripe, is_one_of}
use Rattle.inode_tree.specs.Views.{Held, Shown, ArePossible, covers}
use Rattle.inode_tree.proofs.PairLemmas.{known_has, known_is}
use Rattle.inode_tree.proofs.PromiseLemmas.{outcome_there, lies_one}
use Rattle.path_walk.proofs.SetLemmas.{one_has, has_one, one_lies}
use Rattle.path_walk.proofs.TrailLemmas.{one_of_append}
use Rattle.path_walk.proofs.Truths.{either_true}

pub among_either : (p : Path) (ps qs : List Path) → Among p (ps ++ qs) → Among p ps ⊎ Among p qs
among_either p [] qs h = inr h
among_either p (x ∷ ps) qs (inl e) = inl (inl e)
among_either p (x ∷ ps) qs (inr h) = elim (among_either p ps qs h) [ inl k ↦ inl (inr k) | inr k ↦ inr k ]

-- an entry reads or writes in the stripe of a node of a path that it touches
touched_lies : (parts : Parts) (e : Placed) (stripe : ℕ) (ps : List Path) → ((p : Path) → Among p ps → Among p (touched (outcome_on parts e))) → lies_in stripe (ids_of parts ps) ≡ true
    → (reads parts e stripe || writes parts e stripe) ≡ true
touched_lies parts e stripe ps to lies =
    let one = lies_one stripe (ids_of parts ps) lies in
    let found = has_one (known parts ps) one.0 one.1 in
    let is = known_is parts ps (found.0, one.0) found.1 in
    elim (among_either found.0 (outcome_on parts e).read (outcome_on parts e).written (to found.0 is.0)) [
      | inl r ↦
          let reads_it : reads parts e stripe ≡ true =
          one_lies stripe one.0 (ids_of parts (outcome_on parts e).read)
          (one_has (known parts (outcome_on parts e).read) (found.0, one.0) (known_has parts (outcome_on parts e).read found.0 one.0 r is.1)) one.2 in
          ap (λ b. b || writes parts e stripe) reads_it
      | inr w ↦
          let of_written : is_one_of one.0 (ids_of parts (outcome_on parts e).written) ≡ true =
          one_has (known parts (outcome_on parts e).written) (found.0, one.0) (known_has parts (outcome_on parts e).written found.0 one.0 w is.1) in
          let writes_it : writes parts e stripe ≡ true =
          one_lies stripe one.0 (ids_of parts (outcome_on parts e).written ++ drawn_ids e)
          (one_of_append one.0 (ids_of parts (outcome_on parts e).written) (drawn_ids e) ∙ ap (λ b. b || is_one_of one.0 (drawn_ids e)) of_written) one.2 in
          ap (λ b. reads parts e stripe || b) writes_it ∙ either_true (reads parts e stripe)
    ]

-- A stripe of paths that an entry reads or writes is needed, where it isn't held.
pub touched_need : (held : Held) (shown : Shown) (request : Request) (moment : ℕ) (fresh : Fresh) (n : Need) → n.stripe < 64 → n.mode ≡ mode.Shared → covers (held n.stripe) mode.Shared ≡ false
    → ((parts : Parts) (t : Tree) (e : Placed) → ArePossible shown fresh.pass fresh.used parts t → IsEntryOf request moment fresh t e
    → (ps : List Path) × ((p : Path) → Among p ps → Among p (touched (outcome t e.entry))) × (lies_in n.stripe (ids_of parts ps) ≡ true))
    → IsNeed held shown request moment fresh n
touched_need held shown request moment fresh n within asks lacks says = record {
  within = within;
  lacks = ap (covers (held n.stripe)) asks ∙ lacks;
  needed = λ parts t e possible of.
      let said = says parts t e possible of in
      subst (λ m. NeedsStripe m n.stripe parts e) (sym asks)
      (touched_lies parts e n.stripe said.0
      (λ p h. subst (λ (o : Outcome). Among p (touched o)) (sym (outcome_there shown request moment fresh parts t e possible of)) (said.1 p h)) said.2);
}
