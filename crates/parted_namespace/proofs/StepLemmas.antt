-- What a step leaves as it was: dates, and the inodes of ids that it doesn't turn.
use Rattle.std.proofs.Common.{◌≡◌, ℕ, ◌≤◌, nat_lt, leb, Bool, true, false, cond, List, [], ◌++◌, map, flat_map, zip, length, Option, Some, None, is_some, refl, ap, sym, subst, ◌∙◌}
use Rattle.std.proofs.lemmas.Bool.{false≢true}
use Rattle.namespace_model.specs.declared.request.Entry.{Entry}
use Rattle.namespace_model.specs.Outcomes.{Outcome}
use Rattle.namespace_model.specs.Sound.{IsSound}
use Rattle.namespace_model.specs.Stamps.{HasRightStamp, newly_stamped, stamp_kept}
use Rattle.namespace_model.specs.Step.{outcome, step}
use Rattle.namespace_model.specs.Trees.{Path, Tree, IsTree}
use Rattle.namespace_model.proofs.StepStamps.{stamps_after}
use Rattle.inode_tree.specs.After.{Relink, turn_of, making_of, turns_by, known, relinks}
use Rattle.inode_tree.specs.Footprints.{HasDate}
use Rattle.inode_tree.specs.Inodes.{BareInode}
use Rattle.inode_tree.specs.Parts.{Parts, inode_at, follow, id_at}
use Rattle.inode_tree.specs.Stands.{Stands}
use Rattle.inode_tree.specs.Views.{HasDates}
use Rattle.inode_tree.proofs.PairLemmas.{known_is}
use Rattle.inode_tree.proofs.TurnLemmas.{turned_by, Lacks, lacks_all, left_alone}

-- ---- dates

-- after a step each node has a date, where each had one before and the entry has one
pub dates_step : (t : Tree) → IsTree t → (e : Entry) (number : ℕ) → IsSound e.request → HasDate e.moment → HasDates t → HasDates (step t e number).tree
dates_step t is e number sound timely dates q y there = by_stamp (stamps_after t is e sound number q y there)
  where
    by_stamp : HasRightStamp t e (outcome t e) number q y → HasDate y.moment
    by_stamp (newly_stamped p passed may stamped has) = subst (λ m. HasDate m) (sym has.moment_is) timely
    by_stamp (stamp_kept p x passed there same) = subst (λ m. HasDate m) (sym same.moment_is) (dates p x there)

-- ---- ids that no turn has

-- an id of a path is found by following its names from the account
pub followed : (parts : Parts) (p : Path) (id : ℕ) → id_at parts p ≡ Some id → follow parts 0 p ≡ Some id
followed parts p id e = by_length (leb (length p) 60) e
  where
    by_length : (b : Bool) → cond b (follow parts 0 p) None ≡ Some id → follow parts 0 p ≡ Some id
    by_length true h = h
    by_length false h = absurd (false≢true (ap is_some h))

-- an id that isn't kept is none of a path
pub known_lacks : (parts : Parts) (t : Tree) (id : ℕ) (ps : List Path) → Stands parts t → inode_at parts id ≡ None → Lacks id (known parts ps)
known_lacks parts t id ps stands none =
    lacks_all id (known parts ps)
    (λ x h same.
    let is = known_is parts ps x h in
    absurd (false≢true (sym (ap is_some (ap (inode_at parts) same ∙ none)) ∙ stands.found x.0 x.1 (followed parts x.0 x.1 is.1))))

-- the links that an effect makes and breaks
abbrev links_of : Outcome → List (Path × ℕ) → List ℕ → List Relink
links_of o xs ids = relinks o.effect xs (zip o.fresh ids)

-- an id of no turn has what was there
pub turns_leave : (o : Outcome) (xs : List (Path × ℕ)) (ids : List ℕ) (number id : ℕ) (before : Option BareInode) → Lacks id xs → Lacks id (zip o.fresh ids) → turned_by number id (turns_by o xs ids) before ≡ before
turns_leave o xs ids number id before old new = by_count (nat_lt (length ids) (length o.fresh))
  where
    by_count : (b : Bool) → turned_by number id (cond b [] (map (turn_of o.effect (links_of o xs ids)) xs ++ flat_map (making_of o.effect (links_of o xs ids)) (zip o.fresh ids))) before ≡ before
    by_count true = refl
    by_count false = left_alone number o.effect (links_of o xs ids) id xs (zip o.fresh ids) before old new
