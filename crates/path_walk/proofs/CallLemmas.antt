-- What a view that went on keeps, and what may be carried over to it.
use Rattle.std.proofs.Common.{ℕ, ◌%◌, List, ap, ◌∙◌}
use Rattle.lock_core.specs.declared.object.LockMode.TheVariants.{Shared}
use Rattle.inode_tree.specs.declared.id.NodeId.{NodeId}
use Rattle.inode_tree.specs.declared.need.Need.{Need}
use Rattle.inode_tree.specs.Inodes.{BareInode}
use Rattle.inode_tree.specs.Parts.{Parts}
use Rattle.inode_tree.specs.Views.{Held, Shown, Agrees, IsKnown, covers}
use Rattle.path_walk.specs.Calls.{GoesOn}
use Rattle.path_walk.specs.Visits.{AreLookedAt, NeedsChild}
use Rattle.path_walk.proofs.TrailLemmas.{agrees_before, looked_grows}

-- one after the other
pub on_both : {O : Type 0} {held between later : Held} {over over_between over_later : O} {shown shown_between shown_later : Shown}
    → GoesOn held between over over_between shown shown_between → GoesOn between later over_between over_later shown_between shown_later
    → GoesOn held later over over_later shown shown_later
on_both first then = record {
  held_same = then.held_same ∙ first.held_same;
  over_same = then.over_same ∙ first.over_same;
  grows = λ stripe part e. then.grows stripe part (first.grows stripe part e);
}

module _ {O : Type 0} {held later : Held} {over over_later : O} {shown shown_later : Shown} (on : GoesOn held later over over_later shown shown_later) where
  -- parts that agree with what is shown later agree with what was shown
  pub agrees_earlier : (parts : Parts) → Agrees shown_later parts → Agrees shown parts
  agrees_earlier parts agrees = agrees_before shown shown_later parts on.grows agrees

  -- an id that is known stays so
  pub known_later : (id : ℕ) → IsKnown shown id → IsKnown shown_later id
  known_later id known parts t stands agrees = known parts t stands (agrees_earlier parts agrees)

  -- what was looked at stays so
  pub looked_later : (ids : List NodeId) → AreLookedAt held shown ids → AreLookedAt later shown_later ids
  looked_later ids looked id h =
      let was = looked_grows held shown shown_later ids on.grows looked id h in
      (ap (λ (m : Held). covers (m (id % 64)) Shared) on.held_same ∙ was.0, was.1)

  -- a child whose stripe isn't held
  pub needs_later : (x : BareInode) (name : List ℕ) (n : Need) → NeedsChild held x name n → NeedsChild later x name n
  needs_later x name n needs = record {
    child = needs.child;
    leads = needs.leads;
    stripe = needs.stripe;
    asks = needs.asks;
    lacks = ap (λ (m : Held). covers (m (needs.child % 64)) Shared) on.held_same ∙ needs.lacks;
  }
