-- A node that was found sits where the call looks.
use Rattle.std.proofs.Common.{◌≡◌, subst}
use Rattle.namespace_model.specs.declared.caller.Caller.{Caller}
use Rattle.namespace_model.specs.Trees.{Path}
use Rattle.inode_tree.specs.declared.id.NodeId.{NodeId}
use Rattle.inode_tree.specs.Inodes.{BareInode}
use Rattle.inode_tree.specs.Views.{Held, Shown}
use Rattle.path_walk.specs.declared.find.Find.{Find}
use Rattle.path_walk.specs.declared.find.Found.TheVariants as found
use Rattle.path_walk.specs.Edits.{IsSeat}
use Rattle.path_walk.specs.Finds.{IsFound, IsPlaced, IsPlacedAt, IsFindFor}
use Rattle.path_walk.specs.Visits.{AreLookedAt}

pub find_seat : (held : Held) (shown : Shown) (caller : Caller) (path : Path) (f : Find) (id : NodeId) (x : BareInode) → f.found ≡ found.Node id x → IsFindFor shown caller path f → AreLookedAt held shown f.ids.items
    → IsSeat held shown caller path f.ids.items id x
find_seat held shown caller path f id x is finds looked = record {
  is_seat = λ parts t stands agrees.
      let find = finds parts t stands agrees in
      let here = subst (IsFound t caller path) is find.found_is in
      let placed : IsPlacedAt parts path id.0 x = subst (IsPlaced parts path) is find.placed in
      record { passes = here.0; holds = here.1; read = find.read; leads = placed.leads; there = placed.there };
  looked = looked;
}
