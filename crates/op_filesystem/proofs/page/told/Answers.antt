use Rattle.std.proofs.Common.{◌∷◌, [], ap}
use Rattle.inode_tree.specs.Inodes.{BareInode, node_of}
use Rattle.path_walk.proofs.FindLemmas.{ok_then}
use Rattle.op_filesystem.specs.Listed.{IsTold}
use Rattle.op_filesystem.proofs.ListedLemmas.{is_timely, is_filesystem, told_is}
use Rattle.op_filesystem.proofs.page.told.Goals as goal

pub returns-clause-told : goal.returns-clause-told
returns-clause-told g c =
    ok_then c.filesystem_value.result _ (IsTold c.args.name.now (node_of c.args.root.now)) c.filesystem_value.ensures (λ v tells.
    told_is c.args.name.now c.args.root.now _ _ v c.number.ensures (ap (λ (y : BareInode). y.meta.moment) c.inode.ensures)
    (is_timely (g.V.View.shown c.args.view.now) (c.args.name.now ∷ []) c.args.root.now c.stands.ensures c.requires.root) tells)

pub returns-clause-named : goal.returns-clause-named
returns-clause-named g c = is_filesystem (g.V.View.shown c.args.view.now) c.args.name.now c.args.root.now c.stands.ensures c.requires.root
