use Rattle.std.proofs.Common.{◌≡◌, ◌++◌, ap, ◌∙◌}
use Rattle.serde_json.specs.View.{view}
use Rattle.namespace_model.specs.ListPaths.{path_data}
use Rattle.namespace_model.specs.Replies.{name_in_body}
use Rattle.inode_tree.specs.Inodes.{BareInode, node_of}
use Rattle.path_walk.proofs.FindLemmas.{ok_then}
use Rattle.path_listing.specs.Listed.{path_in}
use Rattle.path_listing.proofs.body.row_value.Goals as goal

pub returns : goal.returns
returns c =
    ok_then c.path_value.result _ (λ v. view v ≡ path_data (path_in c.args.dir.now c.args.row.now) (node_of c.args.row.now.seen.node)) c.path_value.ensures
    (λ v says. says (path_in c.args.dir.now c.args.row.now) (node_of c.args.row.now.seen.node)
    (c.in_ok-name.ensures ∙ ap (λ l. name_in_body (c.args.dir.now ++ l)) c.as_slice.ensures.value) (record {
      contents = c.contents_of.ensures;
      number = c.number.ensures;
      moment = ap (λ (y : BareInode). y.meta.moment) c.inode.ensures;
      timely = c.requires.timely;
      owner = ap (λ (y : BareInode). y.meta.owner) c.inode.ensures;
      group = ap (λ (y : BareInode). y.meta.group) c.inode.ensures;
      access = ap (λ (y : BareInode). y.meta.acl.access) c.inode.ensures;
      sticky = ap (λ (y : BareInode). y.meta.sticky) c.inode.ensures;
    }))
