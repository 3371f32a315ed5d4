use Rattle.std.proofs.Common.{[], ◌∷◌, true, ap, ◌∙◌}
use Rattle.inode_tree.specs.declared.change.Edit.{Edit}
use Rattle.inode_tree.specs.declared.change.Edit.TheVariants as edit
use Rattle.inode_tree.specs.declared.meta.Meta.{Meta}
use Rattle.path_walk.specs.Calls.{entry_of}
use Rattle.op_meta.specs.Metas.{access_meta, setting_of}
use Rattle.op_meta.proofs.EditLemmas.{stamped_at, access_edit, edits_say}
use Rattle.op_meta.proofs.access.access_put.Goals as goal

pub returns : goal.returns
returns c =
    edits_say _ _ _ _ _ _ _ _
    (ap (λ (k : Edit). k ∷ [])
    (c.stamp.ensures
    ∙ ap (λ (m : Meta). edit.Meta (stamped_at m c.args.call.now.moment) true) c.in_ok-meta.ensures
    ∙ ap (λ (m : Meta). edit.Meta (stamped_at (access_meta (setting_of c.args.setting.now) c.args.pair c.args.call.now.moment m) c.args.call.now.moment) true) c.in_ok-kept.ensures))
    c.in_ok-reply.ensures
    (access_edit (entry_of c.args.call.now) c.args.call.now.path.now c.args.node.now (setting_of c.args.setting.now) c.args.pair)
    c.one_edit.ensures
