use Rattle.std.proofs.Common.{◌++◌, List, refl, ap, ◌∙◌}
use Rattle.serde_json.specs.View.{items_view}
use Rattle.serde_json.specs.declared.value.Value.{Value}
use Rattle.body_text.proofs.BodyLemmas.{failure_pushed}
use Rattle.namespace_model.specs.Replies.{name_in_body}
use Rattle.inode_tree.specs.Inodes.{node_of}
use Rattle.acl_recursive.specs.Batched.{path_in}
use Rattle.acl_recursive.proofs.tally.Tally.put_failure.Goals as goal

pub returns : goal.returns
returns c = record {
  edits = refl;
  changed = refl;
  failed = λ fs so_far.
      ap (λ (l : List Value). items_view l) c.in_ok-push.ensures.items
      ∙ failure_pushed fs _ c.args.self.now.failed.items c.in_ok-value.value so_far
      (c.in_ok-value.ensures (path_in c.args.dir.now c.args.step.now) (node_of c.args.step.now.seen.node) (c.in_ok-name.ensures ∙ ap (λ l. name_in_body (c.args.dir.now ++ l)) c.as_slice.ensures.value) c.kind_in.ensures);
  ids = c.in_ok-push-2.ensures.items;
}
