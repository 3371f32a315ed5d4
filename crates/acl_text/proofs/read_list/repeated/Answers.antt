use Rattle.std.proofs.Common.{sym, ◌∙◌}
use Rattle.acl_text.specs.AclTexts.{same_of}
use Rattle.acl_text.proofs.ListLemmas.{no_repeat_yet}
use Rattle.acl_text.proofs.read_list.repeated.Goals as goal

pub loop-at-preserved : goal.loop-at-preserved
loop-at-preserved g c =
    sym (no_repeat_yet (same_of g.T.Item.scope_of g.T.Item.whom) c.args.items.now c.loop-at.at c.index-items-at.result c.loop-at-test.true c.index-items-at.is (sym c.has.ensures ∙ c.if-has.false)) ∙ c.loop-at.invariant
