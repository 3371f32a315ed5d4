use Rattle.acl_check.proofs.Checks.{denied_rule, denied_lacks}
use Rattle.acl_check.proofs.permission.check.Goals as goal

pub returns-clause-rule : goal.returns-clause-rule
returns-clause-rule c = denied_rule c.args.access.now c.args.owner.now c.args.group.now c.args.caller.now c.args.want c.case_of.result c.case_of.ensures

pub returns-clause-lacks : goal.returns-clause-lacks
returns-clause-lacks c = denied_lacks c.args.access.now c.args.owner.now c.args.group.now c.args.caller.now c.args.want c.case_of.result c.case_of.ensures
