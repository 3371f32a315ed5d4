use Rattle.std.proofs.Common.{◌∙◌, sym}
use Rattle.acl_recursive.proofs.WalkLemmas.{below_ends, some_ends, none_first}
use Rattle.acl_recursive.proofs.walk.Walk.is_at_end.Goals as goal

pub returns-then-is_some : goal.returns-then-is_some
returns-then-is_some c = λ held shown dir from ahead parts t stands agrees. some_ends t dir from c.args.self.now (sym c.is_some.ensures ∙ c.if-is_some.true)

pub returns : goal.returns
returns c = λ held shown dir from ahead parts t stands agrees.
    below_ends t dir from c.args.self.now c.is_at_end.result (none_first c.args.self.now.first (sym c.is_some.ensures ∙ c.if-is_some.false)) (c.is_at_end.ensures parts t dir from stands (ahead.cursor parts t stands agrees))
