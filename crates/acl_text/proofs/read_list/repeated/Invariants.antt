use Rattle.std.proofs.Common.{◌≡◌, [], take, drop}
use Rattle.acl_text.specs.AclTexts.{repeat_from, same_of}
use Rattle.acl_text.proofs.read_list.repeated.Given as goal

abbrev pub invariant-loop-at : goal.invariant-loop-at
invariant-loop-at g l =
    repeat_from (same_of g.T.Item.scope_of g.T.Item.whom) (take l.at l.items) (drop l.at l.items) ≡ repeat_from (same_of g.T.Item.scope_of g.T.Item.whom) [] l.items
