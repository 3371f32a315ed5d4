use Rattle.std.proofs.Common.{◌≡◌, take}
use Rattle.acl_text.specs.AclChanges.{given_in}
use Rattle.acl_text.proofs.change.with_given.Given as goal

abbrev pub invariant-loop-of : goal.invariant-loop-of
invariant-loop-of l = l.entries ≡ given_in l.scope (take l.of-index l.items) l.fn.from
