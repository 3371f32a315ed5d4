use Rattle.std.proofs.Common.{◌≡◌, take, filter}
use Rattle.acl_text.specs.Scopes.{in_scope}
use Rattle.acl_text.proofs.item.of_scope.Given as goal

abbrev pub invariant-loop-item : goal.invariant-loop-item
invariant-loop-item g l = l.kept.items ≡ filter (λ e. in_scope l.scope (g.T.Item.scope_of e)) (take l.item-index l.items)
