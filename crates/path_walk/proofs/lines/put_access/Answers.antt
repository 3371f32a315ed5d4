use Rattle.std.proofs.Common.{ap}
use Rattle.namespace_model.specs.declared.field.Field.TheVariants.{Owner, Group, Permissions}
use Rattle.path_walk.proofs.LineLemmas.{three_more}
use Rattle.path_walk.proofs.lines.put_access.Goals as goal

pub returns : goal.returns
returns c = three_more _ _ _ _ _ _ _ _ _ _ c.in_ok-push.ensures.items c.in_ok-push-2.ensures.items c.in_ok-push-3.ensures.items (ap Owner c.in_ok-owner.ensures) (ap Group c.in_ok-group.ensures) (ap Permissions c.in_ok-permissions.ensures)
