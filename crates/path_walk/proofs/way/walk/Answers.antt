use Rattle.std.proofs.Common.{Err, ap}
use Rattle.path_walk.proofs.StepLemmas.{ends_held}
use Rattle.path_walk.proofs.way.walk.Goals as goal

pub returns-in-Reached-clause-walked : goal.returns-in-Reached-clause-walked
returns-in-Reached-clause-walked g c =
    (ends_held c.in-Ok.ensures.visited c.in-Ok.ensures.looked c.in-Reached.is, λ parts t stands agrees. (c.in-Ok.ensures.visited parts t stands agrees).read)

pub returns-in-NotFound-clause-walked : goal.returns-in-NotFound-clause-walked
returns-in-NotFound-clause-walked g c = ends_held c.in-Ok.ensures.visited c.in-Ok.ensures.looked c.in-NotFound.is

pub returns-in-NotDirectory-clause-walked : goal.returns-in-NotDirectory-clause-walked
returns-in-NotDirectory-clause-walked g c = ends_held c.in-Ok.ensures.visited c.in-Ok.ensures.looked c.in-NotDirectory.is

pub returns-in-Ok-clause-walked : goal.returns-in-Ok-clause-walked
returns-in-Ok-clause-walked g c = ends_held c.in-Ok.ensures.visited c.in-Ok.ensures.looked c.in-Denied.is

pub returns-in-Err-Need-clause-walked : goal.returns-in-Err-Need-clause-walked
returns-in-Err-Need-clause-walked g c = c.in-Err-Need.ensures.need c.in-Err-Need.need (ap Err c.in-Err-Need.field-0-is)
