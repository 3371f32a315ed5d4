use Rattle.std.proofs.Common.{refl}
use Rattle.path_locks.proofs.Looks.{latch_note, looked_at}
use Rattle.path_locks.proofs.steps.latch.look_shared.Goals as goal

pub give_latch-requires-clause-part : goal.give_latch-requires-clause-part
give_latch-requires-clause-part g c = latch_note g.P.Parted.object _ _ _ _ c.requires.there c.lock_latch-part.ensures.taken

pub returns-clause-looked : goal.returns-clause-looked
returns-clause-looked g c = (
  c.lock_latch-part.result,
  (_, c.f-answer.ensures, refl),
  looked_at g.P.Parted.object _ _ _ _ _ c.requires.may.1.quiet.no_latch c.lock_latch-part.ensures.taken c.give_latch.ensures.given,
)
