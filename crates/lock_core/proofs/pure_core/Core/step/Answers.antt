use Rattle.std.proofs.Common.{[]}
use Rattle.lock_core.proofs.CoreMoves.{sound_is}
use Rattle.lock_core.proofs.InWords.{in_words}
use Rattle.lock_core.proofs.Running.{step_keeps}
use Rattle.lock_core.proofs.pure_core.Core.step.Goals as goal

pub returns-clause-kept : goal.returns-clause-kept
returns-clause-kept g c =
    in_words g.P.Parted.object [] _ (step_keeps g.P.Parted.object g.met.P.Parted.lawful [] c.args.self.now _ c.args.event c.make.result c.requires
    (sound_is g.P.Parted.object g.P.Parted.bare c.self.inside c.self.invariant _ c.self.view_is) c.make.ensures)
