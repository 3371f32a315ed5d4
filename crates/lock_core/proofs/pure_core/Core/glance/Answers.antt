use Rattle.std.proofs.Common.{refl, arith}
use Rattle.lock_core.proofs.CoreMoves.{looks_at, looks_past, sound_is}
use Rattle.lock_core.proofs.pure_core.Core.glance.Goals as goal

pub returns-then-seat-len-clause-looks : goal.returns-then-seat-len-clause-looks
returns-then-seat-len-clause-looks g c =
    looks_at g.P.Parted.object g.P.Parted.bare c.self.inside c.self.invariant _ c.self.view_is c.args.seat c.index.result.now _
    (omega (arith, c.len.ensures, c.self.inside.rows.ok.0)) c.index.ensures refl

pub returns-else-seat-len-clause-looks : goal.returns-else-seat-len-clause-looks
returns-else-seat-len-clause-looks g c =
    looks_past g.P.Parted.object g.P.Parted.bare c.self.inside c.self.invariant _ c.self.view_is c.args.seat c.spent.result
    (omega (arith, c.len.ensures, c.self.inside.rows.ok.0)) c.spent.ensures

pub returns-then-seat-len-clause-sound : goal.returns-then-seat-len-clause-sound
returns-then-seat-len-clause-sound g c = sound_is g.P.Parted.object g.P.Parted.bare c.self.inside c.self.invariant _ c.self.view_is

pub returns-else-seat-len-clause-sound : goal.returns-else-seat-len-clause-sound
returns-else-seat-len-clause-sound g c = sound_is g.P.Parted.object g.P.Parted.bare c.self.inside c.self.invariant _ c.self.view_is
