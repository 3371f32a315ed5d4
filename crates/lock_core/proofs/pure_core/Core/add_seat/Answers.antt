use Rattle.std.proofs.Common.{[], ap, ◌∙◌, arith}
use Rattle.lock_core.specs.Machine.{LockState}
use Rattle.lock_core.proofs.Split.{split_keeps}
use Rattle.lock_core.proofs.CoreMoves.{live_row, sound_is}
use Rattle.lock_core.proofs.Growing.{rows_split}
use Rattle.lock_core.proofs.Rigid.{shows, core_is}
use Rattle.lock_core.proofs.pure_core.Core.add_seat.Goals as goal

pub index-requires : goal.index-requires
index-requires g c =
    let l = live_row g.P.Parted.object g.P.Parted.bare c.self.inside c.self.invariant _ c.self.view_is c.args.seat c.requires.0 in
    omega (arith, c.self.inside.rows.ok.0)

pub invariant_of-self-2 : goal.invariant_of-self-2
invariant_of-self-2 g c =
    core_is g.P.Parted.object g.met.P.Parted.lawful _
    (split_keeps g.P.Parted.object [] c.args.self.now c.args.seat (sound_is g.P.Parted.object g.P.Parted.bare c.self.inside c.self.invariant _ c.self.view_is) c.requires)
    g.P.Parted.bare _ c.self.invariant.parts
    (ap (λ (z : LockState g.row.P-Part.Denot g.row.P-Entry.Denot g.row.P-Reply.Denot). z.words) c.self.view_is)
    (ap (λ (z : LockState g.row.P-Part.Denot g.row.P-Entry.Denot g.row.P-Reply.Denot). z.journal) c.self.view_is)
    (ap (λ (z : LockState g.row.P-Part.Denot g.row.P-Entry.Denot g.row.P-Reply.Denot). z.replies) c.self.view_is)
    (rows_split g.P.Parted.object g.met.P.Parted.lawful g.P.Parted.bare c.self.inside c.self.invariant _ c.self.view_is c.args.seat c.requires.0 c.index.result.now _ _
    c.index.ensures (c.len.ensures ∙ c.self.inside.rows.ok.0) c.new.ensures c.new-2.ensures.items c.in_ok-push.ensures.items)

pub returns : goal.returns
returns g c =
    shows g.P.Parted.object g.met.P.Parted.lawful _
    (split_keeps g.P.Parted.object [] c.args.self.now c.args.seat (sound_is g.P.Parted.object g.P.Parted.bare c.self.inside c.self.invariant _ c.self.view_is) c.requires) _
    (ap (λ (z : LockState g.row.P-Part.Denot g.row.P-Entry.Denot g.row.P-Reply.Denot). z.words) c.self.view_is)
    c.self.invariant.parts
    (ap (λ (z : LockState g.row.P-Part.Denot g.row.P-Entry.Denot g.row.P-Reply.Denot). z.journal) c.self.view_is)
    (ap (λ (z : LockState g.row.P-Part.Denot g.row.P-Entry.Denot g.row.P-Reply.Denot). z.replies) c.self.view_is)
    (rows_split g.P.Parted.object g.met.P.Parted.lawful g.P.Parted.bare c.self.inside c.self.invariant _ c.self.view_is c.args.seat c.requires.0 c.index.result.now _ _
    c.index.ensures (c.len.ensures ∙ c.self.inside.rows.ok.0) c.new.ensures c.new-2.ensures.items c.in_ok-push.ensures.items)
