use Rattle.std.proofs.Common.{refl, ap, sym, ◌∙◌, slice_set, arith}
use Rattle.lock_core.specs.Machine.{LockState}
use Rattle.lock_core.proofs.Columns.{live_within}
use Rattle.lock_core.proofs.CoreMoves.{rows_long, rows_put, sound_is}
use Rattle.lock_core.proofs.Rigid.{shows, core_is}
use Rattle.lock_core.proofs.pure_core.Core.put.Goals as goal

pub index_mut-requires : goal.index_mut-requires
index_mut-requires g c =
    let s = sound_is g.P.Parted.object g.P.Parted.bare c.self.inside c.self.invariant _ c.self.view_is in
    omega (arith, c.self.inside.words.ok.0, c.self.invariant.sound.words, c.requires.1.at_below)

pub index_mut-row-requires : goal.index_mut-row-requires
index_mut-row-requires g c =
    let l = live_within c.args.self.now.seats c.args.seat c.requires.1.live in
    let r = rows_long g.P.Parted.object g.P.Parted.bare c.self.inside c.self.invariant _ c.self.view_is in
    omega (arith, c.self.inside.rows.ok.0)

pub invariant_of-self : goal.invariant_of-self
invariant_of-self g c =
    let put = c.requires.1 in
    core_is g.P.Parted.object g.met.P.Parted.lawful c.requires.0 c.requires.2 g.P.Parted.bare _ c.self.invariant.parts
    (ap (λ (z : LockState g.row.P-Part.Denot g.row.P-Entry.Denot g.row.P-Reply.Denot). slice_set z.words c.args.at c.args.word) c.self.view_is ∙ sym put.words)
    (ap (λ (z : LockState g.row.P-Part.Denot g.row.P-Entry.Denot g.row.P-Reply.Denot). z.journal) c.self.view_is ∙ sym put.journal)
    (ap (λ (z : LockState g.row.P-Part.Denot g.row.P-Entry.Denot g.row.P-Reply.Denot). z.replies) c.self.view_is ∙ sym put.replies)
    (rows_put g.P.Parted.object g.P.Parted.bare c.self.inside c.self.invariant _ c.self.view_is _ _ _ _ _ put c.index_mut-row.result.now _
    c.index_mut-row.ensures.value refl)

pub returns : goal.returns
returns g c m put ok =
    shows g.P.Parted.object g.met.P.Parted.lawful m ok _
    (ap (λ (z : LockState g.row.P-Part.Denot g.row.P-Entry.Denot g.row.P-Reply.Denot). slice_set z.words c.args.at c.args.word) c.self.view_is ∙ sym put.words)
    c.self.invariant.parts
    (ap (λ (z : LockState g.row.P-Part.Denot g.row.P-Entry.Denot g.row.P-Reply.Denot). z.journal) c.self.view_is ∙ sym put.journal)
    (ap (λ (z : LockState g.row.P-Part.Denot g.row.P-Entry.Denot g.row.P-Reply.Denot). z.replies) c.self.view_is ∙ sym put.replies)
    (rows_put g.P.Parted.object g.P.Parted.bare c.self.inside c.self.invariant _ c.self.view_is _ _ _ _ _ put c.index_mut-row.result.now _
    c.index_mut-row.ensures.value refl)
