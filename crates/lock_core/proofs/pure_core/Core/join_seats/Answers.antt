use Rattle.std.proofs.Common.{◌++◌, ◌∷◌, [], refl, ap, ◌∙◌, arith}
use Rattle.lock_core.specs.declared.marks.Row.{Row}
use Rattle.lock_core.specs.Machine.{LockState}
use Rattle.lock_core.proofs.Join.{join_keeps}
use Rattle.lock_core.proofs.CoreMoves.{live_row, same_read, sound_is}
use Rattle.lock_core.proofs.Growing.{rows_join}
use Rattle.lock_core.proofs.Rigid.{shows, core_is}
use Rattle.lock_core.proofs.pure_core.Core.join_seats.Goals as goal

pub index-gone-requires : goal.index-gone-requires
index-gone-requires g c =
    let l = live_row g.P.Parted.object g.P.Parted.bare c.self.inside c.self.invariant _ c.self.view_is c.args.from c.requires.0.0 in
    omega (arith, c.self.inside.rows.ok.0)

pub index-requires : goal.index-requires
index-requires g c =
    let l = live_row g.P.Parted.object g.P.Parted.bare c.self.inside c.self.invariant _ c.self.view_is c.args.to c.requires.0.1 in
    omega (arith, c.self.inside.rows.ok.0)

pub index_mut-row-requires : goal.index_mut-row-requires
index_mut-row-requires g c =
    let l = live_row g.P.Parted.object g.P.Parted.bare c.self.inside c.self.invariant _ c.self.view_is c.args.to c.requires.0.1 in
    omega (arith, c.self.inside.rows.ok.0)

pub index_mut-requires : goal.index_mut-requires
index_mut-requires g c =
    let l = live_row g.P.Parted.object g.P.Parted.bare c.self.inside c.self.invariant _ c.self.view_is c.args.from c.requires.0.0 in
    omega (arith, c.self.inside.rows.ok.0)

pub invariant_of-self : goal.invariant_of-self
invariant_of-self g c =
    core_is g.P.Parted.object g.met.P.Parted.lawful _
    (join_keeps g.P.Parted.object [] c.args.self.now c.args.from c.args.to (sound_is g.P.Parted.object g.P.Parted.bare c.self.inside c.self.invariant _ c.self.view_is) c.requires)
    g.P.Parted.bare _ c.self.invariant.parts
    (ap (λ (z : LockState g.row.P-Part.Denot g.row.P-Entry.Denot g.row.P-Reply.Denot). z.words) c.self.view_is)
    (ap (λ (z : LockState g.row.P-Part.Denot g.row.P-Entry.Denot g.row.P-Reply.Denot). z.journal) c.self.view_is)
    (ap (λ (z : LockState g.row.P-Part.Denot g.row.P-Entry.Denot g.row.P-Reply.Denot). z.replies) c.self.view_is)
    (rows_join g.P.Parted.object g.met.P.Parted.lawful g.P.Parted.bare c.self.inside c.self.invariant _ c.self.view_is c.args.from c.args.to c.requires
    c.index-gone.result.now c.index_mut-row.result.now _ _ c.index-gone.ensures c.index_mut-row.ensures.value
    refl (refl, refl, refl, refl, c.max-row.ensures) (c.in_ok-olds.ensures
    ∙ ap (λ (r : Row). r.olds.items ++ (record { number = c.index-gone.result.now.number; seen = c.index-gone.result.now.glance.seen }) ∷ c.index-gone.result.now.olds.items)
    (same_read c.self.inside.rows.items c.args.to c.index.result.now c.index_mut-row.result.now
    (live_row g.P.Parted.object g.P.Parted.bare c.self.inside c.self.invariant _ c.self.view_is c.args.to c.requires.0.1)
    c.index.ensures c.index_mut-row.ensures.value)) refl c.spent.ensures c.new.ensures.items)

pub returns : goal.returns
returns g c =
    shows g.P.Parted.object g.met.P.Parted.lawful _
    (join_keeps g.P.Parted.object [] c.args.self.now c.args.from c.args.to (sound_is g.P.Parted.object g.P.Parted.bare c.self.inside c.self.invariant _ c.self.view_is) c.requires)
    _
    (ap (λ (z : LockState g.row.P-Part.Denot g.row.P-Entry.Denot g.row.P-Reply.Denot). z.words) c.self.view_is)
    c.self.invariant.parts
    (ap (λ (z : LockState g.row.P-Part.Denot g.row.P-Entry.Denot g.row.P-Reply.Denot). z.journal) c.self.view_is)
    (ap (λ (z : LockState g.row.P-Part.Denot g.row.P-Entry.Denot g.row.P-Reply.Denot). z.replies) c.self.view_is)
    (rows_join g.P.Parted.object g.met.P.Parted.lawful g.P.Parted.bare c.self.inside c.self.invariant _ c.self.view_is c.args.from c.args.to c.requires
    c.index-gone.result.now c.index_mut-row.result.now _ _ c.index-gone.ensures c.index_mut-row.ensures.value
    refl (refl, refl, refl, refl, c.max-row.ensures) (c.in_ok-olds.ensures
    ∙ ap (λ (r : Row). r.olds.items ++ (record { number = c.index-gone.result.now.number; seen = c.index-gone.result.now.glance.seen }) ∷ c.index-gone.result.now.olds.items)
    (same_read c.self.inside.rows.items c.args.to c.index.result.now c.index_mut-row.result.now
    (live_row g.P.Parted.object g.P.Parted.bare c.self.inside c.self.invariant _ c.self.view_is c.args.to c.requires.0.1)
    c.index.ensures c.index_mut-row.ensures.value)) refl c.spent.ensures c.new.ensures.items)
