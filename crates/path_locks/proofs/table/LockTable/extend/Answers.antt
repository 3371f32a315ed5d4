use Rattle.std.proofs.Common.{◌≡◌, ℕ, List, ◌<◌, ◌≤◌, ◌+◌, ap, sym, ◌∙◌, subst, arith}
use Rattle.std.specs.Prelude.{slice_get, Some}
use Rattle.lock_core.specs.declared.object.LockMode.{LockMode}
use Rattle.lock_core.specs.declared.object.LockMode.TheVariants as mode
use Rattle.path_locks.specs.Views.{SeatView, HeldView, has_journal, IsHeldBy}
use Rattle.path_locks.specs.Plans.{AreHeld}
use Rattle.path_locks.proofs.Whole.{below_held, held_below}
use Rattle.path_locks.proofs.Betweens.{between_held}
use Rattle.path_locks.proofs.Extended.{held_more, below_more, plan_below}
use Rattle.path_locks.proofs.table.LockTable.extend.Goals as goal

pub take_stripe-requires-clause-below : goal.take_stripe-requires-clause-below
take_stripe-requires-clause-below g c =
    let s : SeatView g.row.P-Part.Denot g.row.P-Entry.Denot g.row.K.Denot =
    record { table = c.seat.inside.seat.table_id; id = c.seat.inside.seat.id; me = c.seat.inside.seat.me; room = c.seat.inside.room.items } in
    let h : HeldView g.row.P-Part.Denot = record { modes = c.held.inside.plan; parts = c.held.inside.parts.items; wide = c.held.inside.wide } in
    let held : IsHeldBy g.P.Parted.bare s h = subst (λ (z : SeatView g.row.P-Part.Denot g.row.P-Entry.Denot g.row.K.Denot). IsHeldBy g.P.Parted.bare z h) (sym c.seat.view_is)
    (subst (λ (z : HeldView g.row.P-Part.Denot). IsHeldBy g.P.Parted.bare c.args.seat.now z) (sym c.held.view_is) c.requires.held) in
    let all = below_held g.P.Parted.object g.P.Parted.bare s h held (ap (λ (z : SeatView g.row.P-Part.Denot g.row.P-Entry.Denot g.row.K.Denot). has_journal z) c.seat.view_is ∙ c.requires.journal) c.seat.invariant.stands in
    let above : (k : ℕ) → c.args.stripe ≤ k → k < 64 → slice_get h.modes k ≡ Some mode.None =
    λ k l n. ap (λ (z : HeldView g.row.P-Part.Denot). slice_get z.modes k) c.held.view_is ∙ c.requires.above k l n in
    (c.requires.stripe, plan_below g.P.Parted.object g.P.Parted.bare c.args.stripe h.modes s.me h.parts (omega (arith, c.requires.stripe)) above held.modes all)

pub invariant_of-seat : goal.invariant_of-seat
invariant_of-seat g c =
    between_held g.P.Parted.object g.P.Parted.bare _ _
    (below_more g.P.Parted.object g.P.Parted.bare (c.args.stripe + 1) 64 _ _ (omega (arith, c.requires.stripe)) c.take_stripe.ensures.holds)

pub returns-clause-held : goal.returns-clause-held
returns-clause-held g c =
    let s : SeatView g.row.P-Part.Denot g.row.P-Entry.Denot g.row.K.Denot =
    record { table = c.seat.inside.seat.table_id; id = c.seat.inside.seat.id; me = c.seat.inside.seat.me; room = c.seat.inside.room.items } in
    let h : HeldView g.row.P-Part.Denot = record { modes = c.held.inside.plan; parts = c.held.inside.parts.items; wide = c.held.inside.wide } in
    let held : IsHeldBy g.P.Parted.bare s h = subst (λ (z : SeatView g.row.P-Part.Denot g.row.P-Entry.Denot g.row.K.Denot). IsHeldBy g.P.Parted.bare z h) (sym c.seat.view_is)
    (subst (λ (z : HeldView g.row.P-Part.Denot). IsHeldBy g.P.Parted.bare c.args.seat.now z) (sym c.held.view_is) c.requires.held) in
    held_below g.P.Parted.object g.P.Parted.bare
    (record { table = c.take_stripe.new.seat.table_id; id = c.take_stripe.new.seat.id; me = c.take_stripe.new.seat.me; room = c.seat.inside.room.items })
    (record { modes = c.set.new.self; parts = c.take_stripe.new.parts.items; wide = _ })
    (below_more g.P.Parted.object g.P.Parted.bare (c.args.stripe + 1) 64 _ _ (omega (arith, c.requires.stripe)) c.take_stripe.ensures.holds)
    (subst (λ (z : List LockMode). AreHeld z 64 c.take_stripe.new.seat.me.0.at.holds) (sym c.set.ensures)
    (held_more h.modes c.args.stripe c.args.mode s.me.0.at.holds c.take_stripe.new.seat.me.0.at.holds held.modes c.take_stripe.ensures.anew.there c.take_stripe.ensures.anew.others))
