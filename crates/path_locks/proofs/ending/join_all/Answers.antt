use Rattle.std.proofs.Common.{inl, ⊎_elim, refl, ap, sym, ◌∙◌, subst, arith}
use Rattle.std.proofs.lemmas.Option.{slice_get_within}
use Rattle.lock_core.specs.Machine.{known}
use Rattle.path_locks.specs.Views.{SeatView, HoldsNothing, Knew, itself}
use Rattle.path_locks.proofs.Joined.{left_or_known, left_are, last_is}
use Rattle.path_locks.proofs.ending.join_all.Goals as goal

pub loop-other-init : goal.loop-other-init
loop-other-init g c =
    let e = c.in-Some.ensures.items in
    let at = last_is c.args.seats.items c.pop.new.self.items c.in-Some.last e in
    let s : SeatView g.row.P-Part.Denot g.row.P-Entry.Denot g.row.K.Denot =
    record { table = c.last.inside.seat.table_id; id = c.last.inside.seat.id; me = c.last.inside.seat.me; room = c.last.inside.room.items } in
    let nothing : HoldsNothing s = subst (λ (z : SeatView g.row.P-Part.Denot g.row.P-Entry.Denot g.row.K.Denot). HoldsNothing z) (sym c.last.view_is) (c.requires.every.nothing _ _ at) in
    record {
      own = ap (λ (z : SeatView g.row.P-Part.Denot g.row.P-Entry.Denot g.row.K.Denot). z.table) c.last.view_is ∙ c.requires.every.own _ _ at;
      rest = record { live = c.last.invariant.stands.live; idle = nothing.idle };
      left = left_are c.args.seats.items c.pop.new.self.items c.args.seats.items c.in-Some.last e (λ k z p. p);
      known = left_or_known c.args.seats.items c.pop.new.self.items c.args.seats.items c.in-Some.last c.last.inside.seat.me.0 c.last.inside.seat.me.0 e (λ k z p. inl p) (λ p k. k)
          (subst (λ (z : SeatView g.row.P-Part.Denot g.row.P-Entry.Denot g.row.K.Denot). Knew c.last.inside.seat.me.0 (known z.me.0.at)) c.last.view_is (itself refl refl refl));
    }

pub join_in-requires-clause-own : goal.join_in-requires-clause-own
join_in-requires-clause-own g c =
    let i = c.loop-other.invariant in
    let at = i.left _ _ (last_is c.loop-other.seats.items c.pop-in-loop-other.new.self.items c.in-Some-pop.other c.in-Some-pop.ensures.items) in
    (i.own, c.requires.every.own _ _ at, c.requires.own)

pub join_in-requires-clause-nothing : goal.join_in-requires-clause-nothing
join_in-requires-clause-nothing g c =
    let i = c.loop-other.invariant in
    c.requires.every.nothing _ _ (i.left _ _ (last_is c.loop-other.seats.items c.pop-in-loop-other.new.self.items c.in-Some-pop.other c.in-Some-pop.ensures.items))

pub loop-other-preserved : goal.loop-other-preserved
loop-other-preserved g c =
    let i = c.loop-other.invariant in
    let e = c.in-Some-pop.ensures.items in
    record {
      own = c.join_in.ensures.own.0 ∙ i.own;
      rest = c.join_in.ensures.rest;
      left = left_are c.args.seats.items c.pop-in-loop-other.new.self.items c.loop-other.seats.items c.in-Some-pop.other e i.left;
      known = left_or_known c.args.seats.items c.pop-in-loop-other.new.self.items c.loop-other.seats.items c.in-Some-pop.other c.loop-other.seat.me.0 c.join_in.new.seat.me.0 e i.known
          c.join_in.ensures.kept c.join_in.ensures.new;
    }

pub returns-clause-knew : goal.returns-clause-knew
returns-clause-knew g c = λ k s at. ⊎_elim
    (λ p. let w = slice_get_within c.loop-other.seats.items k s p in absurd (omega (arith, w, c.in_default-pop.ensures.cases.0, c.loop-other.seats.ok.0)))
    (λ p. p) (c.loop-other.invariant.known k s at)
