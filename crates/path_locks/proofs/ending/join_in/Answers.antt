use Rattle.std.proofs.Common.{subst}
use Rattle.lock_core.specs.Machine.{known}
use Rattle.path_locks.specs.Views.{SeatView, Knew}
use Rattle.path_locks.proofs.Joined.{knew_kept, knew_new}
use Rattle.path_locks.proofs.ending.join_in.Goals as goal

pub returns-clause-kept : goal.returns-clause-kept
returns-clause-kept g c = λ p k. knew_kept c.args.seat.now.me c.join_seats.new.seat.me c.other.inside.seat.me.0 c.join_seats.ensures.joined p k

pub returns-clause-new : goal.returns-clause-new
returns-clause-new g c =
    subst (λ (z : SeatView g.row.P-Part.Denot g.row.P-Entry.Denot g.row.K.Denot). Knew c.join_seats.new.seat.me.0 (known z.me.0.at)) c.other.view_is
    (knew_new c.args.seat.now.me c.join_seats.new.seat.me c.other.inside.seat.me.0 c.join_seats.ensures.joined)
