use Rattle.std.proofs.Common.{◌∙◌}
use Rattle.path_locks.proofs.NewSeats.{new_stands, new_seat}
use Rattle.path_locks.proofs.seating.another_seat.Goals as goal

pub invariant_of-result : goal.invariant_of-result
invariant_of-result g c = new_stands g.P.Parted.object g.K.Keeper.tells c.args.words.now.key c.args.first.now.me c.split_seat-seat.result.me c.requires.fit c.requires.first c.split_seat-seat.ensures.other

pub returns-clause-new : goal.returns-clause-new
returns-clause-new g c =
    new_seat g.P.Parted.object g.K.Keeper.tells c.args.words.now.key _ _ _ c.args.first.now.me c.split_seat-seat.result.me _ (c.split_seat-seat.ensures.own.2 ∙ c.requires.own.0)
    c.requires.first c.split_seat-seat.ensures.other c.requires.empty
