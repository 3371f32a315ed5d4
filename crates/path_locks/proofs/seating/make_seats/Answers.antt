use Rattle.std.proofs.Common.{◌≡◌, ◌+◌, List, [], ◌∷◌, length, replicate, ap, refl, sym, ◌∙◌, arith, Vec, Global}
use Rattle.std.specs.Prelude.{Option, None, slice_get}
use Rattle.std.proofs.Common.{length-append}
use Rattle.path_locks.specs.Views.{SeatView}
use Rattle.path_locks.proofs.NewSeats.{popped, first_stands, first_seat, made_seats, seats_in_order, first_counts, next_counts, new_is, no_seats}
use Rattle.path_locks.proofs.seating.make_seats.Goals as goal

pub loop-room-init : goal.loop-room-init
loop-room-init g c =
    let none : length c.args.seats.items ≡ 0 = ap (λ (l : List (SeatView g.row.P-Part.Denot g.row.P-Entry.Denot g.row.K.Denot)). length l) c.requires.empty in
    let one : length c.args.seats.items + 1 ≡ 1 = omega arith in
    let p = popped (λ (room : Vec (Option g.row.P-Part.Denot) Global). room.items) _ _ _ _ (replicate 64 None) c.in-Some.ensures.items c.requires.rooms in
    record {
      own = c.requires.own.0;
      first = first_counts g.P.Parted.object g.K.Keeper.tells c.args.words.now.key c.args.words.now.table_id c.args.first.me (length c.args.seats.items + 1) one c.requires.first;
      rooms = p.0;
      left = omega (arith, p.2);
      capacity = c.requires.capacity;
      new = no_seats g.P.Parted.object g.K.Keeper.tells c.args.words.now.key c.args.words.now.table_id c.args.seats.items c.requires.empty;
    }

pub loop-room-preserved : goal.loop-room-preserved
loop-room-preserved g c =
    let i = c.loop-room.invariant in
    let more : length c.add.new.list.items ≡ length c.loop-room.seats.items + 1 =
    ap (λ (l : List (SeatView g.row.P-Part.Denot g.row.P-Entry.Denot g.row.K.Denot)). length l) c.add.ensures.items ∙ length-append c.loop-room.seats.items (c.another_seat-seat.result ∷ []) in
    let p = popped (λ (room : Vec (Option g.row.P-Part.Denot) Global). room.items) _ _ _ _ (replicate 64 None) c.in-Some-pop.ensures.items i.rooms in
    record {
      own = c.another_seat-seat.ensures.own.0 ∙ i.own;
      first = next_counts g.P.Parted.object g.K.Keeper.tells c.args.words.now.key c.args.words.now.table_id c.loop-room.first.me c.another_seat-seat.new.first.me
          (length c.loop-room.seats.items + 1) (length c.add.new.list.items + 1) i.first c.another_seat-seat.ensures.first (omega arith);
      rooms = p.0;
      left = omega (arith, p.2, i.left);
      capacity = omega (arith, i.capacity, c.add.ensures.capacity);
      new = λ k s at.
          made_seats g.P.Parted.object g.K.Keeper.tells c.args.words.now.key c.args.words.now.table_id c.loop-room.seats.items c.another_seat-seat.result
          (length c.loop-room.seats.items + 1) refl i.new
          (new_is g.P.Parted.object g.K.Keeper.tells c.args.words.now.key c.args.words.now.table_id c.loop-room.first.me _ c.another_seat-seat.result i.first c.another_seat-seat.ensures.new) k s
          (ap (λ (l : List (SeatView g.row.P-Part.Denot g.row.P-Entry.Denot g.row.K.Denot)). slice_get l k) (sym c.add.ensures.items) ∙ at);
    }

pub invariant_of-seat : goal.invariant_of-seat
invariant_of-seat g c = first_stands g.P.Parted.object g.K.Keeper.tells c.args.words.now.key _ c.loop-room.first.me c.requires.fit c.loop-room.invariant.first

pub returns-clause-new : goal.returns-clause-new
returns-clause-new g c =
    let i = c.loop-room.invariant in
    let p = popped (λ (room : Vec (Option g.row.P-Part.Denot) Global). room.items) _ _ _ _ (replicate 64 None) c.in-Some.ensures.items c.requires.rooms in
    seats_in_order g.P.Parted.object g.K.Keeper.tells c.args.words.now.key c.args.words.now.table_id c.loop-room.seats.items c.insert.new.self.items _ c.in-Ok.ensures.items i.new
    (first_seat g.P.Parted.object g.K.Keeper.tells c.args.words.now.key _ _ _ _ c.loop-room.first.me _ i.own i.first p.1)
