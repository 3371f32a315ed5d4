use Rattle.std.proofs.Common.{◌≡◌, ◌<◌, ◌++◌, ◌∷◌, [], ℕ, List, length, length-append, append_assoc, slice_get, slice_index, Some, ap, sym, ◌∙◌, subst, arith}
use Rattle.std.proofs.lemmas.Option.{slice_get_within}
use Rattle.lock_core.specs.declared.object.LockMode.{LockMode}
use Rattle.path_locks.specs.Views.{SeatView}
use Rattle.striped_store.specs.Views.{PassView, IsOpenPass, AreOpenPasses}
use Rattle.striped_store.specs.Passes.{KeepsCount}
use Rattle.striped_store.proofs.Using.{read_used}
use Rattle.striped_store.proofs.Counts.{counts_open}
use Rattle.striped_store.proofs.Passing.{next_there, open_pass, open_passes_more}
use Rattle.striped_store.proofs.seats.make_passes.Goals as goal

pub invariant_of-push : goal.invariant_of-push
invariant_of-push g c =
    let all = ap (λ (l : List (SeatView g.row.P-Part.Denot g.row.P-Entry.Denot g.row.K.Denot)). c.loop-seat.yielded ++ l) (sym c.in-Some.ensures.steps.0) ∙ c.loop-seat.invariant.left in
    let at : slice_get c.args.seats.items c.loop-seat.number ≡ Some c.in-Some.seat =
    ap (λ (i : ℕ). slice_get c.args.seats.items i) c.loop-seat.invariant.count ∙ next_there c.loop-seat.yielded c.in-Some.seat _ c.args.seats.items all in
    let within = slice_get_within c.args.seats.items c.loop-seat.number c.in-Some.seat at in
    let small : c.loop-seat.number < 64 = omega (arith, within, c.requires.few) in (
      subst (λ (p : List LockMode). KeepsCount g.P.Entry.Bodied.uses c.in-Some.seat p c.loop-seat.number (slice_index c.args.used.now c.loop-seat.number)) (sym c.none.ensures)
          (counts_open g.P.Entry.Bodied.uses g.P.Parted.object c.args.table.now c.loop-seat.number (slice_index c.args.used.now c.loop-seat.number) c.in-Some.seat c.requires.short c.requires.within small
          (read_used g.P.Parted.object g.P.Entry.Bodied.uses c.args.table.now.opening c.args.used.now c.loop-seat.number small c.requires.used)
          (c.requires.new c.loop-seat.number c.in-Some.seat at)),
      c.in_ok-room.ensures.items,
      (let e = c.in_ok-room.ensures.exact in omega (arith, e)),
    )

pub loop-seat-preserved : goal.loop-seat-preserved
loop-seat-preserved g c =
    let all = ap (λ (l : List (SeatView g.row.P-Part.Denot g.row.P-Entry.Denot g.row.K.Denot)). c.loop-seat.yielded ++ l) (sym c.in-Some.ensures.steps.0) ∙ c.loop-seat.invariant.left in
    let at : slice_get c.args.seats.items (length c.loop-seat.yielded) ≡ Some c.in-Some.seat = next_there c.loop-seat.yielded c.in-Some.seat _ c.args.seats.items all in
    let more = length-append c.loop-seat.yielded (c.in-Some.seat ∷ []) in
    let p : PassView g.row.P-Part.Denot g.row.P-Entry.Denot g.row.K.Denot = record { seat = c.in-Some.seat; wide = 0 } in
    let passes : c.push.new.self.items ≡ c.loop-seat.passes.items ++ p ∷ [] = c.in_ok-push.ensures.items in
    let longer = ap (λ (l : List (PassView g.row.P-Part.Denot g.row.P-Entry.Denot g.row.K.Denot)). length l) passes ∙ length-append c.loop-seat.passes.items (p ∷ []) in
    record {
      left = append_assoc c.loop-seat.yielded (c.in-Some.seat ∷ []) _ ∙ all;
      count = omega (arith, more, c.loop-seat.invariant.count);
      many = omega (arith, more, longer, c.loop-seat.invariant.many);
      new = subst (λ (l : List (PassView g.row.P-Part.Denot g.row.P-Entry.Denot g.row.K.Denot)). AreOpenPasses g.P.Parted.object c.args.table.now l) (sym passes)
          (open_passes_more g.P.Parted.object c.args.table.now c.loop-seat.passes.items p c.loop-seat.invariant.new
          (subst (λ (i : ℕ). IsOpenPass g.P.Parted.object c.args.table.now i p) (sym c.loop-seat.invariant.many)
          (open_pass g.P.Parted.object c.args.table.now (length c.loop-seat.yielded) c.in-Some.seat (c.requires.new (length c.loop-seat.yielded) c.in-Some.seat at))));
    }
