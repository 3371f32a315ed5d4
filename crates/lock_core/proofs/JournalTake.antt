-- Taking the journal keeps the machine sound.
use Rattle.std.proofs.Common.{ℕ, true, List, refl, ap, arith}
use Rattle.lock_core.specs.declared.machine.Event.TheVariants as event
use Rattle.lock_core.specs.Object.{Object}
use Rattle.lock_core.specs.Machine.{plain, LockState, seat_at, with_journal, IsAllowed, stepped}
use Rattle.lock_core.specs.Sound.{one_if, IsSound}
use Rattle.lock_core.proofs.Seats.{journal_touches}
use Rattle.lock_core.proofs.Histories.{knows_all}

module _ {T E R : Type 0} (o : Object T E R) (h0 : List E) where
  pub journal_take_keeps : (m : LockState T E R) (v : ℕ) → IsSound o h0 m → IsAllowed o m (plain (event.JournalTake v))
      → IsSound o h0 (stepped o m (plain (event.JournalTake v)))
  journal_take_keeps m v ok a =
      let x = seat_at m.seats v in
      let seat = ok.seats v a.0 in
      let idle = ap one_if a.1.0 in
      let word = a.1.1.1.0 in
      journal_touches o h0 m ok v a.0 1 (with_journal x true m.journal) a.0 refl (λ k. refl) refl (omega arith) (omega arith)
      (record {
        number = seat.number;
        wide = seat.wide;
        knows = knows_all o h0 m.journal x.number x.seen x.mine seat.knows;
        whole = λ _. refl;
        olds = seat.olds;
      })
