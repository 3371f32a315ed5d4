-- Giving the journal back as it was keeps the machine sound.
use Rattle.std.proofs.Common.{ℕ, false, true≢false, List, refl, ap, sym, arith}
use Rattle.lock_core.specs.declared.machine.Event.TheVariants as event
use Rattle.lock_core.specs.Object.{Object}
use Rattle.lock_core.specs.Machine.{plain, LockState, seat_at, with_journal, IsAllowed, stepped}
use Rattle.lock_core.specs.declared.machine.Sitting.{Sitting}
use Rattle.lock_core.specs.Sound.{one_if, IsSound}
use Rattle.lock_core.proofs.Totals.{total_at}
use Rattle.lock_core.proofs.Columns.{live_elem}
use Rattle.lock_core.proofs.Seats.{journal_touches}

module _ {T E R : Type 0} (o : Object T E R) (h0 : List E) where
  pub journal_give_keeps : (m : LockState T E R) (v : ℕ) → IsSound o h0 m → IsAllowed o m (plain (event.JournalGive v))
      → IsSound o h0 (stepped o m (plain (event.JournalGive v)))
  journal_give_keeps m v ok a =
      let x = seat_at m.seats v in
      let seat = ok.seats v a.0 in
      let has = ap one_if a.1.0 in
      let there = total_at (λ (z : Sitting T E). one_if z.journal) m.seats v x (live_elem m.seats v a.0) in
      let word = ok.journal_word in
      let alone = ok.journal_alone in
      journal_touches o h0 m ok v a.0 0 (with_journal x false x.seen) a.0 refl (λ k. refl) refl (omega arith) (omega arith)
      (record { number = seat.number; wide = seat.wide; knows = seat.knows; whole = λ t. absurd (true≢false (sym t)); olds = seat.olds })
