-- An event that changes one word and one seat, as the pure machine makes it.
use Rattle.std.proofs.Common.{◌≡◌, ℕ, ◌+◌, ◌-◌, ◌<◌, true, false, [], length, map, slice_set, slice_index, Some, None, refl, ap, sym, arith}
use Rattle.lock_core.specs.declared.object.LockMode.TheVariants as mode
use Rattle.lock_core.specs.declared.machine.Hold.{Hold}
use Rattle.lock_core.specs.declared.machine.Hold.TheVariants as hold
use Rattle.lock_core.specs.declared.machine.Event.TheVariants as event
use Rattle.lock_core.specs.declared.marks.Mark.TheVariants.{Free, Shared, Looked, Exclusive}
use Rattle.lock_core.specs.declared.marks.Glance.{Glance}
use Rattle.lock_core.specs.Object.{Object, IsLawful}
use Rattle.lock_core.specs.Machine.{LockState, plain, exclusively, hold_at, HeldIn, exclusive_with, looked_with, downgraded, seat_at, with_hold, with_latch, with_journal, IsAllowed, stepped}
use Rattle.lock_core.specs.Sound.{Grip, grip, shared_in, IsSound}
use Rattle.lock_core.specs.Marks.{mark_of, mark_at, MarkedIn, FreeFrom, Looks, IsReady, Put}
use Rattle.lock_core.proofs.Totals.{total_at, elem-map}
use Rattle.lock_core.proofs.Columns.{live_elem}
use Rattle.lock_core.proofs.LockShared.{lock_shared_keeps}
use Rattle.lock_core.proofs.LockExclusive.{lock_exclusive_keeps, lock_exclusive_finds}
use Rattle.lock_core.proofs.UnlockShared.{unlock_shared_keeps}
use Rattle.lock_core.proofs.UnlockExclusive.{unlock_exclusive_keeps}
use Rattle.lock_core.proofs.Downgrade.{downgrade_keeps}
use Rattle.lock_core.proofs.LatchTake.{latch_take_keeps, latch_take_finds}
use Rattle.lock_core.proofs.LatchGive.{latch_give_keeps}
use Rattle.lock_core.proofs.JournalTake.{journal_take_keeps}
use Rattle.lock_core.proofs.JournalGive.{journal_give_keeps}
use Rattle.lock_core.proofs.Looking.{held, downgraded_mark, glanced_hold, glanced_latched, glanced_latch, glanced_journal}
use mathlib.Core.Option.{Option}
use lib.ListN.{get_elem?}

module _ {T E R : Type 0} (o : Object T E R) (lawful : IsLawful o) (old : LockState T E R) (sound : IsSound o [] old) (v : ℕ) (g : Glance)
    (looks : Looks g (seat_at old.seats v)) where
  -- a stripe that a seat holds shared has a word above 0
  pub shared_word : (s : ℕ) → s < 64 → (seat_at old.seats v).live ≡ true → MarkedIn mode.Shared (mark_at g.marks s) → 0 < slice_index old.words s
  shared_word s h live m =
      let x = seat_at old.seats v in
      let c = sound.stripes s h in
      let t = total_at (λ (g : Grip T). shared_in g.hold) (map (grip s) old.seats) v (grip s x) (elem-map (grip s) old.seats v x (live_elem old.seats v live)) in
      let one = shared_one (hold_at x.holds s) (held g x looks mode.Shared s m) in
      let n = c.counts.counted in
      omega arith
    where
      shared_one : (z : Hold T) → HeldIn mode.Shared z → shared_in z ≡ 1
      shared_one hold.Free p = absurd p
      shared_one hold.Shared p = refl
      shared_one (hold.Looked x) p = refl
      shared_one (hold.Exclusive x) p = absurd p

  module _ (s : ℕ) (h : s < 64) (ready : IsReady (seat_at old.seats v)) where
    pub lock_shared_puts : FreeFrom g.marks s → (word : ℕ) → word ≡ slice_index old.words s → word < exclusively - 1
        → IsAllowed o old (plain (event.LockShared v s)) × Put old (stepped o old (plain (event.LockShared v s))) v s (word + 1)
        (record { live = g.live; marks = slice_set g.marks s Shared; latch = g.latch; journal = g.journal; seen = g.seen })
        × IsSound o [] (stepped o old (plain (event.LockShared v s)))
    lock_shared_puts free word is room =
        let x = seat_at old.seats v in
        let a : IsAllowed o old (plain (event.LockShared v s)) = (ready.0, (ready.1, (ready.2, ((λ k l. held g x looks mode.None k (free k l)), (omega arith, tt))))) in (
          a,
          record {
            words = ap (λ (n : ℕ). slice_set old.words s (n + 1)) (sym is);
            journal = refl;
            replies = refl;
            sitting = with_hold x s hold.Shared;
            seats = refl;
            glanced = glanced_hold g x looks s hold.Shared Shared refl;
            live = ready.0;
            at_below = omega arith;
          },
          lock_shared_keeps o [] old v s h sound a,
        )

    pub lock_exclusive_puts : FreeFrom g.marks s → slice_index old.words s ≡ 0
        → IsAllowed o old (plain (event.LockExclusive v s)) × Put old (stepped o old (plain (event.LockExclusive v s))) v s exclusively
        (record { live = g.live; marks = slice_set g.marks s Exclusive; latch = g.latch; journal = g.journal; seen = g.seen })
        × IsSound o [] (stepped o old (plain (event.LockExclusive v s)))
    lock_exclusive_puts free zero_word =
        let x = seat_at old.seats v in
        let a : IsAllowed o old (plain (event.LockExclusive v s)) = (ready.0, (ready.1, (ready.2, ((λ k l. held g x looks mode.None k (free k l)), (zero_word, tt))))) in
        let f = lock_exclusive_finds o [] lawful old v s h sound a in (
          a,
          record {
            words = refl;
            journal = refl;
            replies = refl;
            sitting = with_hold x s (exclusive_with (get_elem? old.homes s));
            seats = refl;
            glanced = glanced_hold g x looks s _ Exclusive (ap (λ (z : Option (Option T)). mark_of (exclusive_with z)) f.1);
            live = ready.0;
            at_below = omega arith;
          },
          lock_exclusive_keeps o [] lawful old v s h sound a,
        )

    pub unlock_shared_puts : MarkedIn mode.Shared (mark_at g.marks s) → (word : ℕ) → word ≡ slice_index old.words s
        → IsAllowed o old (plain (event.UnlockShared v s)) × Put old (stepped o old (plain (event.UnlockShared v s))) v s (word - 1)
        (record { live = g.live; marks = slice_set g.marks s Free; latch = g.latch; journal = g.journal; seen = g.seen })
        × IsSound o [] (stepped o old (plain (event.UnlockShared v s)))
    unlock_shared_puts m word is =
        let x = seat_at old.seats v in
        let a : IsAllowed o old (plain (event.UnlockShared v s)) = (ready.0, (ready.1, (ready.2, (held g x looks mode.Shared s m, tt)))) in (
          a,
          record {
            words = ap (λ (n : ℕ). slice_set old.words s (n - 1)) (sym is);
            journal = refl;
            replies = refl;
            sitting = with_hold x s hold.Free;
            seats = refl;
            glanced = glanced_hold g x looks s hold.Free Free refl;
            live = ready.0;
            at_below = omega arith;
          },
          unlock_shared_keeps o [] old v s h sound a,
        )

    pub unlock_exclusive_puts : MarkedIn mode.Exclusive (mark_at g.marks s)
        → IsAllowed o old (plain (event.UnlockExclusive v s)) × Put old (stepped o old (plain (event.UnlockExclusive v s))) v s 0
        (record { live = g.live; marks = slice_set g.marks s Free; latch = g.latch; journal = g.journal; seen = g.seen })
        × IsSound o [] (stepped o old (plain (event.UnlockExclusive v s)))
    unlock_exclusive_puts m =
        let x = seat_at old.seats v in
        let a : IsAllowed o old (plain (event.UnlockExclusive v s)) = (ready.0, (ready.1, (ready.2, (held g x looks mode.Exclusive s m, tt)))) in (
          a,
          record {
            words = refl;
            journal = refl;
            replies = refl;
            sitting = with_hold x s hold.Free;
            seats = refl;
            glanced = glanced_hold g x looks s hold.Free Free refl;
            live = ready.0;
            at_below = omega arith;
          },
          unlock_exclusive_keeps o [] old v s h sound a,
        )

    pub downgrade_puts : MarkedIn mode.Exclusive (mark_at g.marks s)
        → IsAllowed o old (plain (event.Downgrade v s)) × Put old (stepped o old (plain (event.Downgrade v s))) v s 1
        (record { live = g.live; marks = slice_set g.marks s Looked; latch = g.latch; journal = g.journal; seen = g.seen })
        × IsSound o [] (stepped o old (plain (event.Downgrade v s)))
    downgrade_puts m =
        let x = seat_at old.seats v in
        let p = held g x looks mode.Exclusive s m in
        let a : IsAllowed o old (plain (event.Downgrade v s)) = (ready.0, (ready.1, (ready.2, (p, tt)))) in (
          a,
          record {
            words = refl;
            journal = refl;
            replies = refl;
            sitting = with_hold x s (downgraded (hold_at x.holds s));
            seats = refl;
            glanced = glanced_hold g x looks s _ Looked (downgraded_mark (hold_at x.holds s) p);
            live = ready.0;
            at_below = omega arith;
          },
          downgrade_keeps o [] old v s h sound a,
        )

    pub latch_take_puts : MarkedIn mode.Shared (mark_at g.marks s) → slice_index old.words (64 + s) ≡ 0
        → IsAllowed o old (plain (event.LatchTake v s)) × Put old (stepped o old (plain (event.LatchTake v s))) v (64 + s) 1
        (record { live = g.live; marks = slice_set g.marks s Looked; latch = Some s; journal = g.journal; seen = g.seen })
        × IsSound o [] (stepped o old (plain (event.LatchTake v s)))
    latch_take_puts m zero_word =
        let x = seat_at old.seats v in
        let a : IsAllowed o old (plain (event.LatchTake v s)) = (ready.0, (ready.1, (ready.2, (held g x looks mode.Shared s m, (zero_word, tt))))) in
        let f = latch_take_finds o [] lawful old v s h sound a in (
          a,
          record {
            words = refl;
            journal = refl;
            replies = refl;
            sitting = with_latch (with_hold x s (looked_with (get_elem? old.homes s))) (Some s);
            seats = refl;
            glanced = glanced_latched g x looks s _ Looked (Some s) (ap (λ (z : Option (Option T)). mark_of (looked_with z)) f.1);
            live = ready.0;
            at_below = omega arith;
          },
          latch_take_keeps o [] lawful old v s h sound a,
        )

  pub latch_give_puts : (s : ℕ) → s < 64 → (seat_at old.seats v).live ≡ true → (seat_at old.seats v).latch ≡ Some s
      → IsAllowed o old (plain (event.LatchGive v s)) × Put old (stepped o old (plain (event.LatchGive v s))) v (64 + s) 0
      (record { live = g.live; marks = g.marks; latch = None; journal = g.journal; seen = g.seen })
      × IsSound o [] (stepped o old (plain (event.LatchGive v s)))
  latch_give_puts s h live latched =
      let x = seat_at old.seats v in
      let a : IsAllowed o old (plain (event.LatchGive v s)) = (live, (latched, tt)) in (
        a,
        record {
          words = refl;
          journal = refl;
          replies = refl;
          sitting = with_latch x None;
          seats = refl;
          glanced = glanced_latch g x looks None;
          live = live;
          at_below = omega arith;
        },
        latch_give_keeps o [] old v s h sound a,
      )

  pub journal_take_puts : IsReady (seat_at old.seats v) → slice_index old.words 128 ≡ 0 → (n : ℕ) → length old.journal ≡ n
      → IsAllowed o old (plain (event.JournalTake v)) × Put old (stepped o old (plain (event.JournalTake v))) v 128 1
      (record { live = g.live; marks = g.marks; latch = g.latch; journal = true; seen = n })
      × IsSound o [] (stepped o old (plain (event.JournalTake v)))
  journal_take_puts ready zero_word n is =
      let x = seat_at old.seats v in
      let a : IsAllowed o old (plain (event.JournalTake v)) = (ready.0, (ready.1, (ready.2, (zero_word, tt)))) in (
        a,
        record {
          words = refl;
          journal = refl;
          replies = refl;
          sitting = with_journal x true old.journal;
          seats = refl;
          glanced = glanced_journal g x looks true old.journal n is;
          live = ready.0;
          at_below = omega arith;
        },
        journal_take_keeps o [] old v sound a,
      )

  pub journal_give_puts : (seat_at old.seats v).live ≡ true → (seat_at old.seats v).journal ≡ true
      → IsAllowed o old (plain (event.JournalGive v)) × Put old (stepped o old (plain (event.JournalGive v))) v 128 0
      (record { live = g.live; marks = g.marks; latch = g.latch; journal = false; seen = g.seen })
      × IsSound o [] (stepped o old (plain (event.JournalGive v)))
  journal_give_puts live has =
      let x = seat_at old.seats v in
      let a : IsAllowed o old (plain (event.JournalGive v)) = (live, (has, tt)) in (
        a,
        record {
          words = refl;
          journal = refl;
          replies = refl;
          sitting = with_journal x false x.seen;
          seats = refl;
          glanced = glanced_journal g x looks false x.seen g.seen (sym looks.seen);
          live = live;
          at_below = omega arith;
        },
        journal_give_keeps o [] old v sound a,
      )
