-- What a contract says of a seat that takes the journal and gives it back.
use Rattle.std.specs.Prelude.{◌≡◌, ℕ, List}
use Rattle.commit_journal.specs.Limits.{LimitNumbers}
use Rattle.path_locks.specs.declared.rule.Slot.{Slot}
use Rattle.path_locks.specs.Views.{SeatView, has_journal, with_book}

module _ {T E K : Type 0} where
  -- the limits of the journal, as the seat knows them from the start of its table
  abbrev pub limits_of : SeatView T E K → LimitNumbers
  limits_of s = s.me.0.limits

  -- the seat holds the same stripes in the same way, with the same notes and the same slots in hand, whatever has become of the
  -- journal
  pub record HoldsAlike (s t : SeatView T E K) : Type 0 where
    pub holds : t.me.0.at.holds ≡ s.me.0.at.holds
    pub latch : t.me.0.at.latch ≡ s.me.0.at.latch
    pub slots : (hand : List (ℕ × Slot T E K)) → s.me.1 ≡ with_book (has_journal s) hand → t.me.1 ≡ with_book (has_journal t) hand
    pub room : t.room ≡ s.room
