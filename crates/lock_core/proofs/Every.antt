-- Every event that is allowed keeps the machine sound.
use Rattle.std.proofs.Common.{List}
use Rattle.lock_core.specs.declared.machine.Event.{Event}
use Rattle.lock_core.specs.declared.machine.Event.TheVariants as event
use Rattle.lock_core.specs.Object.{Object, IsLawful}
use Rattle.lock_core.specs.Machine.{LockState, NamesStripe, IsAllowed, stepped}
use Rattle.lock_core.specs.Sound.{IsSound}
use Rattle.lock_core.proofs.LockShared.{lock_shared_keeps}
use Rattle.lock_core.proofs.LockExclusive.{lock_exclusive_keeps}
use Rattle.lock_core.proofs.UnlockShared.{unlock_shared_keeps}
use Rattle.lock_core.proofs.UnlockExclusive.{unlock_exclusive_keeps}
use Rattle.lock_core.proofs.Downgrade.{downgrade_keeps}
use Rattle.lock_core.proofs.LatchTake.{latch_take_keeps}
use Rattle.lock_core.proofs.LatchGive.{latch_give_keeps}
use Rattle.lock_core.proofs.JournalTake.{journal_take_keeps}
use Rattle.lock_core.proofs.JournalGive.{journal_give_keeps}
use Rattle.lock_core.proofs.Commit.{commit_keeps}
use Rattle.lock_core.proofs.Split.{split_keeps}
use Rattle.lock_core.proofs.Join.{join_keeps}

module _ {T E R P W : Type 0} (o : Object T E R) (lawful : IsLawful o) (h0 : List E) where
  pub event_keeps : (m : LockState T E R) (e : Event P E R T W) → NamesStripe e → IsSound o h0 m → IsAllowed o m e → IsSound o h0 (stepped o m e)
  event_keeps m (event.Load v) h ok a = ok
  event_keeps m (event.LockShared v s) h ok a = lock_shared_keeps o h0 m v s h ok a
  event_keeps m (event.LockExclusive v s) h ok a = lock_exclusive_keeps o h0 lawful m v s h ok a
  event_keeps m (event.UnlockShared v s) h ok a = unlock_shared_keeps o h0 m v s h ok a
  event_keeps m (event.UnlockExclusive v s) h ok a = unlock_exclusive_keeps o h0 m v s h ok a
  event_keeps m (event.Downgrade v s) h ok a = downgrade_keeps o h0 m v s h ok a
  event_keeps m (event.LatchTake v s) h ok a = latch_take_keeps o h0 lawful m v s h ok a
  event_keeps m (event.LatchGive v s) h ok a = latch_give_keeps o h0 m v s h ok a
  event_keeps m (event.JournalTake v) h ok a = journal_take_keeps o h0 m v ok a
  event_keeps m (event.JournalGive v) h ok a = journal_give_keeps o h0 m v ok a
  event_keeps m (event.Commit v e) h ok a = commit_keeps o h0 lawful m v e ok a
  event_keeps m (event.Split v) h ok a = split_keeps o h0 m v ok a
  event_keeps m (event.Join w v) h ok a = join_keeps o h0 m w v ok a
