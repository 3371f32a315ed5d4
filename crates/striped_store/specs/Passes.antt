-- What holds of a store and of a pass between two calls.
use Rattle.std.specs.Prelude.{◌≡◌, ℕ, ◌*◌, ◌<◌, ◌≤◌, false, List, length, sum_by}
use Rattle.lock_core.specs.declared.object.LockMode.{LockMode}
use Rattle.lock_core.specs.Object.{Object}
use Rattle.commit_journal.specs.Limits.{AreWithin}
use Rattle.path_locks.specs.Plans.{AreHeld}
use Rattle.path_locks.specs.Views.{SeatView, TableView, number_of, seen_of, mine_of, has_journal}
use Rattle.path_locks.specs.Alike.{limits_of}
use Rattle.striped_store.specs.UsedIds.{AreBelow}

-- the table of a store was started with up to 64 seats and a journal whose entries are by them
pub record IsOpened {T E R : Type 0} (o : Object T E R) (t : TableView E) : Type 0 where
  pub opened : AreBelow o t.seats t.opening
  pub some : 1 ≤ t.seats
  pub few : t.seats ≤ 64
  pub within : AreWithin t.limits

-- it keeps its number, the plan that it holds, and how many ids its entries use up, and knows no more entries than the limits allow
pub record KeepsCount {T E K : Type 0} (uses : E → ℕ) (s : SeatView T E K) (plan : List LockMode) (told count : ℕ) : Type 0 where
  pub number : number_of s ≡ told
  pub small : told < 64
  pub no_journal : has_journal s ≡ false
  pub held : AreHeld plan 64 s.me.0.at.holds
  pub within : AreWithin (limits_of s)
  pub few : length (seen_of s) ≤ (limits_of s).journal_max
  pub own : length (mine_of s) ≤ length (seen_of s)
  pub used : count ≡ sum_by uses (mine_of s)
  pub light : count ≤ 255 * length (mine_of s)
