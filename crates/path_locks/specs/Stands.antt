-- What a seat knows of the journal.
use Rattle.std.specs.Prelude.{◌≡◌, ℕ, ◌<◌, true, List, length}
use Rattle.lock_core.specs.declared.machine.Sitting.{Sitting}
use Rattle.lock_core.specs.Object.{Object, by_pass, replay}
use Rattle.lock_core.specs.Machine.{hold_at, note_of}
use Rattle.lock_core.specs.Sound.{StartsWith, AllFit}
use mathlib.Core.Option.{some}
use lib.ListN.{get_elem?}

-- a live seat stands in a journal: it begins with what the seat has seen, has the seat's entries and no others by it, each of
-- its entries fits, and its replay has the seat's notes
pub record Stands {T E R : Type 0} (o : Object T E R) (v : Sitting T E) : Type 0 where
  pub live : v.live ≡ true
  pub wide : length v.holds ≡ 64
  pub journal : List E
  pub begins : StartsWith journal v.seen
  pub mine : v.mine ≡ by_pass o v.number journal
  pub mine_of_seen : v.mine ≡ by_pass o v.number v.seen
  pub fit : AllFit o journal
  pub notes : (k : ℕ) (x : T) → k < 64 → note_of (hold_at v.holds k) ≡ some x → get_elem? (replay o journal) k ≡ some x
