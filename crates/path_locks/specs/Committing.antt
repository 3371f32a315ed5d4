-- What a commit needs.
use Rattle.std.specs.Prelude.{ℕ, ◌+◌, length}
use Rattle.lock_core.specs.declared.machine.Sitting.{Sitting}
use Rattle.lock_core.specs.Object.{Object}
use Rattle.lock_core.specs.Machine.{hold_at, IsNoted, IsFootprint, MayMake}

-- a seat that has the journal may commit the entry, as the next one of the journal: it has looked at every stripe that it holds,
-- what it holds is the footprint of the entry, and the entry is by it and fits
pub record MayCommit {T E R : Type 0} (o : Object T E R) (x : Sitting T E) (e : E) : Type 0 where
  pub looked : (k : ℕ) → IsNoted (hold_at x.holds k)
  pub footprint : IsFootprint o x e (length x.seen + 1)
  pub fits : MayMake o x e
