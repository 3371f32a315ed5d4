-- How many ids the entries of each pass use up, of a journal.
use Rattle.std.specs.Prelude.{◌≡◌, ℕ, ◌*◌, ◌<◌, ◌≤◌, List, length, sum_by, slice_get}
use Rattle.std.specs.Prelude as std
use Rattle.lock_core.specs.Object.{Object, by_pass}

module _ {T E R : Type 0} (o : Object T E R) where
  -- the entries are by passes below the count
  abbrev pub AreBelow : ℕ → List E → Type 0
  AreBelow count h = (n : ℕ) (e : E) → slice_get h n ≡ std.Some e → o.by e < count

  -- the entries of one pass use up so many ids
  pub record IsUsed (uses : E → ℕ) (h : List E) (pass count : ℕ) : Type 0 where
    pub is_sum : count ≡ sum_by uses (by_pass o pass h)
    pub light : count ≤ 255 * length (by_pass o pass h)

  -- so do those of each of 64 passes
  abbrev pub AreUsed : (E → ℕ) → List E → List ℕ → Type 0
  AreUsed uses h used = (k : ℕ) → k < 64 → (n : ℕ) × (slice_get used k ≡ std.Some n) × IsUsed uses h k n
