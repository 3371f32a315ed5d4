-- Work in the parts that a seat holds exclusively.
use Rattle.std.specs.Prelude.{◌≡◌, ℕ, ◌<◌, ◌≤◌, List, length, slice_get, slice_set}
use Rattle.std.specs.Prelude as std
use Rattle.path_locks.specs.Holding.{bared}

module _ {T W : Type 0} where
  -- the work was reserved in a part, if there is one
  abbrev pub IsReady : (T → W → Type 0) → W → std.Option T → Type 0
  IsReady ready w std.None = Unit {0}
  IsReady ready w (std.Some y) = ready y w

  -- the work was reserved in each part of a list of places
  abbrev pub AreReady : (T → W → Type 0) → W → List (std.Option T) → Type 0
  AreReady ready w parts = (k : ℕ) (q : std.Option T) → slice_get parts k ≡ std.Some q → IsReady ready w q

  -- the same in the first n places
  abbrev pub AreReadyBelow : (T → W → Type 0) → W → ℕ → List (std.Option T) → Type 0
  AreReadyBelow ready w n parts = (k : ℕ) (q : std.Option T) → k < n → slice_get parts k ≡ std.Some q → IsReady ready w q

  -- a part, if there is one, after the work of the entry with this number
  abbrev pub worked : (T → W → ℕ → T) → W → ℕ → std.Option T → std.Option T
  worked applied w n std.None = std.None
  worked applied w n (std.Some x) = std.Some (applied x w n)

module _ {T : Type 0} (bare : T → T) where
  -- what one place has changes
  pub record IsChangedAt (f : std.Option T → std.Option T) (at : ℕ) (xs ys : List (std.Option T)) : Type 0 where
    pub old : std.Option T
    pub new : std.Option T
    pub there : slice_get xs at ≡ std.Some old
    pub is : ys ≡ slice_set xs at new
    pub becomes : bared bare new ≡ f (bared bare old)

  -- the places from the first to the n-th have changed, without what a reserve keeps ready, and the others not at all
  pub record AreChangedBelow (f : std.Option T → std.Option T) (n : ℕ) (xs ys : List (std.Option T)) : Type 0 where
    pub long : length ys ≡ length xs
    pub done : (k : ℕ) (q : std.Option T) → k < n → slice_get xs k ≡ std.Some q → (r : std.Option T) × (slice_get ys k ≡ std.Some r) × (bared bare r ≡ f (bared bare q))
    pub left : (k : ℕ) (q : std.Option T) → n ≤ k → slice_get xs k ≡ std.Some q → slice_get ys k ≡ std.Some q

  -- each place has changed so, without what a reserve keeps ready
  pub record AreChanged (f : std.Option T → std.Option T) (xs ys : List (std.Option T)) : Type 0 where
    pub long : length ys ≡ length xs
    pub each : (k : ℕ) (q : std.Option T) → slice_get xs k ≡ std.Some q → (r : std.Option T) × (slice_get ys k ≡ std.Some r) × (bared bare r ≡ f (bared bare q))

  -- the parts are the same, without what a reserve keeps ready
  abbrev pub AreSameParts : List (std.Option T) → List (std.Option T) → Type 0
  AreSameParts xs ys = AreChanged (λ q. q) xs ys
