-- Where an entry stands among entries that ascend by keys.
use Rattle.std.specs.Prelude.{◌≡◌, ℕ, ◌<◌, ◌≤◌, Bool, not, List, length, Result, MatchResult}
use Rattle.std.specs.declared.cmp.Ordering.{Ordering}
use Rattle.std.specs.declared.cmp.Ordering.TheVariants.{Less, Equal, Greater}
use Rattle.std.specs.Ordering.{eq_by_cmp}
use Rattle.std.specs.List.Sorted.{IsPartitionPoint}
use Rattle.std.specs.List.{HoldsAt}

-- the place of the entry that has the key; else the place behind those that are less, and before those that are greater
abbrev pub IsPlace : {K V : Type 0} → (K → K → Ordering) → K → List (K × V) → Result ℕ ℕ → Type 0
IsPlace R key entries place =
    MatchResult place
    (λ at. (at < length entries) × HoldsAt (λ entry. R entry.0 key ≡ Equal) entries at)
    (λ at. (at ≤ length entries) × IsPartitionPoint (λ entry. R entry.0 key ≡ Less) (λ entry. R entry.0 key ≡ Greater) entries at)

-- a key is another one
abbrev pub differs : {K : Type 0} → (K → K → Ordering) → K → K → Bool
differs R key other = not (eq_by_cmp R key other)
