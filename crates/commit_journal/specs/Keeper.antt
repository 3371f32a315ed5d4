-- What a contract sees of a keeper of entries.
use Rattle.std.specs.Prelude.{◌≡◌, ◌⊎◌, ℕ, ◌<◌, List, [], ◌∷◌, ◌++◌, Option, None, Some}

-- the entries that it has kept, where it tells them, and how often its device failed: a count that stays at its greatest value
pub record Told (E : Type 0) : Type 0 where
  pub kept : Option (List E)
  pub faults : ℕ

-- the count rose, or stands at its greatest value
abbrev pub IsAbove : ℕ → ℕ → Type 0
IsAbove new old = (old < new) ⊎ (new ≡ 18446744073709551615)

module _ {E : Type 0} where
  abbrev pub Rose : Told E → Told E → Type 0
  Rose old new = IsAbove new.faults old.faults

  -- where entries are told they are these
  abbrev pub AreKept : Option (List E) → List E → Type 0
  AreKept None entries = Unit {0}
  AreKept (Some kept) entries = kept ≡ entries

  -- what is told after one entry more was kept
  abbrev pub kept_with : E → Option (List E) → Option (List E)
  kept_with e None = None
  kept_with e (Some kept) = Some (kept ++ e ∷ [])
