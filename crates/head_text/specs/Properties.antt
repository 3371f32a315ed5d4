-- Properties: names with values, and what holds of them.
use Rattle.std.specs.Prelude.{ℕ, ◌≤◌, Bool, ◌==◌, ◌||◌, ◌&&◌, nat_le, nat_lt, List, length, IsTrue, Vec}
use Rattle.std.specs.Char.{is_ascii_alphanumeric}
use Rattle.std.specs.List.{list_all, AllByRecursion}
use Rattle.std.specs.declared.alloc.Global.{Global}
use Rattle.std.specs.declared.cmp.Ordering.{Ordering}
use Rattle.std.specs.Ordering.{nat_cmp}
use Rattle.std.specs.Cmp.Lexicographic.{slice_cmp}
use Rattle.std.specs.FinMap.{is_sorted}

-- the name and the value of a property
abbrev pub Property : Type 0
Property = List ℕ × List ℕ

abbrev pub property_of : Vec ℕ Global × Vec ℕ Global → Property
property_of pair = (pair.0.items, pair.1.items)

-- names are ordered by the first byte that differs, the shorter one first where none does
abbrev pub name_cmp : List ℕ → List ℕ → Ordering
name_cmp = slice_cmp nat_cmp

-- an ASCII letter or digit, `_` or `-`
abbrev pub is_name_byte : ℕ → Bool
is_name_byte b = is_ascii_alphanumeric b || b == 95 || b == 45

abbrev pub is_name : List ℕ → Bool
is_name text = nat_le 1 (length text) && list_all is_name_byte text

abbrev pub is_byte : ℕ → Bool
is_byte b = nat_lt b 256

-- a name of the grammar, and bytes
abbrev pub IsProperty : Property → Type 0
IsProperty p = IsTrue (is_name p.0) × IsTrue (list_all is_byte p.1)

-- what holds of all properties: each name stands before the next one, so that none stands twice, and there are at most 64
pub record IsProperties (pairs : List Property) : Type 0 where
  pub in_order : IsTrue (is_sorted name_cmp pairs)
  pub each : AllByRecursion IsProperty pairs
  pub few : length pairs ≤ 64
