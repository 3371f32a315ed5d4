-- The children of a directory as contracts see them: names with ids, ascending by name.
use Rattle.std.specs.Prelude.{ℕ, Bool, true, List, [], Option, Some, None, IsTrue, slice_get}
use Rattle.std.specs.List.{filter}
use Rattle.std.specs.declared.cmp.Ordering.{Ordering}
use Rattle.std.specs.Ordering.{nat_cmp, is_lt}
use Rattle.std.specs.Cmp.Lexicographic.{slice_cmp}
use Rattle.std.specs.FinMap.{is_sorted}

-- names by their bytes
abbrev pub name_cmp : List ℕ → List ℕ → Ordering
name_cmp = slice_cmp nat_cmp

-- the children, how many more pages there is room for, and the pages that have the children one behind the other
pub record ChildRecord : Type 0 where
  pub links : List (List ℕ × ℕ)
  pub spare : ℕ
  pub pages : List (List (List ℕ × ℕ))

abbrev pub no_children : ChildRecord
no_children = record { links = []; spare = 0; pages = [] }

-- each name is below those behind it
abbrev pub AscendsByName : List (List ℕ × ℕ) → Type 0
AscendsByName links = IsTrue (is_sorted name_cmp links)

-- a name is greater than another one; where there is no other, each is
abbrev pub is_above : Option (List ℕ) → List ℕ → Bool
is_above None name = true
is_above (Some other) name = is_lt (name_cmp other name)

-- the first child whose name is greater
abbrev pub first_above : Option (List ℕ) → List (List ℕ × ℕ) → Option (List ℕ × ℕ)
first_above other links = slice_get (filter (λ child. is_above other child.0) links) 0
