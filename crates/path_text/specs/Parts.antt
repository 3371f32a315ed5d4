-- The parts of a path.
use Rattle.std.specs.Prelude.{ℕ, List, [], ◌∷◌, Option, Some, None}
use Rattle.std.specs.Borrow.{Bor}
use Rattle.path_text.specs.declared.path.Place.{Place}
use Rattle.path_text.specs.declared.parts.Parts.{Parts}

-- the filesystem's name, then the names below it; none for the account
abbrev pub parts_of : Option Place → List (List ℕ)
parts_of None = []
parts_of (Some place) = place.fs ∷ place.names.items

abbrev pub with_first : Option (Bor (List ℕ)) → List (List ℕ) → List (List ℕ)
with_first None names = names
with_first (Some fs) names = fs.now ∷ names

-- the parts that an iterator has still to give
abbrev pub parts_left : Parts → List (List ℕ)
parts_left parts = with_first parts.fs parts.names.now
