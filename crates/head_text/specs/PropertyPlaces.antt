-- The place of a name among properties in order.
use Rattle.std.specs.Prelude.{ℕ, suc, List, [], ◌∷◌}
use Rattle.std.specs.FinMap.Entries.{by_order}
use Rattle.head_text.specs.Properties.{Property, name_cmp}

-- how many properties at the front stand before a name
abbrev pub place_of : List ℕ → List Property → ℕ
place_of name [] = 0
place_of name (p ∷ pairs) = by_order (name_cmp name p.0) 0 0 (suc (place_of name pairs))
