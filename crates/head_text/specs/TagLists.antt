-- The items of a list (RFC 9110, section 5.6.1), which commas part.
use Rattle.std.specs.Prelude.{◌≡◌, ℕ, ◌<◌, List, length}
use Rattle.std.specs.List.{join_with_byte, AllByRecursion, Contains}

-- there is no comma in an item
abbrev pub HasNoComma : List ℕ → Type 0
HasNoComma item = ¬ Contains item 44

-- one item or more, none with a comma in it, that give the text with a comma between each and the next
pub record AreItems (text : List ℕ) (items : List (List ℕ)) : Type 0 where
  pub some : 0 < length items
  pub each : AllByRecursion HasNoComma items
  pub joined : join_with_byte 44 items ≡ text
