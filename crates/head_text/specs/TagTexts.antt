-- The text of one entity tag of a list (RFC 9110, section 8.8.3), where the tag is a number.
use Rattle.std.specs.Prelude.{codes, ◌≡◌, ◌⊎◌, ℕ, IsTrue, List, [], ◌++◌, length}
use Rattle.std.specs.Char.{is_ascii_hexdigit}
use Rattle.std.specs.List.{list_all}
use Rattle.std.specs.Str.Parse.{digits_value}
use Rattle.head_text.specs.ETags.{trimmed}
use Rattle.head_text.specs.Hex.{hex16}

-- the entity tag of a number as replies have it: `"0x`, sixteen hex digits, `"`
unfoldable pub etag_text : ℕ → List ℕ
etag_text number = codes "\"0x" ++ hex16 number ++ codes "\""

-- with spaces and tabs round it: perhaps `W/`, and then `0x` and sixteen hex digits of the number, in quotes or not
pub record SpellsTag (item : List ℕ) (number : ℕ) : Type 0 where
  pub weak : List ℕ
  pub quote : List ℕ
  pub digits : List ℕ
  pub parts : trimmed item ≡ weak ++ (quote ++ ((codes "0x" ++ digits) ++ quote))
  pub is_weak : (weak ≡ []) ⊎ (weak ≡ codes "W/")
  pub is_quote : (quote ≡ []) ⊎ (quote ≡ codes "\"")
  pub sixteen : length digits ≡ 16
  pub hex : IsTrue (list_all is_ascii_hexdigit digits)
  pub value : digits_value 16 digits ≡ number
