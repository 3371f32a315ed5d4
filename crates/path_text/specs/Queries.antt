-- Queries, seen as pairs of a key and a value.
use Rattle.std.specs.Prelude.{ℕ, ◌≡◌, ◌⊎◌, ◌<◌, Bool, true, not, ◌==◌, List, [], ◌∷◌, ◌++◌, length, Option, option_map, find, bytes_eq}
use Rattle.std.specs.List.{AllZip, join_with_byte, list_all}
use Rattle.percent_encoding.specs.Percent.{percent_decode}

-- the value of the first pair with the key
abbrev pub first_value : List (List ℕ × List ℕ) → List ℕ → Option (List ℕ)
first_value pairs key = option_map (λ (pair : List ℕ × List ℕ). pair.1) (find (λ (pair : List ℕ × List ℕ). bytes_eq pair.0 key) pairs)

abbrev pub is_ampersand : ℕ → Bool
is_ampersand b = b == 38

abbrev pub is_equals : ℕ → Bool
is_equals b = b == 61

-- A piece spells a pair: a key without `=`, and behind an `=` the value, which may have more of them. A piece without `=` is a key, and
-- its value is empty. Key and value are decoded.
pub record SpellsPair (piece : List ℕ) (pair : List ℕ × List ℕ) : Type 0 where
  pub key : List ℕ
  pub no_equals : list_all (λ b. not (is_equals b)) key ≡ true
  pub key_decoded : pair.0 ≡ percent_decode key
  pub value : ((piece ≡ key) × (pair.1 ≡ [])) ⊎ ((value : List ℕ) × (piece ≡ key ++ 61 ∷ value) × (pair.1 ≡ percent_decode value))

-- A query spells its pairs: it is one or more pieces with `&` between them, and each piece spells a pair. So the empty query is one empty
-- piece, whose key and value are empty.
pub record SpellsQuery (query : List ℕ) (pairs : List (List ℕ × List ℕ)) : Type 0 where
  pub pieces : List (List ℕ)
  pub some : 0 < length pieces
  pub joined : query ≡ join_with_byte 38 pieces
  pub no_ampersand : list_all (list_all (λ b. not (is_ampersand b))) pieces ≡ true
  pub spelled : AllZip SpellsPair pieces pairs
