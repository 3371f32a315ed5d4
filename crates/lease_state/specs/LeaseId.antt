-- The text of a lease id: 36 characters, hex digits in groups of 8, 4, 4, 4 and 12 with `-` between, as RFC 9562 has it
-- in section 4. Case doesn't matter to a reader, and what is printed is in lower case.
use Rattle.std.specs.Prelude.{◌≡◌, ◌≢◌, ℕ, ◌+◌, ◌*◌, ◌<◌, List, Option, option_map, IsTrue, length, slice_index, fold}
use Rattle.std.specs.Int.{w128, from_be_bytes, to_be_bytes}
use Rattle.uuid.specs.Text.{hyphen, is_hex_digit, value_of, digits_of, lower, parsed_hyphenated, hyphenated_text}

-- 36 characters: `-` at the places 8, 13, 18 and 23, and hex digits in either case at all others
pub record IsLeaseIdText (text : List ℕ) : Type 0 where
  pub long : length text ≡ 36
  pub first_hyphen : slice_index text 8 ≡ hyphen
  pub second_hyphen : slice_index text 13 ≡ hyphen
  pub third_hyphen : slice_index text 18 ≡ hyphen
  pub fourth_hyphen : slice_index text 23 ≡ hyphen
  pub digits : (k : ℕ) → k < 36 → k ≢ 8 → k ≢ 13 → k ≢ 18 → k ≢ 23 → IsTrue (is_hex_digit (slice_index text k))

-- the number that the 32 digits of a text spell in base 16, the first digit highest
abbrev pub spelled_number : List ℕ → ℕ
spelled_number text = fold (λ n digit. 16 * n + value_of digit) 0 (digits_of text)

-- a text spells an id
abbrev pub SpellsLeaseId : List ℕ → ℕ → Type 0
SpellsLeaseId text id = IsLeaseIdText text × (id ≡ spelled_number text)

-- the id of a text, if it is the text of one
abbrev pub lease_id_of : List ℕ → Option ℕ
lease_id_of text = option_map (from_be_bytes w128) (parsed_hyphenated text)

-- the printed text of an id
abbrev pub lease_id_text : ℕ → List ℕ
lease_id_text id = hyphenated_text lower (to_be_bytes w128 id)
