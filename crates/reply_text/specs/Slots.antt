-- Where the number of a reply stands in its bytes, and what writing it there makes of them.
use Rattle.std.specs.Prelude.{◌≡◌, ℕ, ◌+◌, ◌≤◌, List, ◌++◌, take, drop, length, Option, Some, None, IfSome}
use Rattle.head_text.specs.Hex.{hex16}
use Rattle.namespace_model.specs.declared.field.Field.{Field}
use Rattle.namespace_model.specs.declared.field.Field.TheVariants.{ETag}
use Rattle.reply_text.specs.declared.slots.Slots.{Slots}

-- the bytes, with the digits of the number in place of the sixteen bytes from a place on
abbrev pub with_digits : ℕ → ℕ → List ℕ → List ℕ
with_digits number at bytes = take at bytes ++ hex16 number ++ drop (at + 16) bytes

-- at a place, where there is one
abbrev pub with_digits_in : ℕ → Option ℕ → List ℕ → List ℕ
with_digits_in number None bytes = bytes
with_digits_in number (Some at) bytes = with_digits number at bytes

-- the bytes with the number written at each of its places
unfoldable pub filled : List ℕ → Slots → ℕ → List ℕ
filled bytes slots number = with_digits_in number slots.etag (with_digits number slots.id bytes)

-- sixteen bytes stand at each place
pub record Fits (slots : Slots) (bytes : List ℕ) : Type 0 where
  pub id : slots.id + 16 ≤ length bytes
  pub etag : IfSome slots.etag (λ at. at + 16 ≤ length bytes)

-- the bytes with the number written at its places are the text of that number
pub record Spells (slots : Slots) (bytes : List ℕ) (text : ℕ → List ℕ) : Type 0 where
  pub fits : Fits slots bytes
  pub text_is : (number : ℕ) → filled bytes slots number ≡ text number

-- the places with one line more, which begins at a place: the digits of an open ETag stand nine bytes behind the line's beginning
abbrev pub slots_with : Slots → ℕ → Field → Slots
slots_with slots at (ETag None) = record slots { etag = Some (at + 9) }
slots_with slots at other = slots
