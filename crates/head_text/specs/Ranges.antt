-- The texts of ranges of bytes (RFC 9110, section 14.1.2).
use Rattle.std.specs.Prelude.{codes, Bool, ◌≡◌, ℕ, ◌≤◌, ◌+◌, ◌==◌, nat_le, List, [], ◌∷◌, ◌++◌, length, take, drop, position, bytes_eq, Option, Some, None, if◌then◌else◌}
use Rattle.head_text.specs.Decimal.{decimal_value}
use Rattle.head_text.specs.declared.range.Range.{Range}

-- `bytes=`
abbrev pub unit_text : List ℕ
unit_text = codes "bytes="

-- the last byte of a range: none, or a number that isn't below the first
abbrev pub SpellsEnd : List ℕ → ℕ → Option ℕ → Type 0
SpellsEnd text from None = text ≡ []
SpellsEnd text from (Some to) = (decimal_value text ≡ Some to) × (from ≤ to)

-- `bytes=`, a number, `-`, and perhaps another number
pub record SpellsRange (text : List ℕ) (range : Range) : Type 0 where
  pub first : List ℕ
  pub last : List ℕ
  pub parts : text ≡ unit_text ++ (first ++ 45 ∷ last)
  pub from : decimal_value first ≡ Some range.from
  pub to : SpellsEnd last range.from range.to

abbrev pub is_hyphen : ℕ → Bool
is_hyphen b = b == 45

-- the same as a function of the text, cut at the first `-`
abbrev pub end_or_none : ℕ → Option ℕ → Option Range
end_or_none from None = None
end_or_none from (Some to) = if nat_le from to then Some (record { from = from; to = Some to }) else None

abbrev pub with_end : ℕ → List ℕ → Option Range
with_end from end = if length end == 0 then Some (record { from = from; to = None }) else end_or_none from (decimal_value end)

abbrev pub from_or_none : Option ℕ → List ℕ → Option Range
from_or_none None end = None
from_or_none (Some from) end = with_end from end

abbrev pub cut_at : Option ℕ → List ℕ → Option Range
cut_at None bytes = None
cut_at (Some at) bytes = from_or_none (decimal_value (take at bytes)) (drop (at + 1) bytes)

abbrev pub bytes_range : List ℕ → Option Range
bytes_range bytes = cut_at (position is_hyphen bytes) bytes

abbrev pub range_of : List ℕ → Option Range
range_of text = if bytes_eq (take 6 text) unit_text then bytes_range (drop 6 text) else None
