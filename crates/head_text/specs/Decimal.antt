-- Numbers in headers and parameters: 1 to 19 decimal digits.
use Rattle.std.specs.Prelude.{ℕ, Bool, ◌&&◌, nat_le, List, length, Option, Some, None, if◌then◌else◌}
use Rattle.std.specs.Char.{is_ascii_digit}
use Rattle.std.specs.List.{list_all}
use Rattle.std.specs.Str.Parse.{digits_value}

-- digits alone, from one to nineteen: no number above 9,999,999,999,999,999,999
abbrev pub is_decimal : List ℕ → Bool
is_decimal text = nat_le 1 (length text) && nat_le (length text) 19 && list_all is_ascii_digit text

-- the number that a text is, where it is one
abbrev pub decimal_value : List ℕ → Option ℕ
decimal_value text = if is_decimal text then Some (digits_value 10 text) else None
