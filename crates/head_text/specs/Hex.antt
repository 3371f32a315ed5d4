-- Sixteen upper-case hex digits, as request ids and ETags have them.
use Rattle.std.specs.Prelude.{ℕ, ◌+◌, ◌/◌, ◌%◌, ◌^◌, nat_lt, List, [], ◌∷◌, if◌then◌else◌}

-- `0` to `9`, then `A` to `F`
abbrev pub hex_digit : ℕ → ℕ
hex_digit n = if nat_lt n 10 then 48 + n else 55 + n

-- the digit of n at the place of 16^k
abbrev pub hex_at : ℕ → ℕ → ℕ
hex_at n k = hex_digit (n / 16 ^ k % 16)

unfoldable pub hex16 : ℕ → List ℕ
hex16 n =
    hex_at n 15 ∷ hex_at n 14 ∷ hex_at n 13 ∷ hex_at n 12 ∷ hex_at n 11 ∷ hex_at n 10 ∷ hex_at n 9 ∷ hex_at n 8
    ∷ hex_at n 7 ∷ hex_at n 6 ∷ hex_at n 5 ∷ hex_at n 4 ∷ hex_at n 3 ∷ hex_at n 2 ∷ hex_at n 1 ∷ hex_at n 0 ∷ []
