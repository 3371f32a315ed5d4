use Rattle.std.proofs.Common.{◌≡◌, ℕ, ◌≤◌, ◌<◌, ◌+◌, ◌-◌, ◌*◌, ◌^◌, true, List, length, take, get_or, arith, rules}
use Rattle.std.specs.Char.{is_ascii_digit}
use Rattle.std.specs.List.{list_all}
use Rattle.std.specs.Str.Parse.{digits_value}
use Rattle.std.proofs.lemmas.Str.{digit_value_digit}
use Rattle.std.proofs.lemmas.Str.Parse.{IsNumeralModel, numerals_by_value, digit_at, digits_value_short, digits_value-take-le}
use Rattle.std.proofs.lemmas.Int.Digits.{digits_value_more}
use Rattle.head_text.proofs.decimal.value_of.Goals as goal

-- a digit at each place, and the number so far with it stays within nineteen digits
record IsStep (text : List ℕ) (i : ℕ) : Type 0 where
  from_zero : 48 ≤ get_or text i 0
  within : digits_value 10 (take i text) * 10 + (get_or text i 0 - 48) < 10 ^ 19
  next : digits_value 10 (take (i + 1) text) ≡ digits_value 10 (take i text) * 10 + (get_or text i 0 - 48)

own : IsNumeralModel (λ ds. list_all is_ascii_digit ds ≡ true) (digits_value 10)
own = numerals_by_value _ (search rules)

step : (text : List ℕ) (i : ℕ) → list_all is_ascii_digit text ≡ true → length text ≤ 19 → i < length text → IsStep text i
step text i digits few below =
    let digit = digit_at text i (own.to text digits) below in
    let value = digit_value_digit (get_or text i 0) digit in
    let more = digits_value_more 10 text i below in
    let whole = digits_value_short own text 19 digits few in
    let front = digits_value-take-le 10 text (i + 1) (omega arith) in
    record { from_zero = omega arith; within = omega arith; next = omega arith }

pub overflow_mul-value : goal.overflow_mul-value
overflow_mul-value c = let s = step c.args.text.now c.loop-byte.byte-index c.requires.digits c.requires.few c.loop-byte-test.true in omega (arith, s.within, c.loop-byte.invariant)

pub overflow_sub-byte : goal.overflow_sub-byte
overflow_sub-byte c = let s = step c.args.text.now c.loop-byte.byte-index c.requires.digits c.requires.few c.loop-byte-test.true in s.from_zero

pub overflow_add-value : goal.overflow_add-value
overflow_add-value c = let s = step c.args.text.now c.loop-byte.byte-index c.requires.digits c.requires.few c.loop-byte-test.true in omega (arith, s.within, c.loop-byte.invariant, c.from.ensures)

pub loop-byte-preserved : goal.loop-byte-preserved
loop-byte-preserved c = let s = step c.args.text.now c.loop-byte.byte-index c.requires.digits c.requires.few c.loop-byte-test.true in omega (arith, s.next, c.loop-byte.invariant, c.from.ensures)
