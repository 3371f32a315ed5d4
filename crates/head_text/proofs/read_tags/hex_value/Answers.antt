use Rattle.std.proofs.Common.{◌≡◌, ℕ, ◌<◌, ◌+◌, ◌*◌, ◌^◌, true, List, length, take, get_or, ap, arith}
use Rattle.std.specs.Char.{is_ascii_hexdigit, digit_value}
use Rattle.std.specs.List.{list_all}
use Rattle.std.specs.Str.Parse.{digits_value}
use Rattle.std.proofs.lemmas.Str.Parse.{digits_value-take-le}
use Rattle.std.proofs.lemmas.Int.Digits.{digits_value_more, digits_value-lt}
use Rattle.head_text.proofs.TagLemmas.{all_hex, hex_at}
use Rattle.head_text.proofs.read_tags.hex_value.Goals as goal

-- a digit at each place, and the number so far with it stays within sixteen digits
record IsStep (text : List ℕ) (i : ℕ) : Type 0 where
  hex : is_ascii_hexdigit (get_or text i 0) ≡ true
  within : digits_value 16 (take i text) * 16 + digit_value (get_or text i 0) < 16 ^ 16
  next : digits_value 16 (take (i + 1) text) ≡ digits_value 16 (take i text) * 16 + digit_value (get_or text i 0)

step : (text : List ℕ) (i : ℕ) → list_all is_ascii_hexdigit text ≡ true → length text ≡ 16 → i < length text → IsStep text i
step text i digits sixteen below =
    let more = digits_value_more 16 text i below in
    let whole = digits_value-lt 16 text (all_hex text digits) in
    let power : 16 ^ length text ≡ 16 ^ 16 = ap (λ n. 16 ^ n) sixteen in
    let front = digits_value-take-le 16 text (i + 1) (omega arith) in
    record { hex = hex_at text i digits below; within = omega (arith, more, whole, power, front); next = more }

pub overflow_mul-value : goal.overflow_mul-value
overflow_mul-value c = let s = step c.args.text.now c.loop-byte.byte-index c.requires.digits c.requires.sixteen c.loop-byte-test.true in omega (arith, s.within, c.loop-byte.invariant)

pub overflow_add-value : goal.overflow_add-value
overflow_add-value c = let s = step c.args.text.now c.loop-byte.byte-index c.requires.digits c.requires.sixteen c.loop-byte-test.true in omega (arith, s.within, c.loop-byte.invariant, c.from.ensures, c.hex_digit_value.ensures)

pub loop-byte-preserved : goal.loop-byte-preserved
loop-byte-preserved c = let s = step c.args.text.now c.loop-byte.byte-index c.requires.digits c.requires.sixteen c.loop-byte-test.true in omega (arith, s.next, c.loop-byte.invariant, c.from.ensures, c.hex_digit_value.ensures)
