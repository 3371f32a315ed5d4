-- Facts about the first place of a byte, and about what stands before and behind it.
use Rattle.std.proofs.Common.{◌≡◌, ℕ, ◌+◌, ◌-◌, ◌≤◌, Bool, true, false, ◌&&◌, cond, ltb, List, [], length, take, drop, Some, None, refl, sym, ap, ◌∙◌, arith, length-drop}
use Rattle.std.specs.List.{position, position_or_len, before_first, after_first}
use Rattle.std.proofs.lemmas.List.{take_all, drop_all}
use Rattle.std.proofs.lemmas.Bool.{false≢true}
use Rattle.std.proofs.lemmas.Bool.Decides.{nat_tests}

pub both_parts : (a b : Bool) → (a && b) ≡ true → (a ≡ true) × (b ≡ true)
both_parts true b e = (refl, e)
both_parts false b e = absurd (false≢true e)

-- what `&xs[n..]` shows
pub rest_is : (xs : List ℕ) (n : ℕ) → take (length xs - n) (drop n xs) ≡ drop n xs
rest_is xs n = take_all (length xs - n) (drop n xs) (omega (arith, length-drop n xs))

pub chosen_some : (b : Bool) (x at : ℕ) → cond b (Some x) None ≡ Some at → (b ≡ true) × (x ≡ at)
chosen_some true x at e = (refl, cc)
chosen_some false x at e = cc

chosen_none : (b : Bool) (x : ℕ) → cond b (Some x) None ≡ None → b ≡ false
chosen_none true x e = cc
chosen_none false x e = refl

pub place_is : (p : ℕ → Bool) (xs : List ℕ) (at : ℕ) → position p xs ≡ Some at → position_or_len p xs ≡ at
place_is p xs at e = (chosen_some _ _ _ e).1

not_below : (a b : ℕ) → ltb a b ≡ false → b ≤ a
not_below a b e = grind (arith, nat_tests)

pub place_is_end : (p : ℕ → Bool) (xs : List ℕ) → position p xs ≡ None → length xs ≤ position_or_len p xs
place_is_end p xs e = not_below _ _ (chosen_none (ltb (position_or_len p xs) (length xs)) _ e)

pub before_found : (p : ℕ → Bool) (xs : List ℕ) (at : ℕ) → position p xs ≡ Some at → take at xs ≡ before_first p xs
before_found p xs at e = ap (λ n. take n xs) (sym (place_is p xs at e))

pub before_none : (p : ℕ → Bool) (xs : List ℕ) → position p xs ≡ None → xs ≡ before_first p xs
before_none p xs e = sym (take_all _ xs (place_is_end p xs e))

pub after_found : (p : ℕ → Bool) (xs : List ℕ) (at : ℕ) → position p xs ≡ Some at → take (length xs - (at + 1)) (drop (at + 1) xs) ≡ after_first p xs
after_found p xs at e = rest_is xs (at + 1) ∙ ap (λ n. drop (n + 1) xs) (sym (place_is p xs at e))

pub after_none : (p : ℕ → Bool) (xs : List ℕ) → position p xs ≡ None → [] ≡ after_first p xs
after_none p xs e =
    let far = place_is_end p xs e in
    sym (drop_all _ xs (omega arith))
