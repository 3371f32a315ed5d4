-- Truth values.
use Rattle.std.proofs.Common.{◌≡◌, Bool, true, false, cond, ◌||◌, Option, Some, None, refl, sym}

pub either_true : (b : Bool) → (b || true) ≡ true
either_true true = refl
either_true false = refl

pub same_tests : (a b : Bool) → (a ≡ true → b ≡ true) → (b ≡ true → a ≡ true) → a ≡ b
same_tests true b to from = sym (to refl)
same_tests false false to from = refl
same_tests false true to from = from refl

pub both_same : {A : Type 0} (b : Bool) (x : A) → cond b x x ≡ x
both_same true x = refl
both_same false x = refl

-- two tests of which one alone may hold can be asked in either order
pub swapped : {A : Type 0} (a b : Bool) (f : A → A) (v x : A) → (a ≡ true → b ≡ true → ⊥) → cond a (f (cond b v x)) (cond b v x) ≡ cond b v (cond a (f x) x)
swapped true true f v x apart = absurd (apart refl refl)
swapped true false f v x apart = refl
swapped false true f v x apart = refl
swapped false false f v x apart = refl

-- an answer that is none
pub is_none : {A : Type 0} (o : Option A) → ((x : A) → o ≡ Some x → ⊥) → o ≡ None
is_none None h = refl
is_none (Some x) h = absurd (h x refl)
