use Rattle.std.proofs.Common.{◌≡◌, ℕ, suc, zero, List, [], ◌∷◌, ◌++◌, length, slice_get, Some, refl, ap, ◌∙◌}
use Rattle.std.proofs.lemmas.Option.{none-some}
use Rattle.striped_store.proofs.Passing.{next_there}
use Rattle.lock_speed.proofs.popped.Goals as goal

before : {A : Type 0} (xs ys : List A) (k : ℕ) (s : A) → slice_get xs k ≡ Some s → slice_get (xs ++ ys) k ≡ Some s
before [] ys k s q = absurd (none-some s q)
before (x ∷ xs) ys zero s q = q
before (x ∷ xs) ys (suc k) s q = before xs ys k s q

last_of : {A : Type 0} (all xs : List A) (y : A) → all ≡ xs ++ y ∷ [] → slice_get all (length xs) ≡ Some y
last_of {A} all xs y e = ap (λ (l : List A). slice_get l (length xs)) e ∙ next_there xs y [] _ refl

pub returns-in-Some-clause-new : goal.returns-in-Some-clause-new
returns-in-Some-clause-new c =
    λ k p at. c.requires k p (ap (λ l. slice_get l k) c.in-Some.ensures.items ∙ before c.pop.new.self.items (c.in-Some.pass ∷ []) k p at)

pub returns-in-Some-clause-own : goal.returns-in-Some-clause-own
returns-in-Some-clause-own c = (c.requires _ _ (last_of c.args.passes.now.items c.pop.new.self.items c.in-Some.pass c.in-Some.ensures.items)).own

pub returns-in-Some-clause-nothing : goal.returns-in-Some-clause-nothing
returns-in-Some-clause-nothing c = (c.requires _ _ (last_of c.args.passes.now.items c.pop.new.self.items c.in-Some.pass c.in-Some.ensures.items)).nothing
