use Rattle.std.proofs.Common.{◌≡◌, ℕ, suc, zero, List, [], ◌∷◌, ◌++◌, length, slice_get, Some, refl, ap, ◌∙◌}
use Rattle.std.proofs.lemmas.Option.{none-some}
use Rattle.striped_store.proofs.Passing.{next_there}
use Rattle.store_tests.proofs.tests.popped.Goals as goal

get_longer : {A : Type 0} (xs ys : List A) (k : ℕ) (s : A) → slice_get xs k ≡ Some s → slice_get (xs ++ ys) k ≡ Some s
get_longer [] ys k s q = absurd (none-some s q)
get_longer (x ∷ xs) ys zero s q = q
get_longer (x ∷ xs) ys (suc k) s q = get_longer xs ys k s q

get_before : {A : Type 0} (all xs ys : List A) (k : ℕ) (s : A) → all ≡ xs ++ ys → slice_get xs k ≡ Some s → slice_get all k ≡ Some s
get_before {A} all xs ys k s e q = ap (λ (l : List A). slice_get l k) e ∙ get_longer xs ys k s q

get_last : {A : Type 0} (all xs : List A) (y : A) → all ≡ xs ++ y ∷ [] → slice_get all (length xs) ≡ Some y
get_last {A} all xs y e = ap (λ (l : List A). slice_get l (length xs)) e ∙ next_there xs y [] _ refl

pub returns-in-Some-clause-new : goal.returns-in-Some-clause-new
returns-in-Some-clause-new c = λ k p at. c.requires k p (get_before c.args.passes.now.items c.pop.new.self.items _ k p c.in-Some.ensures.items at)

pub returns-in-Some-clause-last : goal.returns-in-Some-clause-last
returns-in-Some-clause-last c = c.requires _ _ (get_last c.args.passes.now.items c.pop.new.self.items c.in-Some.pass c.in-Some.ensures.items)
