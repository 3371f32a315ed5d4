-- Two passes are all passes of a store of two.
use Rattle.std.proofs.Common.{◌≡◌, ℕ, zero, suc, ◌<◌, List, [], ◌∷◌, slice_get, Some, refl, sym, subst, arith}
use Rattle.std.proofs.lemmas.Option.{none-some, same_Some}
use Rattle.path_locks.specs.Views.{TableView, HoldsNothing}
use Rattle.striped_store.specs.Closed.{AreEveryPass}
use Rattle.striped_store.specs.Views.{PassView, number_of_pass, IsOf}

of_two : {A : Type 0} (P : A → Type 0) (a b : A) → P a → P b → (k : ℕ) (s : A) → slice_get (a ∷ b ∷ []) k ≡ Some s → P s
of_two P a b p q zero s e = subst P (same_Some a s e) p
of_two P a b p q (suc zero) s e = subst P (same_Some b s e) q
of_two P a b p q (suc (suc k)) s e = absurd (none-some s e)

pub two_are : {T E K : Type 0} (store : TableView E) (a b : PassView T E K) → IsOf store a → IsOf store b → HoldsNothing a.seat → HoldsNothing b.seat → store.seats ≡ 2
    → number_of_pass a ≡ 0 → number_of_pass b ≡ 1 → AreEveryPass store (a ∷ b ∷ [])
two_are {T} {E} {K} store a b own_a own_b no_a no_b two first second = record {
  many = sym two;
  own = of_two (λ (z : PassView T E K). IsOf store z) a b own_a own_b;
  nothing = of_two (λ (z : PassView T E K). HoldsNothing z.seat) a b no_a no_b;
  every = by_number;
}
  where
    by_number : (n : ℕ) → n < store.seats → (k : ℕ) × (p : PassView T E K) × (slice_get (a ∷ b ∷ []) k ≡ Some p) × (number_of_pass p ≡ n)
    by_number zero h = (0, a, refl, first)
    by_number (suc zero) h = (1, b, refl, second)
    by_number (suc (suc n)) h = absurd (omega arith)
