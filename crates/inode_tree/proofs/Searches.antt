-- What the place of an entry says of entries that ascend by keys.
use Rattle.std.proofs.Common.{◌≡◌, ℕ, zero, suc, ◌<◌, ◌≤◌, Bool, ◌&&◌, true, false, T, List, [], ◌∷◌, length, get_or, refl, sym, ap, subst, ◌∙◌, arith}
use Rattle.std.specs.declared.cmp.Ordering.{Ordering}
use Rattle.std.specs.declared.cmp.Ordering.TheVariants.{Less, Equal, Greater}
use Rattle.std.specs.Ordering.{is_lt, ordering_reverse, ordering_index}
use Rattle.std.specs.Cmp.{IsTotalOrder, alike_right}
use Rattle.std.specs.List.Sorted.{IsNonDecreasingBy}
use Rattle.std.proofs.lemmas.List.{get_or_default}
use Rattle.std.specs.FinMap.{is_sorted}
use Rattle.std.specs.FinMap.Entries.{below_all}

pub first : (a b : Bool) → T (a && b) → T a
first true b p = tt
first false b p = p

pub second : (a b : Bool) → T (a && b) → T b
second true b p = p
second false b p = absurd p

pub less : (o : Ordering) → T (is_lt o) → o ≡ Less
less Less p = refl
less Equal p = absurd p
less Greater p = absurd p

low_index : (r : Ordering) → ordering_index r ≤ ordering_index Less → r ≡ Less
low_index Less h = refl
low_index Equal h = absurd (omega arith)
low_index Greater h = absurd (omega arith)

high_index : (r : Ordering) → ordering_index Greater ≤ ordering_index r → r ≡ Greater
high_index Less h = absurd (omega arith)
high_index Equal h = absurd (omega arith)
high_index Greater h = refl

module _ {K : Type 0} (R : K → K → Ordering) (o : IsTotalOrder R) where
  pub turned : (x y : K) (r : Ordering) → R x y ≡ r → R y x ≡ ordering_reverse r
  turned x y r e = o.antisymm y x ∙ ap ordering_reverse e

  -- the comparisons of a lesser and a greater key with one key
  rises : (x y k : K) → R x y ≡ Less → ordering_index (R x k) ≤ ordering_index (R y k)
  rises x y k e =
      elim (R x k) as (λ r. R x k ≡ r → ordering_index r ≤ ordering_index (R y k)) [
        | Less ↦ λ p. omega arith
        | Equal ↦ λ p. let q : R y k ≡ Greater = sym (alike_right o x k y p) ∙ turned x y Less e in rw q (omega arith)
        | Greater ↦ λ p. let q : R y k ≡ Greater = turned k y Less (o.trans k x y (turned x k Greater p) e) in rw q (omega arith)
      ] refl

module _ {K V : Type 0} (R : K → K → Ordering) (o : IsTotalOrder R) where
  -- a key below all is below each
  pub below_at : (x : K) (es : List (K × V)) (j : ℕ) (d : K × V) → T (below_all R x es) → j < length es → R x (get_or es j d).0 ≡ Less
  below_at x [] j d h within = absurd (omega arith)
  below_at x (e ∷ es) zero d h within = less _ (first _ _ h)
  below_at x (e ∷ es) (suc j) d h within = below_at x es j d (second _ _ h) (omega arith)

  comparisons_rise : (k : K) (es : List (K × V)) → T (is_sorted R es) → IsNonDecreasingBy (λ (e : K × V). ordering_index (R e.0 k)) es
  comparisons_rise k [] h i j d le within = absurd (omega arith)
  comparisons_rise k (e ∷ es) h zero zero d le within = omega arith
  comparisons_rise k (e ∷ es) h zero (suc j) d le within = rises R o e.0 (get_or es j d).0 k (below_at e.0 es j d (first _ _ h) (omega arith))
  comparisons_rise k (e ∷ es) h (suc i) zero d le within = absurd (omega arith)
  comparisons_rise k (e ∷ es) h (suc i) (suc j) d le within = comparisons_rise k es (second _ _ h) i j d (omega arith) (omega arith)

  -- what stands before a lesser entry is less
  pub less_before : (k : K) (es : List (K × V)) → T (is_sorted R es) → (i j : ℕ) (d e : K × V) → i < length es → j ≤ i
      → R (get_or es i e).0 k ≡ Less → R (get_or es j d).0 k ≡ Less
  less_before k es h i j d e within le is =
      let at : R (get_or es i d).0 k ≡ Less = ap (λ (x : K × V). R x.0 k) (get_or_default es i d e within) ∙ is in
      low_index (R (get_or es j d).0 k) (subst (λ r. ordering_index (R (get_or es j d).0 k) ≤ ordering_index r) at (comparisons_rise k es h j i d le within))

  -- what stands behind a greater one is greater
  pub greater_behind : (k : K) (es : List (K × V)) → T (is_sorted R es) → (i j : ℕ) (d e : K × V) → j < length es → i ≤ j
      → R (get_or es i e).0 k ≡ Greater → R (get_or es j d).0 k ≡ Greater
  greater_behind k es h i j d e within le is =
      let at : R (get_or es i d).0 k ≡ Greater = ap (λ (x : K × V). R x.0 k) (get_or_default es i d e (omega arith)) ∙ is in
      high_index (R (get_or es j d).0 k) (subst (λ r. ordering_index r ≤ ordering_index (R (get_or es j d).0 k)) at (comparisons_rise k es h i j d le within))
