-- The tallies of all passes together are that of the whole journal.
use Rattle.std.proofs.Common.{◌≡◌, inl, inr, ◌⊎◌, ◌≢◌, ℕ, zero, suc, ◌+◌, ◌<◌, ◌≤◌, Bool, true, false, cond, List, [], ◌∷◌, length, map, slice_get, Some, refl, ap, ◌∙◌, arith}
use Rattle.std.specs.Prelude.{sum_by, nat_eq}
use Rattle.std.proofs.lemmas.Bool.Decides.{eqb_tells}
use Rattle.std.proofs.lemmas.List.Sums.{sum_by-cons}
use Rattle.namespace_model.specs.declared.request.Entry.{Entry}
use Rattle.reply_marks.specs.declared.mark.Mark.{Mark}
use Rattle.reply_marks.specs.declared.mark.Mark.TheVariants as mark
use Rattle.reply_marks.specs.declared.tally.Tally.{Tally}
use Rattle.reply_marks.specs.Marks.{marks_of}
use Rattle.reply_marks.specs.Tallies.{counts, count_in, tally_of, total_of}

-- the sum of a function over so many numbers from one on
sum_range : (ℕ → ℕ) → ℕ → ℕ → ℕ
sum_range f from zero = 0
sum_range f from (suc n) = f from + sum_range f (suc from) n

range_zero : (f : ℕ → ℕ) (from n : ℕ) → ((i : ℕ) → from ≤ i → f i ≡ 0) → sum_range f from n ≡ 0
unfolding sum_range
range_zero f from zero none = refl
range_zero f from (suc n) none =
    let here : f from ≡ 0 = none from (omega arith) in
    let rest : sum_range f (suc from) n ≡ 0 = range_zero f (suc from) n (λ i later. none i (omega (arith, later))) in
    omega (arith, here, rest)

range_plus : (f g : ℕ → ℕ) (from n : ℕ) → sum_range (λ i. f i + g i) from n ≡ sum_range f from n + sum_range g from n
unfolding sum_range
range_plus f g from zero = omega arith
range_plus f g from (suc n) = let rest = range_plus f g (suc from) n in omega (arith, rest)

-- a number that is counted at one place alone
range_once : (c p from n : ℕ) → from ≤ p → p < from + n → sum_range (λ i. cond (nat_eq p i) c 0) from n ≡ c
unfolding sum_range
range_once c p from zero low high = absurd (omega (arith, low, high))
range_once c p from (suc n) low high = by_first (λ (below : suc from ≤ p) (above : p < suc from + n). range_once c p (suc from) n below above) (eqb_tells p from)
  where
    by_first : (suc from ≤ p → p < suc from + n → sum_range (λ i. cond (nat_eq p i) c 0) (suc from) n ≡ c) → ((nat_eq p from ≡ true) × (p ≡ from)) ⊎ ((nat_eq p from ≡ false) × (p ≢ from)) → cond (nat_eq p from) c 0 + sum_range (λ i. cond (nat_eq p i) c 0) (suc from) n ≡ c
    by_first further (inl here) =
        let first : cond (nat_eq p from) c 0 ≡ c = ap (λ b. cond b c 0) here.0 in
        let rest : sum_range (λ i. cond (nat_eq p i) c 0) (suc from) n ≡ 0 = range_zero (λ i. cond (nat_eq p i) c 0) (suc from) n (λ i later. other i later (eqb_tells p i)) in
        omega (arith, first, rest)
      where
        other : (i : ℕ) → suc from ≤ i → ((nat_eq p i ≡ true) × (p ≡ i)) ⊎ ((nat_eq p i ≡ false) × (p ≢ i)) → cond (nat_eq p i) c 0 ≡ 0
        other i later (inl same) = absurd (omega (arith, later, same.1, here.1))
        other i later (inr apart) = ap (λ b. cond b c 0) apart.0
    by_first further (inr apart) =
        let first : cond (nat_eq p from) c 0 ≡ 0 = ap (λ b. cond b c 0) apart.0 in
        let rest : sum_range (λ i. cond (nat_eq p i) c 0) (suc from) n ≡ c = further (later apart.1) (omega (arith, high)) in
        omega (arith, first, rest)
      where
        later : p ≢ from → suc from ≤ p
        later other = omega (arith, low, other)

module _ {X : Type 0} (by : X → ℕ) where
  -- each entry is counted by one number
  counts_sum : (m : Mark) (n : ℕ) (xs : List X) (ks : List Mark) → ((k : ℕ) (x : X) → slice_get xs k ≡ Some x → by x < n)
      → sum_range (λ i. count_in m (λ x. nat_eq (by x) i) xs ks) 0 n ≡ count_in m (λ x. true) xs ks
  unfolding count_in
  counts_sum m n [] ks all = range_zero (λ i. 0) 0 n (λ i later. refl)
  counts_sum m n (x ∷ xs) [] all = range_zero (λ i. 0) 0 n (λ i later. refl)
  counts_sum m n (x ∷ xs) (k ∷ ks) all =
      let below : by x < n = all 0 x refl in
      let first : sum_range (λ i. cond (nat_eq (by x) i) (counts m k) 0) 0 n ≡ counts m k = range_once (counts m k) (by x) 0 n (omega arith) (omega (arith, below)) in
      let rest = counts_sum m n xs ks (λ j y there. all (suc j) y there) in
      range_plus (λ i. cond (nat_eq (by x) i) (counts m k) 0) (λ i. count_in m (λ y. nat_eq (by y) i) xs ks) 0 n ∙ ap (λ a. a + sum_range (λ i. count_in m (λ y. nat_eq (by y) i) xs ks) 0 n) first
      ∙ ap (λ a. counts m k + a) rest

-- a sum over a list is one over its places
sum_places : {X : Type 0} (g : X → ℕ) (f : ℕ → ℕ) (from : ℕ) (ts : List X) → ((k : ℕ) (t : X) → slice_get ts k ≡ Some t → g t ≡ f (from + k)) → sum_by g ts ≡ sum_range f from (length ts)
unfolding sum_range
sum_places g f from [] each = refl
sum_places g f from (t ∷ ts) each =
    let place : from + 0 ≡ from = omega arith in
    let here : g t ≡ f from = each 0 t refl ∙ ap f place in
    let rest : sum_by g ts ≡ sum_range f (suc from) (length ts) = sum_places g f (suc from) ts (λ k u there. each (suc k) u there ∙ ap f (next k)) in
    sum_by-cons g t ts ∙ ap (λ a. a + sum_by g ts) here ∙ ap (λ a. f from + a) rest
  where
    next : (k : ℕ) → from + suc k ≡ suc from + k
    next k = omega arith

module _ {X : Type 0} (entry_of : X → Entry) (by : X → ℕ) where
  abbrev by_number : ℕ → X → Bool
  by_number i x = nat_eq (by x) i

  -- the tallies of the passes, in the order of their numbers, where each entry is by one of them
  pub total_is : (ts : List Tally) (journal : List X) → ((k : ℕ) (t : Tally) → slice_get ts k ≡ Some t → t ≡ tally_of entry_of (by_number k) journal)
      → ((k : ℕ) (x : X) → slice_get journal k ≡ Some x → by x < length ts) → total_of ts ≡ tally_of entry_of (λ x. true) journal
  total_is ts journal each all = same (one mark.Ok (λ t. t.ok) (λ k t there. ap (λ (u : Tally). u.ok) (each k t there)))
      (one mark.Refused (λ t. t.refused) (λ k t there. ap (λ (u : Tally). u.refused) (each k t there)))
      (one mark.Denied (λ t. t.denied) (λ k t there. ap (λ (u : Tally). u.denied) (each k t there)))
    where
      one : (m : Mark) (g : Tally → ℕ) → ((k : ℕ) (t : Tally) → slice_get ts k ≡ Some t → g t ≡ count_in m (by_number k) journal (marks_of (map entry_of journal)))
          → sum_by g ts ≡ count_in m (λ x. true) journal (marks_of (map entry_of journal))
      one m g is = sum_places g (λ i. count_in m (by_number i) journal (marks_of (map entry_of journal))) 0 ts (λ k t there. is k t there ∙ ap (λ i. count_in m (by_number i) journal (marks_of (map entry_of journal))) (from_zero k))
          ∙ counts_sum by m (length ts) journal (marks_of (map entry_of journal)) all
        where
          from_zero : (k : ℕ) → k ≡ 0 + k
          from_zero k = omega arith

      with_counts : ℕ → ℕ → ℕ → Tally
      with_counts a b c = record { ok = a; refused = b; denied = c }

      same : {a b c d e f : ℕ} → a ≡ d → b ≡ e → c ≡ f → with_counts a b c ≡ with_counts d e f
      same first second third = cc (first, second, third)
