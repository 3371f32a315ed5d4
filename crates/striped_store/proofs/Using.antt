-- How many ids the entries of each pass use up, while a journal is gone through.
use Rattle.std.proofs.Common.{◌≡◌, ◌≢◌, ℕ, zero, suc, ◌+◌, ◌<◌, ◌≤◌, List, [], ◌∷◌, ◌++◌, length, length-append, append-nil, append_assoc, nat_eq, ne_eqb, Bool, false, ◌-◌, sum_by, slice_get, slice_set, slice_index, replicate, Some, refl, ap, sym, ◌∙◌, subst, arith}
use Rattle.std.proofs.lemmas.List.Sums.{sum_by-append, length-filter, count_by-le-length}
use Rattle.std.specs.Prelude.{Option, None, if◌then◌else◌, ◌==◌}
use Rattle.std.proofs.lemmas.Option.{none-some}
use Rattle.lock_core.specs.Object.{Object, by_pass}
use Rattle.lock_core.proofs.Histories.{by_pass_own, by_pass_other}
use Rattle.path_locks.proofs.Below.{some_inj, get-set_other}
use Rattle.striped_store.specs.UsedIds.{IsUsed, AreUsed}
use mathlib.Core.Logic.{dite}
use native.Mathlib.Decide.{ℕ_discrete}

there_set : {A : Type 0} (l : List A) (i : ℕ) (a b : A) → slice_get l i ≡ Some a → slice_get (slice_set l i b) i ≡ Some b
there_set [] i a b e = absurd (none-some a e)
there_set (x ∷ xs) zero a b e = refl
there_set (x ∷ xs) (suc i) a b e = there_set xs i a b e

in_replicate : {A : Type 0} (n k : ℕ) (a : A) → k < n → slice_get (replicate n a) k ≡ Some a
in_replicate zero k a h = absurd (omega arith)
in_replicate (suc n) zero a h = refl
in_replicate (suc n) (suc k) a h = in_replicate n k a (omega arith)

index_is : (l : List ℕ) (k n : ℕ) → slice_get l k ≡ Some n → slice_index l k ≡ n
index_is [] k n e = absurd (none-some n e)
index_is (x ∷ xs) zero n e = some_inj x n e
index_is (x ∷ xs) (suc k) n e = index_is xs k n e

module _ {T E R : Type 0} (o : Object T E R) (uses : E → ℕ) where
  -- none are used up by an empty journal
  pub used_none : (h : List E) → h ≡ [] → AreUsed o uses h (replicate 64 0)
  used_none h e k l = (
    0,
    in_replicate 64 k 0 l,
    record {
      is_sum = sym (ap (λ (z : List E). sum_by uses (by_pass o k z)) e);
      light = omega arith;
    },
  )

  -- what stands at the place of a pass
  pub read_used : (h : List E) (used : List ℕ) (k : ℕ) → k < 64 → AreUsed o uses h used → IsUsed o uses h k (slice_index used k)
  read_used h used k l are = let t = are k l in subst (λ (n : ℕ). IsUsed o uses h k n) (sym (index_is used k t.0 t.1)) t.2

  -- one entry more
  pub used_next : (h : List E) (e : E) (used used' : List ℕ) → AreUsed o uses h used → ((n : ℕ) → slice_get used (o.by e) ≡ Some n → used' ≡ slice_set used (o.by e) (n + uses e))
      → o.by e < 64 → uses e ≤ 255 → AreUsed o uses (h ++ e ∷ []) used'
  used_next h e used used' are set low small k l = dite (ℕ_discrete k (o.by e)) same other
    where
      mine : (n : ℕ) × (slice_get used (o.by e) ≡ Some n) × IsUsed o uses h (o.by e) n
      mine = are (o.by e) low

      is : used' ≡ slice_set used (o.by e) (mine.0 + uses e)
      is = set mine.0 mine.1

      same : k ≡ o.by e → (n : ℕ) × (slice_get used' k ≡ Some n) × IsUsed o uses (h ++ e ∷ []) k n
      same q =
          let more : by_pass o (o.by e) (h ++ e ∷ []) ≡ by_pass o (o.by e) h ++ e ∷ [] = by_pass_own o (o.by e) h e refl in
          let sum : sum_by uses (by_pass o (o.by e) (h ++ e ∷ [])) ≡ sum_by uses (by_pass o (o.by e) h) + sum_by uses (e ∷ []) =
          ap (λ (z : List E). sum_by uses z) more ∙ sum_by-append uses (by_pass o (o.by e) h) (e ∷ []) in
          let long : length (by_pass o (o.by e) (h ++ e ∷ [])) ≡ length (by_pass o (o.by e) h) + 1 =
          ap (λ (z : List E). length z) more ∙ length-append (by_pass o (o.by e) h) (e ∷ []) in
          let was = mine.2.is_sum in
          let light = mine.2.light in
          subst (λ (i : ℕ). (n : ℕ) × (slice_get used' i ≡ Some n) × IsUsed o uses (h ++ e ∷ []) i n) (sym q) (
            mine.0 + uses e,
            ap (λ (z : List ℕ). slice_get z (o.by e)) is ∙ there_set used (o.by e) mine.0 (mine.0 + uses e) mine.1,
            record { is_sum = omega (arith, was, sum); light = omega (arith, light, long, small) },
          )

      other : k ≢ o.by e → (n : ℕ) × (slice_get used' k ≡ Some n) × IsUsed o uses (h ++ e ∷ []) k n
      other ne =
          let t = are k l in
          let kept : by_pass o k (h ++ e ∷ []) ≡ by_pass o k h = by_pass_other o k h e (λ q. ne (sym q)) in (
            t.0,
            ap (λ (z : List ℕ). slice_get z k) is ∙ get-set_other used (o.by e) k (mine.0 + uses e) ne ∙ t.1,
            (record { is_sum = t.2.is_sum ∙ sym (ap (λ (z : List E). sum_by uses z) kept); light = (let q = ap (λ (z : List E). length z) kept in let b = t.2.light in omega (arith, q, b)) }),
          )

  -- the journal was gone through as far as this number
  pub record IsThrough (h : List E) (n : ℕ) (used : List ℕ) : Type 0 where
    pub done : List E
    pub left : List E
    pub parts : done ++ left ≡ h
    pub far : length done ≡ n
    pub are : AreUsed o uses done used

  pub through_none : (h : List E) (n : ℕ) → n ≡ 0 → IsThrough h n (replicate 64 0)
  through_none h n z = record { done = []; left = h; parts = refl; far = sym z; are = used_none [] refl }

  pub through_all : (h : List E) (n : ℕ) (used : List ℕ) → IsThrough h n used → length h ≤ n → AreUsed o uses h used
  through_all h n used t l = subst (λ (z : List E). AreUsed o uses z used)
      (sym (append-nil t.done) ∙ ap (λ (z : List E). t.done ++ z) (sym (no_more t.left (let a = length-append t.done t.left in let b = ap (λ (z : List E). length z) t.parts in let c = t.far in omega (arith, a, b, c, l)))) ∙ t.parts) t.are
    where
      no_more : (l : List E) → length l ≤ 0 → l ≡ []
      no_more [] q = refl
      no_more (x ∷ xs) q = absurd (omega arith)

  pub through_room : (h : List E) (n : ℕ) (used : List ℕ) (e : E) → IsThrough h n used → n ≤ 4194304 → o.by e < 64 → (m : ℕ) × (slice_get used (o.by e) ≡ Some m) × (m ≤ 1069547520)
  through_room h n used e t l low =
      let a = t.are (o.by e) low in
      let b = a.2.light in
      let c = t.far in
      (a.0, a.1, omega (arith, b, c, l, length-filter (λ (z : E). nat_eq (o.by z) (o.by e)) t.done, count_by-le-length (λ (z : E). nat_eq (o.by z) (o.by e)) t.done))

  pub through_next : (h : List E) (n n' : ℕ) (used used' : List ℕ) (e : E) → n' ≡ n + 1 → IsThrough h n used → slice_get h n ≡ Some e
      → ((m : ℕ) → slice_get used (o.by e) ≡ Some m → used' ≡ slice_set used (o.by e) (m + uses e)) → o.by e < 64 → uses e ≤ 255 → IsThrough h n' used'
  through_next h n n' used used' e next t at set low small =
      let q = first_left t.done t.left e (ap (λ (z : List E). slice_get z (length t.done)) t.parts ∙ ap (λ (i : ℕ). slice_get h i) t.far ∙ at) in
      record {
        done = t.done ++ e ∷ [];
        left = q.0;
        parts = append_assoc t.done (e ∷ []) q.0 ∙ ap (λ (z : List E). t.done ++ z) (sym q.1) ∙ t.parts;
        far = length-append t.done (e ∷ []) ∙ ap (λ (i : ℕ). i + 1) t.far ∙ sym next;
        are = used_next t.done e used used' t.are set low small;
      }
    where
      first_left : (xs ys : List E) (e : E) → slice_get (xs ++ ys) (length xs) ≡ Some e → (zs : List E) × (ys ≡ e ∷ zs)
      first_left [] [] e q = absurd (none-some e q)
      first_left [] (y ∷ ys) e q = (ys, ap (λ (z : E). z ∷ ys) (some_inj y e q))
      first_left (x ∷ xs) ys e q = first_left xs ys e q

-- the entry with the next number
pub next_entry : {E : Type 0} (h : List E) (n : ℕ) (e : E) (q : Option E) → q ≡ (if (n + 1) == 0 then None else slice_get h ((n + 1) - 1)) → q ≡ Some e → slice_get h n ≡ Some e
next_entry h n e q is some =
    let no : nat_eq (n + 1) 0 ≡ false = ne_eqb (n + 1) 0 (λ p. omega arith) in
    let same : (n + 1) - 1 ≡ n = omega arith in
    ap (λ (i : ℕ). slice_get h i) (sym same) ∙ sym (ap (λ (b : Bool). if b then None else slice_get h ((n + 1) - 1)) no) ∙ sym is ∙ some
