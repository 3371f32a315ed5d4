-- What an entry's place says of a look-up, and what an edit there does.
use Rattle.std.proofs.Common.{◌≡◌, ℕ, zero, suc, ◌<◌, ◌≤◌, Bool, true, false, IsTrue, T, List, [], ◌∷◌, length, get_or, set, insert, drop, None, Some, refl, sym, ap, subst, ◌∙◌, arith}
use Rattle.std.specs.Prelude.{remove}
use Rattle.std.specs.declared.cmp.Ordering.{Ordering}
use Rattle.std.specs.declared.cmp.Ordering.TheVariants.{Less, Equal, Greater}
use Rattle.std.specs.Ordering.{is_lt}
use Rattle.std.specs.Cmp.{IsTotalOrder, alike_right, tied_back}
use Rattle.std.specs.List.{HoldsAt}
use Rattle.std.specs.List.Sorted.{IsPartitionPoint}
use Rattle.std.specs.FinMap.{find, put, is_sorted}
use Rattle.std.specs.FinMap.Entries.{where_key, below_all, is_sorted-put, is_sorted-where_key}
use Rattle.inode_tree.specs.Ascending.{differs}
use Rattle.inode_tree.proofs.Searches.{turned, below_at, first, second, less}

pub in_order : (b : Bool) → IsTrue b → T b
in_order b e = subst T (sym e) tt

pub is_true : (b : Bool) → T b → IsTrue b
is_true true h = refl
is_true false h = absurd h

module _ {K : Type 0} (R : K → K → Ordering) where
  -- the keys that are greater
  abbrev pub exceeds : K → K → Bool
  exceeds k x = is_lt (R k x)

module _ {K V : Type 0} (R : K → K → Ordering) (o : IsTotalOrder R) where
  -- all that is behind a key that ties with k is greater than k
  none_tied : (k x : K) (es : List (K × V)) → R k x ≡ Equal → T (below_all R x es)
      → (where_key R (differs R k) es ≡ es) × (where_key R (exceeds R k) es ≡ es)
  none_tied k x [] t h = (refl, refl)
  none_tied k x (e ∷ es) t h =
      let p : R k e.0 ≡ Less = o.congr k x e.0 t ∙ less _ (first _ _ h) in
      let rest = none_tied k x es t (second _ _ h) in
      (rw p (ap (λ r. e ∷ r) rest.0), rw p (ap (λ r. e ∷ r) rest.1))

  -- the entry of k stands at a place
  pub record Found (k : K) (es : List (K × V)) (at : ℕ) (d : K × V) : Type 0 where
    pub found : find R k es ≡ Some (get_or es at d).1
    pub replaced : (v : V) → put R k v es ≡ set es at ((get_or es at d).0, v)
    pub removed : where_key R (differs R k) es ≡ remove es at
    pub above : where_key R (exceeds R k) es ≡ drop (suc at) es

  pub found_at : (k : K) (es : List (K × V)) (at : ℕ) (d : K × V) → T (is_sorted R es) → at < length es
      → R (get_or es at d).0 k ≡ Equal → Found k es at d
  found_at k [] at d h within is = absurd (omega arith)
  found_at k (e ∷ es) zero d h within is =
      let p : R k e.0 ≡ Equal = tied_back o e.0 k is in
      let rest = none_tied k e.0 es p (first _ _ h) in
      record { found = rw p refl; replaced = λ v. rw p refl; removed = rw p rest.0; above = rw p rest.1 }
  found_at k (e ∷ es) (suc at) d h within is =
      let rest = found_at k es at d (second _ _ h) (omega arith) is in
      let q : R e.0 k ≡ Less = sym (alike_right o (get_or es at d).0 k e.0 is) ∙ below_at R o e.0 es at d (first _ _ h) (omega arith) in
      let p : R k e.0 ≡ Greater = turned R o e.0 k Less q in
      record {
        found = rw p rest.found;
        replaced = λ v. rw p (ap (λ r. e ∷ r) (rest.replaced v));
        removed = rw p (ap (λ r. e ∷ r) rest.removed);
        above = rw p rest.above;
      }

  -- what is greater stands behind the entry of k
  pub above_at : (k : K) (es : List (K × V)) (at : ℕ) → T (is_sorted R es) → at < length es → HoldsAt (λ e. R e.0 k ≡ Equal) es at
      → where_key R (exceeds R k) es ≡ drop (suc at) es
  above_at k [] at h within is = absurd (omega arith)
  above_at k (e ∷ es) at h within is = (found_at k (e ∷ es) at e h within (is e)).above

  -- there is no entry of k, and it would stand at a place
  pub record Free (k : K) (es : List (K × V)) (at : ℕ) : Type 0 where
    pub missing : find R k es ≡ None
    pub added : (v : V) → put R k v es ≡ insert es at (k, v)
    pub kept : where_key R (differs R k) es ≡ es
    pub above : where_key R (exceeds R k) es ≡ drop at es

  abbrev Parts : K → List (K × V) → ℕ → Type 0
  Parts k es at = IsPartitionPoint (λ (e : K × V). R e.0 k ≡ Less) (λ (e : K × V). R e.0 k ≡ Greater) es at

  pub free_at : (k : K) (es : List (K × V)) (at : ℕ) → at ≤ length es → Parts k es at → Free k es at
  free_at k [] zero within parts = record { missing = refl; added = λ v. refl; kept = refl; above = refl }
  free_at k [] (suc at) within parts = absurd (omega arith)
  free_at k (e ∷ es) zero within parts =
      let p : R k e.0 ≡ Less = turned R o e.0 k Greater (parts.1 0 e (omega arith) (omega arith)) in
      let rest = free_at k es zero (omega arith) (λ i d low high. absurd (omega arith), λ i d low high. parts.1 (suc i) d (omega arith) (omega arith)) in
      record { missing = rw p rest.missing; added = λ v. rw p refl; kept = rw p (ap (λ r. e ∷ r) rest.kept); above = rw p (ap (λ r. e ∷ r) rest.above) }
  free_at k (e ∷ es) (suc at) within parts =
      let p : R k e.0 ≡ Greater = turned R o e.0 k Less (parts.0 0 e (omega arith) (omega arith)) in
      let rest = free_at k es at (omega arith) (λ i d low high. parts.0 (suc i) d (omega arith) (omega arith), λ i d low high. parts.1 (suc i) d (omega arith) (omega arith)) in
      record {
        missing = rw p rest.missing;
        added = λ v. rw p (ap (λ r. e ∷ r) (rest.added v));
        kept = rw p (ap (λ r. e ∷ r) rest.kept);
        above = rw p rest.above;
      }

  -- edits keep the order
  pub put_sorted : (k : K) (v : V) (es : List (K × V)) → IsTrue (is_sorted R es) → IsTrue (is_sorted R (put R k v es))
  put_sorted k v es h = is_true _ (is_sorted-put R o k v es (in_order _ h))

  pub kept_sorted : (p : K → Bool) (es : List (K × V)) → IsTrue (is_sorted R es) → IsTrue (is_sorted R (where_key R p es))
  kept_sorted p es h = is_true _ (is_sorted-where_key R p es (in_order _ h))
