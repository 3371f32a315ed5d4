-- The keeper in the journal's slot, and the counts that seats know, through each kind of step.
use Rattle.std.proofs.Common.{◌≡◌, ◌≢◌, ◌⊎◌, inl, inr, ℕ, ◌<◌, ◌≤◌, Bool, true, false, List, [], ◌∷◌, ◌++◌, length, slice_set, refl, ap, sym, ◌∙◌, subst, true≢false, arith}
use Rattle.lock_core.specs.declared.machine.Sitting.{Sitting}
use Rattle.lock_core.specs.Object.{Object}
use Rattle.lock_core.specs.Machine.{LockState}
use Rattle.lock_core.specs.Sound.{one_if, IsSound}
use Rattle.lock_core.specs.Lists.{elem-set_same, elem-set_other}
use Rattle.lock_core.proofs.Totals.{elem-map, at_set, at_snoc, total_two}
use Rattle.commit_journal.specs.Journal.{JournalView}
use Rattle.commit_journal.specs.Keeper.{Told, AreKept}
use Rattle.atomic_table.specs.Table.{State, put_back, rest}
use Rattle.path_locks.specs.declared.rule.Slot.{Slot}
use Rattle.path_locks.specs.declared.rule.Slot.TheVariants.{Empty, Part, Book}
use Rattle.path_locks.specs.declared.rule.View.{View}
use Rattle.path_locks.specs.declared.rule.Opening.{Opening}
use Rattle.path_locks.specs.Rule.{Shows, IsKept}
use mathlib.Core.Option.{Option, none, some, some-injective, some-ne-none}
use lib.ListN.{get_elem?}

module _ {T E K : Type 0} where
  book_or : JournalView E → Slot T E K → JournalView E
  book_or d Empty = d
  book_or d (Part y) = d
  book_or d (Book j k) = j

  keeper_or : K → Slot T E K → K
  keeper_or d Empty = d
  keeper_or d (Part y) = d
  keeper_or d (Book j k) = k

  pub same_book : (a b : JournalView E) (c d : K) → (let s : Slot T E K = Book a c in s) ≡ Book b d → a ≡ b
  unfolding book_or
  same_book a b c d e = ap (λ (z : Slot T E K). book_or a z) e

  pub same_keeper : (a b : JournalView E) (c d : K) → (let s : Slot T E K = Book a c in s) ≡ Book b d → c ≡ d
  unfolding keeper_or
  same_keeper a b c d e = ap (λ (z : Slot T E K). keeper_or c z) e

  -- what is put back into a slot of a part leaves the journal's
  pub put_far : (hs : List (Option (Slot T E K))) (s : ℕ) (x : Slot T E K) (c : List (ℕ × Slot T E K)) → c ≡ (s, x) ∷ rest c → 64 ≢ s
      → get_elem? (put_back hs c) 64 ≡ get_elem? hs 64
  put_far hs s x c e ne = ap (λ (z : List (ℕ × Slot T E K)). get_elem? (put_back hs z) 64) e ∙ elem-set_other hs s 64 (some x) ne

  module _ (tells : K → Told E) where
    -- the journal's slot is left alone, and the seat's counts too
    pub kept_after : (t : State (Slot T E K) (View T E)) → IsKept tells t → (ws : List ℕ) (hs : List (Option (Slot T E K))) → get_elem? hs 64 ≡ get_elem? t.homes 64
        → (id : ℕ) (v w : View T E) → get_elem? t.views id ≡ some v → w.taken ≡ v.taken → w.tape ≡ v.tape → v.at.live ≡ true → w.at.journal ≡ v.at.journal
        → IsKept tells (record { words = ws; homes = hs; views = slice_set t.views id w })
    kept_after t k ws hs same id v w here taken tape live journal = record {
      count = k.count;
      counted = λ j c e. k.counted j c (sym same ∙ e);
      kept = λ j c e. k.kept j c (sym same ∙ e);
      below = λ i z at alive. below_of i z (at_set t.views id i w z at) alive;
      had = λ i z at has. had_of i z (at_set t.views id i w z at) has;
    }
      where
        below_of : (i : ℕ) (z : View T E) → ((i ≡ id) × (w ≡ z)) ⊎ ((i ≢ id) × (get_elem? t.views i ≡ some z)) → z.at.live ≡ true → z.tape ≤ k.count
        below_of i z (inl p) alive =
            let b = k.below id v here live in
            let e : z.tape ≡ v.tape = ap (λ (q : View T E). q.tape) (sym p.1) ∙ tape in
            omega (arith, b, e)
        below_of i z (inr p) alive = k.below i z p.1 alive

        had_of : (i : ℕ) (z : View T E) → ((i ≡ id) × (w ≡ z)) ⊎ ((i ≢ id) × (get_elem? t.views i ≡ some z)) → z.at.journal ≡ true → z.taken ≡ k.count
        had_of i z (inl p) has = ap (λ (q : View T E). q.taken) (sym p.1) ∙ taken ∙ k.had id v here (sym journal ∙ ap (λ (q : View T E). q.at.journal) p.1 ∙ has)
        had_of i z (inr p) has = k.had i z p.1 has

    -- a seat is over
    pub kept_gone : (t : State (Slot T E K) (View T E)) → IsKept tells t → (id : ℕ) (w : View T E) → w.at.live ≡ false → w.at.journal ≡ false
        → IsKept tells (record { words = t.words; homes = t.homes; views = slice_set t.views id w })
    kept_gone t k id w dead without = record {
      count = k.count;
      counted = k.counted;
      kept = k.kept;
      below = λ i z at alive. below_of i z (at_set t.views id i w z at) alive;
      had = λ i z at has. had_of i z (at_set t.views id i w z at) has;
    }
      where
        below_of : (i : ℕ) (z : View T E) → ((i ≡ id) × (w ≡ z)) ⊎ ((i ≢ id) × (get_elem? t.views i ≡ some z)) → z.at.live ≡ true → z.tape ≤ k.count
        below_of i z (inl p) alive = absurd (true≢false (sym alive ∙ ap (λ (q : View T E). q.at.live) (sym p.1) ∙ dead))
        below_of i z (inr p) alive = k.below i z p.1 alive

        had_of : (i : ℕ) (z : View T E) → ((i ≡ id) × (w ≡ z)) ⊎ ((i ≢ id) × (get_elem? t.views i ≡ some z)) → z.at.journal ≡ true → z.taken ≡ k.count
        had_of i z (inl p) has = absurd (true≢false (sym has ∙ ap (λ (q : View T E). q.at.journal) (sym p.1) ∙ without))
        had_of i z (inr p) has = k.had i z p.1 has

    -- a seat is new, with the count of another one
    pub kept_new : (t : State (Slot T E K) (View T E)) → IsKept tells t → (id : ℕ) (v w : View T E) → get_elem? t.views id ≡ some v → v.at.live ≡ true → w.tape ≡ v.tape
        → w.at.journal ≡ false → IsKept tells (record { words = t.words; homes = t.homes; views = t.views ++ w ∷ [] })
    kept_new t k id v w here live tape without = record {
      count = k.count;
      counted = k.counted;
      kept = k.kept;
      below = λ i z at alive. below_of i z (at_snoc t.views w z i at) alive;
      had = λ i z at has. had_of i z (at_snoc t.views w z i at) has;
    }
      where
        below_of : (i : ℕ) (z : View T E) → ((i < length t.views) × (get_elem? t.views i ≡ some z)) ⊎ ((i ≡ length t.views) × (w ≡ z)) → z.at.live ≡ true → z.tape ≤ k.count
        below_of i z (inl p) alive = k.below i z p.1 alive
        below_of i z (inr p) alive =
            let b = k.below id v here live in
            let e : z.tape ≡ v.tape = ap (λ (q : View T E). q.tape) (sym p.1) ∙ tape in
            omega (arith, b, e)

        had_of : (i : ℕ) (z : View T E) → ((i < length t.views) × (get_elem? t.views i ≡ some z)) ⊎ ((i ≡ length t.views) × (w ≡ z)) → z.at.journal ≡ true → z.taken ≡ k.count
        had_of i z (inl p) has = k.had i z p.1 has
        had_of i z (inr p) has = absurd (true≢false (sym has ∙ ap (λ (q : View T E). q.at.journal) (sym p.1) ∙ without))

    -- the journal and its keeper are taken, by a seat that knows the count from now on
    pub kept_taken : (t : State (Slot T E K) (View T E)) → IsKept tells t → length t.homes ≡ 65 → (ws : List ℕ) (j : JournalView E) (c : K) → get_elem? t.homes 64 ≡ some (some (Book j c))
        → (id : ℕ) (v w : View T E) → get_elem? t.views id ≡ some v → w.taken ≡ (tells c).faults → w.tape ≡ (tells c).faults
        → IsKept tells (record { words = ws; homes = slice_set t.homes 64 none; views = slice_set t.views id w })
    kept_taken t k long ws j c there id v w here taken tape =
        let gone : get_elem? (slice_set t.homes 64 none) 64 ≡ some none = elem-set_same t.homes 64 none (omega (arith, long)) in record {
          count = k.count;
          counted = λ j' c' e. absurd (some-ne-none _ (sym (some-injective _ _ (sym gone ∙ e))));
          kept = λ j' c' e. absurd (some-ne-none _ (sym (some-injective _ _ (sym gone ∙ e))));
          below = λ i z at alive. below_of i z (at_set t.views id i w z at) alive;
          had = λ i z at has. had_of i z (at_set t.views id i w z at) has;
        }
      where
        below_of : (i : ℕ) (z : View T E) → ((i ≡ id) × (w ≡ z)) ⊎ ((i ≢ id) × (get_elem? t.views i ≡ some z)) → z.at.live ≡ true → z.tape ≤ k.count
        below_of i z (inl p) alive = let e : z.tape ≡ k.count = ap (λ (q : View T E). q.tape) (sym p.1) ∙ tape ∙ k.counted j c there in omega (arith, e)
        below_of i z (inr p) alive = k.below i z p.1 alive

        had_of : (i : ℕ) (z : View T E) → ((i ≡ id) × (w ≡ z)) ⊎ ((i ≢ id) × (get_elem? t.views i ≡ some z)) → z.at.journal ≡ true → z.taken ≡ k.count
        had_of i z (inl p) has = ap (λ (q : View T E). q.taken) (sym p.1) ∙ taken ∙ k.counted j c there
        had_of i z (inr p) has = k.had i z p.1 has

    -- they are given back, by the seat that had them, with a count that isn't below that with which it took them
    pub kept_given : (t : State (Slot T E K) (View T E)) → IsKept tells t → length t.homes ≡ 65 → (ws : List ℕ) (j : JournalView E) (c : K) → AreKept (tells c).kept j.entries
        → (hand : List (ℕ × Slot T E K)) → hand ≡ (64, Book j c) ∷ rest hand
        → (id : ℕ) (v w : View T E) → get_elem? t.views id ≡ some v → v.at.journal ≡ true → v.taken ≤ (tells c).faults → w.tape ≡ (tells c).faults → w.at.journal ≡ false
        → ((i : ℕ) (z : View T E) → i ≢ id → get_elem? t.views i ≡ some z → z.at.journal ≡ false)
        → IsKept tells (record { words = ws; homes = put_back t.homes hand; views = slice_set t.views id w })
    kept_given t k long ws j c keeps hand last id v w here has more tape without others =
        let there : get_elem? (put_back t.homes hand) 64 ≡ some (some (Book j c)) = ap (λ (z : List (ℕ × Slot T E K)). get_elem? (put_back t.homes z) 64) last
        ∙ elem-set_same t.homes 64 (some (Book j c)) (omega (arith, long)) in
        let same : (j' : JournalView E) (c' : K) → get_elem? (put_back t.homes hand) 64 ≡ some (some (Book j' c')) → (let s : Slot T E K = Book j c in s) ≡ Book j' c' =
        λ j' c' e. some-injective _ _ (some-injective _ _ (sym there ∙ e)) in record {
          count = (tells c).faults;
          counted = λ j' c' e. ap (λ (q : K). (tells q).faults) (sym (same_keeper j j' c c' (same j' c' e)));
          kept = λ j' c' e. subst (λ (q : K). AreKept (tells q).kept j'.entries) (same_keeper j j' c c' (same j' c' e))
              (subst (λ (q : JournalView E). AreKept (tells c).kept q.entries) (same_book j j' c c' (same j' c' e)) keeps);
          below = λ i z at alive. below_of i z (at_set t.views id i w z at) alive;
          had = λ i z at has. had_of i z (at_set t.views id i w z at) has;
        }
      where
        below_of : (i : ℕ) (z : View T E) → ((i ≡ id) × (w ≡ z)) ⊎ ((i ≢ id) × (get_elem? t.views i ≡ some z)) → z.at.live ≡ true → z.tape ≤ (tells c).faults
        below_of i z (inl p) alive = let e : z.tape ≡ (tells c).faults = ap (λ (q : View T E). q.tape) (sym p.1) ∙ tape in omega (arith, e)
        below_of i z (inr p) alive =
            let b = k.below i z p.1 alive in
            let e = k.had id v here has in
            omega (arith, b, e, more)

        had_of : (i : ℕ) (z : View T E) → ((i ≡ id) × (w ≡ z)) ⊎ ((i ≢ id) × (get_elem? t.views i ≡ some z)) → z.at.journal ≡ true → z.taken ≡ (tells c).faults
        had_of i z (inl p) it_has = absurd (true≢false (sym it_has ∙ ap (λ (q : View T E). q.at.journal) (sym p.1) ∙ without))
        had_of i z (inr p) it_has = absurd (true≢false (sym it_has ∙ others i z p.0 p.1))

module _ {T E R K : Type 0} (o : Object T E R) (h0 : List E) (bare : T → T) (key : Opening E K) where
  -- no other seat has the journal
  pub others_without : (t : State (Slot T E K) (View T E)) (m : LockState T E R) → Shows bare key t m → IsSound o h0 m → (id : ℕ) (v : View T E) → get_elem? t.views id ≡ some v
      → v.at.journal ≡ true → (i : ℕ) (z : View T E) → i ≢ id → get_elem? t.views i ≡ some z → z.at.journal ≡ false
  others_without t m sh ok id v here has i z ne at = by_flag z.at.journal refl
    where
      elem : (k : ℕ) (y : View T E) → get_elem? t.views k ≡ some y → get_elem? m.seats k ≡ some y.at
      elem k y e = sym (ap (λ (l : List (Sitting T E)). get_elem? l k) sh.seats) ∙ elem-map (λ (q : View T E). q.at) t.views k y e

      by_flag : (b : Bool) → z.at.journal ≡ b → z.at.journal ≡ false
      by_flag false e = e
      by_flag true e =
          let two = total_two (λ (s : Sitting T E). one_if s.journal) m.seats i id z.at v.at ne (elem i z at) (elem id v here) in
          let one : one_if z.at.journal ≡ 1 = ap one_if e in
          let one' : one_if v.at.journal ≡ 1 = ap one_if has in
          let word = ok.journal_word in
          let alone = ok.journal_alone in
          absurd (omega arith)
