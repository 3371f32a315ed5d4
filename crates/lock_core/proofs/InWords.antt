-- A sound state has the invariant in words.
use Rattle.std.proofs.Common.{◌≡◌, ◌⊎◌, ℕ, zero, suc, ◌+◌, ◌<◌, ◌≤◌, Bool, true, false, cond, ◌&&◌, List, [], ◌∷◌, length, map, filter, nat_lt, ltb-true, refl, ap, sym, ◌∙◌, inl, inr, ⊎_elim, eq-eqb, arith}
use Rattle.std.specs.Prelude as std
use Rattle.lock_core.specs.declared.object.LockMode.TheVariants as mode
use Rattle.lock_core.specs.declared.machine.Hold.{Hold}
use Rattle.lock_core.specs.declared.machine.Hold.TheVariants as hold
use Rattle.lock_core.specs.declared.machine.Sitting.{Sitting}
use Rattle.lock_core.specs.Object.{Object}
use Rattle.lock_core.specs.Machine.{LockState, exclusively, hold_at, note_of, HeldIn, seat_at, spent}
use Rattle.lock_core.specs.Sound.{total, one_if, Grip, grip, is_at, shared_in, exclusive_in, IsLooked, Counts, IsSound}
use Rattle.lock_core.specs.Invariant as words
use Rattle.lock_core.specs.Invariant.{is_shared, is_exclusive, many, WordsCountHolders, HomeIsReplay, NotesAreReplay, SeatsAreNumbered, Invariant}
use Rattle.lock_core.proofs.Totals.{total-map, elem-map}
use Rattle.lock_core.proofs.Columns.{live_elem}
use Rattle.lock_core.proofs.Stripes.{many_shared, many_exclusive, many_latched, exclusive_note, looked_note}
use Rattle.lock_core.proofs.Split.{hold_at-free}
use Rattle.lock_core.proofs.CoreMoves.{seat_at_there}
use mathlib.Core.Option.{some}
use lib.ListN.{get_elem?}

many_step : {A : Type 0} (x : A) (xs : List A) (n : ℕ) → length xs ≡ n → (b : Bool) → length (cond b (x ∷ xs) xs) ≡ one_if b + n
many_step x xs n e true = omega arith
many_step x xs n e false = omega arith

many_is : {A : Type 0} (p : A → Bool) (xs : List A) → length (filter p xs) ≡ total (λ x. one_if (p x)) xs
many_is p [] = refl
many_is p (x ∷ xs) = many_step x (filter p xs) _ (many_is p xs) (p x)

total_same : {A : Type 0} (f g : A → ℕ) (xs : List A) → ((j : ℕ) (x : A) → get_elem? xs j ≡ some x → f x ≡ g x) → total f xs ≡ total g xs
total_same f g [] h = refl
total_same f g (x ∷ xs) h = let a = h 0 x refl in let b = total_same f g xs (λ j y e. h (suc j) y e) in omega arith

module _ {T : Type 0} where
  shared_is : (h : Hold T) → one_if (is_shared h) ≡ shared_in h
  shared_is hold.Free = refl
  shared_is hold.Shared = refl
  shared_is (hold.Looked x) = refl
  shared_is (hold.Exclusive x) = refl

  exclusive_is : (h : Hold T) → one_if (is_exclusive h) ≡ exclusive_in h
  exclusive_is hold.Free = refl
  exclusive_is hold.Shared = refl
  exclusive_is (hold.Looked x) = refl
  exclusive_is (hold.Exclusive x) = refl

  looked_shared : (h : Hold T) → IsLooked h → HeldIn mode.Shared h
  looked_shared hold.Free p = absurd p
  looked_shared hold.Shared p = absurd p
  looked_shared (hold.Looked x) p = tt
  looked_shared (hold.Exclusive x) p = absurd p

one_or_none : (n w : ℕ) → w ≡ n → w ≤ 1 → ((w ≡ 1) × (n ≡ 1)) ⊎ ((w ≡ 0) × (n ≡ 0))
one_or_none n zero e h = inr (refl, sym e)
one_or_none n (suc w) e h = inl (omega arith, omega arith)

lock_words : (w l s x n : ℕ) → Counts w l s x n → ((w ≡ exclusively) × (x ≡ 1) × (s ≡ 0)) ⊎ ((w ≡ s) × (x ≡ 0))
lock_words w l s zero n c = inr (let a = c.counted in omega arith, refl)
lock_words w l s (suc x) n c = let z : s ≡ 0 = c.apart (omega arith) in let a = c.alone in let b = c.counted in inl (omega arith, omega arith, z)

module _ {T E R : Type 0} (o : Object T E R) (h0 : List E) (m : LockState T E R) (ok : IsSound o h0 m) where
  -- seats with a property are counted as grips are, since a seat that isn't live has none
  counted : (p : Sitting T E → Bool) (f : Sitting T E → ℕ) → ((v : Sitting T E) → one_if (p v) ≡ f v) → f spent ≡ 0
      → many p m.seats ≡ total f m.seats
  counted p f same none_dead = many_is (λ v. v.live && p v) m.seats ∙ total_same (λ v. one_if (v.live && p v)) f m.seats each
    where
      by_life : (x : Sitting T E) → (x.live ≡ false → x ≡ spent) → (b : Bool) → x.live ≡ b → one_if (b && p x) ≡ f x
      by_life x dead true e = same x
      by_life x dead false e = sym (ap f (dead e) ∙ none_dead)

      each : (j : ℕ) (x : Sitting T E) → get_elem? m.seats j ≡ some x → one_if (x.live && p x) ≡ f x
      each j x at =
          let here = seat_at_there m.seats j x at in
          by_life x (λ d. sym here ∙ ok.dead j (ap (λ (z : Sitting T E). z.live) here ∙ d)) x.live refl

  shared_are : (k : ℕ) → words.many_shared m.seats k ≡ many_shared (map (grip k) m.seats)
  shared_are k = counted (λ v. is_shared (hold_at v.holds k)) (λ v. shared_in (hold_at v.holds k)) (λ v. shared_is (hold_at v.holds k)) (ap shared_in (hold_at-free k))
      ∙ sym (total-map (λ (g : Grip T). shared_in g.hold) (grip k) m.seats)

  exclusive_are : (k : ℕ) → words.many_exclusive m.seats k ≡ many_exclusive (map (grip k) m.seats)
  exclusive_are k = counted (λ v. is_exclusive (hold_at v.holds k)) (λ v. exclusive_in (hold_at v.holds k)) (λ v. exclusive_is (hold_at v.holds k))
      (ap exclusive_in (hold_at-free k)) ∙ sym (total-map (λ (g : Grip T). exclusive_in g.hold) (grip k) m.seats)

  latched_are : (k : ℕ) → words.many_latched m.seats k ≡ many_latched (map (grip k) m.seats)
  latched_are k = counted (λ v. is_at v.latch k) (λ v. one_if (is_at v.latch k)) (λ v. refl) refl
      ∙ sym (total-map (λ (g : Grip T). one_if g.latched) (grip k) m.seats)

  words_count : (k : ℕ) → k < 64 → WordsCountHolders o h0 m k
  words_count k h =
      let c = (ok.stripes k h).counts in
      let s = shared_are k in
      let x = exclusive_are k in
      let n = latched_are k in
      record {
        lock = ⊎_elim (λ p. inl (p.0, x ∙ p.1, s ∙ p.2)) (λ p. inr (p.0 ∙ sym s, x ∙ p.1)) (lock_words _ _ _ _ _ c);
        latch = ⊎_elim (λ p. inl (p.0, n ∙ p.1)) (λ p. inr (p.0, n ∙ p.1)) (one_or_none _ _ c.latch_counted c.latch_alone);
      }

  home_is : (k : ℕ) → k < 64 → HomeIsReplay o h0 m k
  home_is k h =
      let c = ok.stripes k h in
      let a = c.counts.counted in
      let b = c.counts.few in
      let d = c.counts.alone in
      record {
        home = λ ne z. c.at_home (⊎_elim (λ p. absurd (ne p.0)) (λ p. let q = p.1 in omega arith) (lock_words _ _ _ _ _ c.counts));
        away = λ p. ⊎_elim (λ e. c.away (omega arith)) (λ e. c.away (omega arith)) p;
      }

  notes_are : (j k : ℕ) → (seat_at m.seats j).live ≡ true → k < 64 → NotesAreReplay o h0 m (seat_at m.seats j) k
  notes_are j k live h =
      let v = seat_at m.seats j in
      let here = elem-map (grip k) m.seats j v (live_elem m.seats j live) in
      let c = ok.stripes k h in
      let looked : v.latch ≡ std.Some k → IsLooked (hold_at v.holds k) =
      λ e. c.looked j (grip k v) here (ap (λ (z : std.Option ℕ). is_at z k) e ∙ eq-eqb k k refl) in
      record {
        note = λ x e. c.noted j (grip k v) x here e;
        exclusive_noted = λ p. let n = exclusive_note (hold_at v.holds k) p in (n.0, ap note_of n.1);
        latch_noted = λ e. let n = looked_note (hold_at v.holds k) (looked e) in (n.0, ap note_of n.1);
        latch_shared = λ e. looked_shared (hold_at v.holds k) (looked e);
      }

  one_if_bound : (b : Bool) → one_if b ≤ 1
  one_if_bound true = omega arith
  one_if_bound false = omega arith

  below_count : (n k : ℕ) (b : Bool) → nat_lt n k ≡ b → 0 < one_if b → n < k
  below_count n k true e h = ltb-true n k e
  below_count n k false e h = absurd (omega arith)

  pub in_words : Invariant o h0 m
  in_words = record {
    words_count_holders = words_count;
    journal_word =
        let n = counted (λ v. v.journal) (λ v. one_if v.journal) (λ v. refl) refl in
        ⊎_elim (λ p. inl (p.0, n ∙ p.1)) (λ p. inr (p.0, n ∙ p.1)) (one_or_none _ _ ok.journal_word ok.journal_alone);
    journal_is_seen = λ j live has. (ok.seats j live).whole has;
    home_is_replay = home_is;
    notes_are_replay = notes_are;
    entries_fit = ok.fit;
    seen_is_prefix = λ j live. record { own = (ok.seats j live).knows; olds = (ok.seats j live).olds };
    seats_are_numbered = record {
      distinct = λ n. let e = ok.numbered n in let b = one_if_bound (nat_lt n (length m.seats)) in omega arith;
      below = λ n h. let e = ok.numbered n in below_count n (length m.seats) (nat_lt n (length m.seats)) refl (omega arith);
      made = ok.made;
    };
    replies_are_replay = ok.replied;
  }
