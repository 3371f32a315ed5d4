-- The list of seats with one changed, or one more.
use Rattle.std.proofs.Common.{◌≡◌, ◌≢◌, ℕ, ◌+◌, ◌<◌, ◌≤◌, Bool, true, false, List, length, slice_set, slice_index, nat_eq, nat_lt, refl, ap, sym, ◌∙◌, subst, length-set, true≢false, eq-eqb, arith}
use Rattle.lock_core.specs.declared.machine.Known.{Known}
use Rattle.lock_core.specs.declared.machine.Sitting.{Sitting}
use Rattle.lock_core.specs.Object.{Object}
use Rattle.lock_core.specs.Machine.{LockState, seat_at, spent}
use Rattle.lock_core.specs.Sound.{total, one_if, Grip, grip, StripeOk, KnowsOk, SeatOk, times, IsSound}
use Rattle.lock_core.proofs.Totals.{total-set, total_at, total_two}
use Rattle.lock_core.proofs.Columns.{live_within, live_elem, seat_at-set_same, seat_at-set_other, index-set_same, index-set_other, stripe_same, column_same, times_same}
use mathlib.Core.Option.{some}
use mathlib.Core.Logic.{dite}
use native.Mathlib.Decide.{ℕ_discrete}
use lib.ListN.{get_elem?}

one_if_le : (b : Bool) → one_if b ≤ 1
one_if_le true = omega arith
one_if_le false = omega arith

module _ {T E : Type 0} where
  -- what holds of each live seat, where one is changed
  pub each_set : (P : ℕ → Sitting T E → Type 0) (xs : List (Sitting T E)) (v : ℕ) (x' : Sitting T E) → v < length xs
      → ((j : ℕ) → j ≢ v → (seat_at xs j).live ≡ true → P j (seat_at xs j)) → (x'.live ≡ true → P v x')
      → (j : ℕ) → (seat_at (slice_set xs v x') j).live ≡ true → P j (seat_at (slice_set xs v x') j)
  each_set P xs v x' within others own j l = dite (ℕ_discrete j v)
      (λ e. let here : seat_at (slice_set xs v x') j ≡ x' = ap (λ (i : ℕ). seat_at (slice_set xs v x') i) e ∙ seat_at-set_same xs v x' within in
      subst (λ (z : Sitting T E). P j z) (sym here) (subst (λ (i : ℕ). P i x') (sym e) (own (sym (ap (λ (z : Sitting T E). z.live) here) ∙ l))))
      (λ n. let there = seat_at-set_other xs v j x' n in
      subst (λ (z : Sitting T E). P j z) (sym there) (others j n (sym (ap (λ (z : Sitting T E). z.live) there) ∙ l)))

  pub dead_set : (xs : List (Sitting T E)) (v : ℕ) (x' : Sitting T E) → v < length xs → ((j : ℕ) → (seat_at xs j).live ≡ false → seat_at xs j ≡ spent)
      → (x'.live ≡ false → x' ≡ spent)
      → (j : ℕ) → (seat_at (slice_set xs v x') j).live ≡ false → seat_at (slice_set xs v x') j ≡ spent
  dead_set xs v x' within others own j l = dite (ℕ_discrete j v)
      (λ e. let here : seat_at (slice_set xs v x') j ≡ x' = ap (λ (i : ℕ). seat_at (slice_set xs v x') i) e ∙ seat_at-set_same xs v x' within in
      here ∙ own (sym (ap (λ (z : Sitting T E). z.live) here) ∙ l))
      (λ n. let there = seat_at-set_other xs v j x' n in there ∙ others j (sym (ap (λ (z : Sitting T E). z.live) there) ∙ l))

  module _ {R : Type 0} (o : Object T E R) (h0 : List E) (m : LockState T E R) (ok : IsSound o h0 m) (v : ℕ) (live : (seat_at m.seats v).live ≡ true) where
    -- the number of a live seat is nobody else's
    own_once : 0 < times v (seat_at m.seats v)
    own_once =
        let n : one_if (nat_eq (seat_at m.seats v).number v) ≡ 1 = ap one_if (eq-eqb (seat_at m.seats v).number v (ok.seats v live).number) in
        let w : times v (seat_at m.seats v) ≡ one_if (nat_eq (seat_at m.seats v).number v) + total (λ (p : Known E). one_if (nat_eq p.number v)) (seat_at m.seats v).olds =
        ap (λ (b : Bool). one_if (Rattle.std.specs.Prelude.if◌then◌else◌ b (nat_eq (seat_at m.seats v).number v) false)
        + total (λ (p : Known E). one_if (nat_eq p.number v)) (seat_at m.seats v).olds) live in
        omega arith

    pub old_is_other : (j : ℕ) → (seat_at m.seats j).live ≡ true → (k : ℕ) (p : Known E) → get_elem? (seat_at m.seats j).olds k ≡ some p → p.number ≢ v
    old_is_other j l k p at is =
        let one : one_if (nat_eq p.number v) ≡ 1 = ap one_if (eq-eqb p.number v is) in
        let t = total_at (λ (p : Known E). one_if (nat_eq p.number v)) (seat_at m.seats j).olds k p at in
        let all = ok.numbered v in
        let few = one_if_le (nat_lt v (length m.seats)) in
        dite (ℕ_discrete j v)
        (λ e. let tv : one_if (nat_eq p.number v) ≤ total (λ (p : Known E). one_if (nat_eq p.number v)) (seat_at m.seats v).olds =
        subst (λ (i : ℕ). one_if (nat_eq p.number v) ≤ total (λ (p : Known E). one_if (nat_eq p.number v)) (seat_at m.seats i).olds) e t in
        let n : one_if (nat_eq (seat_at m.seats v).number v) ≡ 1 = ap one_if (eq-eqb (seat_at m.seats v).number v (ok.seats v live).number) in
        let w : times v (seat_at m.seats v) ≡ one_if (nat_eq (seat_at m.seats v).number v) + total (λ (p : Known E). one_if (nat_eq p.number v)) (seat_at m.seats v).olds =
        ap (λ (b : Bool). one_if (Rattle.std.specs.Prelude.if◌then◌else◌ b (nat_eq (seat_at m.seats v).number v) false)
        + total (λ (p : Known E). one_if (nat_eq p.number v)) (seat_at m.seats v).olds) live in
        let u = total_at (times v) m.seats v (seat_at m.seats v) (live_elem m.seats v live) in omega arith)
        (λ n. let u = total_two (times v) m.seats j v (seat_at m.seats j) (seat_at m.seats v) n (live_elem m.seats j l) (live_elem m.seats v live) in
        let own = own_once in omega arith)

    -- of two seats that have the journal one is the other
    pub journal_once : (seat_at m.seats v).journal ≡ true → (j : ℕ) → j ≢ v → (seat_at m.seats j).live ≡ true → (seat_at m.seats j).journal ≡ true → ⊥
    journal_once has j n l also =
        let u = total_two (λ (z : Sitting T E). one_if z.journal) m.seats j v (seat_at m.seats j) (seat_at m.seats v) n (live_elem m.seats j l) (live_elem m.seats v live) in
        let a = ap one_if has in
        let b = ap one_if also in
        let w = ok.journal_word in
        let c = ok.journal_alone in
        omega arith

    -- a seat takes the journal or gives it back as it was
    module _ (word : ℕ) (x' : Sitting T E) (alive : x'.live ≡ true) (number : x'.number ≡ (seat_at m.seats v).number)
        (grips : (k : ℕ) → grip k x' ≡ grip k (seat_at m.seats v)) (olds : x'.olds ≡ (seat_at m.seats v).olds)
        (counted : word + one_if (seat_at m.seats v).journal ≡ slice_index m.words 128 + one_if x'.journal) (alone : word ≤ 1)
        (own : SeatOk o h0 m.journal v x') where
      pub journal_touches : IsSound o h0 (record { words = slice_set m.words 128 word; homes = m.homes; journal = m.journal; replies = m.replies; seats = slice_set m.seats v x' })
      journal_touches =
          let at128 : slice_index (slice_set m.words 128 word) 128 ≡ word = index-set_same m.words 128 word (omega (arith, ok.words)) in
          let t = total-set (λ (z : Sitting T E). one_if z.journal) m.seats v (seat_at m.seats v) x' (live_elem m.seats v live) in
          let within = live_within m.seats v live in
          record {
            words = length-set m.words 128 word ∙ ok.words;
            homes = ok.homes;
            stripes = λ k h. stripe_same (sym (index-set_other m.words 128 k word (λ e. omega arith))) (sym (index-set_other m.words 128 (64 + k) word (λ e. omega arith))) refl
                (sym (column_same k m.seats v x' live (grips k))) (ok.stripes k h);
            journal_word = at128 ∙ (let w = ok.journal_word in omega arith);
            journal_alone = omega arith;
            seats = each_set (λ j z. SeatOk o h0 m.journal j z) m.seats v x' within (λ j _ l. ok.seats j l) (λ _. own);
            dead = dead_set m.seats v x' within ok.dead (λ l. absurd (true≢false (sym alive ∙ l)));
            numbered = λ n.
                let u = total-set (times n) m.seats v (seat_at m.seats v) x' (live_elem m.seats v live) in
                let s = times_same n (seat_at m.seats v) x' (alive ∙ sym live) number olds in
                let same : total (times n) (slice_set m.seats v x') ≡ total (times n) m.seats = omega arith in
                same ∙ ok.numbered n ∙ sym (ap (λ (k : ℕ). one_if (nat_lt n k)) (length-set m.seats v x'));
            fit = ok.fit;
            made = subst (λ (k : ℕ). Rattle.lock_core.specs.Sound.MadeBelow o h0 k m.journal) (sym (length-set m.seats v x')) ok.made;
            replied = ok.replied;
          }
