-- A new seat keeps the machine sound.
use Rattle.std.proofs.Common.{◌≡◌, ℕ, zero, suc, ◌+◌, ◌<◌, ◌≤◌, List, [], ◌∷◌, ◌++◌, length, nat_eq, nat_lt, replicate, refl, ap, sym, ◌∙◌, subst, length-append, true≢false, lt-ltb, eq-eqb, ne_eqb, le-ltb, arith}
use Rattle.lock_core.specs.declared.machine.Hold.{Hold}
use Rattle.lock_core.specs.declared.machine.Hold.TheVariants.{Free}
use Rattle.lock_core.specs.declared.machine.Sitting.{Sitting}
use Rattle.lock_core.specs.declared.machine.Event.TheVariants as event
use Rattle.lock_core.specs.Object.{Object}
use Rattle.lock_core.specs.Machine.{plain, LockState, hold_at, free_holds, seat_at, spent, newcomer, IsAllowed, stepped}
use Rattle.lock_core.specs.Sound.{total, one_if, grip, SeatOk, times, IsSound}
use Rattle.lock_core.proofs.Totals.{total-append}
use Rattle.lock_core.proofs.Stripes.{newcomer_keeps}
use Rattle.lock_core.proofs.Columns.{stripe_same, live_within}
use Rattle.lock_core.proofs.Histories.{knows_new}
use mathlib.Core.Option.{some-ne-none}
use mathlib.Core.List.{map-append}
use mathlib.Core.Logic.{dite}
use native.Mathlib.Decide.{ℕ_discrete, dec_lt}
use lib.ListN.{length-replicate}

module _ {T : Type 0} where
  hold_at-replicate : (n k : ℕ) → hold_at (replicate n (let h : Hold T = Free in h)) k ≡ Free
  hold_at-replicate zero k = refl
  hold_at-replicate (suc n) zero = refl
  hold_at-replicate (suc n) (suc k) = hold_at-replicate n k

  pub hold_at-free : (k : ℕ) → hold_at (free_holds {T = T}) k ≡ Free
  unfolding free_holds
  hold_at-free k = hold_at-replicate 64 k

pub length-free : (T : Type 0) → length (free_holds {T = T}) ≡ 64
unfolding free_holds
length-free T = length-replicate {A = Hold T} 64 Free

-- the numbers below one more
pub lt_next : (n k : ℕ) → one_if (nat_lt n (k + 1)) ≡ one_if (nat_lt n k) + one_if (nat_eq k n)
lt_next n k = dite (dec_lt n k)
    (λ l. let a = ap one_if (lt-ltb n (k + 1) (omega arith)) in let b = ap one_if (lt-ltb n k l) in let c = ap one_if (ne_eqb k n (λ e. omega arith)) in omega arith)
    (λ g. let low : k ≤ n = omega arith in dite (ℕ_discrete k n)
    (λ e. let a = ap one_if (lt-ltb n (k + 1) (omega arith)) in let b = ap one_if (le-ltb n k low) in let c = ap one_if (eq-eqb k n e) in omega arith)
    (λ ne. let a = ap one_if (le-ltb n (k + 1) (omega arith)) in let b = ap one_if (le-ltb n k low) in let c = ap one_if (ne_eqb k n ne) in omega arith))

module _ {T E : Type 0} where
  pub seat_at-append : (xs : List (Sitting T E)) (y : Sitting T E) (j : ℕ) → j < length xs → seat_at (xs ++ y ∷ []) j ≡ seat_at xs j
  seat_at-append [] y j h = absurd (omega arith)
  seat_at-append (x ∷ xs) y zero h = refl
  seat_at-append (x ∷ xs) y (suc j) h = seat_at-append xs y j (omega arith)

  pub seat_at-last : (xs : List (Sitting T E)) (y : Sitting T E) → seat_at (xs ++ y ∷ []) (length xs) ≡ y
  seat_at-last [] y = refl
  seat_at-last (x ∷ xs) y = seat_at-last xs y

  pub seat_at-past : (xs : List (Sitting T E)) (j : ℕ) → length xs ≤ j → seat_at xs j ≡ spent
  seat_at-past [] j h = refl
  seat_at-past (x ∷ xs) zero h = absurd (omega arith)
  seat_at-past (x ∷ xs) (suc j) h = seat_at-past xs j (omega arith)

module _ {T E R : Type 0} (o : Object T E R) (h0 : List E) where
  pub split_keeps : (m : LockState T E R) (v : ℕ) → IsSound o h0 m → IsAllowed o m (plain (event.Split v))
      → IsSound o h0 (stepped o m (plain (event.Split v)))
  split_keeps m v ok a =
      let x = seat_at m.seats v in
      let seat = ok.seats v a.0 in
      let y : Sitting T E = newcomer o (length m.seats) x.seen in
      let long : length (m.seats ++ y ∷ []) ≡ length m.seats + 1 = length-append m.seats (y ∷ []) in
      let last : SeatOk o h0 m.journal (length m.seats) y = record {
        number = refl;
        wide = length-free T;
        knows = knows_new o h0 (length m.seats) m.journal x.seen ok.made seat.knows.prefix seat.knows.start;
        whole = λ t. absurd (true≢false (sym t));
        olds = λ k p e. absurd (some-ne-none p (sym e));
      } in
      record {
        words = ok.words;
        homes = ok.homes;
        stripes = λ k h. stripe_same refl refl refl (sym (map-append (grip k) m.seats (y ∷ [])))
            (newcomer_keeps _ _ _ _ _ (ok.stripes k h) (grip k y) (hold_at-free k) refl);
        journal_word = ok.journal_word ∙ (let t = total-append (λ (z : Sitting T E). one_if z.journal) m.seats (y ∷ []) in omega arith);
        journal_alone = ok.journal_alone;
        seats = λ j l. dite (dec_lt j (length m.seats))
            (λ h. let e = seat_at-append m.seats y j h in
            subst (λ (z : Sitting T E). SeatOk o h0 m.journal j z) (sym e) (ok.seats j (sym (ap (λ (z : Sitting T E). z.live) e) ∙ l)))
            (λ g. let within = live_within (m.seats ++ y ∷ []) j l in
            let e : length m.seats ≡ j = omega arith in
            subst (λ (i : ℕ). SeatOk o h0 m.journal i (seat_at (m.seats ++ y ∷ []) i)) e
            (subst (λ (z : Sitting T E). SeatOk o h0 m.journal (length m.seats) z) (sym (seat_at-last m.seats y)) last));
        dead = λ j l. dite (dec_lt j (length m.seats))
            (λ h. let e = seat_at-append m.seats y j h in e ∙ ok.dead j (sym (ap (λ (z : Sitting T E). z.live) e) ∙ l))
            (λ g. dite (ℕ_discrete (length m.seats) j)
            (λ e. let here : seat_at (m.seats ++ y ∷ []) j ≡ y = subst (λ (i : ℕ). seat_at (m.seats ++ y ∷ []) i ≡ y) e (seat_at-last m.seats y) in
            absurd (true≢false (sym (ap (λ (z : Sitting T E). z.live) here) ∙ l)))
            (λ ne. seat_at-past (m.seats ++ y ∷ []) j (omega arith)));
        numbered = λ n.
            let t = total-append (times n) m.seats (y ∷ []) in
            let u = ok.numbered n in
            let w = lt_next n (length m.seats) in
            let s : total (times n) (m.seats ++ y ∷ []) ≡ one_if (nat_lt n (length m.seats + 1)) = omega arith in
            s ∙ sym (ap (λ (i : ℕ). one_if (nat_lt n i)) long);
        fit = ok.fit;
        made = record { rest = ok.made.rest; begins = ok.made.begins; below = λ n e at. let b = ok.made.below n e at in omega arith };
        replied = ok.replied;
      }
