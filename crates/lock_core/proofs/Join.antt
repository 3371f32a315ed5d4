-- A seat that goes into another keeps the machine sound.
use Rattle.std.proofs.Common.{◌≡◌, ℕ, zero, suc, ◌+◌, ◌⊎◌, Bool, true, false, List, [], ◌∷◌, ◌++◌, length, map, slice_set, nat_eq, nat_lt, refl, ap, sym, ◌∙◌, subst, inl, inr, ⊎_elim, length-set, true≢false, arith}
use Rattle.std.specs.Prelude as std
use Rattle.lock_core.specs.declared.object.LockMode.TheVariants as mode
use Rattle.lock_core.specs.declared.machine.Hold.{Hold}
use Rattle.lock_core.specs.declared.machine.Hold.TheVariants.{Free, Shared, Looked, Exclusive}
use Rattle.lock_core.specs.declared.machine.Known.{Known}
use Rattle.lock_core.specs.declared.machine.Sitting.{Sitting}
use Rattle.lock_core.specs.declared.machine.Event.TheVariants as event
use Rattle.lock_core.specs.Object.{Object}
use Rattle.lock_core.specs.Machine.{plain, LockState, hold_at, HeldIn, seat_at, spent, known, joined, IsAllowed, stepped}
use Rattle.lock_core.specs.Sound.{total, one_if, grip, is_at, KnowsOk, SeatOk, times, MadeBelow, IsSound}
use Rattle.lock_core.proofs.Totals.{total-set, total-append}
use Rattle.lock_core.proofs.Columns.{calm_at, grip_is, stripe_same, column_same, live_within, live_elem, seat_at-set_other}
use Rattle.lock_core.proofs.Seats.{each_set, dead_set}
use Rattle.lock_core.proofs.Histories.{knows_longer}
use Rattle.lock_core.proofs.Split.{hold_at-free}
use mathlib.Core.Option.{some, some-injective}
use lib.ListN.{get_elem?}

module _ {T : Type 0} where
  pub free_is : (h : Hold T) → HeldIn mode.None h → h ≡ Free
  free_is Free p = refl
  free_is Shared p = absurd p
  free_is (Looked x) p = absurd p
  free_is (Exclusive x) p = absurd p

at_append : {A : Type 0} (xs ys : List A) (k : ℕ) (p : A) → get_elem? (xs ++ ys) k ≡ some p → (get_elem? xs k ≡ some p) ⊎ ((i : ℕ) × (get_elem? ys i ≡ some p))
at_append [] ys k p e = inr (k, e)
at_append (x ∷ xs) ys zero p e = inl e
at_append (x ∷ xs) ys (suc k) p e = at_append xs ys k p e

module _ {T E : Type 0} where
  times_joined : (n : ℕ) (w v : Sitting T E) → w.live ≡ true → times n (joined w v) ≡ times n v + times n w
  times_joined n w v live =
      let a = total-append (λ (p : Known E). one_if (nat_eq p.number n)) v.olds (known w ∷ w.olds) in
      let b : times n w ≡ one_if (nat_eq w.number n) + total (λ (p : Known E). one_if (nat_eq p.number n)) w.olds =
      ap (λ (t : Bool). one_if (std.if◌then◌else◌ t (nat_eq w.number n) false) + total (λ (p : Known E). one_if (nat_eq p.number n)) w.olds) live in
      omega arith

module _ {T E R : Type 0} (o : Object T E R) (h0 : List E) where
  pub join_keeps : (m : LockState T E R) (w v : ℕ) → IsSound o h0 m → IsAllowed o m (plain (event.Join w v))
      → IsSound o h0 (stepped o m (plain (event.Join w v)))
  join_keeps m w v ok a =
      let xw = seat_at m.seats w in
      let xv = seat_at m.seats v in
      let live_w = a.0.0 in
      let live_v = a.0.1 in
      let apart = a.0.2 in
      let idle_w = a.1.0.0 in
      let idle_v = a.1.0.1 in
      let seat_w = ok.seats w live_w in
      let seat_v = ok.seats v live_v in
      let y = joined xw xv in
      let mid = slice_set m.seats v y in
      let there : seat_at mid w ≡ xw = seat_at-set_other m.seats v w y apart in
      let live_mid : (seat_at mid w).live ≡ true = ap (λ (z : Sitting T E). z.live) there ∙ live_w in
      let within_v = live_within m.seats v live_v in
      let within_w = live_within mid w live_mid in
      let all = slice_set mid w spent in
      let both : SeatOk o h0 m.journal v y = record {
        number = seat_v.number;
        wide = seat_v.wide;
        knows = knows_longer o h0 m.journal xv.number xv.seen xw.seen xv.mine seat_v.knows seat_w.knows.prefix seat_w.knows.start;
        whole = λ t. absurd (true≢false (sym t ∙ idle_v.no_journal));
        olds = λ k p e. ⊎_elim (λ q. seat_v.olds k p q) (λ q. of_w xw p q.0 q.1 seat_w) (at_append xv.olds (known xw ∷ xw.olds) k p e);
      } in
      let in_mid = each_set (λ j z. SeatOk o h0 m.journal j z) m.seats v y within_v (λ j _ l. ok.seats j l) (λ _. both) in
      let dead_mid = dead_set m.seats v y within_v ok.dead (λ l. absurd (true≢false (sym live_v ∙ l))) in
      let long : length all ≡ length m.seats = length-set mid w spent ∙ length-set m.seats v y in
      record {
        words = ok.words;
        homes = ok.homes;
        stripes = λ k h.
            let first : map (grip k) mid ≡ map (grip k) m.seats = column_same k m.seats v y live_v refl in
            let gone : grip k (let z : Sitting T E = spent in z) ≡ grip k (seat_at mid w) = grip_is _ _ _ _
            (hold_at-free k ∙ sym (ap (λ (z : Sitting T E). hold_at z.holds k) there ∙ free_is (hold_at xw.holds k) (idle_w.no_hold k)))
            (sym (ap (λ (z : Sitting T E). is_at z.latch k) there ∙ calm_at xw.latch k idle_w.no_latch)) in
            let second : map (grip k) all ≡ map (grip k) mid = column_same k mid w spent live_mid gone in
            stripe_same refl refl refl (sym (second ∙ first)) (ok.stripes k h);
        journal_word =
            let t = total-set (λ (z : Sitting T E). one_if z.journal) m.seats v xv y (live_elem m.seats v live_v) in
            let u = total-set (λ (z : Sitting T E). one_if z.journal) mid w (seat_at mid w) spent (live_elem mid w live_mid) in
            let z = ap (λ (z : Sitting T E). one_if z.journal) there in
            let i = ap one_if idle_w.no_journal in
            let word = ok.journal_word in
            omega arith;
        journal_alone = ok.journal_alone;
        seats = each_set (λ j z. SeatOk o h0 m.journal j z) mid w spent within_w (λ j _ l. in_mid j l) (λ l. absurd (true≢false (sym l)));
        dead = dead_set mid w spent within_w dead_mid (λ _. refl);
        numbered = λ n.
            let t = total-set (times n) m.seats v xv y (live_elem m.seats v live_v) in
            let u = total-set (times n) mid w (seat_at mid w) spent (live_elem mid w live_mid) in
            let z = ap (λ (z : Sitting T E). times n z) there in
            let j = times_joined n xw xv live_w in
            let same : total (times n) all ≡ total (times n) m.seats = omega arith in
            same ∙ ok.numbered n ∙ sym (ap (λ (i : ℕ). one_if (nat_lt n i)) long);
        fit = ok.fit;
        made = subst (λ (i : ℕ). MadeBelow o h0 i m.journal) (sym long) ok.made;
        replied = ok.replied;
      }
    where
      of_w : (x : Sitting T E) (p : Known E) (i : ℕ) → get_elem? (known x ∷ x.olds) i ≡ some p → SeatOk o h0 m.journal w x → KnowsOk o h0 m.journal p.number p.seen p.mine
      of_w x p zero e s = let q : known x ≡ p = some-injective (known x) p e in subst (λ (z : Known E). KnowsOk o h0 m.journal z.number z.seen z.mine) q s.knows
      of_w x p (suc i) e s = s.olds i p e
