-- One stripe more is taken, above all that is held.
use Rattle.std.proofs.Common.{◌≡◌, ◌≢◌, ◌⊎◌, inl, inr, ⊎_elim, ℕ, zero, suc, ◌+◌, ◌<◌, ◌≤◌, List, [], ◌∷◌, slice_get, slice_set, ap, sym, ◌∙◌, subst, arith}
use Rattle.std.specs.Prelude as std
use Rattle.lock_core.specs.declared.object.LockMode.{LockMode}
use Rattle.lock_core.specs.declared.object.LockMode.TheVariants as mode
use Rattle.lock_core.specs.declared.machine.Hold.{Hold}
use Rattle.lock_core.specs.Object.{Object}
use Rattle.lock_core.specs.Machine.{hold_at, HeldIn}
use Rattle.lock_core.proofs.Join.{free_is}
use Rattle.atomic_table.specs.Table.{Me}
use Rattle.path_locks.specs.declared.rule.Slot.{Slot}
use Rattle.path_locks.specs.declared.rule.View.{View}
use Rattle.path_locks.specs.Plans.{AreHeld}
use Rattle.path_locks.specs.Holding.{with_empty, empties, HoldsBelow}
use Rattle.path_locks.proofs.Below.{some_inj, get-set_other}
use Rattle.path_locks.proofs.Works.{lt_or_ge}
use Rattle.std.proofs.lemmas.Option.{none-some}
use mathlib.Core.Logic.{dite}
use native.Mathlib.Decide.{ℕ_discrete}

set_is : {A : Type 0} (l : List A) (i : ℕ) (a b : A) → slice_get (slice_set l i a) i ≡ std.Some b → a ≡ b
set_is [] i a b e = absurd (none-some b e)
set_is (x ∷ xs) zero a b e = some_inj a b e
set_is (x ∷ xs) (suc i) a b e = set_is xs i a b e

module _ {T : Type 0} where
  pub held_more : (modes : List LockMode) (s : ℕ) (m : LockMode) (hs hs' : List (Hold T)) → AreHeld modes 64 hs → HeldIn m (hold_at hs' s) → ((k : ℕ) → k ≢ s → hold_at hs' k ≡ hold_at hs k)
      → AreHeld (slice_set modes s m) 64 hs'
  held_more modes s m hs hs' held there others k n l at = dite (ℕ_discrete k s)
      (λ e. subst (λ (z : LockMode). HeldIn z (hold_at hs' k)) (set_is modes s m n (ap (λ (i : ℕ). slice_get (slice_set modes s m) i) (sym e) ∙ at))
      (subst (λ (i : ℕ). HeldIn m (hold_at hs' i)) (sym e) there))
      (λ ne. subst (λ (z : Hold T). HeldIn n z) (sym (others k ne)) (held k n l (sym (get-set_other modes s k m ne) ∙ at)))

module _ {T E K : Type 0} where
  -- no slot is in hand from n on
  empties_short : (c n : ℕ) (hs : List (Hold T)) → n ≤ c → ((k : ℕ) → n ≤ k → HeldIn mode.None (hold_at hs k)) → empties {T = T} {E = E} {K = K} c hs ≡ empties n hs
  empties_short zero n hs l h = let e : 0 ≡ n = omega (arith, l) in ap (λ (i : ℕ). empties {T = T} {E = E} {K = K} i hs) e
  empties_short (suc c) n hs l h = dite (ℕ_discrete (suc c) n)
      (λ e. ap (λ (i : ℕ). empties {T = T} {E = E} {K = K} i hs) e)
      (λ ne. let less : n ≤ c = at_most c n l ne in
      ap (λ (z : Hold T). with_empty {T = T} {E = E} {K = K} c z (empties c hs)) (free_is (hold_at hs c) (h c less)) ∙ empties_short c n hs less h)
    where
      at_most : (c n : ℕ) → n ≤ suc c → suc c ≢ n → n ≤ c
      at_most c n l ne = ⊎_elim (λ (p : n < c + 1). omega (arith, p)) (λ (p : c + 1 ≤ n). let e : suc c ≡ n = omega (arith, p, l) in absurd (ne e)) (lt_or_ge n (c + 1))

module _ {T E R K : Type 0} (o : Object T E R) (bare : T → T) where
  -- a seat that holds stripes below n alone holds stripes below each number that isn't smaller
  pub below_more : (n c : ℕ) (me : Me (Slot T E K) (View T E)) (parts : List (std.Option T)) → n ≤ c → HoldsBelow o bare n me parts → HoldsBelow o bare c me parts
  below_more n c me parts l b =
      record {
        quiet = b.quiet;
        above = λ k h. b.above k (omega (arith, l, h));
        hand_is = b.hand_is ∙ sym (empties_short c n me.0.at.holds l b.above);
        room = b.room;
        out = b.out;
        stands = b.stands;
      }

  -- and one that holds none from n on holds stripes below n alone
  pub below_fewer : (n c : ℕ) (me : Me (Slot T E K) (View T E)) (parts : List (std.Option T)) → n ≤ c → ((k : ℕ) → n ≤ k → HeldIn mode.None (hold_at me.0.at.holds k))
      → HoldsBelow o bare c me parts → HoldsBelow o bare n me parts
  below_fewer n c me parts l none b =
      record {
        quiet = b.quiet;
        above = none;
        hand_is = b.hand_is ∙ empties_short c n me.0.at.holds l none;
        room = b.room;
        out = b.out;
        stands = b.stands;
      }

  -- a seat that holds a plan which has nothing from n on holds stripes below n alone
  pub plan_below : (n : ℕ) (modes : List LockMode) (me : Me (Slot T E K) (View T E)) (parts : List (std.Option T)) → n ≤ 64
      → ((k : ℕ) → n ≤ k → k < 64 → slice_get modes k ≡ std.Some mode.None) → AreHeld modes 64 me.0.at.holds → HoldsBelow o bare 64 me parts → HoldsBelow o bare n me parts
  plan_below n modes me parts l above held b = below_fewer n 64 me parts l (λ k h. by_size k h (lt_or_ge k 64)) b
    where
      by_size : (k : ℕ) → n ≤ k → (k < 64) ⊎ (64 ≤ k) → HeldIn mode.None (hold_at me.0.at.holds k)
      by_size k h (inl p) = held k mode.None p (above k h p)
      by_size k h (inr p) = b.above k p
