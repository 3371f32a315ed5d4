-- What a contract says of a seat that holds nothing or a plan, and what the steps want of it.
use Rattle.std.proofs.Common.{◌≡◌, ℕ, zero, suc, ◌<◌, ◌≤◌, Bool, false, List, [], ◌∷◌, length, slice_get, replicate, refl, ap, sym, ◌∙◌, subst, arith}
use Rattle.std.specs.Prelude as std
use Rattle.lock_core.specs.declared.object.LockMode.TheVariants as mode
use Rattle.lock_core.specs.declared.machine.Hold.{Hold}
use Rattle.lock_core.specs.declared.machine.Hold.TheVariants.{Free}
use Rattle.lock_core.specs.Object.{Object}
use Rattle.lock_core.specs.Machine.{hold_at, HeldIn}
use Rattle.lock_core.proofs.Join.{free_is}
use Rattle.path_locks.specs.Stands.{Stands}
use Rattle.path_locks.specs.Plans.{AreHeld}
use Rattle.path_locks.specs.Holding.{part_out, bared, empties, HoldsBelow}
use Rattle.path_locks.specs.Views.{SeatView, HeldView, has_journal, with_book, HoldsNothing, IsHeldBy}
use Rattle.path_locks.proofs.Below.{some_inj}
use Rattle.std.proofs.lemmas.Option.{none-some}
use lib.ListN.{length-replicate}

module _ {A : Type 0} where
  get-replicate : (n k : ℕ) (a : A) → k < n → slice_get (replicate n a) k ≡ std.Some a
  get-replicate zero k a h = absurd (omega arith)
  get-replicate (suc n) zero a h = refl
  get-replicate (suc n) (suc k) a h = get-replicate n k a (omega arith)

  all_same : (n : ℕ) (l : List A) (a : A) → length l ≡ n → ((k : ℕ) → k < n → slice_get l k ≡ std.Some a) → l ≡ replicate n a
  all_same zero [] a e h = refl
  all_same zero (x ∷ xs) a e h = absurd (omega arith)
  all_same (suc n) [] a e h = absurd (omega arith)
  all_same (suc n) (x ∷ xs) a e h =
      let first = some_inj x a (h 0 (omega arith)) in
      let others = all_same n xs a (omega arith) (λ k l. h (suc k) (omega arith)) in
      λ i. first i ∷ others i

module _ {T : Type 0} where
  pub hold_at-past : (hs : List (Hold T)) (k : ℕ) → length hs ≤ k → hold_at hs k ≡ Free
  hold_at-past [] k h = refl
  hold_at-past (x ∷ xs) zero h = absurd (omega arith)
  hold_at-past (x ∷ xs) (suc k) h = hold_at-past xs k (omega arith)

  none_bared : (bare : T → T) (q : std.Option T) → bared bare q ≡ std.None → q ≡ std.None
  none_bared bare std.None e = refl
  none_bared bare (std.Some y) e = absurd (none-some (bare y) (sym e))

module _ {T E R K : Type 0} (o : Object T E R) (bare : T → T) where
  pub below_none : (s : SeatView T E K) (parts : List (std.Option T)) → HoldsNothing s → Stands o s.me.0.at → parts ≡ s.room → HoldsBelow o bare 0 s.me parts
  below_none s parts n stands e =
      let all : parts ≡ replicate 64 std.None = e ∙ n.room in
      record {
        quiet = record { live = stands.live; no_journal = n.idle.no_journal; no_latch = n.idle.no_latch };
        above = λ k l. n.idle.no_hold k;
        hand_is = n.no_slot;
        room = ap (λ (l : List (std.Option T)). length l) all ∙ length-replicate {A = std.Option T} 64 std.None;
        out = λ k l. (
          std.None,
          ap (λ (p : List (std.Option T)). slice_get p k) all ∙ get-replicate 64 k std.None l,
          ap part_out (sym (free_is (hold_at s.me.0.at.holds k) (n.idle.no_hold k))),
        );
        stands = stands;
      }

  pub none_below : (s : SeatView T E K) (parts : List (std.Option T)) → HoldsBelow o bare 0 s.me parts → s.room ≡ parts → HoldsNothing s
  none_below s parts b e = record {
    idle = record { no_hold = λ k. b.above k (omega arith); no_latch = b.quiet.no_latch; no_journal = b.quiet.no_journal };
    no_slot = b.hand_is;
    room = e ∙ all_same 64 parts std.None b.room (λ k l.
        let t = b.out k l in
        let none : t.0 ≡ std.None = none_bared bare t.0 (t.2 ∙ ap part_out (free_is (hold_at s.me.0.at.holds k) (b.above k (omega arith)))) in
        t.1 ∙ ap (λ (q : std.Option T). std.Some q) none);
  }

  pub below_held : (s : SeatView T E K) (h : HeldView T) → IsHeldBy bare s h → has_journal s ≡ false → Stands o s.me.0.at → HoldsBelow o bare 64 s.me h.parts
  below_held s h held none stands = record {
    quiet = record { live = stands.live; no_journal = none; no_latch = held.no_latch };
    above = λ k l. subst (λ (z : Hold T). HeldIn mode.None z) (sym (hold_at-past s.me.0.at.holds k (omega (arith, stands.wide)))) tt;
    hand_is = held.slots ∙ ap (λ (b : Bool). with_book b (empties 64 s.me.0.at.holds)) none;
    room = held.long;
    out = held.parts;
    stands = stands;
  }

  pub held_below : (s : SeatView T E K) (h : HeldView T) → HoldsBelow o bare 64 s.me h.parts → AreHeld h.modes 64 s.me.0.at.holds → IsHeldBy bare s h
  held_below s h b modes = record {
    no_latch = b.quiet.no_latch;
    modes = modes;
    slots = b.hand_is ∙ sym (ap (λ (c : Bool). with_book c (empties 64 s.me.0.at.holds)) b.quiet.no_journal);
    long = b.room;
    parts = b.out;
  }
