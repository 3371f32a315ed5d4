-- A seat has looked at a stripe that it holds shared.
use Rattle.std.proofs.Common.{◌≡◌, ◌≢◌, ℕ, zero, suc, ◌<◌, true, false, List, [], ◌∷◌, length, slice_get, slice_set, refl, ap, sym, ◌∙◌, subst, arith}
use Rattle.std.specs.Prelude as std
use Rattle.lock_core.specs.declared.object.LockMode.{LockMode}
use Rattle.lock_core.specs.declared.object.LockMode.TheVariants as mode
use Rattle.lock_core.specs.declared.machine.Hold.{Hold}
use Rattle.lock_core.specs.declared.machine.Hold.TheVariants.{Free, Shared, Looked, Exclusive}
use Rattle.lock_core.specs.declared.machine.Sitting.{Sitting}
use Rattle.lock_core.specs.Object.{Object}
use Rattle.lock_core.specs.Machine.{hold_at, note_of, HeldIn, with_hold, with_latch}
use Rattle.lock_core.proofs.Columns.{hold_at-set_same, hold_at-set_other}
use Rattle.atomic_table.specs.Table.{Me, rest}
use Rattle.path_locks.specs.declared.rule.Slot.{Slot}
use Rattle.path_locks.specs.declared.rule.Slot.TheVariants.{Empty, Part}
use Rattle.path_locks.specs.declared.rule.View.{View}
use Rattle.path_locks.specs.Plays.{MayGive, with_at}
use Rattle.path_locks.specs.Moves.{TookLatch, GaveLatch, LookedAt}
use Rattle.path_locks.specs.Stands.{Stands}
use Rattle.path_locks.specs.Plans.{AreHeld}
use Rattle.path_locks.specs.Holding.{part_out, AreOut, with_empty, empties}
use Rattle.path_locks.specs.Views.{SeatView, HeldView, has_journal, with_book, IsHeldBy}
use Rattle.path_locks.proofs.TakenOut.{same_part}
use Rattle.path_locks.proofs.Below.{some_inj, out_keep, exclusive_part}
use mathlib.Core.Option.{some}
use mathlib.Core.Logic.{dite}
use native.Mathlib.Decide.{ℕ_discrete}

module _ {T : Type 0} where
  pub shared_gone : (h : Hold T) → HeldIn mode.Shared h → part_out h ≡ std.None
  shared_gone Free p = absurd p
  shared_gone Shared p = refl
  shared_gone (Looked x) p = refl
  shared_gone (Exclusive x) p = absurd p

  -- one hold changes as the mode that it is in
  pub held_set : (modes : List LockMode) (hs : List (Hold T)) (s : ℕ) (h : Hold T) (m : LockMode) → s < length hs → slice_get modes s ≡ std.Some m → HeldIn m h
      → AreHeld modes 64 hs → AreHeld modes 64 (slice_set hs s h)
  held_set modes hs s h m l at held all k n below e = dite (ℕ_discrete k s)
      (λ q. let same : m ≡ n = some_inj m n (sym at ∙ ap (λ (i : ℕ). slice_get modes i) (sym q) ∙ e) in
      subst (λ (z : Hold T). HeldIn n z) (sym (ap (λ (i : ℕ). hold_at (slice_set hs s h) i) q ∙ hold_at-set_same hs s h l)) (subst (λ (z : LockMode). HeldIn z h) same held))
      (λ ne. subst (λ (z : Hold T). HeldIn n z) (sym (hold_at-set_other hs s k h ne)) (all k n below e))

module _ {S : Type 0} where
  value_or : S → List (ℕ × S) → S
  value_or d [] = d
  value_or d (x ∷ xs) = x.1

  -- the slot taken last has one value
  pub in_hand : (l : List (ℕ × S)) (k : ℕ) (a b : S) (xs ys : List (ℕ × S)) → l ≡ (k, a) ∷ xs → l ≡ (k, b) ∷ ys → a ≡ b
  unfolding value_or
  in_hand l k a b xs ys e f = ap (λ (z : List (ℕ × S)). value_or a z) (sym e ∙ f)

module _ {T E : Type 0} where
  module _ {K : Type 0} where
    hand_else : (n : ℕ) (h : Hold T) (hand : List (ℕ × Slot T E K)) → HeldIn mode.Shared h → with_empty n h hand ≡ hand
    hand_else n Free hand p = absurd p
    hand_else n Shared hand p = refl
    hand_else n (Looked x) hand p = refl
    hand_else n (Exclusive x) hand p = absurd p

    -- a stripe that is held shared has no slot in hand
    pub empties_shared : (n : ℕ) (hs : List (Hold T)) (s : ℕ) (h : Hold T) → s < length hs → HeldIn mode.Shared (hold_at hs s) → HeldIn mode.Shared h
        → empties {T = T} {E = E} {K = K} n (slice_set hs s h) ≡ empties n hs
    empties_shared zero hs s h l p q = refl
    empties_shared (suc n) hs s h l p q = dite (ℕ_discrete n s)
        (λ e.
        let b = empties_shared n hs s h l p q in
        let now : HeldIn mode.Shared (hold_at (slice_set hs s h) n) =
        subst (λ (z : Hold T). HeldIn mode.Shared z) (sym (ap (λ (i : ℕ). hold_at (slice_set hs s h) i) e ∙ hold_at-set_same hs s h l)) q in
        let then : HeldIn mode.Shared (hold_at hs n) = subst (λ (i : ℕ). HeldIn mode.Shared (hold_at hs i)) (sym e) p in
        hand_else n (hold_at (slice_set hs s h) n) (empties n (slice_set hs s h)) now ∙ b ∙ sym (hand_else n (hold_at hs n) (empties n hs) then))
        (λ ne.
        let a = hold_at-set_other hs s n h ne in
        let b = empties_shared n hs s h l p q in
        λ i. with_empty n (a i) (b i))

  latch_goes : (x : Sitting T E) (s : ℕ) (h : Hold T) → x.latch ≡ std.None → with_latch (with_latch (with_hold x s h) (std.Some s)) std.None ≡ with_hold x s h
  latch_goes x s h none = ap (λ (l : std.Option ℕ). with_latch (with_hold x s h) l) (sym none)

  module _ {K : Type 0} {R : Type 0} (o : Object T E R) where
    -- the latch was taken and given back
    pub looked_at : (m m1 m2 : Me (Slot T E K) (View T E)) (s : ℕ) (x : T) → m.0.at.latch ≡ std.None → TookLatch o m s x ((s, Empty) ∷ m.1) m1 → GaveLatch o m1 m2 → LookedAt o m s x m2
    looked_at m m1 m2 s x none t g = record {
      view = g.view ∙ ap (λ (z : View T E). with_at z (with_latch z.at std.None)) t.view ∙ ap (λ (z : Sitting T E). with_at m.0 z) (latch_goes m.0.at s (Looked x) none);
      hand_is = g.hand_is ∙ ap (λ (c : List (ℕ × Slot T E K)). rest c) t.hand_is;
      again = t.again;
      stands = g.stands;
    }

    -- the slot is left empty
    pub latch_swapped : (bare : T → T) (m m1 m2 : Me (Slot T E K) (View T E)) (s : ℕ) (y part : T) (r : Slot T E K) → TookLatch o m s (bare y) ((s, Part y) ∷ m.1) m1
        → m1.1 ≡ (s, r) ∷ rest m1.1 → r ≡ Part part → m2 ≡ (m1.0, (s, Empty) ∷ rest m1.1) → TookLatch o m s (bare part) ((s, Empty) ∷ m.1) m2
    latch_swapped bare m m1 m2 s y part r t found is e =
        let same : y ≡ part = same_part y part (in_hand m1.1 s (Part y) r m.1 (rest m1.1) t.hand_is found ∙ is) in
        let view : m2.0 ≡ m1.0 = ap (λ (z : Me (Slot T E K) (View T E)). z.0) e in
        subst (λ (z : T). TookLatch o m s (bare z) ((s, Empty) ∷ m.1) m2) same (record {
          view = view ∙ t.view;
          hand_is = ap (λ (z : Me (Slot T E K) (View T E)). z.1) e ∙ ap (λ (c : List (ℕ × Slot T E K)). (s, Empty) ∷ rest c) t.hand_is;
          again = t.again;
          stands = subst (λ (z : View T E). Stands o z.at) (sym view) t.stands;
        })

    -- the slot and the note of a stripe whose latch the seat has
    pub latch_first : (m m1 : Me (Slot T E K) (View T E)) (s : ℕ) (x : T) → TookLatch o m s x ((s, Empty) ∷ m.1) m1 → m1.1 ≡ (s, Empty) ∷ rest m1.1
    latch_first m m1 s x t = t.hand_is ∙ sym (ap (λ (c : List (ℕ × Slot T E K)). (s, Empty) ∷ rest c) t.hand_is)

    pub latch_note : (m m1 : Me (Slot T E K) (View T E)) (s : ℕ) (x : T) → s < length m.0.at.holds → TookLatch o m s x ((s, Empty) ∷ m.1) m1
        → note_of (hold_at m1.0.at.holds s) ≡ some x
    latch_note m m1 s x l t =
        ap (λ (z : View T E). note_of (hold_at z.at.holds s)) t.view ∙ ap note_of (hold_at-set_same m.0.at.holds s (Looked x) l)

    module _ (bare : T → T) (s t : SeatView T E K) (h : HeldView T) (k : ℕ) (x : T) (below : k < 64) (at : slice_get h.modes k ≡ std.Some mode.Shared)
        (wide : length s.me.0.at.holds ≡ 64) (held : IsHeldBy bare s h) (look : LookedAt o s.me k x t.me) where
      long : k < length s.me.0.at.holds
      long = omega (arith, wide, below)

      shared : HeldIn mode.Shared (hold_at s.me.0.at.holds k)
      shared = held.modes k mode.Shared below at

      holds : t.me.0.at.holds ≡ slice_set s.me.0.at.holds k (Looked x)
      holds = ap (λ (z : View T E). z.at.holds) look.view

      -- what is held is the same
      pub looked_held : IsHeldBy bare t h
      unfolding long shared holds
      looked_held = record {
        no_latch = ap (λ (z : View T E). z.at.latch) look.view ∙ held.no_latch;
        modes = subst (λ (z : List (Hold T)). AreHeld h.modes 64 z) (sym holds) (held_set h.modes s.me.0.at.holds k (Looked x) mode.Shared long at tt held.modes);
        slots = look.hand_is ∙ held.slots ∙ (λ i. with_book ((ap (λ (z : View T E). z.at.journal) (sym look.view)) i)
            ((sym (ap (λ (z : List (Hold T)). empties {T = T} {E = E} {K = K} 64 z) holds ∙ empties_shared 64 s.me.0.at.holds k (Looked x) long shared tt)) i));
        long = held.long;
        parts = subst (λ (z : List (Hold T)). AreOut bare z h.parts) (sym holds) (out_keep bare s.me.0.at.holds h.parts k (Looked x) long (sym (shared_gone (hold_at s.me.0.at.holds k) shared)) held.parts);
      }

      pub looked_note : note_of (hold_at t.me.0.at.holds k) ≡ some x
      unfolding long holds
      looked_note = ap (λ (z : List (Hold T)). note_of (hold_at z k)) holds ∙ ap note_of (hold_at-set_same s.me.0.at.holds k (Looked x) long)

      pub looked_again : (y : T) → note_of (hold_at s.me.0.at.holds k) ≡ some y → note_of (hold_at t.me.0.at.holds k) ≡ some y
      looked_again y note = looked_note ∙ ap (λ (z : T). some z) (sym (look.again y note))

      pub looked_others : (j : ℕ) → j ≢ k → hold_at t.me.0.at.holds j ≡ hold_at s.me.0.at.holds j
      unfolding holds
      looked_others j ne = ap (λ (z : List (Hold T)). hold_at z j) holds ∙ hold_at-set_other s.me.0.at.holds k j (Looked x) ne

-- a stripe that is held exclusively has its part out
pub out_there : {T E R K : Type 0} (o : Object T E R) (bare : T → T) (s : SeatView T E K) (h : HeldView T) (k : ℕ) → k < 64 → slice_get h.modes k ≡ std.Some mode.Exclusive → IsHeldBy bare s h
    → (y : T) × (slice_get h.parts k ≡ std.Some (std.Some y)) × (hold_at s.me.0.at.holds k ≡ Exclusive (bare y))
out_there o bare s h k below at held =
    let q = held.parts k below in
    let t = exclusive_part o bare (hold_at s.me.0.at.holds k) q.0 (held.modes k mode.Exclusive below at) q.2 in
    (t.0, q.1 ∙ ap (λ z. std.Some z) t.1, t.2)

-- the part of a stripe that is held exclusively is its note
pub out_noted : {T E R K : Type 0} (o : Object T E R) (bare : T → T) (s : SeatView T E K) (h : HeldView T) (k : ℕ) (x : T) → k < 64 → slice_get h.modes k ≡ std.Some mode.Exclusive
    → IsHeldBy bare s h → slice_get h.parts k ≡ std.Some (std.Some x) → note_of (hold_at s.me.0.at.holds k) ≡ some (bare x)
out_noted o bare s h k x below at held found =
    let t = out_there o bare s h k below at held in
    let same : t.0 ≡ x = some_inj t.0 x (some_inj (std.Some t.0) (std.Some x) (sym t.1 ∙ found)) in
    ap note_of t.2 ∙ ap (λ z. some (bare z)) same

-- a stripe that is held shared may be looked at
pub may_look : {T E K : Type 0} (bare : T → T) (s : SeatView T E K) (h : HeldView T) (k : ℕ) → k < 64 → slice_get h.modes k ≡ std.Some mode.Shared → IsHeldBy bare s h
    → s.me.0.at.live ≡ true → has_journal s ≡ false → MayGive mode.Shared s.me.0.at k
may_look bare s h k below at held live none = record {
  quiet = record { live = live; no_journal = none; no_latch = held.no_latch };
  held = held.modes k mode.Shared below at;
}
