-- A seat that holds stripes below some number takes the next one, or gives back the last one.
use Rattle.std.proofs.Common.{◌≡◌, ◌≢◌, ℕ, zero, suc, ◌+◌, ◌<◌, List, [], ◌∷◌, length, slice_get, slice_set, refl, ap, sym, ◌∙◌, subst, length-set, arith}
use Rattle.std.specs.Prelude as std
use Rattle.lock_core.specs.declared.object.LockMode.{LockMode}
use Rattle.lock_core.specs.declared.object.LockMode.TheVariants as mode
use Rattle.lock_core.specs.declared.machine.Hold.{Hold}
use Rattle.lock_core.specs.declared.machine.Hold.TheVariants.{Free, Shared, Looked, Exclusive}
use Rattle.lock_core.specs.Object.{Object}
use Rattle.lock_core.specs.Machine.{hold_at, HeldIn}
use Rattle.lock_core.proofs.Columns.{hold_at-set_same, hold_at-set_other}
use Rattle.lock_core.proofs.Join.{free_is}
use Rattle.atomic_table.specs.Table.{Me, rest}
use Rattle.path_locks.specs.declared.rule.Slot.{Slot}
use Rattle.path_locks.specs.declared.rule.Slot.TheVariants.{Empty}
use Rattle.path_locks.specs.declared.rule.View.{View}
use Rattle.path_locks.specs.Plays.{IsQuiet, MayTake, MayGive, with_stripe, Holds}
use Rattle.path_locks.specs.Plans.{AreHeld}
use Rattle.path_locks.specs.Holding.{part_out, bared, AreOut, with_empty, empties, reheld, IsReheld, HeldAnew, HoldsBelow}
use Rattle.std.proofs.lemmas.Option.{none-some}
use mathlib.Core.Logic.{dite}
use native.Mathlib.Decide.{ℕ_discrete}

module _ {A : Type 0} where
  pub get-set_same : (l : List A) (i : ℕ) (a : A) → i < length l → slice_get (slice_set l i a) i ≡ std.Some a
  get-set_same [] i a h = absurd (omega arith)
  get-set_same (x ∷ xs) zero a h = refl
  get-set_same (x ∷ xs) (suc i) a h = get-set_same xs i a (omega arith)

  pub get-set_other : (l : List A) (i j : ℕ) (a : A) → j ≢ i → slice_get (slice_set l i a) j ≡ slice_get l j
  get-set_other [] i j a n = refl
  get-set_other (x ∷ xs) zero zero a n = absurd (n refl)
  get-set_other (x ∷ xs) zero (suc j) a n = refl
  get-set_other (x ∷ xs) (suc i) zero a n = refl
  get-set_other (x ∷ xs) (suc i) (suc j) a n = get-set_other xs i j a (λ e. n (ap suc e))

module _ {A : Type 0} where
  some_or : A → std.Option A → A
  some_or d std.None = d
  some_or d (std.Some x) = x

  pub some_inj : (x y : A) → std.Some x ≡ std.Some y → x ≡ y
  unfolding some_or
  some_inj x y e = ap (λ (q : std.Option A). some_or x q) e

module _ {T : Type 0} (bare : T → T) where
  -- one hold changes, and its part with it
  pub out_set : (holds : List (Hold T)) (parts : List (std.Option T)) (n : ℕ) (h : Hold T) (q : std.Option T) → n < length holds → n < length parts
      → bared bare q ≡ part_out h → AreOut bare holds parts → AreOut bare (slice_set holds n h) (slice_set parts n q)
  out_set holds parts n h q lh lp e out k below = dite (ℕ_discrete k n)
      (λ s. (
        q,
        ap (λ (i : ℕ). slice_get (slice_set parts n q) i) s ∙ get-set_same parts n q lp,
        e ∙ ap part_out (sym (ap (λ (i : ℕ). hold_at (slice_set holds n h) i) s ∙ hold_at-set_same holds n h lh)),
      ))
      (λ ne. let t = out k below in (t.0, get-set_other parts n k q ne ∙ t.1, t.2 ∙ ap part_out (sym (hold_at-set_other holds n k h ne))))

  -- one hold changes, and its part doesn't
  pub out_keep : (holds : List (Hold T)) (parts : List (std.Option T)) (n : ℕ) (h : Hold T) → n < length holds → part_out h ≡ part_out (hold_at holds n)
      → AreOut bare holds parts → AreOut bare (slice_set holds n h) parts
  out_keep holds parts n h lh e out k below = dite (ℕ_discrete k n)
      (λ s. let t = out k below in (
        t.0,
        t.1,
        t.2 ∙ ap (λ (i : ℕ). part_out (hold_at holds i)) s ∙ sym e
            ∙ ap part_out (sym (ap (λ (i : ℕ). hold_at (slice_set holds n h) i) s ∙ hold_at-set_same holds n h lh)),
      ))
      (λ ne. let t = out k below in (t.0, t.1, t.2 ∙ ap part_out (sym (hold_at-set_other holds n k h ne))))

module _ {T E : Type 0} where
  module _ {K : Type 0} where
    -- the slots in hand rest on the holds below
    pub empties_same : (n : ℕ) (hs hs' : List (Hold T)) → ((k : ℕ) → k < n → hold_at hs k ≡ hold_at hs' k) → empties {T = T} {E = E} {K = K} n hs ≡ empties n hs'
    empties_same zero hs hs' e = refl
    empties_same (suc n) hs hs' e =
        let a = e n (omega arith) in
        let b = empties_same n hs hs' (λ k l. e k (omega arith)) in
        λ i. with_empty n (a i) (b i)

    pub empties_set : (n : ℕ) (hs : List (Hold T)) (h : Hold T) → n < length hs → empties {T = T} {E = E} {K = K} (n + 1) (slice_set hs n h) ≡ with_empty n h (empties n hs)
    empties_set n hs h l =
        let next : n + 1 ≡ suc n = omega arith in
        let a = hold_at-set_same hs n h l in
        let b = empties_same n (slice_set hs n h) hs (λ k m. hold_at-set_other hs n k h (λ e. omega arith)) in
        ap (λ (i : ℕ). empties {T = T} {E = E} {K = K} i (slice_set hs n h)) next ∙ (λ i. with_empty n (a i) (b i))

    pub empties_next : (n : ℕ) (hs : List (Hold T)) → empties {T = T} {E = E} {K = K} (n + 1) hs ≡ with_empty n (hold_at hs n) (empties n hs)
    empties_next n hs = let next : n + 1 ≡ suc n = omega arith in ap (λ (i : ℕ). empties {T = T} {E = E} {K = K} i hs) next

  pub quiet_after : (v w : View T E) (n : ℕ) (h : Hold T) → w ≡ with_stripe v n h → IsQuiet v.at → IsQuiet w.at
  quiet_after v w n h e q = subst (λ (z : View T E). IsQuiet z.at) (sym e) (record { live = q.live; no_journal = q.no_journal; no_latch = q.no_latch })

  -- one stripe is held anew
  pub anew : (v w : View T E) (n : ℕ) (h : Hold T) (m : LockMode) → n < length v.at.holds → HeldIn m h → w ≡ with_stripe v n h → HeldAnew n m v w
  anew v w n h m l held e = subst (λ (z : View T E). HeldAnew n m v z) (sym e) (record {
    same = refl;
    there = subst (λ (z : Hold T). HeldIn m z) (sym (hold_at-set_same v.at.holds n h l)) held;
    others = λ k ne. hold_at-set_other v.at.holds n k h ne;
  })

  -- nothing changes, where the stripe is held so already
  pub anew_none : (v : View T E) (n : ℕ) (m : LockMode) → HeldIn m (hold_at v.at.holds n) → HeldAnew n m v v
  anew_none v n m held = record { same = refl; there = held; others = λ k ne. refl }

  module _ {R : Type 0} (o : Object T E R) (bare : T → T) where
    module _ {K : Type 0} where
      pub may_take_next : (n : ℕ) (me : Me (Slot T E K) (View T E)) (parts : List (std.Option T)) → HoldsBelow o bare n me parts → MayTake me.0.at n
      may_take_next n me parts b = record { quiet = b.quiet; above = b.above }

      pub may_give_last : (n : ℕ) (m : LockMode) (me : Me (Slot T E K) (View T E)) (parts : List (std.Option T)) → HoldsBelow o bare (n + 1) me parts
          → HeldIn m (hold_at me.0.at.holds n) → MayGive m me.0.at n
      may_give_last n m me parts b held = record { quiet = b.quiet; held = held }

      -- the stripe stays free
      pub passed_over : (n : ℕ) (me : Me (Slot T E K) (View T E)) (parts : List (std.Option T)) → HoldsBelow o bare n me parts → HoldsBelow o bare (n + 1) me parts
      passed_over n me parts b =
          let free = free_is (hold_at me.0.at.holds n) (b.above n (omega arith)) in
          record {
            quiet = b.quiet;
            above = λ k l. b.above k (omega arith);
            hand_is = b.hand_is ∙ sym (empties_next n me.0.at.holds ∙ ap (λ (z : Hold T). with_empty n z (empties n me.0.at.holds)) free);
            room = b.room;
            out = b.out;
            stands = b.stands;
          }

      -- the stripe is taken
      pub took_next : (n : ℕ) (h : Hold T) (me me' : Me (Slot T E K) (View T E)) (parts parts' : List (std.Option T)) → HoldsBelow o bare n me parts
          → Holds o me n h (with_empty n h me.1) me' → length parts' ≡ 64 → AreOut bare (slice_set me.0.at.holds n h) parts' → n < 64 → HoldsBelow o bare (n + 1) me' parts'
      took_next n h me me' parts parts' b t long out l =
          let wide : n < length me.0.at.holds = omega (arith, b.stands.wide) in
          let holds : me'.0.at.holds ≡ slice_set me.0.at.holds n h = ap (λ (z : View T E). z.at.holds) t.view in
          record {
            quiet = quiet_after me.0 me'.0 n h t.view b.quiet;
            above = λ k m. subst (λ (z : List (Hold T)). HeldIn mode.None (hold_at z k)) (sym holds)
                (subst (λ (z : Hold T). HeldIn mode.None z) (sym (hold_at-set_other me.0.at.holds n k h (λ e. omega arith))) (b.above k (omega arith)));
            hand_is = t.hand_is ∙ ap (λ (z : List (ℕ × Slot T E K)). with_empty n h z) b.hand_is ∙ sym (empties_set n me.0.at.holds h wide)
                ∙ ap (λ (z : List (Hold T)). empties (n + 1) z) (sym holds);
            room = long;
            out = subst (λ (z : List (Hold T)). AreOut bare z parts') (sym holds) out;
            stands = t.stands;
          }

      -- the last stripe is given back
      pub gave_last : (n : ℕ) (me me' : Me (Slot T E K) (View T E)) (hand : List (ℕ × Slot T E K)) (parts parts' : List (std.Option T)) → HoldsBelow o bare (n + 1) me parts
          → Holds o me n Free hand me' → hand ≡ empties n me.0.at.holds → length parts' ≡ 64 → AreOut bare (slice_set me.0.at.holds n Free) parts' → n < 64
          → HoldsBelow o bare n me' parts'
      gave_last n me me' hand parts parts' b t below long out l =
          let wide : n < length me.0.at.holds = omega (arith, b.stands.wide) in
          let holds : me'.0.at.holds ≡ slice_set me.0.at.holds n Free = ap (λ (z : View T E). z.at.holds) t.view in
          record {
            quiet = quiet_after me.0 me'.0 n Free t.view b.quiet;
            above = λ k m. subst (λ (z : List (Hold T)). HeldIn mode.None (hold_at z k)) (sym holds) (dite (ℕ_discrete k n)
                (λ e. let at : hold_at (slice_set me.0.at.holds n Free) k ≡ Free = ap (λ (i : ℕ). hold_at (slice_set me.0.at.holds n Free) i) e ∙ hold_at-set_same me.0.at.holds n Free wide in
                subst (λ (z : Hold T). HeldIn mode.None z) (sym at) tt)
                (λ ne. subst (λ (z : Hold T). HeldIn mode.None z) (sym (hold_at-set_other me.0.at.holds n k Free ne)) (b.above k (omega arith))));
            hand_is = t.hand_is ∙ below ∙ sym (empties_same n (slice_set me.0.at.holds n Free) me.0.at.holds (λ k m. hold_at-set_other me.0.at.holds n k Free (λ e. omega arith)))
                ∙ ap (λ (z : List (Hold T)). empties n z) (sym holds);
            room = long;
            out = subst (λ (z : List (Hold T)). AreOut bare z parts') (sym holds) out;
            stands = t.stands;
          }

      next_free : (n : ℕ) (me : Me (Slot T E K) (View T E)) (parts : List (std.Option T)) → HoldsBelow o bare n me parts → hold_at me.0.at.holds n ≡ Free
      next_free n me parts b = free_is (hold_at me.0.at.holds n) (b.above n (omega arith))

      pub took_shared_next : (n : ℕ) (me me' : Me (Slot T E K) (View T E)) (parts : List (std.Option T)) → HoldsBelow o bare n me parts → Holds o me n Shared me.1 me' → n < 64
          → HoldsBelow o bare (n + 1) me' parts
      took_shared_next n me me' parts b t l =
          took_next n Shared me me' parts parts b t b.room
          (out_keep bare me.0.at.holds parts n Shared (omega (arith, b.stands.wide)) (ap part_out (sym (next_free n me parts b))) b.out) l

      pub took_exclusive_next : (n : ℕ) (y : T) (me me' : Me (Slot T E K) (View T E)) (parts parts' : List (std.Option T)) → HoldsBelow o bare n me parts
          → Holds o me n (Exclusive (bare y)) ((n, Empty) ∷ me.1) me' → parts' ≡ slice_set parts n (std.Some y) → n < 64 → HoldsBelow o bare (n + 1) me' parts'
      took_exclusive_next n y me me' parts parts' b t e l =
          subst (λ (z : List (std.Option T)). HoldsBelow o bare (n + 1) me' z) (sym e)
          (took_next n (Exclusive (bare y)) me me' parts (slice_set parts n (std.Some y)) b t (length-set parts n (std.Some y) ∙ b.room)
          (out_set bare me.0.at.holds parts n (Exclusive (bare y)) (std.Some y) (omega (arith, b.stands.wide)) (omega (arith, b.room)) refl b.out) l)

      -- the slots in hand, where the last stripe is held shared or exclusively
      pub hand_shared : (n : ℕ) (h : Hold T) (hand : List (ℕ × Slot T E K)) → HeldIn mode.Shared h → with_empty n h hand ≡ hand
      hand_shared n Free hand p = refl
      hand_shared n Shared hand p = refl
      hand_shared n (Looked x) hand p = refl
      hand_shared n (Exclusive x) hand p = absurd p

      pub hand_exclusive : (n : ℕ) (h : Hold T) (hand : List (ℕ × Slot T E K)) → HeldIn mode.Exclusive h → with_empty n h hand ≡ (n, Empty) ∷ hand
      hand_exclusive n Free hand p = absurd p
      hand_exclusive n Shared hand p = absurd p
      hand_exclusive n (Looked x) hand p = absurd p
      hand_exclusive n (Exclusive x) hand p = refl

    pub shared_out : (h : Hold T) → HeldIn mode.Shared h → part_out (let z : Hold T = Free in z) ≡ part_out h
    shared_out Free p = absurd p
    shared_out Shared p = refl
    shared_out (Looked x) p = refl
    shared_out (Exclusive x) p = absurd p

    module _ {K : Type 0} where
      pub last_in_hand : (n : ℕ) (me : Me (Slot T E K) (View T E)) (parts : List (std.Option T)) → HoldsBelow o bare (n + 1) me parts → HeldIn mode.Exclusive (hold_at me.0.at.holds n)
          → me.1 ≡ (n, Empty) ∷ empties n me.0.at.holds
      last_in_hand n me parts b held = b.hand_is ∙ empties_next n me.0.at.holds ∙ hand_exclusive n (hold_at me.0.at.holds n) (empties n me.0.at.holds) held

      pub last_is_first : (n : ℕ) (me : Me (Slot T E K) (View T E)) (parts : List (std.Option T)) → HoldsBelow o bare (n + 1) me parts → HeldIn mode.Exclusive (hold_at me.0.at.holds n)
          → me.1 ≡ (n, Empty) ∷ rest me.1
      last_is_first n me parts b held =
          let e = last_in_hand n me parts b held in
          e ∙ ap (λ (z : List (ℕ × Slot T E K)). (n, Empty) ∷ rest z) (sym e)

    pub exclusive_part : (h : Hold T) (q : std.Option T) → HeldIn mode.Exclusive h → bared bare q ≡ part_out h → (y : T) × (q ≡ std.Some y) × (h ≡ Exclusive (bare y))
    exclusive_part Free q p e = absurd p
    exclusive_part Shared q p e = absurd p
    exclusive_part (Looked x) q p e = absurd p
    exclusive_part (Exclusive x) std.None p e = absurd (none-some x e)
    exclusive_part (Exclusive x) (std.Some y) p e = (y, refl, ap (λ (z : T). Exclusive z) (sym (some_inj (bare y) x e)))

    module _ {K : Type 0} where
      -- the part of a stripe that is held exclusively is out
      pub part_is_out : (n : ℕ) (me : Me (Slot T E K) (View T E)) (parts : List (std.Option T)) (r : std.Option T) → HoldsBelow o bare (n + 1) me parts
          → HeldIn mode.Exclusive (hold_at me.0.at.holds n) → n < 64 → slice_get parts n ≡ std.Some r → (y : T) × (r ≡ std.Some y) × (hold_at me.0.at.holds n ≡ Exclusive (bare y))
      part_is_out n me parts r b held l e =
          let t = b.out n l in
          exclusive_part (hold_at me.0.at.holds n) r held (ap (λ (z : std.Option T). bared bare z) (some_inj r t.0 (sym e ∙ t.1)) ∙ t.2)

      pub gave_shared_last : (n : ℕ) (me me' : Me (Slot T E K) (View T E)) (parts : List (std.Option T)) → HoldsBelow o bare (n + 1) me parts
          → HeldIn mode.Shared (hold_at me.0.at.holds n) → Holds o me n Free me.1 me' → n < 64 → HoldsBelow o bare n me' parts
      gave_shared_last n me me' parts b held t l =
          gave_last n me me' me.1 parts parts b t
          (b.hand_is ∙ empties_next n me.0.at.holds ∙ hand_shared n (hold_at me.0.at.holds n) (empties n me.0.at.holds) held) b.room
          (out_keep bare me.0.at.holds parts n Free (omega (arith, b.stands.wide)) (shared_out (hold_at me.0.at.holds n) held) b.out) l

      pub gave_exclusive_last : (n : ℕ) (me me' : Me (Slot T E K) (View T E)) (parts parts' : List (std.Option T)) → HoldsBelow o bare (n + 1) me parts
          → HeldIn mode.Exclusive (hold_at me.0.at.holds n) → Holds o me n Free (rest me.1) me' → parts' ≡ slice_set parts n std.None → n < 64 → HoldsBelow o bare n me' parts'
      gave_exclusive_last n me me' parts parts' b held t e l =
          subst (λ (z : List (std.Option T)). HoldsBelow o bare n me' z) (sym e)
          (gave_last n me me' (rest me.1) parts (slice_set parts n std.None) b t (ap (λ (z : List (ℕ × Slot T E K)). rest z) (last_in_hand n me parts b held))
          (length-set parts n std.None ∙ b.room)
          (out_set bare me.0.at.holds parts n Free std.None (omega (arith, b.stands.wide)) (omega (arith, b.room)) refl b.out) l)

      -- the last stripe wasn't held
      pub passed_back : (n : ℕ) (me : Me (Slot T E K) (View T E)) (parts : List (std.Option T)) → HoldsBelow o bare (n + 1) me parts
          → HeldIn mode.None (hold_at me.0.at.holds n) → HoldsBelow o bare n me parts
      passed_back n me parts b held =
          let free = free_is (hold_at me.0.at.holds n) held in
          record {
            quiet = b.quiet;
            above = λ k l. dite (ℕ_discrete k n)
                (λ e. subst (λ (i : ℕ). HeldIn mode.None (hold_at me.0.at.holds i)) (sym e) held) (λ ne. b.above k (omega arith));
            hand_is = b.hand_is ∙ empties_next n me.0.at.holds ∙ ap (λ (z : Hold T). with_empty n z (empties n me.0.at.holds)) free;
            room = b.room;
            out = b.out;
            stands = b.stands;
          }

module _ {T E : Type 0} where
  -- what is reheld twice is reheld
  pub reheld_twice : (v w z : View T E) → IsReheld v w → IsReheld w z → IsReheld v z
  reheld_twice v w z e f = f ∙ ap (λ (q : View T E). reheld q z.at.holds) e

  -- the plan is held one stripe further
  pub held_next : (modes : List LockMode) (n : ℕ) (m : LockMode) (v w : View T E) → AreHeld modes n v.at.holds → slice_get modes n ≡ std.Some m → HeldAnew n m v w
      → AreHeld modes (n + 1) w.at.holds
  held_next modes n m v w a at h k p l e = dite (ℕ_discrete k n)
      (λ s. let same : m ≡ p = some_inj m p (sym at ∙ ap (λ (i : ℕ). slice_get modes i) (sym s) ∙ e) in
      subst (λ (q : LockMode). HeldIn q (hold_at w.at.holds k)) same (subst (λ (i : ℕ). HeldIn m (hold_at w.at.holds i)) (sym s) h.there))
      (λ ne. subst (λ (q : Hold T). HeldIn p q) (sym (h.others k ne)) (a k p (omega arith) e))

  -- the plan is still held below the stripe that is given back
  pub held_less : (modes : List LockMode) (n n' : ℕ) (m : LockMode) (v w : View T E) → n' ≡ n + 1 → AreHeld modes n' v.at.holds → HeldAnew n m v w → AreHeld modes n w.at.holds
  held_less modes n n' m v w s a h k p l e = subst (λ (q : Hold T). HeldIn p q) (sym (h.others k (λ z. omega arith))) (a k p (omega arith) e)
