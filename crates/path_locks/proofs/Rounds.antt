-- A seat goes through its stripes from the highest to the lowest, and lets go of some.
use Rattle.std.proofs.Common.{◌≡◌, ◌≢◌, ℕ, zero, suc, ◌+◌, ◌-◌, ◌<◌, ◌≤◌, List, [], ◌∷◌, ◌++◌, length, slice_get, slice_set, refl, ap, sym, ◌∙◌, subst, length-set, append_assoc, append-nil, arith}
use Rattle.std.specs.Prelude as std
use Rattle.lock_core.specs.declared.object.LockMode.{LockMode}
use Rattle.lock_core.specs.declared.object.LockMode.TheVariants as mode
use Rattle.lock_core.specs.declared.machine.Hold.{Hold}
use Rattle.lock_core.specs.declared.machine.Hold.TheVariants.{Free, Shared, Looked, Exclusive}
use Rattle.lock_core.specs.Object.{Object}
use Rattle.lock_core.specs.Machine.{hold_at, downgraded, HeldIn}
use Rattle.lock_core.proofs.Columns.{hold_at-set_same, hold_at-set_other}
use Rattle.lock_core.proofs.Join.{free_is}
use Rattle.atomic_table.specs.Table.{Me, rest, turned}
use Rattle.path_locks.specs.declared.rule.Slot.{Slot}
use Rattle.path_locks.specs.declared.rule.Slot.TheVariants.{Empty}
use Rattle.path_locks.specs.declared.rule.View.{View}
use Rattle.path_locks.specs.Plays.{IsQuiet, MayGive, with_stripe, Holds}
use Rattle.path_locks.specs.Stands.{Stands}
use Rattle.path_locks.specs.Plans.{AreHeld}
use Rattle.path_locks.specs.Holding.{part_out, bared, AreOut, with_empty, empties, HoldsBelow}
use Rattle.path_locks.specs.Narrow.{IsBelow, IsWithin, narrowed, AreNarrowed, AreNarrowedFrom, span, IsNarrowedAt, IsRound}
use Rattle.std.proofs.lemmas.Option.{slice_get_within}
use Rattle.path_locks.proofs.Below.{some_inj, get-set_same, get-set_other, out_set, out_keep, empties_same, empties_next, hand_shared, hand_exclusive, shared_out, exclusive_part, quiet_after}
use Rattle.path_locks.proofs.Whole.{hold_at-past}
use mathlib.Core.Logic.{dite}
use native.Mathlib.Decide.{ℕ_discrete}

module _ {A : Type 0} where
  pub get_some : (l : List A) (k : ℕ) → k < length l → (a : A) × (slice_get l k ≡ std.Some a)
  get_some [] k h = absurd (omega arith)
  get_some (x ∷ xs) zero h = (x, refl)
  get_some (x ∷ xs) (suc k) h = get_some xs k (omega arith)

module _ {T E : Type 0} where
  module _ {K : Type 0} where
    -- the slot of the lowest stripe comes last
    span_more : (n c : ℕ) (hs : List (Hold T)) → span {T = T} {E = E} {K = K} n (suc c) hs ≡ span (n + 1) c hs ++ with_empty n (hold_at hs n) []
    span_more n zero hs =
        let e : n + 0 ≡ n = omega arith in
        ap (λ (i : ℕ). with_empty {T = T} {E = E} {K = K} i (hold_at hs i) []) e
    span_more n (suc c) hs =
        let e : n + suc c ≡ n + 1 + c = omega arith in
        let b = span_more n c hs in
        (λ i. with_empty {T = T} {E = E} {K = K} (e i) (hold_at hs (e i)) (b i)) ∙ behind (n + 1 + c) (hold_at hs (n + 1 + c)) (span (n + 1) c hs) (with_empty n (hold_at hs n) [])
      where
        behind : (k : ℕ) (h : Hold T) (xs ys : List (ℕ × Slot T E K)) → with_empty k h (xs ++ ys) ≡ with_empty k h xs ++ ys
        behind k Free xs ys = refl
        behind k Shared xs ys = refl
        behind k (Looked x) xs ys = refl
        behind k (Exclusive x) xs ys = refl

    span_same : (n c : ℕ) (hs hs' : List (Hold T)) → ((k : ℕ) → n ≤ k → hold_at hs k ≡ hold_at hs' k) → span {T = T} {E = E} {K = K} n c hs ≡ span n c hs'
    span_same n zero hs hs' e = refl
    span_same n (suc c) hs hs' e =
        let a = e (n + c) (omega arith) in
        let b = span_same n c hs hs' e in
        λ i. with_empty (n + c) (a i) (b i)

    span_all : (c : ℕ) (hs : List (Hold T)) → span {T = T} {E = E} {K = K} 0 c hs ≡ empties c hs
    span_all zero hs = refl
    span_all (suc c) hs =
        let e : 0 + c ≡ c = omega arith in
        let b = span_all c hs in
        λ i. with_empty {T = T} {E = E} {K = K} (e i) (hold_at hs (e i)) (b i)

  -- one stripe is left as this mode keeps it
  pub narrowed_at : (v w : View T E) (n : ℕ) (h : Hold T) (m : LockMode) → n < length v.at.holds → h ≡ narrowed m (hold_at v.at.holds n) → w ≡ with_stripe v n h → IsNarrowedAt n m v w
  narrowed_at v w n h m l is e = subst (λ (z : View T E). IsNarrowedAt n m v z) (sym e) (record {
    same = refl;
    there = hold_at-set_same v.at.holds n h l ∙ is;
    others = λ k ne. hold_at-set_other v.at.holds n k h ne;
  })

  pub narrowed_not : (v w : View T E) (n : ℕ) (m : LockMode) → hold_at v.at.holds n ≡ narrowed m (hold_at v.at.holds n) → w ≡ v → IsNarrowedAt n m v w
  narrowed_not v w n m is e = subst (λ (z : View T E). IsNarrowedAt n m v z) (sym e) (record { same = refl; there = is; others = λ k ne. refl })

  module _ {K : Type 0} {R : Type 0} (o : Object T E R) (bare : T → T) where
    module _ (n : ℕ) (me me' : Me (Slot T E K) (View T E)) (parts : List (std.Option T)) (below : n < 64) (b : IsRound o bare (n + 1) me parts) where
      lower : List (ℕ × Slot T E K)
      lower = empties n me.0.at.holds

      upper : List (ℕ × Slot T E K)
      upper = span (n + 1) (63 - n) me.0.at.holds

      hand_now : me.1 ≡ with_empty n (hold_at me.0.at.holds n) lower ++ upper
      unfolding lower upper
      hand_now =
          let c : 64 - (n + 1) ≡ 63 - n = omega arith in
          let e = empties_next {T = T} {E = E} {K = K} n me.0.at.holds in
          b.hand_is ∙ (λ i. e i ++ span (n + 1) (c i) me.0.at.holds)

      round_next : (parts' : List (std.Option T)) → IsQuiet me'.0.at → ((k : ℕ) → k ≢ n → hold_at me'.0.at.holds k ≡ hold_at me.0.at.holds k)
          → me'.1 ≡ lower ++ (upper ++ with_empty n (hold_at me'.0.at.holds n) []) → length parts' ≡ 64 → AreOut bare me'.0.at.holds parts' → Stands o me'.0.at → IsRound o bare n me' parts'
      unfolding lower upper
      round_next parts' quiet others hand room out stands =
          let c : 64 - n ≡ suc (63 - n) = omega arith in
          let low = empties_same {T = T} {E = E} {K = K} n me'.0.at.holds me.0.at.holds (λ k l. others k (λ e. omega arith)) in
          let up = span_same (n + 1) (63 - n) me'.0.at.holds me.0.at.holds (λ k l. others k (λ e. omega arith)) in
          let more = ap (λ (i : ℕ). span {T = T} {E = E} {K = K} n i me'.0.at.holds) c ∙ span_more n (63 - n) me'.0.at.holds
          ∙ ap (λ (z : List (ℕ × Slot T E K)). z ++ with_empty n (hold_at me'.0.at.holds n) []) up in
          record {
            quiet = quiet;
            hand_is = hand ∙ sym (λ i. low i ++ more i);
            room = room;
            out = out;
            stands = stands;
          }

      none_last : (h : Hold T) → HeldIn mode.Shared h → lower ++ upper ≡ lower ++ (upper ++ with_empty n h [])
      none_last h p = ap (λ (z : List (ℕ × Slot T E K)). lower ++ z) (sym (append-nil upper) ∙ ap (λ (z : List (ℕ × Slot T E K)). upper ++ z) (sym (hand_shared o bare n h [] p)))

      none_free : (h : Hold T) → h ≡ Free → lower ++ upper ≡ lower ++ (upper ++ with_empty n h [])
      none_free h e = ap (λ (z : List (ℕ × Slot T E K)). lower ++ z) (sym (append-nil upper) ∙ ap (λ (z : Hold T). upper ++ with_empty n z []) (sym e))

      -- the stripe isn't held
      pub round_free : me' ≡ me → HeldIn mode.None (hold_at me.0.at.holds n) → IsRound o bare n me parts
      unfolding lower upper
      round_free e p =
          let free = free_is (hold_at me.0.at.holds n) p in
          subst (λ (z : Me (Slot T E K) (View T E)). IsRound o bare n z parts) e
          (round_next parts (subst (λ (z : Me (Slot T E K) (View T E)). IsQuiet z.0.at) (sym e) b.quiet) (λ k ne. ap (λ (z : Me (Slot T E K) (View T E)). hold_at z.0.at.holds k) e)
          (ap (λ (z : Me (Slot T E K) (View T E)). z.1) e ∙ hand_now ∙ ap (λ (z : Hold T). with_empty n z lower ++ upper) free
          ∙ none_free _ (ap (λ (z : Me (Slot T E K) (View T E)). hold_at z.0.at.holds n) e ∙ free))
          b.room (subst (λ (z : Me (Slot T E K) (View T E)). AreOut bare z.0.at.holds parts) (sym e) b.out) (subst (λ (z : Me (Slot T E K) (View T E)). Stands o z.0.at) (sym e) b.stands))

      -- it stays held shared
      pub round_shared : me' ≡ me → HeldIn mode.Shared (hold_at me.0.at.holds n) → IsRound o bare n me parts
      unfolding lower upper
      round_shared e p =
          subst (λ (z : Me (Slot T E K) (View T E)). IsRound o bare n z parts) e
          (round_next parts (subst (λ (z : Me (Slot T E K) (View T E)). IsQuiet z.0.at) (sym e) b.quiet) (λ k ne. ap (λ (z : Me (Slot T E K) (View T E)). hold_at z.0.at.holds k) e)
          (ap (λ (z : Me (Slot T E K) (View T E)). z.1) e ∙ hand_now ∙ ap (λ (z : List (ℕ × Slot T E K)). z ++ upper) (hand_shared o bare n (hold_at me.0.at.holds n) lower p)
          ∙ none_last _ (subst (λ (z : Me (Slot T E K) (View T E)). HeldIn mode.Shared (hold_at z.0.at.holds n)) (sym e) p))
          b.room (subst (λ (z : Me (Slot T E K) (View T E)). AreOut bare z.0.at.holds parts) (sym e) b.out) (subst (λ (z : Me (Slot T E K) (View T E)). Stands o z.0.at) (sym e) b.stands))

      -- it stays held exclusively, and its slot goes behind the others
      pub round_exclusive : me' ≡ (me.0, turned me.1) → HeldIn mode.Exclusive (hold_at me.0.at.holds n) → IsRound o bare n me' parts
      unfolding lower upper
      round_exclusive e p =
          let same : me'.0 ≡ me.0 = ap (λ (z : Me (Slot T E K) (View T E)). z.0) e in
          let first : me.1 ≡ (n, Empty) ∷ (lower ++ upper) = hand_now ∙ ap (λ (z : List (ℕ × Slot T E K)). z ++ upper) (hand_exclusive o bare n (hold_at me.0.at.holds n) lower p) in
          let last : with_empty n (hold_at me'.0.at.holds n) [] ≡ (n, Empty) ∷ [] =
          hand_exclusive o bare n (hold_at me'.0.at.holds n) [] (subst (λ (z : View T E). HeldIn mode.Exclusive (hold_at z.at.holds n)) (sym same) p) in
          round_next parts (subst (λ (z : View T E). IsQuiet z.at) (sym same) b.quiet) (λ k ne. ap (λ (z : View T E). hold_at z.at.holds k) same)
          (ap (λ (z : Me (Slot T E K) (View T E)). z.1) e ∙ ap (λ (z : List (ℕ × Slot T E K)). turned z) first ∙ append_assoc lower upper ((n, Empty) ∷ [])
          ∙ ap (λ (z : List (ℕ × Slot T E K)). lower ++ (upper ++ z)) (sym last))
          b.room (subst (λ (z : View T E). AreOut bare z.at.holds parts) (sym same) b.out) (subst (λ (z : View T E). Stands o z.at) (sym same) b.stands)

      -- a stripe that was held shared is given back
      pub round_gave_shared : HeldIn mode.Shared (hold_at me.0.at.holds n) → Holds o me n Free me.1 me' → IsRound o bare n me' parts
      unfolding lower upper
      round_gave_shared p t =
          let wide : n < length me.0.at.holds = omega (arith, b.stands.wide, below) in
          let holds : me'.0.at.holds ≡ slice_set me.0.at.holds n Free = ap (λ (z : View T E). z.at.holds) t.view in
          let free : hold_at me'.0.at.holds n ≡ Free = ap (λ (z : List (Hold T)). hold_at z n) holds ∙ hold_at-set_same me.0.at.holds n Free wide in
          round_next parts (quiet_after me.0 me'.0 n Free t.view b.quiet)
          (λ k ne. ap (λ (z : List (Hold T)). hold_at z k) holds ∙ hold_at-set_other me.0.at.holds n k Free ne)
          (t.hand_is ∙ hand_now ∙ ap (λ (z : List (ℕ × Slot T E K)). z ++ upper) (hand_shared o bare n (hold_at me.0.at.holds n) lower p) ∙ none_free _ free)
          b.room (subst (λ (z : List (Hold T)). AreOut bare z parts) (sym holds) (out_keep bare me.0.at.holds parts n Free wide (shared_out o bare (hold_at me.0.at.holds n) p) b.out)) t.stands

      -- a stripe that was held exclusively is given back, or held shared from now on
      pub round_gave_exclusive : (h : Hold T) (parts' : List (std.Option T)) → HeldIn mode.Exclusive (hold_at me.0.at.holds n) → ((hand : List (ℕ × Slot T E K)) → with_empty n h hand ≡ hand)
          → std.None ≡ part_out h → Holds o me n h (rest me.1) me' → parts' ≡ slice_set parts n std.None → IsRound o bare n me' parts'
      unfolding lower upper
      round_gave_exclusive h parts' p none out t e =
          let wide : n < length me.0.at.holds = omega (arith, b.stands.wide, below) in
          let holds : me'.0.at.holds ≡ slice_set me.0.at.holds n h = ap (λ (z : View T E). z.at.holds) t.view in
          let now : hold_at me'.0.at.holds n ≡ h = ap (λ (z : List (Hold T)). hold_at z n) holds ∙ hold_at-set_same me.0.at.holds n h wide in
          let first : me.1 ≡ (n, Empty) ∷ (lower ++ upper) = hand_now ∙ ap (λ (z : List (ℕ × Slot T E K)). z ++ upper) (hand_exclusive o bare n (hold_at me.0.at.holds n) lower p) in
          subst (λ (z : List (std.Option T)). IsRound o bare n me' z) (sym e)
          (round_next (slice_set parts n std.None) (quiet_after me.0 me'.0 n h t.view b.quiet)
          (λ k ne. ap (λ (z : List (Hold T)). hold_at z k) holds ∙ hold_at-set_other me.0.at.holds n k h ne)
          (t.hand_is ∙ ap (λ (z : List (ℕ × Slot T E K)). rest z) first ∙ ap (λ (z : List (ℕ × Slot T E K)). lower ++ z) (sym (append-nil upper) ∙ ap (λ (z : List (ℕ × Slot T E K)). upper ++ z) (sym (none [])))
          ∙ ap (λ (z : Hold T). lower ++ (upper ++ with_empty n z [])) (sym now))
          (length-set parts n std.None ∙ b.room)
          (subst (λ (z : List (Hold T)). AreOut bare z (slice_set parts n std.None)) (sym holds)
          (out_set bare me.0.at.holds parts n h std.None wide (omega (arith, b.room, below)) out b.out)) t.stands)

      -- the slot and the part of a stripe that is held exclusively
      pub round_first : HeldIn mode.Exclusive (hold_at me.0.at.holds n) → me.1 ≡ (n, Empty) ∷ rest me.1
      unfolding lower upper
      round_first p =
          let first : me.1 ≡ (n, Empty) ∷ (lower ++ upper) = hand_now ∙ ap (λ (z : List (ℕ × Slot T E K)). z ++ upper) (hand_exclusive o bare n (hold_at me.0.at.holds n) lower p) in
          first ∙ sym (ap (λ (z : List (ℕ × Slot T E K)). (n, Empty) ∷ rest z) first)

      pub round_part : (r : std.Option T) → HeldIn mode.Exclusive (hold_at me.0.at.holds n) → slice_get parts n ≡ std.Some r
          → (y : T) × (r ≡ std.Some y) × (hold_at me.0.at.holds n ≡ Exclusive (bare y))
      round_part r p e =
          let t = b.out n below in
          exclusive_part o bare (hold_at me.0.at.holds n) r p (ap (λ (z : std.Option T). bared bare z) (some_inj r t.0 (sym e ∙ t.1)) ∙ t.2)

      pub round_out : HeldIn mode.Exclusive (hold_at me.0.at.holds n) → (y : T) × (slice_get parts n ≡ std.Some (std.Some y))
      round_out p =
          let t = b.out n below in
          let u = exclusive_part o bare (hold_at me.0.at.holds n) t.0 p t.2 in
          (u.0, t.1 ∙ ap (λ (q : std.Option T). std.Some q) u.1)

      pub round_taken : (y : T) → HeldIn mode.Exclusive (hold_at me.0.at.holds n) → slice_get parts n ≡ std.Some (std.Some y) → hold_at me.0.at.holds n ≡ Exclusive (bare y)
      round_taken y p e =
          let t = round_part (std.Some y) p e in
          t.2 ∙ ap (λ (z : T). Exclusive (bare z)) (some_inj t.0 y (sym t.1))

      pub round_may : (m : LockMode) → HeldIn m (hold_at me.0.at.holds n) → MayGive m me.0.at n
      round_may m p = record { quiet = b.quiet; held = p }

    -- a round begins and ends with what is held
    pub round_begins : (me : Me (Slot T E K) (View T E)) (parts : List (std.Option T)) → HoldsBelow o bare 64 me parts → IsRound o bare 64 me parts
    round_begins me parts b = record {
      quiet = b.quiet;
      hand_is = b.hand_is ∙ sym (append-nil (empties 64 me.0.at.holds));
      room = b.room;
      out = b.out;
      stands = b.stands;
    }

    pub round_ends : (me : Me (Slot T E K) (View T E)) (parts : List (std.Option T)) → IsRound o bare 0 me parts → HoldsBelow o bare 64 me parts
    round_ends me parts b = record {
      quiet = b.quiet;
      above = λ k l. subst (λ (z : Hold T). HeldIn mode.None z) (sym (hold_at-past me.0.at.holds k (omega (arith, b.stands.wide)))) tt;
      hand_is = b.hand_is ∙ span_all 64 me.0.at.holds;
      room = b.room;
      out = b.out;
      stands = b.stands;
    }

below_own : (m : LockMode) → IsBelow m m
below_own mode.None = tt
below_own mode.Shared = tt
below_own mode.Exclusive = tt

-- a plan in which a stripe is held shared in place of exclusively is below the plan, and leaves the other stripes as they are
pub shared_within : (modes : List LockMode) (s : ℕ) → slice_get modes s ≡ std.Some mode.Exclusive → IsWithin (slice_set modes s mode.Shared) modes
shared_within modes s at k m n b e f = dite (ℕ_discrete k s)
    (λ q.
    let exclusive : n ≡ mode.Exclusive = some_inj n mode.Exclusive (sym f ∙ ap (λ (i : ℕ). slice_get modes i) q ∙ at) in
    let l = slice_get_within modes s mode.Exclusive at in
    let shared : m ≡ mode.Shared = some_inj m mode.Shared (sym e ∙ ap (λ (i : ℕ). slice_get (slice_set modes s mode.Shared) i) q ∙ get-set_same modes s mode.Shared l) in
    subst (λ (z : LockMode). IsBelow z n) (sym shared) (subst (λ (z : LockMode). IsBelow mode.Shared z) (sym exclusive) tt))
    (λ ne. subst (λ (z : LockMode). IsBelow m z) (some_inj m n (sym e ∙ get-set_other modes s k mode.Shared ne ∙ f)) (below_own m))

module _ {T : Type 0} where
  -- what is left of a hold is held as the plan keeps it
  pub narrowed_held : (m n : LockMode) (h : Hold T) → IsBelow m n → HeldIn n h → HeldIn m (narrowed m h)
  narrowed_held mode.None n h b p = tt
  narrowed_held mode.Shared mode.None h b p = absurd b
  narrowed_held mode.Shared mode.Shared Free b p = absurd p
  narrowed_held mode.Shared mode.Shared Shared b p = tt
  narrowed_held mode.Shared mode.Shared (Looked x) b p = tt
  narrowed_held mode.Shared mode.Shared (Exclusive x) b p = absurd p
  narrowed_held mode.Shared mode.Exclusive Free b p = absurd p
  narrowed_held mode.Shared mode.Exclusive Shared b p = absurd p
  narrowed_held mode.Shared mode.Exclusive (Looked x) b p = absurd p
  narrowed_held mode.Shared mode.Exclusive (Exclusive x) b p = tt
  narrowed_held mode.Exclusive mode.None h b p = absurd b
  narrowed_held mode.Exclusive mode.Shared h b p = absurd b
  narrowed_held mode.Exclusive mode.Exclusive h b p = p

  -- a hold stays as it is in its own mode
  pub narrowed_none : (m n : LockMode) (h : Hold T) → n ≡ mode.None → IsBelow m n → HeldIn n h → h ≡ narrowed m h
  narrowed_none m n h e b p = by_cases m h (subst (λ (z : LockMode). IsBelow m z) e b) (subst (λ (z : LockMode). HeldIn z h) e p)
    where
      by_cases : (q : LockMode) (z : Hold T) → IsBelow q mode.None → HeldIn mode.None z → z ≡ narrowed q z
      by_cases mode.None z c r = free_is z r
      by_cases mode.Shared z c r = absurd c
      by_cases mode.Exclusive z c r = absurd c

  pub narrowed_own : (m : LockMode) (h : Hold T) → HeldIn m h → h ≡ narrowed m h
  narrowed_own mode.None h p = free_is h p
  narrowed_own mode.Shared Free p = absurd p
  narrowed_own mode.Shared Shared p = refl
  narrowed_own mode.Shared (Looked x) p = refl
  narrowed_own mode.Shared (Exclusive x) p = absurd p
  narrowed_own mode.Exclusive h p = refl

  -- one stripe more is done
  pub narrowed_next : {E : Type 0} (keep : List LockMode) (first : List (Hold T)) (n n' : ℕ) (m : LockMode) (v w : View T E) → n' ≡ n + 1 → AreNarrowedFrom n' keep first v.at.holds
      → slice_get keep n ≡ std.Some m → IsNarrowedAt n m v w → HeldIn m (hold_at w.at.holds n) → AreNarrowedFrom n keep first w.at.holds
  narrowed_next keep first n n' m v w s a at h now = record {
    done = λ k p l b e. dite (ℕ_discrete k n)
        (λ q.
        let same : m ≡ p = some_inj m p (sym at ∙ ap (λ (i : ℕ). slice_get keep i) (sym q) ∙ e) in
        ap (λ (i : ℕ). hold_at w.at.holds i) q ∙ h.there ∙ ap (λ (z : Hold T). narrowed m z) (a.left n (omega arith))
        ∙ (λ i. narrowed (same i) (hold_at first (sym q i))))
        (λ ne. h.others k ne ∙ a.done k p (omega arith) b e);
    held = λ k p l b e. dite (ℕ_discrete k n)
        (λ q.
        let same : m ≡ p = some_inj m p (sym at ∙ ap (λ (i : ℕ). slice_get keep i) (sym q) ∙ e) in
        subst (λ (z : LockMode). HeldIn z (hold_at w.at.holds k)) same (subst (λ (i : ℕ). HeldIn m (hold_at w.at.holds i)) (sym q) now))
        (λ ne. subst (λ (z : Hold T). HeldIn p z) (sym (h.others k ne)) (a.held k p (omega arith) b e));
    left = λ k l. h.others k (λ e. omega arith) ∙ a.left k (omega arith);
  }

  pub narrowed_all : (keep : List LockMode) (first last : List (Hold T)) → AreNarrowedFrom 0 keep first last → AreNarrowed keep first last
  narrowed_all keep first last a k m b at = a.done k m (omega arith) b at

  pub narrowed_is_held : (keep : List LockMode) (first last : List (Hold T)) → AreNarrowedFrom 0 keep first last → AreHeld keep 64 last
  narrowed_is_held keep first last a k m b at = a.held k m (omega arith) b at

  -- what is kept of a stripe is held so
  pub held_after : {E : Type 0} (s : ℕ) (m n : LockMode) (v w : View T E) → IsNarrowedAt s m v w → IsBelow m n → HeldIn n (hold_at v.at.holds s) → HeldIn m (hold_at w.at.holds s)
  held_after s m n v w h b p = subst (λ (z : Hold T). HeldIn m z) (sym h.there) (narrowed_held m n (hold_at v.at.holds s) b p)

  pub shared_note : (modes : List LockMode) (s : ℕ) (hs hs' : List (Hold T)) → s < 64 → slice_get modes s ≡ std.Some mode.Exclusive → AreNarrowed (slice_set modes s mode.Shared) hs hs'
      → hold_at hs' s ≡ downgraded (hold_at hs s)
  shared_note modes s hs hs' l at a = a s mode.Shared l (get-set_same modes s mode.Shared (slice_get_within modes s mode.Exclusive at))

  pub shared_others : (modes : List LockMode) (s : ℕ) (hs hs' : List (Hold T)) → length modes ≡ 64 → AreHeld modes 64 hs → AreNarrowed (slice_set modes s mode.Shared) hs hs'
      → (k : ℕ) → k < 64 → k ≢ s → hold_at hs' k ≡ hold_at hs k
  shared_others modes s hs hs' long held a k l ne =
      let t = get_some modes k (omega (arith, long)) in
      a k t.0 l (get-set_other modes s k mode.Shared ne ∙ t.1) ∙ sym (narrowed_own t.0 (hold_at hs k) (held k t.0 l t.1))
