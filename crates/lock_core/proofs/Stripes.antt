-- One stripe, as plain data: what each event on it keeps.
use Rattle.std.proofs.Common.{◌≡◌, ◌≢◌, ℕ, zero, suc, ◌+◌, ◌-◌, ◌<◌, Bool, true, false, List, [], ◌∷◌, ◌++◌, slice_set, refl, ap, sym, ◌∙◌, subst, ⊎_elim, true≢false, arith}
use Rattle.lock_core.specs.declared.object.LockMode.TheVariants as mode
use Rattle.lock_core.specs.declared.machine.Hold.{Hold}
use Rattle.lock_core.specs.declared.machine.Hold.TheVariants.{Free, Shared, Looked, Exclusive}
use Rattle.lock_core.specs.Machine.{exclusively, note_of, HeldIn, downgraded}
use Rattle.lock_core.specs.Sound.{total, one_if, Grip, shared_in, exclusive_in, IsLooked, StripeOk}
use Rattle.lock_core.proofs.Totals.{total-set, total_at, total_two, total-append, total_found, at_set, at_snoc}
use mathlib.Core.Option.{Option, none, some, some-ne-none}
use lib.ListN.{get_elem?}

latched_true : (b : Bool) → 0 < one_if b → b ≡ true
latched_true true h = refl
latched_true false h = absurd (omega arith)

module _ {T : Type 0} where
  abbrev pub many_shared : List (Grip T) → ℕ
  many_shared gs = total (λ (g : Grip T). shared_in g.hold) gs

  abbrev pub many_exclusive : List (Grip T) → ℕ
  many_exclusive gs = total (λ (g : Grip T). exclusive_in g.hold) gs

  abbrev pub many_latched : List (Grip T) → ℕ
  many_latched gs = total (λ (g : Grip T). one_if g.latched) gs

  free_counts : (h : Hold T) → HeldIn mode.None h → (shared_in h ≡ 0) × (exclusive_in h ≡ 0)
  free_counts Free p = (refl, refl)
  free_counts Shared p = absurd p
  free_counts (Looked x) p = absurd p
  free_counts (Exclusive x) p = absurd p

  shared_counts : (h : Hold T) → HeldIn mode.Shared h → (shared_in h ≡ 1) × (exclusive_in h ≡ 0)
  shared_counts Free p = absurd p
  shared_counts Shared p = (refl, refl)
  shared_counts (Looked x) p = (refl, refl)
  shared_counts (Exclusive x) p = absurd p

  exclusive_counts : (h : Hold T) → HeldIn mode.Exclusive h → (shared_in h ≡ 0) × (exclusive_in h ≡ 1)
  exclusive_counts Free p = absurd p
  exclusive_counts Shared p = absurd p
  exclusive_counts (Looked x) p = absurd p
  exclusive_counts (Exclusive x) p = (refl, refl)

  looked_counts : (h : Hold T) → IsLooked h → (shared_in h ≡ 1) × (exclusive_in h ≡ 0)
  looked_counts Free p = absurd p
  looked_counts Shared p = absurd p
  looked_counts (Looked x) p = (refl, refl)
  looked_counts (Exclusive x) p = absurd p

  pub exclusive_note : (h : Hold T) → HeldIn mode.Exclusive h → (x : T) × (h ≡ Exclusive x)
  exclusive_note Free p = absurd p
  exclusive_note Shared p = absurd p
  exclusive_note (Looked x) p = absurd p
  exclusive_note (Exclusive x) p = (x, refl)

  pub looked_note : (h : Hold T) → IsLooked h → (x : T) × (h ≡ Looked x)
  looked_note Free p = absurd p
  looked_note Shared p = absurd p
  looked_note (Looked x) p = (x, refl)
  looked_note (Exclusive x) p = absurd p

  not_noted : (h : Hold T) → (shared_in h ≡ 0) × (exclusive_in h ≡ 0) → (y : T) → note_of h ≡ some y → ⊥
  not_noted Free p y e = some-ne-none y (sym e)
  not_noted Shared p y e = some-ne-none y (sym e)
  not_noted (Looked x) p y e = let q = p.0 in omega arith
  not_noted (Exclusive x) p y e = let q = p.1 in omega arith

  module _ (w l : ℕ) (home : Option (Option T)) (part : Option T) (gs : List (Grip T)) (c : StripeOk w l home part gs) where
    -- who has the latch holds the stripe shared
    pub latch_is_shared : 0 < l → 0 < many_shared gs
    latch_is_shared h =
        let f = total_found (λ (g : Grip T). one_if g.latched) gs (omega (arith, c.counts.latch_counted)) in
        let p = looked_counts f.1.hold (c.looked f.0 f.1 f.2 (latched_true f.1.latched f.3)) in
        omega (arith, total_at (λ (g : Grip T). shared_in g.hold) gs f.0 f.1 f.2, p.0)

    pub none_exclusive : 0 < many_shared gs → many_exclusive gs ≡ 0
    none_exclusive h = from (many_exclusive gs) refl
      where
        from : (n : ℕ) → n ≡ many_exclusive gs → many_exclusive gs ≡ 0
        from zero e = sym e
        from (suc n) e = let z : many_shared gs ≡ 0 = c.counts.apart (omega arith) in absurd (omega arith)

    pub no_latch : many_shared gs ≡ 0 → l ≡ 0
    no_latch h = from l refl
      where
        from : (n : ℕ) → n ≡ l → l ≡ 0
        from zero e = sym e
        from (suc n) e = let p = latch_is_shared (omega arith) in absurd (omega arith)

    -- the seat at a place changes
    module _ (i : ℕ) (g g' : Grip T) (here : get_elem? gs i ≡ some g) where
      abbrev gs' : List (Grip T)
      gs' = slice_set gs i g'

      pub shared-set : many_shared gs' + shared_in g.hold ≡ many_shared gs + shared_in g'.hold
      shared-set = total-set (λ (g : Grip T). shared_in g.hold) gs i g g' here

      pub exclusive-set : many_exclusive gs' + exclusive_in g.hold ≡ many_exclusive gs + exclusive_in g'.hold
      exclusive-set = total-set (λ (g : Grip T). exclusive_in g.hold) gs i g g' here

      pub latched-set : many_latched gs' + one_if g.latched ≡ many_latched gs + one_if g'.latched
      latched-set = total-set (λ (g : Grip T). one_if g.latched) gs i g g' here

      looked-set : (g'.latched ≡ true → IsLooked g'.hold) → (j : ℕ) (q : Grip T) → get_elem? gs' j ≡ some q → q.latched ≡ true → IsLooked q.hold
      looked-set h j q e t = ⊎_elim
          (λ p. subst (λ (z : Grip T). z.latched ≡ true → IsLooked z.hold) p.1 h t) (λ p. c.looked j q p.1 t) (at_set gs i j g' q e)

      noted-set : ((x : T) → note_of g'.hold ≡ some x → part ≡ some x) → (j : ℕ) (q : Grip T) (x : T) → get_elem? gs' j ≡ some q → note_of q.hold ≡ some x
          → part ≡ some x
      noted-set h j q x e t = ⊎_elim
          (λ p. subst (λ (z : Grip T). note_of z.hold ≡ some x → part ≡ some x) p.1 (h x) t) (λ p. c.noted j q x p.1 t) (at_set gs i j g' q e)

    module _ (i : ℕ) (g : Grip T) (here : get_elem? gs i ≡ some g) where
      pub lock_shared : HeldIn mode.None g.hold → g.latched ≡ false → w < exclusively - 1
          → StripeOk (w + 1) l home part (slice_set gs i (record { hold = Shared; latched = false }))
      lock_shared free calm room =
          let g' : Grip T = record { hold = Shared; latched = false } in
          let f = free_counts g.hold free in
          let s = shared-set i g g' here in
          let x = exclusive-set i g g' here in
          let n = latched-set i g g' here in
          let b = ap one_if calm in
          let f0 = f.0 in
          let f1 = f.1 in
          let none : many_exclusive gs ≡ 0 = omega (arith, c.counts.counted, c.counts.alone) in
          record {
            counts = record {
              counted = omega (arith, c.counts.counted);
              few = omega (arith, c.counts.counted);
              alone = omega arith;
              apart = λ h. absurd (omega arith);
              latch_counted = omega (arith, c.counts.latch_counted);
              latch_alone = c.counts.latch_alone;
            };
            looked = looked-set i g g' here (λ t. absurd (true≢false (sym t)));
            noted = noted-set i g g' here (λ y t. absurd (some-ne-none y (sym t)));
            at_home = λ h. c.at_home (omega arith);
            away = λ h. c.away (omega arith);
          }

      pub lock_exclusive : HeldIn mode.None g.hold → g.latched ≡ false → w ≡ 0 → (p : T) → part ≡ some p
          → (home ≡ some (some p)) × StripeOk exclusively l (some none) part (slice_set gs i (record { hold = Exclusive p; latched = false }))
      lock_exclusive free calm zero_word p at =
          let g' : Grip T = record { hold = Exclusive p; latched = false } in
          let f = free_counts g.hold free in
          let s = shared-set i g g' here in
          let x = exclusive-set i g g' here in
          let n = latched-set i g g' here in
          let b = ap one_if calm in
          let f0 = f.0 in
          let f1 = f.1 in
          let none : many_exclusive gs ≡ 0 = omega (arith, c.counts.counted, c.counts.alone) in
          let few : many_shared gs ≡ 0 = omega (arith, c.counts.counted) in
          let still : l ≡ 0 = no_latch few in (
            c.at_home (omega arith) ∙ ap some at,
            record {
              counts = record {
                counted = omega arith;
                few = omega arith;
                alone = omega arith;
                apart = λ h. omega arith;
                latch_counted = omega (arith, c.counts.latch_counted);
                latch_alone = c.counts.latch_alone;
              };
              looked = looked-set i g g' here (λ t. absurd (true≢false (sym t)));
              noted = noted-set i g g' here (λ y t. at ∙ t);
              at_home = λ h. absurd (omega arith);
              away = λ h. refl;
            },
          )

      pub unlock_shared : HeldIn mode.Shared g.hold → g.latched ≡ false
          → StripeOk (w - 1) l home part (slice_set gs i (record { hold = Free; latched = false }))
      unlock_shared held calm =
          let g' : Grip T = record { hold = Free; latched = false } in
          let f = shared_counts g.hold held in
          let s = shared-set i g g' here in
          let x = exclusive-set i g g' here in
          let n = latched-set i g g' here in
          let b = ap one_if calm in
          let f0 = f.0 in
          let f1 = f.1 in
          let t = total_at (λ (g : Grip T). shared_in g.hold) gs i g here in
          let none : many_exclusive gs ≡ 0 = none_exclusive (omega arith) in
          record {
            counts = record {
              counted = omega (arith, c.counts.counted);
              few = omega (arith, c.counts.few);
              alone = omega arith;
              apart = λ h. absurd (omega arith);
              latch_counted = omega (arith, c.counts.latch_counted);
              latch_alone = c.counts.latch_alone;
            };
            looked = looked-set i g g' here (λ t. absurd (true≢false (sym t)));
            noted = noted-set i g g' here (λ y t. absurd (some-ne-none y (sym t)));
            at_home = λ h. c.at_home (omega arith);
            away = λ h. c.away (omega arith);
          }

      pub unlock_exclusive : HeldIn mode.Exclusive g.hold → g.latched ≡ false
          → StripeOk 0 l (some (note_of g.hold)) part (slice_set gs i (record { hold = Free; latched = false }))
      unlock_exclusive held calm =
          let g' : Grip T = record { hold = Free; latched = false } in
          let f = exclusive_counts g.hold held in
          let s = shared-set i g g' here in
          let x = exclusive-set i g g' here in
          let n = latched-set i g g' here in
          let b = ap one_if calm in
          let f0 = f.0 in
          let f1 = f.1 in
          let t = total_at (λ (g : Grip T). exclusive_in g.hold) gs i g here in
          let a = c.counts.alone in
          let few : many_shared gs ≡ 0 = c.counts.apart (omega arith) in
          let still : l ≡ 0 = no_latch few in
          let y = exclusive_note g.hold held in
          let at : part ≡ some y.0 = c.noted i g y.0 here (ap note_of y.1) in
          record {
            counts = record {
              counted = omega arith;
              few = omega arith;
              alone = omega arith;
              apart = λ h. absurd (omega arith);
              latch_counted = omega (arith, c.counts.latch_counted);
              latch_alone = c.counts.latch_alone;
            };
            looked = looked-set i g g' here (λ t. absurd (true≢false (sym t)));
            noted = noted-set i g g' here (λ y t. absurd (some-ne-none y (sym t)));
            at_home = λ h. ap some (ap note_of y.1 ∙ sym at);
            away = λ h. absurd (omega arith);
          }

      pub downgrade : HeldIn mode.Exclusive g.hold → g.latched ≡ false
          → StripeOk 1 l (some (note_of g.hold)) part (slice_set gs i (record { hold = downgraded g.hold; latched = false }))
      downgrade held calm =
          let y = exclusive_note g.hold held in
          let g' : Grip T = record { hold = downgraded g.hold; latched = false } in
          let f = exclusive_counts g.hold held in
          let f' = looked_counts (downgraded g.hold) (subst (λ (z : Hold T). IsLooked (downgraded z)) (sym y.1) tt) in
          let s = shared-set i g g' here in
          let x = exclusive-set i g g' here in
          let n = latched-set i g g' here in
          let b = ap one_if calm in
          let f0 = f.0 in
          let f1 = f.1 in
          let f0' = f'.0 in
          let f1' = f'.1 in
          let t = total_at (λ (g : Grip T). exclusive_in g.hold) gs i g here in
          let a = c.counts.alone in
          let few : many_shared gs ≡ 0 = c.counts.apart (omega arith) in
          let still : l ≡ 0 = no_latch few in
          let at : part ≡ some y.0 = c.noted i g y.0 here (ap note_of y.1) in
          record {
            counts = record {
              counted = omega arith;
              few = omega arith;
              alone = omega arith;
              apart = λ h. absurd (omega arith);
              latch_counted = omega (arith, c.counts.latch_counted);
              latch_alone = c.counts.latch_alone;
            };
            looked = looked-set i g g' here (λ t. absurd (true≢false (sym t)));
            noted = noted-set i g g' here (λ z t. at ∙ sym (ap (λ (h : Hold T). note_of (downgraded h)) y.1) ∙ t);
            at_home = λ h. ap some (ap note_of y.1 ∙ sym at);
            away = λ h. absurd (omega arith);
          }

      pub latch_take : HeldIn mode.Shared g.hold → g.latched ≡ false → l ≡ 0 → (p : T) → part ≡ some p
          → (home ≡ some (some p)) × StripeOk w 1 (some none) part (slice_set gs i (record { hold = Looked p; latched = true }))
      latch_take held calm idle p at =
          let g' : Grip T = record { hold = Looked p; latched = true } in
          let f = shared_counts g.hold held in
          let s = shared-set i g g' here in
          let x = exclusive-set i g g' here in
          let n = latched-set i g g' here in
          let b = ap one_if calm in
          let f0 = f.0 in
          let f1 = f.1 in
          let t = total_at (λ (g : Grip T). shared_in g.hold) gs i g here in
          let none : many_exclusive gs ≡ 0 = none_exclusive (omega arith) in (
            c.at_home (omega arith) ∙ ap some at,
            record {
              counts = record {
                counted = omega (arith, c.counts.counted);
                few = omega (arith, c.counts.few);
                alone = omega arith;
                apart = λ h. absurd (omega arith);
                latch_counted = omega (arith, c.counts.latch_counted);
                latch_alone = omega arith;
              };
              looked = looked-set i g g' here (λ t. tt);
              noted = noted-set i g g' here (λ y t. at ∙ t);
              at_home = λ h. absurd (omega arith);
              away = λ h. refl;
            },
          )

      pub latch_give : g.latched ≡ true
          → StripeOk w 0 (some (note_of g.hold)) part (slice_set gs i (record { hold = g.hold; latched = false }))
      latch_give taken =
          let g' : Grip T = record { hold = g.hold; latched = false } in
          let held = c.looked i g here taken in
          let y = looked_note g.hold held in
          let f = looked_counts g.hold held in
          let s = shared-set i g g' here in
          let x = exclusive-set i g g' here in
          let n = latched-set i g g' here in
          let b = ap one_if taken in
          let f0 = f.0 in
          let f1 = f.1 in
          let t = total_at (λ (g : Grip T). shared_in g.hold) gs i g here in
          let a = c.counts.latch_alone in
          let none : many_exclusive gs ≡ 0 = none_exclusive (omega arith) in
          let at : part ≡ some y.0 = c.noted i g y.0 here (ap note_of y.1) in
          record {
            counts = record {
              counted = omega (arith, c.counts.counted);
              few = omega (arith, c.counts.few);
              alone = omega arith;
              apart = λ h. absurd (omega arith);
              latch_counted = omega (arith, c.counts.latch_counted);
              latch_alone = omega arith;
            };
            looked = looked-set i g g' here (λ t. absurd (true≢false (sym t)));
            noted = noted-set i g g' here (λ z t. at ∙ sym (ap note_of y.1) ∙ t);
            at_home = λ h. ap some (ap note_of y.1 ∙ sym at);
            away = λ h. absurd (omega arith);
          }

      -- the exclusive holder's note and the part become another part
      pub renew : (p q : T) → g.hold ≡ Exclusive p
          → StripeOk w l home (some q) (slice_set gs i (record { hold = Exclusive q; latched = g.latched }))
      renew p q held =
          let g' : Grip T = record { hold = Exclusive q; latched = g.latched } in
          let e0 : exclusive_in g.hold ≡ 1 = ap exclusive_in held in
          let e1 : shared_in g.hold ≡ 0 = ap shared_in held in
          let s = shared-set i g g' here in
          let x = exclusive-set i g g' here in
          let n = latched-set i g g' here in
          let t = total_at (λ (g : Grip T). exclusive_in g.hold) gs i g here in
          let a = c.counts.alone in
          let few : many_shared gs ≡ 0 = c.counts.apart (omega arith) in
          let no_other : (j : ℕ) (r : Grip T) → j ≢ i → get_elem? gs j ≡ some r → (shared_in r.hold ≡ 0) × (exclusive_in r.hold ≡ 0) =
          λ j r n at. (
            let u = total_at (λ (g : Grip T). shared_in g.hold) gs j r at in omega arith,
            let u = total_two (λ (g : Grip T). exclusive_in g.hold) gs j i r g n at here in omega arith,
          ) in
          record {
            counts = record {
              counted = omega (arith, c.counts.counted);
              few = omega (arith, c.counts.few);
              alone = omega arith;
              apart = λ h. omega arith;
              latch_counted = omega (arith, c.counts.latch_counted);
              latch_alone = c.counts.latch_alone;
            };
            looked = looked-set i g g' here (λ t. absurd (subst (λ (z : Hold T). IsLooked z) held (c.looked i g here t)));
            noted = λ j r y at note. ⊎_elim
                (λ u. ap (λ (z : Grip T). note_of z.hold) u.1 ∙ note)
                (λ u. absurd (not_noted r.hold (no_other j r u.0 u.1) y note)) (at_set gs i j g' r at);
            at_home = λ h. absurd (omega arith);
            away = λ h. c.away (omega arith);
          }

    -- a seat more, which doesn't hold the stripe
    pub newcomer_keeps : (g : Grip T) → g.hold ≡ Free → g.latched ≡ false → StripeOk w l home part (gs ++ g ∷ [])
    newcomer_keeps g held calm =
        let e0 : shared_in g.hold ≡ 0 = ap shared_in held in
        let e1 : exclusive_in g.hold ≡ 0 = ap exclusive_in held in
        let e2 : one_if g.latched ≡ 0 = ap one_if calm in
        let s : many_shared (gs ++ g ∷ []) ≡ many_shared gs = omega (arith, total-append (λ (g : Grip T). shared_in g.hold) gs (g ∷ [])) in
        let x : many_exclusive (gs ++ g ∷ []) ≡ many_exclusive gs = omega (arith, total-append (λ (g : Grip T). exclusive_in g.hold) gs (g ∷ [])) in
        let n : many_latched (gs ++ g ∷ []) ≡ many_latched gs = omega (arith, total-append (λ (g : Grip T). one_if g.latched) gs (g ∷ [])) in
        record {
          counts = record {
            counted = omega (arith, c.counts.counted);
            few = omega (arith, c.counts.few);
            alone = omega (arith, c.counts.alone);
            apart = λ h. s ∙ c.counts.apart (omega arith);
            latch_counted = omega (arith, c.counts.latch_counted);
            latch_alone = c.counts.latch_alone;
          };
          looked = λ j r at t. ⊎_elim (λ u. c.looked j r u.1 t) (λ u. absurd (true≢false (sym t ∙ ap (λ (z : Grip T). z.latched) (sym u.1) ∙ calm))) (at_snoc gs g r j at);
          noted = λ j r y at t. ⊎_elim (λ u. c.noted j r y u.1 t)
              (λ u. absurd (some-ne-none y (sym t ∙ ap (λ (z : Grip T). note_of z.hold) (sym u.1) ∙ ap note_of held))) (at_snoc gs g r j at);
          at_home = λ h. c.at_home (omega arith);
          away = λ h. c.away (omega arith);
        }
