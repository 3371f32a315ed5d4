-- What marks say of holds.
use Rattle.std.proofs.Common.{◌≡◌, ℕ, zero, suc, Bool, true, false, List, [], ◌∷◌, length, map, slice_set, refl, ap, sym, ◌∙◌, subst, not, eqb, eqb-true, true≢false, arith}
use Rattle.std.specs.Prelude as std
use Rattle.std.specs.Option.{option_eq}
use Rattle.lock_core.specs.declared.object.LockMode.{LockMode}
use Rattle.lock_core.specs.declared.object.LockMode.TheVariants as mode
use Rattle.lock_core.specs.declared.machine.Hold.{Hold}
use Rattle.lock_core.specs.declared.machine.Hold.TheVariants as hold
use Rattle.lock_core.specs.declared.machine.Sitting.{Sitting}
use Rattle.lock_core.specs.declared.marks.Mark.{Mark}
use Rattle.lock_core.specs.declared.marks.Mark.TheVariants.{Looked}
use Rattle.lock_core.specs.declared.marks.Glance.{Glance}
use Rattle.lock_core.specs.Machine.{hold_at, HeldIn, IsNoted, with_hold, with_latch, with_journal, downgraded, IsIdle}
use Rattle.lock_core.specs.Marks.{sketch, mark_of, mark_at, MarkedIn, IsNotedMark, FreeFrom, AllNoted, Looks, reglanced, known_pair}
use Rattle.lock_core.proofs.Totals.{map-set}

pub true_of_not : (b : Bool) → not b ≡ false → b ≡ true
true_of_not true e = refl
true_of_not false e = absurd (true≢false e)

not_false : (b : Bool) → false ≡ not b → b ≡ true
not_false b e = true_of_not b (sym e)

-- a latch that isn't another one
pub same_latch : (l : std.Option ℕ) (s : ℕ) → false ≡ not (option_eq eqb l (std.Some s)) → l ≡ std.Some s
same_latch std.None s e = absurd (true≢false (sym e))
same_latch (std.Some x) s e = ap (λ (z : ℕ). std.Some z) (eqb-true x s (not_false (eqb x s) e))

module _ {T : Type 0} where
  mark_is : (hs : List (Hold T)) (k : ℕ) → mark_at (map mark_of hs) k ≡ mark_of (hold_at hs k)
  mark_is [] k = refl
  mark_is (h ∷ hs) zero = refl
  mark_is (h ∷ hs) (suc k) = mark_is hs k

  held_of : (md : LockMode) (h : Hold T) → MarkedIn md (mark_of h) → HeldIn md h
  held_of mode.None hold.Free p = p
  held_of mode.None hold.Shared p = p
  held_of mode.None (hold.Looked x) p = p
  held_of mode.None (hold.Exclusive x) p = p
  held_of mode.Shared hold.Free p = p
  held_of mode.Shared hold.Shared p = p
  held_of mode.Shared (hold.Looked x) p = p
  held_of mode.Shared (hold.Exclusive x) p = p
  held_of mode.Exclusive hold.Free p = p
  held_of mode.Exclusive hold.Shared p = p
  held_of mode.Exclusive (hold.Looked x) p = p
  held_of mode.Exclusive (hold.Exclusive x) p = p

  marked_of : (md : LockMode) (h : Hold T) → HeldIn md h → MarkedIn md (mark_of h)
  marked_of mode.None hold.Free p = p
  marked_of mode.None hold.Shared p = p
  marked_of mode.None (hold.Looked x) p = p
  marked_of mode.None (hold.Exclusive x) p = p
  marked_of mode.Shared hold.Free p = p
  marked_of mode.Shared hold.Shared p = p
  marked_of mode.Shared (hold.Looked x) p = p
  marked_of mode.Shared (hold.Exclusive x) p = p
  marked_of mode.Exclusive hold.Free p = p
  marked_of mode.Exclusive hold.Shared p = p
  marked_of mode.Exclusive (hold.Looked x) p = p
  marked_of mode.Exclusive (hold.Exclusive x) p = p

  noted_of : (h : Hold T) → IsNotedMark (mark_of h) → IsNoted h
  noted_of hold.Free p = p
  noted_of hold.Shared p = p
  noted_of (hold.Looked x) p = p
  noted_of (hold.Exclusive x) p = p

  noted_mark_of : (h : Hold T) → IsNoted h → IsNotedMark (mark_of h)
  noted_mark_of hold.Free p = p
  noted_mark_of hold.Shared p = p
  noted_mark_of (hold.Looked x) p = p
  noted_mark_of (hold.Exclusive x) p = p

  pub downgraded_mark : (h : Hold T) → HeldIn mode.Exclusive h → mark_of (downgraded h) ≡ Looked
  downgraded_mark hold.Free p = absurd p
  downgraded_mark hold.Shared p = absurd p
  downgraded_mark (hold.Looked x) p = absurd p
  downgraded_mark (hold.Exclusive x) p = refl

module _ {T E : Type 0} (g : Glance) (x : Sitting T E) (looks : Looks g x) where
  at_is : (k : ℕ) → mark_at g.marks k ≡ mark_of (hold_at x.holds k)
  at_is k = ap (λ (l : List Mark). mark_at l k) looks.marks ∙ mark_is x.holds k

  pub held : (md : LockMode) (k : ℕ) → MarkedIn md (mark_at g.marks k) → HeldIn md (hold_at x.holds k)
  held md k p = held_of md (hold_at x.holds k) (subst (λ (z : Mark). MarkedIn md z) (at_is k) p)

  pub marked : (md : LockMode) (k : ℕ) → HeldIn md (hold_at x.holds k) → MarkedIn md (mark_at g.marks k)
  marked md k p = subst (λ (z : Mark). MarkedIn md z) (sym (at_is k)) (marked_of md (hold_at x.holds k) p)

  pub all_noted : AllNoted g.marks → (k : ℕ) → IsNoted (hold_at x.holds k)
  all_noted p k = noted_of (hold_at x.holds k) (subst IsNotedMark (at_is k) (p k))

  pub all_marked : ((k : ℕ) → IsNoted (hold_at x.holds k)) → AllNoted g.marks
  all_marked p k = subst IsNotedMark (sym (at_is k)) (noted_mark_of (hold_at x.holds k) (p k))

  pub idle_of : FreeFrom g.marks 0 × (g.latch ≡ std.None) × (g.journal ≡ false) → IsIdle x
  idle_of p = record {
    no_hold = λ k. held mode.None k (p.0 k (omega arith));
    no_latch = sym looks.latch ∙ p.1;
    no_journal = sym looks.journal ∙ p.2;
  }

  pub idle_glance : IsIdle x → FreeFrom g.marks 0 × (g.latch ≡ std.None) × (g.journal ≡ false)
  idle_glance i = (λ k _. marked mode.None k (i.no_hold k), looks.latch ∙ i.no_latch, looks.journal ∙ i.no_journal)

  -- another hold of one stripe is another mark
  pub glanced_hold : (s : ℕ) (h : Hold T) (k : Mark) → mark_of h ≡ k
      → sketch (with_hold x s h) ≡ reglanced (sketch x) (record { live = g.live; marks = slice_set g.marks s k; latch = g.latch; journal = g.journal; seen = g.seen })
  glanced_hold s h k is =
      let marks : map mark_of (slice_set x.holds s h) ≡ slice_set g.marks s k = map-set mark_of x.holds s h
      ∙ ap (λ (l : List Mark). slice_set l s (mark_of h)) (sym looks.marks) ∙ ap (λ (z : Mark). slice_set g.marks s z) is in
      λ i. record {
        live = sym looks.live i;
        number = x.number;
        marks = marks i;
        latch = sym looks.latch i;
        journal = sym looks.journal i;
        seen = sym looks.seen i;
        olds = map known_pair x.olds;
      }

  pub glanced_latched : (s : ℕ) (h : Hold T) (k : Mark) (l : std.Option ℕ) → mark_of h ≡ k
      → sketch (with_latch (with_hold x s h) l) ≡ reglanced (sketch x) (record { live = g.live; marks = slice_set g.marks s k; latch = l; journal = g.journal; seen = g.seen })
  glanced_latched s h k l is =
      let marks : map mark_of (slice_set x.holds s h) ≡ slice_set g.marks s k = map-set mark_of x.holds s h
      ∙ ap (λ (l : List Mark). slice_set l s (mark_of h)) (sym looks.marks) ∙ ap (λ (z : Mark). slice_set g.marks s z) is in
      λ i. record {
        live = sym looks.live i;
        number = x.number;
        marks = marks i;
        latch = l;
        journal = sym looks.journal i;
        seen = sym looks.seen i;
        olds = map known_pair x.olds;
      }

  pub glanced_latch : (l : std.Option ℕ)
      → sketch (with_latch x l) ≡ reglanced (sketch x) (record { live = g.live; marks = g.marks; latch = l; journal = g.journal; seen = g.seen })
  glanced_latch l = λ i. record {
    live = sym looks.live i;
    number = x.number;
    marks = sym looks.marks i;
    latch = l;
    journal = sym looks.journal i;
    seen = sym looks.seen i;
    olds = map known_pair x.olds;
  }

  pub glanced_journal : (b : Bool) (h : List E) (n : ℕ) → length h ≡ n
      → sketch (with_journal x b h) ≡ reglanced (sketch x) (record { live = g.live; marks = g.marks; latch = g.latch; journal = b; seen = n })
  glanced_journal b h n is = λ i. record {
    live = sym looks.live i;
    number = x.number;
    marks = sym looks.marks i;
    latch = sym looks.latch i;
    journal = b;
    seen = is i;
    olds = map known_pair x.olds;
  }
