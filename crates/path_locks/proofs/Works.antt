-- Work in places, one after the other.
use Rattle.std.proofs.Common.{◌≡◌, ◌⊎◌, inl, inr, ⊎_elim, ℕ, zero, suc, ◌+◌, ◌<◌, ◌≤◌, List, [], ◌∷◌, length, slice_get, slice_set, true≢false, false, refl, ap, sym, ◌∙◌, subst, length-set, arith}
use Rattle.std.specs.Prelude as std
use Rattle.path_locks.specs.Holding.{bared}
use Rattle.lock_core.specs.declared.object.LockMode.{LockMode}
use Rattle.path_locks.specs.Plans.{AreHeld}
use Rattle.path_locks.specs.Views.{SeatView, HeldView, IsHeldBy}
use Rattle.path_locks.specs.Working.{IsReady, AreReady, AreReadyBelow, IsChangedAt, AreChangedBelow, AreChanged}
use Rattle.std.proofs.lemmas.Option.{slice_get_within}
use Rattle.path_locks.proofs.Below.{some_inj, get-set_same, get-set_other}
use mathlib.Core.Logic.{dite}
use native.Mathlib.Decide.{ℕ_discrete}

pub lt_or_ge : (k n : ℕ) → (k < n) ⊎ (n ≤ k)
lt_or_ge k zero = inr (omega arith)
lt_or_ge zero (suc n) = inl (omega arith)
lt_or_ge (suc k) (suc n) = ⊎_elim (λ p. inl (omega arith)) (λ p. inr (omega arith)) (lt_or_ge k n)

module _ {A : Type 0} where
  pub set_twice : (l : List A) (i : ℕ) (a b : A) → slice_set (slice_set l i a) i b ≡ slice_set l i b
  set_twice [] i a b = refl
  set_twice (x ∷ xs) zero a b = refl
  set_twice (x ∷ xs) (suc i) a b = ap (λ (l : List A). x ∷ l) (set_twice xs i a b)

pub set_there : {A : Type 0} (l : List A) (i : ℕ) (a : A) → slice_get l i ≡ std.Some a → slice_set l i a ≡ l
set_there [] i a e = refl
set_there (x ∷ xs) zero a e = ap (λ (z : _). z ∷ xs) (sym (some_inj x a e))
set_there (x ∷ xs) (suc i) a e = ap (λ (l : List _). x ∷ l) (set_there xs i a e)

pub is_none_is : {A : Type 0} (q : std.Option A) → std.is_some q ≡ false → q ≡ std.None
is_none_is std.None e = refl
is_none_is (std.Some a) e = absurd (true≢false e)

module _ {T : Type 0} (bare : T → T) (f : std.Option T → std.Option T) where
  pub changed_none : (xs ys : List (std.Option T)) → AreChangedBelow bare f 0 xs xs
  changed_none xs ys = record { long = refl; done = λ k q l e. absurd (omega arith); left = λ k q l e. e }

  pub changed_next : (xs ys zs : List (std.Option T)) (n : ℕ) → AreChangedBelow bare f n xs ys → IsChangedAt bare f n ys zs → AreChangedBelow bare f (n + 1) xs zs
  changed_next xs ys zs n a c =
      let l = slice_get_within ys n c.old c.there in
      record {
        long = ap (λ (z : List (std.Option T)). length z) c.is ∙ length-set ys n c.new ∙ a.long;
        done = λ k q below e. dite (ℕ_discrete k n)
            (λ s.
            let same : c.old ≡ q = some_inj c.old q (sym c.there ∙ a.left n q (omega arith) (ap (λ (i : ℕ). slice_get xs i) (sym s) ∙ e)) in (
              c.new,
              ap (λ (z : List (std.Option T)). slice_get z k) c.is ∙ ap (λ (i : ℕ). slice_get (slice_set ys n c.new) i) s ∙ get-set_same ys n c.new l,
              c.becomes ∙ ap (λ (z : std.Option T). f (bared bare z)) same,
            ))
            (λ ne. let t = a.done k q (omega arith) e in
            (t.0, ap (λ (z : List (std.Option T)). slice_get z k) c.is ∙ get-set_other ys n k c.new ne ∙ t.1, t.2));
        left = λ k q above e. ap (λ (z : List (std.Option T)). slice_get z k) c.is ∙ get-set_other ys n k c.new (λ s. omega arith) ∙ a.left k q (omega arith) e;
      }

  pub changed_all : (xs ys : List (std.Option T)) (n : ℕ) → length xs ≤ n → AreChangedBelow bare f n xs ys → AreChanged bare f xs ys
  changed_all xs ys n l a = record { long = a.long; each = λ k q e. a.done k q (let w = slice_get_within xs k q e in omega arith) e }

  -- a place without a part stays as it is
  pub stays_none : (xs : List (std.Option T)) (n : ℕ) (q : std.Option T) → slice_get xs n ≡ std.Some q → std.is_some q ≡ false → f std.None ≡ std.None → IsChangedAt bare f n xs xs
  stays_none xs n q at e none = record {
    old = std.None;
    new = std.None;
    there = at ∙ ap (λ (z : std.Option T). std.Some z) (is_none_is q e);
    is = sym (set_there xs n std.None (at ∙ ap (λ (z : std.Option T). std.Some z) (is_none_is q e)));
    becomes = sym none;
  }

  -- one place changes, or stays without a part
  pub changed_at : (xs ms ys : List (std.Option T)) (n : ℕ) (q r : std.Option T) → slice_get xs n ≡ std.Some q → ms ≡ slice_set xs n std.None → ys ≡ slice_set ms n r
      → bared bare r ≡ f (bared bare q) → IsChangedAt bare f n xs ys
  changed_at xs ms ys n q r at e g b = record {
    old = q;
    new = r;
    there = at;
    is = g ∙ ap (λ (z : List (std.Option T)). slice_set z n r) e ∙ set_twice xs n std.None r;
    becomes = b;
  }

  pub changed_not : (xs ys : List (std.Option T)) (n : ℕ) (q : std.Option T) → slice_get xs n ≡ std.Some q → q ≡ std.None → ys ≡ slice_set xs n std.None
      → std.None ≡ f std.None → IsChangedAt bare f n xs ys
  changed_not xs ys n q at e g b = record { old = std.None; new = std.None; there = at ∙ ap (λ (z : std.Option T). std.Some z) e; is = g; becomes = b }

module _ {T : Type 0} (bare : T → T) where
  -- a reserve that stops leaves the parts the same
  pub same_stop : (xs ys : List (std.Option T)) (n : ℕ) → AreChangedBelow bare (λ q. q) n xs ys → AreChanged bare (λ q. q) xs ys
  same_stop xs ys n a = record {
    long = a.long;
    each = λ k q e. by_order k q e (lt_or_ge k n);
  }
    where
      by_order : (k : ℕ) (q : std.Option T) → slice_get xs k ≡ std.Some q → (k < n) ⊎ (n ≤ k) → (r : std.Option T) × (slice_get ys k ≡ std.Some r) × (bared bare r ≡ bared bare q)
      by_order k q e (inl l) = a.done k q l e
      by_order k q e (inr l) = (q, a.left k q l e, refl)

module _ {T W : Type 0} (ready : T → W → Type 0) (w : W) where
  pub ready_next : (ys zs : List (std.Option T)) (n : ℕ) (bare : T → T) (f : std.Option T → std.Option T) → AreReadyBelow ready w n ys → IsChangedAt bare f n ys zs
      → (r : std.Option T) → slice_get zs n ≡ std.Some r → IsReady ready w r → AreReadyBelow ready w (n + 1) zs
  ready_next ys zs n bare f a c r at now k q below e = dite (ℕ_discrete k n)
      (λ s. subst (λ (z : std.Option T). IsReady ready w z) (some_inj r q (sym at ∙ ap (λ (i : ℕ). slice_get zs i) (sym s) ∙ e)) now)
      (λ ne. a k q (omega arith) (sym (ap (λ (z : List (std.Option T)). slice_get z k) c.is ∙ get-set_other ys n k c.new ne) ∙ e))

  pub ready_all : (ys : List (std.Option T)) (n : ℕ) → length ys ≤ n → AreReadyBelow ready w n ys → AreReady ready w ys
  ready_all ys n l a k q e = a k q (let i = slice_get_within ys k q e in omega arith) e

module _ {A E : Type 0} where
  pub if_ok_more : (r : std.Result A E) (P Q : A → Type 0) → ((a : A) → P a → Q a) → std.IfOk r P → std.IfOk r Q
  if_ok_more (std.Ok a) P Q f p = f a p
  if_ok_more (std.Err e) P Q f p = p

module _ {A : Type 0} where
  pub got_placed : (xs ms ys : List A) (n : ℕ) (a b : A) → ms ≡ slice_set xs n b → ys ≡ slice_set ms n a → n < length xs → slice_get ys n ≡ std.Some a
  got_placed xs ms ys n a b e f l =
      let long : length ms ≡ length xs = ap (λ (z : List A). length z) e ∙ length-set xs n b in
      ap (λ (z : List A). slice_get z n) f ∙ get-set_same ms n a (omega arith)

-- what is held stays held, where the parts are the same
pub same_held : {T E K : Type 0} (bare : T → T) (s : SeatView T E K) (h h' : HeldView T) → h'.modes ≡ h.modes → AreChanged bare (λ q. q) h.parts h'.parts → IsHeldBy bare s h → IsHeldBy bare s h'
same_held bare s h h' em same held = record {
  no_latch = held.no_latch;
  modes = subst (λ (z : List LockMode). AreHeld z 64 s.me.0.at.holds) (sym em) held.modes;
  slots = held.slots;
  long = same.long ∙ held.long;
  parts = λ k l. let q = held.parts k l in let t = same.each k q.0 q.1 in (t.0, t.1, t.2 ∙ q.2);
}
