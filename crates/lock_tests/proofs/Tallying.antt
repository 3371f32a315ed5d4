-- Callers of a store of tallies.
use Rattle.std.proofs.Common.{◌≡◌, ◌≢◌, ◌⊎◌, inl, inr, ⊎_elim, ℕ, zero, suc, ◌+◌, ◌<◌, ◌≤◌, Bool, true, false, List, [], ◌∷◌, ◌++◌, length, slice_get, slice_set, replicate, nat_eq, Some, refl, ap, sym, ◌∙◌, subst, length-set, eqb-true, arith}
use Rattle.std.proofs.lemmas.Bool.Decides.{eqb_tells}
use Rattle.std.proofs.lemmas.Option.{none-some}
use Rattle.lock_core.specs.declared.object.LockMode.{LockMode}
use Rattle.lock_core.specs.declared.object.LockMode.TheVariants as mode
use Rattle.lock_core.specs.declared.tally.TallyEntry.{TallyEntry}
use Rattle.lock_core.specs.declared.machine.Hold.{Hold}
use Rattle.lock_core.specs.declared.machine.Hold.TheVariants.{Free, Shared, Looked, Exclusive}
use Rattle.lock_core.specs.Object.{mode_of}
use Rattle.lock_core.specs.Machine.{hold_at, note_of, HeldIn, IsNoted}
use Rattle.lock_core.specs.Tallied.{tally}
use Rattle.path_locks.specs.Narrow.{IsBelow, IsWithin, narrowed, AreNarrowed}
use Rattle.path_locks.specs.Plans.{no_plan}
use Rattle.path_locks.specs.Views.{SeatView, HeldView, TableView, number_of, HoldsNothing, IsHeldBy, AreEverySeat}
use Rattle.path_locks.proofs.Below.{some_inj, get-set_same, get-set_other}
use Rattle.path_locks.proofs.Whole.{hold_at-past}
use Rattle.striped_store.specs.Commits.{CanCommit}
use Rattle.striped_store.specs.Views.{PassView, number_of_pass, IsOf, IsHeld}
use Rattle.striped_store.specs.Closed.{AreEveryPass}
use Rattle.striped_store.proofs.Footprints.{some_read}
use mathlib.Core.Option.{some, some-ne-none}

pub in_replicate : {A : Type 0} (n k : ℕ) (a : A) → k < n → slice_get (replicate n a) k ≡ Some a
in_replicate zero k a h = absurd (omega arith)
in_replicate (suc n) zero a h = refl
in_replicate (suc n) (suc k) a h = in_replicate n k a (omega arith)

long_replicate : {A : Type 0} (n : ℕ) (a : A) → length (replicate n a) ≡ n
long_replicate zero a = refl
long_replicate (suc n) a = ap suc (long_replicate n a)

-- the plan of an entry that reads one stripe and writes another
pub planned : (r w : ℕ) (a b c : List LockMode) → r < 64 → w < 64 → a ≡ no_plan → b ≡ slice_set a r mode.Shared → c ≡ slice_set b w mode.Exclusive
    → (k : ℕ) → k < 64 → slice_get c k ≡ Some (mode_of (nat_eq k w) (nat_eq k r))
planned r w a b c hr hw ea eb ec k h =
    let wide_a : length a ≡ 64 = ap (λ (l : List LockMode). length l) ea ∙ long_replicate 64 mode.None in
    let wide_b : length b ≡ 64 = ap (λ (l : List LockMode). length l) eb ∙ length-set a r mode.Shared ∙ wide_a in
    ap (λ (l : List LockMode). slice_get l k) ec ∙ ⊎_elim
    (λ p. ap (λ (i : ℕ). slice_get (slice_set b w mode.Exclusive) i) p.1 ∙ get-set_same b w mode.Exclusive (omega arith)
    ∙ ap (λ (z : Bool). Some (mode_of z (nat_eq k r))) (sym p.0))
    (λ p. get-set_other b w k mode.Exclusive p.1 ∙ ap (λ (l : List LockMode). slice_get l k) eb ∙ ⊎_elim
    (λ q. ap (λ (i : ℕ). slice_get (slice_set a r mode.Shared) i) q.1 ∙ get-set_same a r mode.Shared (omega arith)
    ∙ ap (λ (z : Bool). Some (mode_of false z)) (sym q.0))
    (λ q. get-set_other a r k mode.Shared q.1 ∙ ap (λ (l : List LockMode). slice_get l k) ea ∙ in_replicate 64 k mode.None h
    ∙ ap (λ (z : Bool). Some (mode_of false z)) (sym q.0))
    (eqb_tells k r)
    ∙ ap (λ (z : Bool). Some (mode_of z (nat_eq k r))) (sym p.0))
    (eqb_tells k w)

-- a stripe more is in the plan of every stripe
pub more_planned : (plan plan' : List LockMode) (n : ℕ) → n < 64 → length plan ≡ 64 → ((k : ℕ) → k < n → slice_get plan k ≡ Some mode.Exclusive)
    → plan' ≡ slice_set plan n mode.Exclusive → (k : ℕ) → k < n + 1 → slice_get plan' k ≡ Some mode.Exclusive
more_planned plan plan' n h long below e k l = ap (λ (z : List LockMode). slice_get z k) e ∙ ⊎_elim
    (λ p. ap (λ (i : ℕ). slice_get (slice_set plan n mode.Exclusive) i) p.1 ∙ get-set_same plan n mode.Exclusive (omega arith))
    (λ p. get-set_other plan n k mode.Exclusive p.1 ∙ below k (let q = p.1 in omega arith))
    (eqb_tells k n)

pub none_long : (plan : List LockMode) → plan ≡ no_plan → length plan ≡ 64
none_long plan e = ap (λ (l : List LockMode). length l) e ∙ long_replicate 64 mode.None

-- the stripe that is read is held
pub read_held : (r w : ℕ) (held : HeldView ℕ) → r < 64 → ((k : ℕ) → k < 64 → slice_get held.modes k ≡ Some (mode_of (nat_eq k w) (nat_eq k r))) → IsHeld held r
read_held r w held h at = (mode_of (nat_eq r w) (nat_eq r r), at r h, some_read (nat_eq r w) (nat_eq r r) (⊎_elim (λ p. p.0) (λ p. absurd (p.1 refl)) (eqb_tells r r)))

pub every_held : (r : ℕ) (held : HeldView ℕ) → r < 64 → ((k : ℕ) → k < 64 → slice_get held.modes k ≡ Some mode.Exclusive) → IsHeld held r
every_held r held h at = (mode.Exclusive, at r h, λ e. cc)

below_exclusive : (m : LockMode) → IsBelow m mode.Exclusive
below_exclusive mode.None = tt
below_exclusive mode.Shared = tt
below_exclusive mode.Exclusive = tt

-- every plan is within that of every stripe
pub within_every : (keep modes : List LockMode) → ((k : ℕ) → k < 64 → slice_get modes k ≡ Some mode.Exclusive) → IsWithin keep modes
within_every keep modes every k m n h a b = subst (λ (z : LockMode). IsBelow m z) (some_inj mode.Exclusive n (sym (every k h) ∙ b)) (below_exclusive m)

noted : {T : Type 0} (w r : Bool) (h : Hold T) → HeldIn (mode_of w r) h → (w ≡ false → r ≡ true → (x : T) × (note_of h ≡ some x)) → IsNoted h
noted w r Free a f = tt
noted true r Shared a f = absurd a
noted false true Shared a f = let t = f refl refl in absurd (some-ne-none t.0 (sym t.1))
noted false false Shared a f = absurd a
noted w r (Looked x) a f = tt
noted w r (Exclusive x) a f = tt

kept : (m : LockMode) (h : Hold ℕ) → HeldIn mode.Exclusive h → IsNoted (narrowed m h)
kept mode.None h a = tt
kept mode.Shared Free a = absurd a
kept mode.Shared Shared a = absurd a
kept mode.Shared (Looked x) a = absurd a
kept mode.Shared (Exclusive x) a = tt
kept mode.Exclusive Free a = absurd a
kept mode.Exclusive Shared a = absurd a
kept mode.Exclusive (Looked x) a = absurd a
kept mode.Exclusive (Exclusive x) a = tt

inside : (k : ℕ) → (k < 64) ⊎ (64 ≤ k)
inside k = split 64 k
  where
    split : (n k : ℕ) → (k < n) ⊎ (n ≤ k)
    split zero k = inr (omega arith)
    split (suc n) zero = inl (omega arith)
    split (suc n) (suc k) = ⊎_elim (λ p. inl (omega arith)) (λ p. inr (omega arith)) (split n k)

pub all_noted : {T : Type 0} (holds : List (Hold T)) → length holds ≡ 64 → ((k : ℕ) → k < 64 → IsNoted (hold_at holds k)) → (k : ℕ) → IsNoted (hold_at holds k)
all_noted {T} holds wide below k = ⊎_elim
    (λ h. below k h)
    (λ h. subst (λ (z : Hold T). IsNoted z) (sym (hold_at-past holds k (omega arith))) tt)
    (inside k)

module _ {K : Type 0} (t : SeatView ℕ TallyEntry K) (held : HeldView ℕ) (e : TallyEntry) (is : IsHeldBy (λ x. x) t held)
    (modes : (k : ℕ) → k < 64 → slice_get held.modes k ≡ Some (mode_of (nat_eq k e.writes) (nat_eq k e.reads))) (wide : length t.me.0.at.holds ≡ 64)
    (own : e.pass ≡ number_of t) where
  -- what is held is the footprint of the entry, and the stripe that it reads was looked at
  pub can_tally : (x : ℕ) → note_of (hold_at t.me.0.at.holds e.reads) ≡ some x → CanCommit tally t e
  can_tally x found = record {
    looked = all_noted t.me.0.at.holds wide
        (λ k h. noted (nat_eq k e.writes) (nat_eq k e.reads) (hold_at t.me.0.at.holds k) (is.modes k _ h (modes k h))
        (λ w r. (x, ap (λ (i : ℕ). note_of (hold_at t.me.0.at.holds i)) (eqb-true k e.reads r) ∙ found)));
    footprint = λ n k h. is.modes k _ h (modes k h);
    fits = (own, tt);
  }

  -- the same where all stripes were held exclusively, and these were kept
  pub can_tally_narrowed : (keep : List LockMode) (holds : List (Hold ℕ)) → ((k : ℕ) → k < 64 → slice_get keep k ≡ Some (mode_of (nat_eq k e.writes) (nat_eq k e.reads)))
      → ((k : ℕ) → k < 64 → HeldIn mode.Exclusive (hold_at holds k)) → AreNarrowed keep holds t.me.0.at.holds → CanCommit tally t e
  can_tally_narrowed keep holds at every narrow = record {
    looked = all_noted t.me.0.at.holds wide
        (λ k h. subst (λ (z : Hold ℕ). IsNoted z) (sym (narrow k _ h (at k h))) (kept _ (hold_at holds k) (every k h)));
    footprint = λ n k h. is.modes k _ h (modes k h);
    fits = (own, tt);
  }

of_two : {A : Type 0} (P : A → Type 0) (a b : A) → P a → P b → (k : ℕ) (s : A) → slice_get (a ∷ b ∷ []) k ≡ Some s → P s
of_two P a b p q zero s e = subst P (some_inj a s e) p
of_two P a b p q (suc zero) s e = subst P (some_inj b s e) q
of_two P a b p q (suc (suc k)) s e = absurd (none-some s e)

pub of_one : {A : Type 0} (P : A → Type 0) (a : A) → P a → (k : ℕ) (s : A) → slice_get (a ∷ []) k ≡ Some s → P s
of_one P a p zero s e = subst P (some_inj a s e) p
of_one P a p (suc k) s e = absurd (none-some s e)

-- one pass is all passes of its store
pub one_is : {T E K : Type 0} (store : TableView E) (a : PassView T E K) → IsOf store a → HoldsNothing a.seat → store.seats ≡ 1
    → number_of_pass a ≡ 0 → AreEveryPass store (a ∷ [])
one_is {T} {E} {K} store a own nothing one first = record {
  many = sym one;
  own = of_one (λ (z : PassView T E K). IsOf store z) a own;
  nothing = of_one (λ (z : PassView T E K). HoldsNothing z.seat) a nothing;
  every = by_number;
}
  where
    by_number : (n : ℕ) → n < store.seats → (k : ℕ) × (p : PassView T E K) × (slice_get (a ∷ []) k ≡ Some p) × (number_of_pass p ≡ n)
    by_number zero h = (0, a, refl, first)
    by_number (suc n) h = absurd (omega arith)

-- nothing is held above a stripe where a plan holds none, nor above one that was added
pub none_above : (modes plan : List LockMode) → modes ≡ plan → plan ≡ no_plan → (k : ℕ) → k < 64 → slice_get modes k ≡ Some mode.None
none_above modes plan e none k h = ap (λ (l : List LockMode). slice_get l k) (e ∙ none) ∙ in_replicate 64 k mode.None h

pub none_beyond : (modes more : List LockMode) (low : ℕ) → more ≡ slice_set modes low mode.Exclusive → ((k : ℕ) → k < 64 → slice_get modes k ≡ Some mode.None)
    → (k : ℕ) → low + 1 ≤ k → k < 64 → slice_get more k ≡ Some mode.None
none_beyond modes more low e none k above h = ap (λ (l : List LockMode). slice_get l k) e ∙ get-set_other modes low k mode.Exclusive (λ q. absurd (omega arith)) ∙ none k h

-- two passes are all passes of their store
pub two_are : {T E K : Type 0} (store : TableView E) (a b : PassView T E K) → IsOf store a → IsOf store b → HoldsNothing a.seat → HoldsNothing b.seat → store.seats ≡ 2
    → number_of_pass a ≡ 0 → number_of_pass b ≡ 1 → AreEveryPass store (a ∷ b ∷ [])
two_are {T} {E} {K} store a b own_a own_b no_a no_b two first second = record {
  many = sym two;
  own = of_two (λ (z : PassView T E K). IsOf store z) a b own_a own_b;
  nothing = of_two (λ (z : PassView T E K). HoldsNothing z.seat) a b no_a no_b;
  every = by_number;
}
  where
    by_number : (n : ℕ) → n < store.seats → (k : ℕ) × (p : PassView T E K) × (slice_get (a ∷ b ∷ []) k ≡ Some p) × (number_of_pass p ≡ n)
    by_number zero h = (0, a, refl, first)
    by_number (suc zero) h = (1, b, refl, second)
    by_number (suc (suc n)) h = absurd (omega arith)

-- two seats are all seats of their table
pub two_seats_are : {T E K : Type 0} (table : TableView E) (a b : SeatView T E K) → a.table ≡ table.id → b.table ≡ table.id → HoldsNothing a → HoldsNothing b
    → table.seats ≡ 2 → number_of a ≡ 0 → number_of b ≡ 1 → AreEverySeat table (a ∷ b ∷ [])
two_seats_are {T} {E} {K} table a b own_a own_b no_a no_b two first second = record {
  own = of_two (λ (z : SeatView T E K). z.table ≡ table.id) a b own_a own_b;
  nothing = of_two (λ (z : SeatView T E K). HoldsNothing z) a b no_a no_b;
  every = by_number;
}
  where
    by_number : (n : ℕ) → n < table.seats → (k : ℕ) × (s : SeatView T E K) × (slice_get (a ∷ b ∷ []) k ≡ Some s) × (number_of s ≡ n)
    by_number zero h = (0, a, refl, first)
    by_number (suc zero) h = (1, b, refl, second)
    by_number (suc (suc n)) h = absurd (omega arith)

-- a mode that is there and is not none
pub not_none : (modes : List LockMode) (k : ℕ) (m : LockMode) → slice_get modes k ≡ Some m → m ≢ mode.None → slice_get modes k ≢ Some mode.None
not_none modes k m at held free = held (some_inj m mode.None (sym at ∙ free))
