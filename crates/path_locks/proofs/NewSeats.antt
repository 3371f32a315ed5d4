-- The seats of a table at its start.
use Rattle.std.proofs.Common.{◌≡◌, ◌⊎◌, inl, inr, ⊎_elim, ℕ, zero, suc, ◌+◌, List, [], ◌∷◌, ◌++◌, length, map, slice_get, replicate, refl, ap, sym, ◌∙◌, subst, arith}
use Rattle.std.specs.Prelude as std
use Rattle.lock_core.specs.declared.machine.Hold.{Hold}
use Rattle.lock_core.specs.declared.object.LockMode.TheVariants as mode
use Rattle.lock_core.specs.Object.{Object}
use Rattle.lock_core.specs.Machine.{HeldIn, IsIdle, newcomer}
use Rattle.lock_core.specs.Sound.{AllFit}
use Rattle.lock_core.proofs.Split.{hold_at-free}
use Rattle.commit_journal.specs.Keeper.{Told}
use Rattle.atomic_table.specs.Table.{Me}
use Rattle.atomic_table.specs.Seated.{TableId}
use Rattle.path_locks.specs.declared.rule.Slot.{Slot}
use Rattle.path_locks.specs.declared.rule.View.{View}
use Rattle.path_locks.specs.declared.rule.Opening.{Opening}
use Rattle.path_locks.specs.Rule.{first_view}
use Rattle.path_locks.specs.Plays.{new_view}
use Rattle.path_locks.specs.Views.{SeatView, counting, table_of, IsNewSeat}
use Rattle.path_locks.proofs.Below.{some_inj}
use Rattle.path_locks.proofs.MakeSeat.{stands_new}
use Rattle.path_locks.specs.Between.{IsBetween}
use Rattle.path_locks.proofs.Betweens.{between_idle}
use Rattle.std.proofs.lemmas.Option.{none-some}

module _ {T E R : Type 0} (o : Object T E R) where
  idle_new : (n : ℕ) (seen : List E) → IsIdle (newcomer o n seen)
  idle_new n seen = record { no_hold = λ k. subst (λ (z : Hold T). HeldIn mode.None z) (sym (hold_at-free k)) tt; no_latch = refl; no_journal = refl }

  module _ {K : Type 0} (tells : K → Told E) (key : Opening E K) where
    -- the view of the first seat tells what the seat is that it makes
    new_me : (me me' : Me (Slot T E K) (View T E)) → me ≡ (counting (first_view o tells key) me.0.made, []) → me' ≡ (new_view o me.0, [])
        → me' ≡ (new_view o (counting (first_view o tells key) me.0.made), [])
    new_me me me' e f = f ∙ ap (λ (z : Me (Slot T E K) (View T E)). let r : Me (Slot T E K) (View T E) = (new_view o z.0, []) in r) e

    pub new_stands : (me me' : Me (Slot T E K) (View T E)) → AllFit o key.journal.value.entries → me ≡ (counting (first_view o tells key) me.0.made, []) → me' ≡ (new_view o me.0, [])
        → IsBetween o me'
    new_stands me me' fits e f = subst (λ (z : Me (Slot T E K) (View T E)). IsBetween o z) (sym (new_me me me' e f))
        (between_idle o _ (stands_new o me.0.made key.journal.value.entries fits) (idle_new me.0.made key.journal.value.entries) refl)

    pub new_seat : (id table : TableId) (place : ℕ) (me me' : Me (Slot T E K) (View T E)) (room : List (std.Option T)) → table ≡ id → me ≡ (counting (first_view o tells key) me.0.made, [])
        → me' ≡ (new_view o me.0, []) → room ≡ replicate 64 std.None
        → IsNewSeat o (table_of tells id key) me.0.made (record { table = table; id = place; me = me'; room = room })
    new_seat id table place me me' room own e f empty =
        subst (λ (z : Me (Slot T E K) (View T E)). IsNewSeat o (table_of tells id key) me.0.made (record { table = table; id = place; me = z; room = room })) (sym (new_me me me' e f))
        (record {
          own = own;
          number = refl;
          seen = refl;
          mine = refl;
          olds = refl;
          limits = refl;
          taken = refl;
          tape = refl;
          nothing = record { idle = idle_new me.0.made key.journal.value.entries; no_slot = refl; room = empty };
        })

    -- the first seat itself
    pub first_stands : (n : ℕ) (me : Me (Slot T E K) (View T E)) → AllFit o key.journal.value.entries → me ≡ (counting (first_view o tells key) n, []) → IsBetween o me
    first_stands n me fits e = subst (λ (z : Me (Slot T E K) (View T E)). IsBetween o z) (sym e)
        (between_idle o _ (stands_new o 0 key.journal.value.entries fits) (idle_new 0 key.journal.value.entries) refl)

    pub first_seat : (id table : TableId) (place n : ℕ) (me : Me (Slot T E K) (View T E)) (room : List (std.Option T)) → table ≡ id → me ≡ (counting (first_view o tells key) n, [])
        → room ≡ replicate 64 std.None → IsNewSeat o (table_of tells id key) 0 (record { table = table; id = place; me = me; room = room })
    first_seat id table place n me room own e empty =
        subst (λ (z : Me (Slot T E K) (View T E)). IsNewSeat o (table_of tells id key) 0 (record { table = table; id = place; me = z; room = room })) (sym e)
        (record {
          own = own;
          number = refl;
          seen = refl;
          mine = refl;
          olds = refl;
          limits = refl;
          taken = refl;
          tape = refl;
          nothing = record { idle = idle_new 0 key.journal.value.entries; no_slot = refl; room = empty };
        })

module _ {A : Type 0} where
  pub get_snoc : (l : List A) (a : A) (k : ℕ) (s : A) → slice_get (l ++ a ∷ []) k ≡ std.Some s → (slice_get l k ≡ std.Some s) ⊎ ((k ≡ length l) × (a ≡ s))
  get_snoc [] a zero s e = inr (refl, some_inj a s e)
  get_snoc [] a (suc k) s e = absurd (none-some s e)
  get_snoc (x ∷ xs) a zero s e = inl e
  get_snoc (x ∷ xs) a (suc k) s e = ⊎_elim (λ p. inl p) (λ p. inr (ap suc p.0, p.1)) (get_snoc xs a k s e)

module _ {B : Type 0} where
  first_or : B → List B → B
  first_or d [] = d
  first_or d (x ∷ xs) = x

  others : List B → List B
  others [] = []
  others (x ∷ xs) = xs

  cons-head : (x y : B) (xs ys : List B) → x ∷ xs ≡ y ∷ ys → x ≡ y
  unfolding first_or
  cons-head x y xs ys e = ap (λ (l : List B). first_or x l) e

  cons-tail : (x y : B) (xs ys : List B) → x ∷ xs ≡ y ∷ ys → xs ≡ ys
  unfolding others
  cons-tail x y xs ys e = ap (λ (l : List B). others l) e

  cons-nil : (x : B) (xs : List B) → x ∷ xs ≡ [] → ⊥
  cons-nil x xs e = let l : length (x ∷ xs) ≡ length (let z : List B = [] in z) = ap (λ (z : List B). length z) e in absurd (omega arith)

module _ {A B : Type 0} where
  -- the last of a list of values that are all the same under a function
  pub popped : (f : A → B) (l xs : List A) (x : A) (n : ℕ) (b : B) → l ≡ xs ++ x ∷ [] → map f l ≡ replicate n b
      → (map f xs ≡ replicate (length xs) b) × (f x ≡ b) × (length xs + 1 ≡ n)
  popped f l xs x n b e r = of_list xs n (ap (λ (z : List A). map f z) (sym e) ∙ r)
    where
      of_list : (ys : List A) (n : ℕ) → map f (ys ++ x ∷ []) ≡ replicate n b → (map f ys ≡ replicate (length ys) b) × (f x ≡ b) × (length ys + 1 ≡ n)
      of_list [] zero q = absurd (cons-nil (f x) [] q)
      of_list [] (suc zero) q = (refl, cons-head (f x) b [] [] q, omega arith)
      of_list [] (suc (suc n)) q = absurd (cons-nil b (replicate n b) (sym (cons-tail (f x) b [] (b ∷ replicate n b) q)))
      of_list (y ∷ ys) zero q = absurd (cons-nil (f y) (map f (ys ++ x ∷ [])) q)
      of_list (y ∷ ys) (suc n) q =
          let t = of_list ys n (cons-tail (f y) b (map f (ys ++ x ∷ [])) (replicate n b) q) in
          let h = cons-head (f y) b (map f (ys ++ x ∷ [])) (replicate n b) q in
          ((λ i. h i ∷ t.0 i), t.1, omega (arith, t.2))

module _ {T E R K : Type 0} (o : Object T E R) (tells : K → Told E) (key : Opening E K) (id : TableId) where
  -- one more seat is made
  pub made_seats : (seats : List (SeatView T E K)) (seat : SeatView T E K) (n : ℕ) → n ≡ length seats + 1
      → ((k : ℕ) (s : SeatView T E K) → slice_get seats k ≡ std.Some s → IsNewSeat o (table_of tells id key) (k + 1) s) → IsNewSeat o (table_of tells id key) n seat
      → (k : ℕ) (s : SeatView T E K) → slice_get (seats ++ seat ∷ []) k ≡ std.Some s → IsNewSeat o (table_of tells id key) (k + 1) s
  made_seats seats seat n e each new k s at = ⊎_elim (λ p. each k s p)
      (λ p. let same : n ≡ k + 1 = omega (arith, p.0) in
      subst (λ (i : ℕ). IsNewSeat o (table_of tells id key) i s) same (subst (λ (z : SeatView T E K). IsNewSeat o (table_of tells id key) n z) p.1 new)) (get_snoc seats seat k s at)

  -- the first seat goes before the others
  pub seats_in_order : (seats all : List (SeatView T E K)) (seat : SeatView T E K) → all ≡ seat ∷ seats
      → ((k : ℕ) (s : SeatView T E K) → slice_get seats k ≡ std.Some s → IsNewSeat o (table_of tells id key) (k + 1) s) → IsNewSeat o (table_of tells id key) 0 seat
      → (k : ℕ) (s : SeatView T E K) → slice_get all k ≡ std.Some s → IsNewSeat o (table_of tells id key) k s
  seats_in_order seats all seat e each new k s at = by_place k (ap (λ (l : List (SeatView T E K)). slice_get l k) (sym e) ∙ at)
    where
      by_place : (k : ℕ) → slice_get (seat ∷ seats) k ≡ std.Some s → IsNewSeat o (table_of tells id key) k s
      by_place zero q = subst (λ (z : SeatView T E K). IsNewSeat o (table_of tells id key) 0 z) (some_inj seat s q) new
      by_place (suc k) q = let next : k + 1 ≡ suc k = omega arith in subst (λ (i : ℕ). IsNewSeat o (table_of tells id key) i s) next (each k s q)

  -- the count of the first seat
  pub first_counts : (me : Me (Slot T E K) (View T E)) (n : ℕ) → n ≡ 1 → me ≡ (first_view o tells key, []) → me ≡ (counting (first_view o tells key) n, [])
  first_counts me n e f = f ∙ ap (λ (k : ℕ). let r : Me (Slot T E K) (View T E) = (counting (first_view o tells key) k, []) in r) (sym e)

  pub next_counts : (me me' : Me (Slot T E K) (View T E)) (m n : ℕ) → me ≡ (counting (first_view o tells key) m, []) → me' ≡ (counting (first_view o tells key) (me.0.made + 1), []) → n ≡ m + 1
      → me' ≡ (counting (first_view o tells key) n, [])
  next_counts me me' m n e f s =
      let made : me.0.made ≡ m = ap (λ (z : Me (Slot T E K) (View T E)). z.0.made) e in
      f ∙ ap (λ (k : ℕ). let r : Me (Slot T E K) (View T E) = (counting (first_view o tells key) k, []) in r) (ap (λ (k : ℕ). k + 1) made ∙ sym s)

  pub new_is : (me : Me (Slot T E K) (View T E)) (m : ℕ) (s : SeatView T E K) → me ≡ (counting (first_view o tells key) m, []) → IsNewSeat o (table_of tells id key) me.0.made s
      → IsNewSeat o (table_of tells id key) m s
  new_is me m s e new = subst (λ (k : ℕ). IsNewSeat o (table_of tells id key) k s) (ap (λ (z : Me (Slot T E K) (View T E)). z.0.made) e) new

  pub no_seats : (seats : List (SeatView T E K)) → seats ≡ [] → (k : ℕ) (s : SeatView T E K) → slice_get seats k ≡ std.Some s → IsNewSeat o (table_of tells id key) (k + 1) s
  no_seats seats e k s at = absurd (none-some s (ap (λ (l : List (SeatView T E K)). slice_get l k) (sym e) ∙ at))
