-- Passes out of new seats, and what the end of the table tells of passes.
use Rattle.std.proofs.Common.{◌≡◌, ◌⊎◌, inl, inr, ⊎_elim, ℕ, zero, suc, ◌<◌, List, [], ◌∷◌, ◌++◌, length, map, slice_get, Some, refl, ap, sym, ◌∙◌, subst}
use Rattle.std.proofs.lemmas.Option.{none-some}
use Rattle.lock_core.specs.Object.{Object, by_pass}
use Rattle.lock_core.specs.Sound.{MadeBelow}
use Rattle.path_locks.specs.Views.{SeatView, TableView, HoldsNothing, IsNewSeat, AreEverySeat, SawOf}
use Rattle.path_locks.proofs.Below.{some_inj}
use Rattle.path_locks.proofs.NewSeats.{get_snoc}
use Rattle.striped_store.specs.Views.{PassView, number_of_pass, IsOpenPass, AreNewPasses, AreOpenPasses}
use Rattle.striped_store.specs.UsedIds.{AreBelow}
use Rattle.striped_store.specs.Closed.{AreEveryPass, IsOfPass, AreByPasses}
use mathlib.Core.Option.{some}
use lib.ListN.{get_elem?}

module _ {A : Type 0} where
  -- the element that comes next
  pub next_there : (ys : List A) (y : A) (rest xs : List A) → ys ++ y ∷ rest ≡ xs → slice_get xs (length ys) ≡ Some y
  next_there ys y rest xs e = ap (λ (l : List A). slice_get l (length ys)) (sym e) ∙ here ys
    where
      here : (zs : List A) → slice_get (zs ++ y ∷ rest) (length zs) ≡ Some y
      here [] = refl
      here (z ∷ zs) = here zs

module _ {A : Type 0} where
  got : (xs : List A) (n : ℕ) (e : A) → slice_get xs n ≡ Some e → get_elem? xs n ≡ some e
  got [] n e q = absurd (none-some e q)
  got (x ∷ xs) zero e q = ap (λ (z : A). some z) (some_inj x e q)
  got (x ∷ xs) (suc n) e q = got xs n e q

split_get : {A : Type 0} (xs ys : List A) (n : ℕ) (e : A) → slice_get (xs ++ ys) n ≡ Some e → (slice_get xs n ≡ Some e) ⊎ ((m : ℕ) × (slice_get ys m ≡ Some e))
split_get [] ys n e q = inr (n, q)
split_get (x ∷ xs) ys zero e q = inl q
split_get (x ∷ xs) ys (suc n) e q = split_get xs ys n e q

module _ {T E K : Type 0} where
  abbrev pub seat_of : PassView T E K → SeatView T E K
  seat_of p = p.seat

  pub open_pass : {R : Type 0} (o : Object T E R) (table : TableView E) (n : ℕ) (s : SeatView T E K) → IsNewSeat o table n s → IsOpenPass o table n (record { seat = s; wide = 0 })
  open_pass o table n s new = record {
    own = new.own;
    number = new.number;
    seen = new.seen;
    mine = new.mine;
    limits = new.limits;
    wide = refl;
    taken = new.taken;
    tape = new.tape;
    nothing = new.nothing;
  }

  -- a pass of a store that starts with no entry
  pub new_passes : {R : Type 0} (o : Object T E R) (table : TableView E) (passes : List (PassView T E K)) → table.opening ≡ [] → AreOpenPasses o table passes → AreNewPasses table passes
  new_passes o table passes opening opens k p at =
      let new = opens k p at in
      record {
        own = new.own;
        number = new.number;
        seen = new.seen ∙ opening;
        mine = new.mine ∙ ap (λ (z : List E). by_pass o k z) opening;
        limits = new.limits;
        wide = new.wide;
        taken = new.taken;
        tape = new.tape;
        nothing = new.nothing;
      }

  pub open_passes_more : {R : Type 0} (o : Object T E R) (store : TableView E) (passes : List (PassView T E K)) (p : PassView T E K) → AreOpenPasses o store passes
      → IsOpenPass o store (length passes) p → AreOpenPasses o store (passes ++ p ∷ [])
  open_passes_more o store passes p new last k q at = ⊎_elim
      (λ e. new k q e)
      (λ e. subst (λ (i : ℕ). IsOpenPass o store i q) (sym e.0) (subst (λ (z : PassView T E K). IsOpenPass o store (length passes) z) e.1 last))
      (get_snoc passes p k q at)

  mapped : (passes : List (PassView T E K)) (k : ℕ) (s : SeatView T E K) → slice_get (map seat_of passes) k ≡ Some s
      → (p : PassView T E K) × (slice_get passes k ≡ Some p) × (p.seat ≡ s)
  mapped [] k s e = absurd (none-some s e)
  mapped (p ∷ ps) zero s e = (p, refl, some_inj p.seat s e)
  mapped (p ∷ ps) (suc k) s e = mapped ps k s e

  pub map_there : (passes : List (PassView T E K)) (k : ℕ) (p : PassView T E K) → slice_get passes k ≡ Some p → slice_get (map seat_of passes) k ≡ Some p.seat
  map_there [] k p e = absurd (none-some p e)
  map_there (q ∷ ps) zero p e = ap (λ (z : PassView T E K). Some z.seat) (some_inj q p e)
  map_there (q ∷ ps) (suc k) p e = map_there ps k p e

  -- the seats of all passes are all seats
  pub every_seat : (table : TableView E) (passes : List (PassView T E K)) → AreEveryPass table passes
      → AreEverySeat table (map seat_of passes)
  every_seat table passes every = record {
    own = λ k s at. let t = mapped passes k s at in sym (ap (λ (z : SeatView T E K). z.table) t.2) ∙ every.own k t.0 t.1;
    nothing = λ k s at. let t = mapped passes k s at in subst (λ (z : SeatView T E K). HoldsNothing z) t.2 (every.nothing k t.0 t.1);
    every = λ n h. let t = every.every n h in (t.0, t.1.seat, map_there passes t.0 t.1 t.2, t.3);
  }

  module _ {R : Type 0} (o : Object T E R) (h : List E) where
    pub of_passes : (passes : List (PassView T E K)) → ((k : ℕ) (s : SeatView T E K) → slice_get (map seat_of passes) k ≡ Some s → SawOf o h s)
        → (k : ℕ) (p : PassView T E K) → slice_get passes k ≡ Some p → IsOfPass o h p
    of_passes passes saw k p at = let t = saw k p.seat (map_there passes k p at) in record { seen = t.seen; mine = t.mine }

    -- each entry is by a pass
    pub by_passes : (store : TableView E) (passes : List (PassView T E K)) → AreBelow o store.seats store.opening → AreEveryPass store passes
        → MadeBelow o store.opening store.seats h → AreByPasses o h passes
    by_passes store passes opened every made n e at = of_entry (⊎_elim (λ p. opened n e p) (λ p. made.below p.0 e (got made.rest p.0 e p.1))
        (split_get store.opening made.rest n e (ap (λ (z : List E). slice_get z n) made.begins ∙ at)))
      where
        of_entry : o.by e < store.seats → (k : ℕ) × (p : PassView T E K) × (slice_get passes k ≡ Some p) × (o.by e ≡ number_of_pass p)
        of_entry below = let t = every.every (o.by e) below in (t.0, t.1, t.2, sym t.3)
