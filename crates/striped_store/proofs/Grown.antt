-- Journals that grow, and what is held while one is taken.
use Rattle.std.proofs.Common.{◌≡◌, ℕ, ◌+◌, ◌<◌, ◌≤◌, List, [], ◌∷◌, ◌++◌, length, length-append, nat_eq, refl, ap, sym, ◌∙◌, subst, true≢false, arith}
use Rattle.std.proofs.lemmas.List.Sums.{length-filter, count_by-le-length}
use Rattle.std.specs.Prelude.{Option, None, Some, Result, Ok, Err, IsOk, IfOk}
use Rattle.commit_journal.specs.Keeper.{AreKept, kept_with}
use Rattle.lock_core.specs.declared.machine.Hold.{Hold}
use Rattle.lock_core.specs.Object.{Object, mode_of, replay}
use Rattle.lock_core.specs.Machine.{hold_at, note_of, notes_or, HeldIn, IsNoted}
use Rattle.lock_core.specs.Sound.{StartsWith}
use Rattle.path_locks.specs.Alike.{HoldsAlike}
use Rattle.path_locks.specs.Committing.{MayCommit}
use Rattle.path_locks.specs.Moves.{AreNotesSeen}
use Rattle.path_locks.specs.Stands.{Stands}
use Rattle.path_locks.specs.Views.{SeatView, number_of, seen_of, mine_of, IsSeatAgain}
use Rattle.striped_store.specs.Commits.{CanCommit, ArePartsOf}
use mathlib.Core.Option.{some}
use lib.ListN.{get_elem?}

module _ {E : Type 0} where
  abbrev rest_of : List E → List E
  rest_of [] = []
  rest_of (x ∷ xs) = xs

  abbrev first_or : E → List E → E
  first_or d [] = d
  first_or d (x ∷ xs) = x

  -- what stands before the last entry is determined
  pub same_before : (xs ys : List E) (e : E) → xs ++ e ∷ [] ≡ ys ++ e ∷ [] → xs ≡ ys
  same_before [] [] e q = refl
  same_before [] (y ∷ ys) e q = absurd (let l = ap (λ (z : List E). length z) q in omega (arith, l, length-append ys (e ∷ [])))
  same_before (x ∷ xs) [] e q = absurd (let l = ap (λ (z : List E). length z) q in omega (arith, l, length-append xs (e ∷ [])))
  same_before (x ∷ xs) (y ∷ ys) e q =
      let head = ap (λ (z : List E). first_or x z) q in
      let tail = same_before xs ys e (ap (λ (z : List E). rest_of z) q) in
      λ i. head i ∷ tail i

  pub begins_length : (h s : List E) → StartsWith h s → length s ≤ length h
  begins_length h s b = let q = ap (λ (z : List E). length z) b.1 in omega (arith, length-append s b.0)

module _ {T E R K : Type 0} (o : Object T E R) where
  -- the seat's own entries are no more than what it has seen
  pub own_few : (s : SeatView T E K) → Stands o s.me.0.at → length (mine_of s) ≤ length (seen_of s)
  own_few s stands =
      let l = ap (λ (z : List E). length z) stands.mine_of_seen in
      omega (arith, l, length-filter (λ (e : E). nat_eq (o.by e) (number_of s)) (seen_of s), count_by-le-length (λ (e : E). nat_eq (o.by e) (number_of s)) (seen_of s))

  -- so they are with one more
  pub own_more : (s t : SeatView T E K) (e : E) → Stands o s.me.0.at → mine_of t ≡ mine_of s ++ e ∷ [] → seen_of t ≡ seen_of s ++ e ∷ []
      → length (mine_of t) ≤ length (seen_of t)
  own_more s t e stands mine seen =
      let few = own_few s stands in
      let m : length (mine_of t) ≡ length (mine_of s) + 1 = ap (λ (z : List E). length z) mine ∙ length-append (mine_of s) (e ∷ []) in
      let n : length (seen_of t) ≡ length (seen_of s) + 1 = ap (λ (z : List E). length z) seen ∙ length-append (seen_of s) (e ∷ []) in
      omega (arith, few, m, n)

  -- what could be committed before the journal was taken may be committed after it
  pub may_commit : (s t : SeatView T E K) (e : E) → IsSeatAgain s t → HoldsAlike s t → mine_of t ≡ mine_of s → CanCommit o s e → MayCommit o t.me.0.at e
  may_commit s t e same alike mine can = record {
    looked = subst (λ (z : List (Hold T)). (k : ℕ) → IsNoted (hold_at z k)) (sym alike.holds) can.looked;
    footprint = subst (λ (z : List (Hold T)). (k : ℕ) → k < 64
        → HeldIn (mode_of (o.writes (notes_or o.opening z) e (length (seen_of t) + 1) k) (o.reads (notes_or o.opening z) e (length (seen_of t) + 1) k)) (hold_at z k))
        (sym alike.holds) (can.footprint (length (seen_of t) + 1));
    fits = (
      can.fits.0 ∙ sym same.number,
      subst (λ (z : List (Hold T)). o.fits (number_of t) (mine_of t) (notes_or o.opening z) e) (sym alike.holds)
          (subst (λ (z : List E). o.fits (number_of t) z (notes_or o.opening s.me.0.at.holds) e) (sym mine)
          (subst (λ (z : ℕ). o.fits z (mine_of s) (notes_or o.opening s.me.0.at.holds) e) (sym same.number) can.fits.1)),
    );
  }

  -- the parts that were found are those of the replay of the journal that was taken
  pub parts_of : (s t : SeatView T E K) → HoldsAlike s t → AreNotesSeen o t.me.0.at → ArePartsOf o (seen_of t) s
  parts_of s t alike seen = subst (λ (z : List (Hold T)). (k : ℕ) (x : T) → k < 64 → note_of (hold_at z k) ≡ some x → get_elem? (replay o (seen_of t)) k ≡ some x) alike.holds seen

-- a list of kept entries grows with the journal
pub kept_grown : {E : Type 0} (e : E) (k : Option (List E)) (h : List E) → AreKept k h → AreKept (kept_with e k) (h ++ e ∷ [])
kept_grown e None h a = tt
kept_grown e (Some l) h a = ap (λ (z : List _). z ++ e ∷ []) a

-- memory was had
pub had_memory : {A B : Type 0} (r : Result A B) (X : Type 0) → IsOk r → IfOk r (λ _. X) → X
had_memory (Ok a) X i x = x
had_memory (Err b) X i x = absurd (true≢false (sym i))
