-- Connections one after the other.
use Rattle.std.proofs.Common.{◌≡◌, ℕ, zero, suc, ◌<◌, List, [], ◌∷◌, ◌++◌, length, Option, refl, subst, ◌∙◌, arith}
use Rattle.std.specs.Prelude.{All, slice_index_or, slice_set}
use Rattle.commit_journal.specs.Limits.{LimitNumbers}
use Rattle.inode_tree.specs.declared.placed.Placed.{Placed}
use Rattle.path_locks.specs.Views.{SeatView, IsSeatAgain}
use Rattle.engine.specs.Solos.{as_asked}
use Rattle.serving.specs.declared.end.End.{End}
use Rattle.serving.specs.Known.{Known}
use Rattle.serving.specs.Moments.{Paced}
use Rattle.serving.specs.Served.{Served}
use Rattle.striped_store.specs.Views.{number_of_pass}
use Rattle.service_workers.specs.Looks.{NamespacePass}
use Rattle.conn_workers.specs.Counted.{entry_in, is_by}
use Rattle.conn_workers.specs.Desks.{AsksLast, known_by}
use Rattle.conn_workers.specs.Workers.{EachPair, ServesInTurn, HasWorked}

module _ {T E K : Type 0} where
  pub again_none : (s : SeatView T E K) → IsSeatAgain s s
  again_none s = record { table = refl; place = refl; number = refl; olds = refl; before = refl; made = refl; limits = refl }

  pub again_twice : (a b c : SeatView T E K) → IsSeatAgain a b → IsSeatAgain b c → IsSeatAgain a c
  again_twice a b c first second = record {
    table = second.table ∙ first.table;
    place = second.place ∙ first.place;
    number = second.number ∙ first.number;
    olds = second.olds ∙ first.olds;
    before = second.before ∙ first.before;
    made = second.made ∙ first.made;
    limits = second.limits ∙ first.limits;
  }

module _ (number : ℕ) (limits : LimitNumbers) where
  turns_twice : (a : Known Placed) (ks : List (Known Placed)) (b : Known Placed) (ls : List (Known Placed)) (c : Known Placed)
      → ServesInTurn number limits a ks b → ServesInTurn number limits b ls c → ServesInTurn number limits a (ks ++ ls) c
  turns_twice a [] b ls c first second = subst (λ (k : Known Placed). ServesInTurn number limits k ls c) first second
  turns_twice a (k ∷ ks) b ls c first second = (first.0, turns_twice k ks b ls c first.1 second)

module _ {K : Type 0} (limits : LimitNumbers) where
  pub worked_none : (old : NamespacePass K) → HasWorked limits old old
  worked_none old = record { again = again_none old.seat; states = []; in_turn = refl }

  pub worked_twice : (old mid new : NamespacePass K) → HasWorked limits old mid → HasWorked limits mid new → HasWorked limits old new
  worked_twice old mid new first second = record {
    again = again_twice old.seat mid.seat new.seat first.again second.again;
    states = first.states ++ second.states;
    in_turn = turns_twice (number_of_pass old) limits (known_by old) first.states (known_by mid) second.states (known_by new) first.in_turn
        (subst (λ (n : ℕ). ServesInTurn n limits (known_by mid) second.states (known_by new)) first.again.number second.in_turn);
  }

  -- one connection
  pub worked_once : (old new : NamespacePass K) (conn : ℕ) (left left' out out' : Option (List ℕ)) (ahead : Option (ℕ → ℕ)) (answered : ℕ) (end : End) → IsSeatAgain old.seat new.seat
      → Served entry_in (is_by (number_of_pass old)) as_asked (Paced AsksLast 0) conn limits left left' out out' ahead (known_by old) (known_by new) answered end → HasWorked limits old new
  worked_once old new conn left left' out out' ahead answered end again served = record {
    again = again;
    states = known_by new ∷ [];
    in_turn = (record { conn = conn; left = left; left' = left'; out = out; out' = out'; ahead = ahead; answered = answered; end = end; served = served }, refl);
  }

-- ---- the first of a list is put in anew

module _ {X : Type 0} where
  pub all_but_first : (P : X → Type 0) (xs : List X) (x : X) → All P xs → P x → All P (slice_set xs 0 x)
  all_but_first P [] x all is k d low = absurd (omega (arith, low))
  all_but_first P (z ∷ xs) x all is zero d low = is
  all_but_first P (z ∷ xs) x all is (suc k) d low = all (suc k) d low

  pub each_but_first : (related : X → X → Type 0) (xs ys : List X) (y : X) → length ys ≡ length xs → EachPair related xs ys → ((d : X) → 0 < length xs → related (slice_index_or xs 0 d) y)
      → EachPair related xs (slice_set ys 0 y)
  each_but_first related xs [] y same each first k d low = absurd (omega (arith, low, same))
  each_but_first related xs (z ∷ ys) y same each first zero d low = first d low
  each_but_first related xs (z ∷ ys) y same each first (suc k) d low = each (suc k) d low

  -- where there is a first one, it is the same whatever stands in for none
  pub first_same : (xs : List X) (a b : X) → 0 < length xs → slice_index_or xs 0 a ≡ slice_index_or xs 0 b
  first_same [] a b low = absurd (omega (arith, low))
  first_same (x ∷ xs) a b low = refl
