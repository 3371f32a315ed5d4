-- Two passes of a store, and two seats of a table.
use Rattle.std.proofs.Common.{◌≡◌, ℕ, Bool, false, List, [], ◌∷◌, ◌++◌, length, slice_get, Some, ◌+◌, length-append, refl, ap, sym, ◌∙◌, subst, arith}
use Rattle.lock_core.specs.declared.object.LockMode.TheVariants as mode
use Rattle.lock_core.specs.declared.machine.Hold.{Hold}
use Rattle.lock_core.specs.Machine.{hold_at, HeldIn}
use Rattle.lock_core.specs.Object.{Object}
use Rattle.path_locks.specs.Alike.{HoldsAlike}
use Rattle.path_locks.specs.Views.{SeatView, TableView, has_journal, with_book, HoldsNothing, IsSameSeat, IsSeatAgain, IsNewSeat, AreNewSeats, AreEverySeat}
use Rattle.striped_store.specs.Views.{PassView, number_of_pass, IsNewPass, AreNewPasses, AreOpenPasses}
use Rattle.striped_store.specs.UsedIds.{AreBelow}
use Rattle.striped_store.specs.Closed.{AreEveryPass, AreByPasses}
use Rattle.lock_tests.specs.Pairs.{IsIdlePass, AreIdlePasses, AreBothPasses, IsOnlyPass, IsIdleSeat, AreBothSeats}
use Rattle.lock_tests.proofs.Tallying.{of_one, one_is, two_are, two_seats_are}

-- where two of two are taken out none is left
pub none_left : {A : Type 0} (all some left : List A) (a b : A) → length all ≡ 2 → all ≡ some ++ b ∷ [] → some ≡ left ++ a ∷ [] → left ≡ []
none_left {A} all some left a b two last first =
    let n : length some + 1 ≡ 2 = sym (length-append some (b ∷ [])) ∙ ap (λ (l : List A). length l) (sym last) ∙ two in
    let m : length left + 1 ≡ length some = sym (length-append left (a ∷ [])) ∙ ap (λ (l : List A). length l) (sym first) in
    empty left (omega (arith, n, m))
  where
    empty : (l : List A) → length l ≡ 0 → l ≡ []
    empty [] e = refl
    empty (x ∷ xs) e = absurd (omega (arith, e))

module _ {T E K : Type 0} where
  idle : (store : TableView E) (n : ℕ) (p : PassView T E K) → IsNewPass store n p → IsIdlePass store n p
  idle store n p new = record { own = new.own; number = new.number; nothing = new.nothing }

  -- a store whose two new passes are taken out, the last one first
  pub both_new : (store : TableView E) (all some left : List (PassView T E K)) (a b : PassView T E K) → AreNewPasses store all → length all ≡ store.seats
      → all ≡ some ++ b ∷ [] → some ≡ left ++ a ∷ [] → left ≡ [] → AreBothPasses store left a b
  both_new store all some left a b new many last first none =
      let whole : all ≡ a ∷ b ∷ [] =
      last ∙ ap (λ (l : List (PassView T E K)). l ++ b ∷ []) (first ∙ ap (λ (l : List (PassView T E K)). l ++ a ∷ []) none) in
      record {
        two = sym many ∙ ap (λ (l : List (PassView T E K)). length l) whole;
        none = none;
        first_is = idle store 0 a (new 0 a (ap (λ (l : List (PassView T E K)). slice_get l 0) whole));
        second_is = idle store 1 b (new 1 b (ap (λ (l : List (PassView T E K)). slice_get l 1) whole));
      }

  -- a pass that holds nothing again
  pub again : (store : TableView E) (n : ℕ) (p q : PassView T E K) → IsIdlePass store n p → IsSeatAgain p.seat q.seat → HoldsNothing q.seat → IsIdlePass store n q
  again store n p q is same nothing = record { own = same.table ∙ is.own; number = same.number ∙ is.number; nothing = nothing }

  pub as_before : (store : TableView E) (n : ℕ) (p q : PassView T E K) → IsIdlePass store n p → IsSameSeat p.seat q.seat → HoldsNothing q.seat → IsIdlePass store n q
  as_before store n p q is same nothing = record { own = same.table ∙ is.own; number = same.number ∙ is.number; nothing = nothing }

  pub with_both : (store : TableView E) (left : List (PassView T E K)) (a b c d : PassView T E K) → AreBothPasses store left a b → IsIdlePass store 0 c
      → IsIdlePass store 1 d → AreBothPasses store left c d
  with_both store left a b c d both first second = record { two = both.two; none = both.none; first_is = first; second_is = second }

  -- the two passes are all passes of their store
  pub both_every : (store : TableView E) (left one all : List (PassView T E K)) (a b : PassView T E K) → AreBothPasses store left a b → one ≡ left ++ a ∷ []
      → all ≡ one ++ b ∷ [] → AreEveryPass store all
  both_every store left one all a b both first second =
      let whole : all ≡ a ∷ b ∷ [] =
      second ∙ ap (λ (l : List (PassView T E K)). l ++ b ∷ []) (first ∙ ap (λ (l : List (PassView T E K)). l ++ a ∷ []) both.none) in
      subst (λ (l : List (PassView T E K)). AreEveryPass store l) (sym whole)
      (two_are store a b both.first_is.own both.second_is.own both.first_is.nothing both.second_is.nothing both.two both.first_is.number both.second_is.number)

  -- the passes of a store at its start hold nothing
  pub new_idle : (store : TableView E) (all : List (PassView T E K)) → AreNewPasses store all → AreIdlePasses store all
  new_idle store all new k p at = idle store k p (new k p at)

  pub open_idle : {R : Type 0} (o : Object T E R) (store : TableView E) (all : List (PassView T E K)) → AreOpenPasses o store all → AreIdlePasses store all
  open_idle o store all opened k p at = let is = opened k p at in record { own = is.own; number = is.number; nothing = is.nothing }

  -- a store whose one idle pass is taken out
  pub only_new : (store : TableView E) (all left : List (PassView T E K)) (p : PassView T E K) → AreIdlePasses store all → length all ≡ store.seats
      → all ≡ left ++ p ∷ [] → left ≡ [] → IsOnlyPass store left p
  only_new store all left p are many last none =
      let whole : all ≡ p ∷ [] = last ∙ ap (λ (l : List (PassView T E K)). l ++ p ∷ []) none in
      record {
        one = sym many ∙ ap (λ (l : List (PassView T E K)). length l) whole;
        none = none;
        pass_is = are 0 p (ap (λ (l : List (PassView T E K)). slice_get l 0) whole);
      }

  pub only_again : (store : TableView E) (left : List (PassView T E K)) (p q : PassView T E K) → IsOnlyPass store left p → IsSeatAgain p.seat q.seat
      → HoldsNothing q.seat → IsOnlyPass store left q
  only_again store left p q only same nothing = record { one = only.one; none = only.none; pass_is = again store 0 p q only.pass_is same nothing }

  -- the one pass is all passes of its store
  pub only_every : (store : TableView E) (left all : List (PassView T E K)) (p : PassView T E K) → IsOnlyPass store left p → all ≡ left ++ p ∷ []
      → AreEveryPass store all
  only_every store left all p only last =
      subst (λ (l : List (PassView T E K)). AreEveryPass store l) (sym (last ∙ ap (λ (l : List (PassView T E K)). l ++ p ∷ []) only.none))
      (one_is store p only.pass_is.own only.pass_is.nothing only.one only.pass_is.number)

  -- each entry of the journal of a closed store is by its one pass
  pub by_one : {R : Type 0} (o : Object T E R) (store : TableView E) (h : List E) (left all : List (PassView T E K)) (p : PassView T E K) → IsOnlyPass store left p
      → all ≡ left ++ p ∷ [] → AreByPasses o h all → AreBelow o 1 h
  by_one o store h left all p only last by n e at =
      let r = by n e at in
      let whole : all ≡ p ∷ [] = last ∙ ap (λ (l : List (PassView T E K)). l ++ p ∷ []) only.none in
      let zero_is : number_of_pass r.1 ≡ 0 =
      of_one (λ (z : PassView T E K). number_of_pass z ≡ 0) p only.pass_is.number r.0 r.1 (ap (λ (l : List (PassView T E K)). slice_get l r.0) (sym whole) ∙ r.2) in
      let is : o.by e ≡ 0 = r.3 ∙ zero_is in
      omega (arith, is)

  idle_seat : {R : Type 0} (o : Object T E R) (table : TableView E) (n : ℕ) (s : SeatView T E K) → IsNewSeat o table n s → IsIdleSeat table n s
  idle_seat o table n s new = record { own = new.own; number = new.number; nothing = new.nothing }

  -- a table whose two new seats are taken out, the last one first
  pub both_seats : {R : Type 0} (o : Object T E R) (table : TableView E) (all some left : List (SeatView T E K)) (a b : SeatView T E K) → AreNewSeats o table all
      → table.seats ≡ 2 → all ≡ some ++ b ∷ [] → some ≡ left ++ a ∷ [] → left ≡ [] → AreBothSeats table left a b
  both_seats o table all some left a b new two last first none =
      let whole : all ≡ a ∷ b ∷ [] =
      last ∙ ap (λ (l : List (SeatView T E K)). l ++ b ∷ []) (first ∙ ap (λ (l : List (SeatView T E K)). l ++ a ∷ []) none) in
      record {
        two = two;
        none = none;
        first_is = idle_seat o table 0 a (new 0 a (ap (λ (l : List (SeatView T E K)). slice_get l 0) whole));
        second_is = idle_seat o table 1 b (new 1 b (ap (λ (l : List (SeatView T E K)). slice_get l 1) whole));
      }

  pub as_before_seat : (table : TableView E) (n : ℕ) (s t : SeatView T E K) → IsIdleSeat table n s → IsSameSeat s t → HoldsNothing t → IsIdleSeat table n t
  as_before_seat table n s t is same nothing = record { own = same.table ∙ is.own; number = same.number ∙ is.number; nothing = nothing }

  pub again_seat : (table : TableView E) (n : ℕ) (s t : SeatView T E K) → IsIdleSeat table n s → IsSeatAgain s t → HoldsNothing t → IsIdleSeat table n t
  again_seat table n s t is same nothing = record { own = same.table ∙ is.own; number = same.number ∙ is.number; nothing = nothing }

  pub with_seats : (table : TableView E) (left : List (SeatView T E K)) (a b c d : SeatView T E K) → AreBothSeats table left a b → IsIdleSeat table 0 c
      → IsIdleSeat table 1 d → AreBothSeats table left c d
  with_seats table left a b c d both first second = record { two = both.two; none = both.none; first_is = first; second_is = second }

  -- the two seats are all seats of their table
  pub every_seat : (table : TableView E) (left one all : List (SeatView T E K)) (a b : SeatView T E K) → AreBothSeats table left a b → one ≡ left ++ a ∷ []
      → all ≡ one ++ b ∷ [] → AreEverySeat table all
  every_seat table left one all a b both first second =
      let whole : all ≡ a ∷ b ∷ [] =
      second ∙ ap (λ (l : List (SeatView T E K)). l ++ b ∷ []) (first ∙ ap (λ (l : List (SeatView T E K)). l ++ a ∷ []) both.none) in
      subst (λ (l : List (SeatView T E K)). AreEverySeat table l) (sym whole)
      (two_seats_are table a b both.first_is.own both.second_is.own both.first_is.nothing both.second_is.nothing both.two both.first_is.number both.second_is.number)

  pub same_twice : (s t u : SeatView T E K) → IsSameSeat s t → IsSameSeat t u → IsSameSeat s u
  same_twice s t u a b = record {
    table = b.table ∙ a.table;
    place = b.place ∙ a.place;
    number = b.number ∙ a.number;
    olds = b.olds ∙ a.olds;
    before = b.before ∙ a.before;
    made = b.made ∙ a.made;
    limits = b.limits ∙ a.limits;
    taken = b.taken ∙ a.taken;
    tape = b.tape ∙ a.tape;
  }

  pub again_twice : (s t u : SeatView T E K) → IsSeatAgain s t → IsSeatAgain t u → IsSeatAgain s u
  again_twice s t u a b = record {
    table = b.table ∙ a.table;
    place = b.place ∙ a.place;
    number = b.number ∙ a.number;
    olds = b.olds ∙ a.olds;
    before = b.before ∙ a.before;
    made = b.made ∙ a.made;
    limits = b.limits ∙ a.limits;
  }

  -- a seat that held nothing, took the journal and gave it back holds nothing
  pub still_nothing : (s t u : SeatView T E K) → HoldsNothing s → HoldsAlike s t → HoldsAlike t u → has_journal u ≡ false → HoldsNothing u
  still_nothing s t u bare first second away = record {
    idle = record {
      no_hold = subst (λ (z : List (Hold T)). (k : ℕ) → HeldIn mode.None (hold_at z k)) (sym (second.holds ∙ first.holds)) bare.idle.no_hold;
      no_latch = second.latch ∙ first.latch ∙ bare.idle.no_latch;
      no_journal = away;
    };
    no_slot = second.slots [] (first.slots [] (bare.no_slot ∙ sym (ap (λ (b : Bool). with_book {T = T} {E = E} {K = K} b []) bare.idle.no_journal)))
        ∙ ap (λ (b : Bool). with_book {T = T} {E = E} {K = K} b []) away;
    room = second.room ∙ first.room ∙ bare.room;
  }
