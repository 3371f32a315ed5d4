-- The passes of a service, in the order of their numbers.
use Rattle.std.proofs.Common.{◌≡◌, ◌≢◌, ◌⊎◌, inl, inr, ⊎_elim, ℕ, zero, suc, ◌+◌, ◌<◌, ◌≤◌, List, [], ◌∷◌, ◌++◌, length, slice_get, slice_set, slice_index_or, Some, refl, ap, sym, ◌∙◌, subst, length-append, length-set, arith}
use Rattle.std.proofs.lemmas.Bool.Decides.{eqb_tells}
use Rattle.std.proofs.lemmas.Option.{none-some, same_Some}
use Rattle.path_locks.specs.Views.{TableView, HoldsNothing, IsSeatAgain}
use Rattle.path_locks.proofs.Below.{get-set_same, get-set_other}
use Rattle.striped_store.specs.Views.{PassView, number_of_pass, IsNewPass, AreNewPasses}
use Rattle.striped_store.specs.Closed.{AreEveryPass}
use Rattle.service_tests.specs.Teams.{IsIdlePass, AreIdlePasses, IsTeam}

-- what holds of each element at its place holds so of a list with one more
pushed : {A : Type 0} (P : ℕ → A → Type 0) (xs : List A) (y : A) → ((k : ℕ) (x : A) → slice_get xs k ≡ Some x → P k x) → P (length xs) y
    → (k : ℕ) (x : A) → slice_get (xs ++ y ∷ []) k ≡ Some x → P k x
pushed P [] y all last zero x e = subst (λ a. P 0 a) (same_Some y x e) last
pushed P [] y all last (suc k) x e = absurd (none-some x e)
pushed P (z ∷ xs) y all last zero x e = all zero x e
pushed P (z ∷ xs) y all last (suc k) x e = pushed (λ n a. P (suc n) a) xs y (λ j a q. all (suc j) a q) last k x e

kept : {A : Type 0} (xs ys : List A) (k : ℕ) (x : A) → slice_get xs k ≡ Some x → slice_get (xs ++ ys) k ≡ Some x
kept [] ys k x e = absurd (none-some x e)
kept (z ∷ xs) ys zero x e = e
kept (z ∷ xs) ys (suc k) x e = kept xs ys k x e

at_end : {A : Type 0} (xs : List A) (y : A) → slice_get (xs ++ y ∷ []) (length xs) ≡ Some y
at_end [] y = refl
at_end (z ∷ xs) y = at_end xs y

there : {A : Type 0} (xs : List A) (k : ℕ) → k < length xs → (x : A) × (slice_get xs k ≡ Some x)
there [] k h = absurd (omega (arith, h))
there (z ∷ xs) zero h = (z, refl)
there (z ∷ xs) (suc k) h = there xs k (omega (arith, h))

inside : {A : Type 0} (xs : List A) (k : ℕ) (x : A) → slice_get xs k ≡ Some x → k < length xs
inside [] k x e = absurd (none-some x e)
inside (z ∷ xs) zero x e = omega arith
inside (z ∷ xs) (suc k) x e = let h = inside xs k x e in omega (arith, h)

-- the element that is read at a place is got there
pub at_place : {A : Type 0} (xs : List A) (k : ℕ) (x : A) → k < length xs → x ≡ slice_index_or xs k x → slice_get xs k ≡ Some x
at_place [] k x h e = absurd (omega (arith, h))
at_place (z ∷ xs) zero x h e = ap Some (sym e)
at_place (z ∷ xs) (suc k) x h e = at_place xs k x (omega (arith, h)) e

module _ {T E K : Type 0} (store : TableView E) where
  -- a pass that holds nothing again
  pub again : (n : ℕ) (p q : PassView T E K) → IsIdlePass store n p → IsSeatAgain p.seat q.seat → HoldsNothing q.seat → IsIdlePass store n q
  again n p q is same nothing = record { own = same.table ∙ is.own; number = same.number ∙ is.number; nothing = nothing }

  -- the passes of a service at its start
  pub new_team : (all : List (PassView T E K)) → AreNewPasses store all → length all ≡ store.seats → IsTeam store all
  new_team all new many = record {
    many = many;
    idle = λ k p at. let is = new k p at in record { own = is.own; number = is.number; nothing = is.nothing };
  }

  -- they are every pass of their store
  pub every_one : (all : List (PassView T E K)) → IsTeam store all → AreEveryPass store all
  every_one all team = record {
    many = team.many;
    own = λ k p at. (team.idle k p at).own;
    nothing = λ k p at. (team.idle k p at).nothing;
    every = λ n h. let found = there all n (subst (λ (m : ℕ). n < m) (sym team.many) h) in
        (n, found.0, found.1, (team.idle n found.0 found.1).number);
  }

  -- one of them was used
  pub used_one : (all : List (PassView T E K)) (k : ℕ) (p q : PassView T E K) → IsTeam store all → slice_get all k ≡ Some p → IsIdlePass store k q
      → IsTeam store (slice_set all k q)
  used_one all k p q team at is = record {
    many = length-set all k q ∙ team.many;
    idle = λ j x e. ⊎_elim
        (λ same. subst (λ (n : ℕ). IsIdlePass store n x) (sym same.1)
        (subst (λ (z : PassView T E K). IsIdlePass store k z)
        (same_Some q x (sym (get-set_same all k q (inside all k p at)) ∙ ap (λ (n : ℕ). slice_get (slice_set all k q) n) (sym same.1) ∙ e)) is))
        (λ other. team.idle j x (sym (get-set_other all k j q other.1) ∙ e))
        (eqb_tells j k);
  }

  -- the last one is taken out, and one is put back there
  pub last_one : (all some : List (PassView T E K)) (p : PassView T E K) → AreIdlePasses store all → all ≡ some ++ p ∷ [] → IsIdlePass store (length some) p
  last_one all some p idle e = idle (length some) p (ap (λ (l : List (PassView T E K)). slice_get l (length some)) e ∙ at_end some p)

  pub the_others : (all some : List (PassView T E K)) (p : PassView T E K) → AreIdlePasses store all → all ≡ some ++ p ∷ [] → AreIdlePasses store some
  the_others all some p idle e = λ k x at. idle k x (ap (λ (l : List (PassView T E K)). slice_get l k) e ∙ kept some (p ∷ []) k x at)

  pub put_back : (all some : List (PassView T E K)) (p : PassView T E K) → AreIdlePasses store some → IsIdlePass store (length some) p → all ≡ some ++ p ∷ []
      → AreIdlePasses store all
  put_back all some p idle is e = subst (λ (l : List (PassView T E K)). AreIdlePasses store l) (sym e) (pushed (λ k x. IsIdlePass store k x) some p idle is)

  one_more : (all some : List (PassView T E K)) (p : PassView T E K) → all ≡ some ++ p ∷ [] → length all ≡ length some + 1
  one_more all some p e = ap (λ (l : List (PassView T E K)). length l) e ∙ length-append some (p ∷ [])

  -- two were taken out and used, and put back in their order
  pub both_back : (all one none some back : List (PassView T E K)) (a b c d : PassView T E K) → IsTeam store all → all ≡ one ++ b ∷ [] → one ≡ none ++ a ∷ []
      → IsSeatAgain a.seat c.seat → HoldsNothing c.seat → IsSeatAgain b.seat d.seat → HoldsNothing d.seat → some ≡ none ++ c ∷ [] → back ≡ some ++ d ∷ []
      → IsTeam store back
  both_back all one none some back a b c d team last first a_c no_c b_d no_d put more =
      let left = the_others all one b team.idle last in
      let n : length one ≡ length none + 1 = one_more one none a first in
      let m : length some ≡ length none + 1 = one_more some none c put in
      let is_c = again (length none) a c (last_one one none a left first) a_c no_c in
      let is_d = again (length one) b d (last_one all one b team.idle last) b_d no_d in
      record {
        many = one_more back some d more ∙ ap (λ (k : ℕ). k + 1) (m ∙ sym n) ∙ sym (one_more all one b last) ∙ team.many;
        idle = put_back back some d (put_back some none c (the_others one none a left first) is_c put)
            (subst (λ (k : ℕ). IsIdlePass store k d) (n ∙ sym m) is_d) more;
      }
