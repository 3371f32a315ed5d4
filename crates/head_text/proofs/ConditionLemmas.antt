-- The conditions are met exactly where all four hold, and else the first that fails is told.
use Rattle.std.proofs.Common.{◌≡◌, ◌↔◌, ◌⊎◌, inl, inr, ℕ, zero, suc, ◌/◌, ◌<◌, ◌≤◌, ◌==◌, Bool, true, false, not, ◌||◌, cond, nat_le, List, [], ◌∷◌, length, get_or, Option, None, Some, Result, Ok, Err, refl, sym, subst, arith}
use Rattle.std.specs.List.{list_any, Contains}
use Rattle.std.proofs.lemmas.Bool.{false≢true}
use Rattle.std.proofs.lemmas.Bool.Decides.{nat_tests, Decides-eqb}
use Rattle.std.proofs.lemmas.Option.{same_Some}
use Rattle.head_text.specs.declared.conditions.Conditions.{Conditions}
use Rattle.head_text.specs.declared.conditions.Unmet.{Unmet}
use Rattle.head_text.specs.declared.conditions.Unmet.TheVariants.{Match, Unmodified, NoneMatch, Modified}
use Rattle.head_text.specs.Tags.{Tags, is_listed}
use Rattle.head_text.specs.Conditions.{match_holds, unmodified_holds, none_match_holds, modified_holds}
use Rattle.head_text.specs.ConditionsOf.{conditions_of}
use Rattle.head_text.specs.ConditionWords.{IsListed, MatchHolds, UnmodifiedHolds, NoneMatchHolds, ModifiedHolds, AllHold, IsFirstUnmet}

-- ---- a number is listed

or_tells : (a b : Bool) → (a || b) ≡ true → (a ≡ true) ⊎ (b ≡ true)
or_tells true b e = inl refl
or_tells false b e = inr e

or_first : (a b : Bool) → a ≡ true → (a || b) ≡ true
or_first true b e = refl
or_first false b e = absurd (false≢true e)

or_second : (a b : Bool) → b ≡ true → (a || b) ≡ true
or_second true b e = refl
or_second false b e = e

stands : (ns : List ℕ) (n : ℕ) → list_any (λ m. m == n) ns ≡ true → Contains ns n
stands [] n e = absurd (false≢true e)
stands (m ∷ ns) n e = elim (or_tells (m == n) (list_any (λ k. k == n) ns) e) as (λ _. Contains (m ∷ ns) n) [
  | inl here ↦ (0, omega arith, (Decides-eqb m n).0 here)
  | inr later ↦ let at = stands ns n later in (suc at.0, omega (arith, at.1), at.2)
]

is_found : (ns : List ℕ) (n k : ℕ) → k < length ns → get_or ns k n ≡ n → list_any (λ m. m == n) ns ≡ true
is_found [] n k within e = absurd (omega arith)
is_found (m ∷ ns) n zero within e = or_first (m == n) (list_any (λ k. k == n) ns) ((Decides-eqb m n).1 e)
is_found (m ∷ ns) n (suc k) within e = or_second (m == n) (list_any (λ k. k == n) ns) (is_found ns n k (omega arith) e)

listed_is : (tags : Tags) (n : ℕ) → ((is_listed tags n ≡ true) ↔ IsListed tags n)
listed_is tags n = (
  λ e. elim (or_tells tags.any (list_any (λ m. m == n) tags.numbers) e) as (λ _. IsListed tags n) [
    | inl any ↦ inl any
    | inr found ↦ inr (stands tags.numbers n found)
  ],
  λ l. elim l as (λ _. is_listed tags n ≡ true) [
    | inl any ↦ or_first tags.any (list_any (λ m. m == n) tags.numbers) any
    | inr at ↦ or_second tags.any (list_any (λ m. m == n) tags.numbers) (is_found tags.numbers n at.0 at.1 at.2)
  ],
)

-- ---- each condition

not_true : (b : Bool) → not b ≡ true → b ≡ true → ⊥
not_true true e h = false≢true e
not_true false e h = false≢true h

true_unless : (b : Bool) → (b ≡ true → ⊥) → not b ≡ true
true_unless true never = absurd (never refl)
true_unless false never = refl

within : (a b : ℕ) → nat_le a b ≡ true → a ≤ b
within a b e = grind (arith, nat_tests)

is_within : (a b : ℕ) → a ≤ b → nat_le a b ≡ true
is_within a b h = grind (arith, nat_tests)

above : (a b : ℕ) → not (nat_le a b) ≡ true → b < a
above a b e = grind (arith, nat_tests)

is_above : (a b : ℕ) → b < a → not (nat_le a b) ≡ true
is_above a b h = grind (arith, nat_tests)

match_is : (o : Option Tags) (node : Option (ℕ × ℕ))
    → ((match_holds o node ≡ true) ↔ ((tags : Tags) → o ≡ Some tags → (x : ℕ × ℕ) × (node ≡ Some x) × IsListed tags x.0))
match_is None y = (λ _ tags e. cc, λ _. refl)
match_is (Some t) None = (λ e. absurd (false≢true e), λ h. let at = h t refl in absurd (no_node at.0 at.1))
  where
    no_node : (x : ℕ × ℕ) → None ≡ Some x → ⊥
    no_node x e = cc
match_is (Some t) (Some x) = (
  λ e tags same. (x, refl, subst (λ s. IsListed s x.0) (same_Some t tags same) ((listed_is t x.0).0 e)),
  λ h. let at = h t refl in
      (listed_is t x.0).1 (subst (λ (y : ℕ × ℕ). IsListed t y.0) (sym (same_Some x at.0 at.1)) at.2),
)

unmodified_is : (o : Option ℕ) (node : Option (ℕ × ℕ))
    → ((unmodified_holds o node ≡ true) ↔ ((date : ℕ) (x : ℕ × ℕ) → o ≡ Some date → node ≡ Some x → x.1 / 1000 ≤ date))
unmodified_is None y = (λ _ date x e. cc, λ _. refl)
unmodified_is (Some d) None = (λ _ date x e f. cc, λ _. refl)
unmodified_is (Some d) (Some y) = (
  λ e date x same here. subst (λ (z : ℕ × ℕ). z.1 / 1000 ≤ date) (same_Some y x here)
      (subst (λ (c : ℕ). y.1 / 1000 ≤ c) (same_Some d date same) (within (y.1 / 1000) d e)),
  λ h. is_within (y.1 / 1000) d (h d y refl refl),
)

none_match_is : (o : Option Tags) (node : Option (ℕ × ℕ))
    → ((none_match_holds o node ≡ true) ↔ ((tags : Tags) (x : ℕ × ℕ) → o ≡ Some tags → node ≡ Some x → ¬ IsListed tags x.0))
none_match_is None y = (λ _ tags x e. cc, λ _. refl)
none_match_is (Some t) None = (λ _ tags x e f. cc, λ _. refl)
none_match_is (Some t) (Some y) = (
  λ e tags x same here. subst (λ (z : ℕ × ℕ). ¬ IsListed tags z.0) (same_Some y x here)
      (subst (λ s. ¬ IsListed s y.0) (same_Some t tags same) (λ l. not_true (is_listed t y.0) e ((listed_is t y.0).1 l))),
  λ h. true_unless (is_listed t y.0) (λ l. h t y refl refl ((listed_is t y.0).0 l)),
)

modified_is : (o : Option ℕ) (node : Option (ℕ × ℕ))
    → ((modified_holds o node ≡ true) ↔ ((date : ℕ) (x : ℕ × ℕ) → o ≡ Some date → node ≡ Some x → date < x.1 / 1000))
modified_is None y = (λ _ date x e. cc, λ _. refl)
modified_is (Some d) None = (λ _ date x e f. cc, λ _. refl)
modified_is (Some d) (Some y) = (
  λ e date x same here. subst (λ (z : ℕ × ℕ). date < z.1 / 1000) (same_Some y x here)
      (subst (λ (c : ℕ). c < y.1 / 1000) (same_Some d date same) (above (y.1 / 1000) d e)),
  λ h. is_above (y.1 / 1000) d (h d y refl refl),
)

-- ---- the first that fails

abbrev first_of : Bool → Bool → Bool → Bool → Result (Unit {0}) Unmet
first_of a b c d = cond a (cond b (cond c (cond d (Ok tt) (Err Modified)) (Err NoneMatch)) (Err Unmodified)) (Err Match)

all_true : (a b c d : Bool) → first_of a b c d ≡ Ok tt → (a ≡ true) × (b ≡ true) × (c ≡ true) × (d ≡ true)
all_true true true true true e = (refl, refl, refl, refl)
all_true true true true false e = cc
all_true true true false d e = cc
all_true true false c d e = cc
all_true false b c d e = cc

-- the test of a condition fails, and those before it pass
abbrev IsFirstFalse : Bool → Bool → Bool → Bool → Unmet → Type 0
IsFirstFalse a b c d Match = a ≡ false
IsFirstFalse a b c d Unmodified = (a ≡ true) × (b ≡ false)
IsFirstFalse a b c d NoneMatch = (a ≡ true) × (b ≡ true) × (c ≡ false)
IsFirstFalse a b c d Modified = (a ≡ true) × (b ≡ true) × (c ≡ true) × (d ≡ false)

told : (a b c d : Bool) (u : Unmet) → first_of a b c d ≡ Err u → IsFirstFalse a b c d u
told true true true true Match e = cc
told true true true true Unmodified e = cc
told true true true true NoneMatch e = cc
told true true true true Modified e = cc
told true true true false Match e = cc
told true true true false Unmodified e = cc
told true true true false NoneMatch e = cc
told true true true false Modified e = (refl, refl, refl, refl)
told true true false d Match e = cc
told true true false d Unmodified e = cc
told true true false d NoneMatch e = (refl, refl, refl)
told true true false d Modified e = cc
told true false c d Match e = cc
told true false c d Unmodified e = (refl, refl)
told true false c d NoneMatch e = cc
told true false c d Modified e = cc
told false b c d Match e = refl
told false b c d Unmodified e = cc
told false b c d NoneMatch e = cc
told false b c d Modified e = cc

is_told : (a b c d : Bool) (u : Unmet) → IsFirstFalse a b c d u → first_of a b c d ≡ Err u
is_told a b c d Match h = rw h refl
is_told a b c d Unmodified h = rw (h.0, h.1) refl
is_told a b c d NoneMatch h = rw (h.0, h.1, h.2) refl
is_told a b c d Modified h = rw (h.0, h.1, h.2, h.3) refl

fails : (b : Bool) (P : Type 0) → ((b ≡ true) ↔ P) → ((b ≡ false) ↔ (¬ P))
fails true P is = (λ e. absurd (false≢true (sym e)), λ never. absurd (never (is.0 refl)))
fails false P is = (λ _ p. false≢true (is.1 p), λ _. refl)

pub met : (c : Conditions) (node : Option (ℕ × ℕ)) → ((conditions_of c node ≡ Ok tt) ↔ AllHold c node)
met c node = (
  λ e.
      let all = all_true (match_holds c.matches node) (unmodified_holds c.unmodified node) (none_match_holds c.none node) (modified_holds c.modified node) e in
      record {
        matches = (match_is c.matches node).0 all.0;
        unmodified = (unmodified_is c.unmodified node).0 all.1;
        none = (none_match_is c.none node).0 all.2;
        modified = (modified_is c.modified node).0 all.3;
      },
  λ h. rw ((match_is c.matches node).1 h.matches, (unmodified_is c.unmodified node).1 h.unmodified, (none_match_is c.none node).1 h.none, (modified_is c.modified node).1 h.modified) refl,
)

in_words : (c : Conditions) (node : Option (ℕ × ℕ)) (u : Unmet)
    → (IsFirstFalse (match_holds c.matches node) (unmodified_holds c.unmodified node) (none_match_holds c.none node) (modified_holds c.modified node) u
    ↔ IsFirstUnmet c node u)
in_words c node Match = fails (match_holds c.matches node) (MatchHolds c node) (match_is c.matches node)
in_words c node Unmodified =
    let m = match_is c.matches node in
    let f = fails (unmodified_holds c.unmodified node) (UnmodifiedHolds c node) (unmodified_is c.unmodified node) in
    (λ h. (m.0 h.0, f.0 h.1), λ h. (m.1 h.0, f.1 h.1))
in_words c node NoneMatch =
    let m = match_is c.matches node in
    let u = unmodified_is c.unmodified node in
    let f = fails (none_match_holds c.none node) (NoneMatchHolds c node) (none_match_is c.none node) in
    (λ h. (m.0 h.0, u.0 h.1, f.0 h.2), λ h. (m.1 h.0, u.1 h.1, f.1 h.2))
in_words c node Modified =
    let m = match_is c.matches node in
    let u = unmodified_is c.unmodified node in
    let n = none_match_is c.none node in
    let f = fails (modified_holds c.modified node) (ModifiedHolds c node) (modified_is c.modified node) in
    (λ h. (m.0 h.0, u.0 h.1, n.0 h.2, f.0 h.3), λ h. (m.1 h.0, u.1 h.1, n.1 h.2, f.1 h.3))

pub unmet : (c : Conditions) (node : Option (ℕ × ℕ)) (u : Unmet) → ((conditions_of c node ≡ Err u) ↔ IsFirstUnmet c node u)
unmet c node u =
    let a = match_holds c.matches node in
    let b = unmodified_holds c.unmodified node in
    let n = none_match_holds c.none node in
    let d = modified_holds c.modified node in
    let words = in_words c node u in
    (λ e. words.0 (told a b n d u e), λ h. is_told a b n d u (words.1 h))
