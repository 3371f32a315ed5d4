-- How long paths are.
use Rattle.std.proofs.Common.{◌≡◌, ◌≢◌, ℕ, zero, suc, ◌+◌, ◌<◌, ◌≤◌, Bool, true, false, ◌||◌, nat_lt, List, [], ◌∷◌, ◌++◌, length, take, drop, refl, ap, sym, ◌∙◌, length-append, arith, Some, is_some}
use Rattle.std.proofs.Math.Seq.{take-suc}
use Rattle.std.proofs.lemmas.Bool.{false≢true}
use Rattle.std.proofs.lemmas.Option.{same_Some}
use Rattle.std.proofs.lemmas.Bool.Decides.{nat_tests}
use Rattle.std.specs.List.{join_with_byte}
use Rattle.std.specs.Prelude.{slice_index_or, slice_get}
use Rattle.namespace_model.specs.Rename.{is_too_long, text_length}
use Rattle.namespace_model.specs.Trees.{Path}
use Rattle.dir_rename.specs.declared.lengths.Room.{Room}
use Rattle.dir_rename.specs.Lengths.{name_bytes, IsRoom}

pub bytes-append : (p q : Path) → name_bytes (p ++ q) ≡ name_bytes p + name_bytes q
bytes-append [] q = (let h : name_bytes q ≡ 0 + name_bytes q = omega arith in h)
bytes-append (n ∷ p) q = let more = bytes-append p q in let h : suc (length n) + name_bytes (p ++ q) ≡ suc (length n) + name_bytes p + name_bytes q = omega arith in h

-- the first name without its `/`
pub text_is : (n : List ℕ) (p : Path) → text_length (n ∷ p) ≡ length n + name_bytes p
text_is n [] = let h : length n ≡ length n + 0 = omega arith in h
text_is n (m ∷ p) =
    let rest = text_is m p in
    length-append n (47 ∷ join_with_byte 47 (m ∷ p))
    ∙ (let h : length n + suc (text_length (m ∷ p)) ≡ length n + (suc (length m) + name_bytes p) = omega arith in h)

-- a path with names below it
pub text_below : (p names : Path) → p ≢ [] → text_length (p ++ names) ≡ text_length p + name_bytes names
text_below [] names some = absurd (some refl)
text_below (n ∷ p) names some =
    text_is n (p ++ names) ∙ ap (λ k. length n + k) (bytes-append p names)
    ∙ (let whole = text_is n p in let h : length n + (name_bytes p + name_bytes names) ≡ text_length (n ∷ p) + name_bytes names = omega arith in h)

-- one name more
pub bytes_next : (names : Path) (i : ℕ) (name : List ℕ) → i < length names → name ≡ slice_index_or names i name → name_bytes (take (i + 1) names) ≡ name_bytes (take i names) + suc (length name)
bytes_next names i name within item =
    ap (λ k. name_bytes (take k names)) (let h : i + 1 ≡ suc i = omega arith in h) ∙ ap name_bytes (take-suc names i name within)
    ∙ bytes-append (take i names) (slice_index_or names i name ∷ [])
    ∙ ap (λ (n : List ℕ). name_bytes (take i names) + (suc (length n) + 0)) (sym item)
    ∙ (let h : name_bytes (take i names) + (suc (length name) + 0) ≡ name_bytes (take i names) + suc (length name) = omega arith in h)

-- no more than all
pub bytes_within : (names : Path) (i : ℕ) → name_bytes (take i names) ≤ name_bytes names
bytes_within names zero = omega arith
bytes_within [] (suc i) = omega arith
bytes_within (n ∷ names) (suc i) = let more = bytes_within names i in omega arith

-- what has no room
pub overlong_is : (p names : Path) (names_left bytes_left : ℕ) (some : p ≢ []) → names_left + length p ≡ 60 → bytes_left + text_length p ≡ 1024
    → (nat_lt names_left (length names) || nat_lt bytes_left (name_bytes names)) ≡ is_too_long (p ++ names)
overlong_is p names names_left bytes_left some deep long =
    ap (λ b. b || nat_lt bytes_left (name_bytes names)) (same_lt names_left (length names) 60 (length (p ++ names)) (length p) deep (length-append p names))
    ∙ ap (λ b. nat_lt 60 (length (p ++ names)) || b) (same_lt bytes_left (name_bytes names) 1024 (text_length (p ++ names)) (text_length p) long (text_below p names some))
  where
    same_lt : (a b c d k : ℕ) → a + k ≡ c → d ≡ k + b → nat_lt a b ≡ nat_lt c d
    same_lt a b c d k e f = grind (arith, nat_tests)

-- what has room, and what has too many bytes
module _ (p names : Path) (room : Room) (some : p ≢ []) (is : IsRoom p room) where
  tests_say : (nat_lt room.names (length names) || nat_lt room.bytes (name_bytes names)) ≡ is_too_long (p ++ names)
  tests_say = overlong_is p names room.names room.bytes some is.names is.bytes

  not_less : (a b : ℕ) → b ≤ a → nat_lt a b ≡ false
  not_less a b h = grind (arith, nat_tests)

  less : (a b : ℕ) → a < b → nat_lt a b ≡ true
  less a b h = grind (arith, nat_tests)

  pub has_room : length names ≤ room.names → (left : ℕ) → left + name_bytes names ≡ room.bytes → false ≡ is_too_long (p ++ names)
  has_room few left enough =
      sym (ap (λ b. b || nat_lt room.bytes (name_bytes names)) (not_less room.names (length names) few) ∙ not_less room.bytes (name_bytes names) (let h : name_bytes names ≤ room.bytes = omega arith in h))
      ∙ tests_say

  pub too_many_bytes : room.bytes < name_bytes names → true ≡ is_too_long (p ++ names)
  too_many_bytes more =
      sym (ap (λ b. nat_lt room.names (length names) || b) (less room.bytes (name_bytes names) more) ∙ either (nat_lt room.names (length names))) ∙ tests_say
    where
      either : (b : Bool) → (b || true) ≡ true
      either true = refl
      either false = refl

  pub too_many_names : room.names < length names → true ≡ is_too_long (p ++ names)
  too_many_names more = sym (ap (λ b. b || nat_lt room.bytes (name_bytes names)) (less room.names (length names) more)) ∙ tests_say

-- the text of a path whose first name is this, with these names behind it
pub room_is : (p : Path) (fs bytes : List ℕ) (names : Path) → slice_get p 0 ≡ Some fs → bytes ≡ fs → names ≡ drop 1 p → text_length p ≡ length bytes + name_bytes names
room_is [] fs bytes names e b d = absurd (false≢true (ap is_some e))
room_is (n ∷ p) fs bytes names e b d =
    text_is n p ∙ ap (λ (k : List ℕ). length k + name_bytes p) (same_Some n fs e ∙ sym b) ∙ ap (λ (l : Path). length bytes + name_bytes l) (sym d)
