-- Names with `/` between them: the first, then `/` and a name for each of the others.
use Rattle.std.proofs.Common.{◌≡◌, ℕ, ◌==◌, true, false, List, [], ◌∷◌, ◌++◌, length, refl, sym, ap, ◌∙◌, append_assoc, eqb-true, arith}
use Rattle.std.specs.List.{flat_map, join_with_byte}
use Rattle.std.proofs.lemmas.Bool.{true≢false}
use Rattle.std.proofs.lemmas.List.{append-nil}
use Rattle.std.proofs.lemmas.Grind.{flat_map-append}

pub joined_is : (x : List ℕ) (xs : List (List ℕ)) → join_with_byte 47 (x ∷ xs) ≡ x ++ flat_map (λ name. 47 ∷ name) xs
joined_is x [] = sym (append-nil x)
joined_is x (y ∷ ys) = ap (λ t. x ++ 47 ∷ t) (joined_is y ys)

pub both_are : (xs ys : List (List ℕ)) → (length xs == 0) ≡ false → join_with_byte 47 (xs ++ ys) ≡ join_with_byte 47 xs ++ flat_map (λ name. 47 ∷ name) ys
both_are [] ys some = absurd (true≢false some)
both_are (x ∷ xs) ys some =
    joined_is x (xs ++ ys) ∙ ap (λ t. x ++ t) (flat_map-append (λ name. 47 ∷ name) xs ys)
    ∙ sym (append_assoc x (flat_map (λ name. 47 ∷ name) xs) (flat_map (λ name. 47 ∷ name) ys))
    ∙ ap (λ t. t ++ flat_map (λ name. 47 ∷ name) ys) (sym (joined_is x xs))

pub none_before : (xs ys : List (List ℕ)) → (length xs == 0) ≡ true → xs ++ ys ≡ ys
none_before xs ys none = by_length xs (eqb-true (length xs) 0 none)
  where
    by_length : (xs : List (List ℕ)) → length xs ≡ 0 → xs ++ ys ≡ ys
    by_length [] h = refl
    by_length (x ∷ xs) h = absurd (omega arith)
