-- What is cut at each place of a byte, and what is joined by it.
use Rattle.std.proofs.Common.{◌≡◌, ℕ, Bool, true, false, not, List, [], ◌∷◌, All, refl, ap, ◌∙◌, ⊎_elim}
use Rattle.std.specs.List.{list_all, join_with_byte, slice_split, onto_first}
use Rattle.std.proofs.lemmas.Bool.{cases_Bool}
use Rattle.std.proofs.lemmas.List.Elements.{All-nil, All-cons}
use Rattle.std.proofs.lemmas.List.Splits.{slice_split_at, slice_split_none, slice_split-cons_yes, slice_split-cons_no}
use Rattle.path_text.proofs.PlaceLemmas.{both_parts}

not_true : (b : Bool) → not b ≡ true → b ≡ false
not_true true e = cc
not_true false e = refl

pub none_pass : (p : ℕ → Bool) (part : List ℕ) → list_all (λ b. not (p b)) part ≡ true → All (λ b. p b ≡ false) part
none_pass p [] e = All-nil (λ b. p b ≡ false)
none_pass p (b ∷ part) e =
    let parts = both_parts (not (p b)) (list_all (λ x. not (p x)) part) e in
    All-cons (λ x. p x ≡ false) b part (not_true (p b) parts.0) (none_pass p part parts.1)

pub pieces_have_none : (p : ℕ → Bool) (text : List ℕ) → list_all (list_all (λ b. not (p b))) (slice_split p text) ≡ true
pieces_have_none p [] = refl
pieces_have_none p (b ∷ text) =
    ⊎_elim
    (λ yes. rw (slice_split-cons_yes p b text yes) (pieces_have_none p text))
    (λ none. rw (slice_split-cons_no p b text none) (onto_keeps p b (slice_split p text) none (pieces_have_none p text)))
    (cases_Bool (p b))
  where
    onto_keeps : (p : ℕ → Bool) (b : ℕ) (pieces : List (List ℕ)) → p b ≡ false → list_all (list_all (λ x. not (p x))) pieces ≡ true → list_all (list_all (λ x. not (p x))) (onto_first b pieces) ≡ true
    onto_keeps p b [] none all = rw none refl
    onto_keeps p b (piece ∷ pieces) none all = rw none all

pub split_join : (p : ℕ → Bool) (c : ℕ) → p c ≡ true → (part : List ℕ) (parts : List (List ℕ)) → list_all (list_all (λ b. not (p b))) (part ∷ parts) ≡ true
    → slice_split p (join_with_byte c (part ∷ parts)) ≡ part ∷ parts
split_join p c passes part [] e = slice_split_none p part (none_pass p part (both_parts (list_all (λ b. not (p b)) part) true e).0)
split_join p c passes part (next ∷ parts) e =
    let here = both_parts (list_all (λ b. not (p b)) part) (list_all (list_all (λ b. not (p b))) (next ∷ parts)) e in
    slice_split_at p part c (join_with_byte c (next ∷ parts)) (none_pass p part here.0) passes ∙ ap (λ x. part ∷ x) (split_join p c passes next parts here.1)
