-- A text is what is trimmed of it with spaces and tabs round it.
use Rattle.std.proofs.Common.{◌≡◌, ℕ, suc, ◌+◌, ◌-◌, true, false, cond, List, [], ◌∷◌, ◌++◌, length, take, drop, reverse, refl, sym, ap, subst, ◌∙◌, arith}
use Rattle.std.specs.List.{list_all, prefix_len, suffix_len, AllByRecursion}
use Rattle.std.proofs.lemmas.List.{take-append-drop, reverse-append, reverse-reverse, length-reverse, length-drop}
use Rattle.std.proofs.lemmas.List.Elements.{recursion_from_All, All-from_recursion}
use Rattle.std.proofs.lemmas.List.Sorted.{IsPermutation-reverse, All-permutation}
use Rattle.std.proofs.Math.Seq.{take-append_seam, drop-append-add}
use Rattle.head_text.specs.ETags.{is_blank, trimmed, without_front}
use Rattle.head_text.specs.Trims.{IsTrimmed}
use Rattle.head_text.proofs.PropertyLemmas.{both, both_are}

abbrev IsBlank : List ℕ → Type 0
IsBlank t = list_all is_blank t ≡ true

-- ---- at the front

front_blank : (t : List ℕ) → IsBlank (take (prefix_len is_blank t) t)
front_blank [] = refl
front_blank (b ∷ t) =
    let k = prefix_len is_blank t in
    elim (is_blank b) as (λ c. is_blank b ≡ c → IsBlank (take (cond c (1 + k) 0) (b ∷ t))) [
      | true ↦ λ is. let next : suc k ≡ 1 + k = omega arith in subst (λ n. IsBlank (take n (b ∷ t))) next (both (is_blank b) _ is (front_blank t))
      | false ↦ λ _. refl
    ] refl

begins : (t : List ℕ) → prefix_len is_blank (drop (prefix_len is_blank t) t) ≡ 0
begins [] = refl
begins (b ∷ t) =
    let k = prefix_len is_blank t in
    elim (is_blank b) as (λ c. is_blank b ≡ c → prefix_len is_blank (drop (cond c (1 + k) 0) (b ∷ t)) ≡ 0) [
      | true ↦ λ is. let next : suc k ≡ 1 + k = omega arith in subst (λ n. prefix_len is_blank (drop n (b ∷ t)) ≡ 0) next (begins t)
      | false ↦ λ is. ap (λ c. cond c (1 + k) 0) is
    ] refl

head_is : (b : ℕ) (t : List ℕ) → prefix_len is_blank (b ∷ t) ≡ 0 → is_blank b ≡ false
head_is b t =
    elim (is_blank b) as (λ c. cond c (1 + prefix_len is_blank t) 0 ≡ 0 → c ≡ false) [
      | true ↦ λ e. absurd (omega (arith, e))
      | false ↦ λ _. refl
    ]

-- ---- at the back

each : (t : List ℕ) → IsBlank t → AllByRecursion (λ b. is_blank b ≡ true) t
each [] e = tt
each (b ∷ t) e = let p = both_are (is_blank b) _ e in (p.0, each t p.1)

all : (t : List ℕ) → AllByRecursion (λ b. is_blank b ≡ true) t → IsBlank t
all [] h = refl
all (b ∷ t) h = both _ _ h.0 (all t h.1)

blank_reverse : (t : List ℕ) → IsBlank t → IsBlank (reverse t)
blank_reverse t e =
    all (reverse t) (recursion_from_All (λ b. is_blank b ≡ true) (reverse t)
    (All-permutation (λ b. is_blank b ≡ true) t (reverse t) (IsPermutation-reverse t) (All-from_recursion (λ b. is_blank b ≡ true) t (each t e))))

-- the part that stays, and the blanks behind it, by the text read backwards
record IsCut (t : List ℕ) (n : ℕ) : Type 0 where
  stays : take n t ≡ reverse (drop (suffix_len is_blank t) (reverse t))
  goes : drop n t ≡ reverse (take (suffix_len is_blank t) (reverse t))

cut_back : (t : List ℕ) → IsCut t (length t - suffix_len is_blank t)
cut_back t =
    let s = suffix_len is_blank t in
    let kept = reverse (drop s (reverse t)) in
    let gone = reverse (take s (reverse t)) in
    let parts : t ≡ kept ++ gone =
    sym (reverse-reverse t) ∙ ap reverse (sym (take-append-drop s (reverse t))) ∙ reverse-append (take s (reverse t)) (drop s (reverse t)) in
    let long : length t - s ≡ length kept = ap (λ n. n - s) (sym (length-reverse t)) ∙ sym (length-drop s (reverse t)) ∙ sym (length-reverse (drop s (reverse t))) in
    let after : drop (length kept + 0) (kept ++ gone) ≡ gone = drop-append-add kept gone 0 in
    let none : length kept ≡ length kept + 0 = omega arith in
    record {
      stays = ap (λ n. take n t) long ∙ ap (take (length kept)) parts ∙ take-append_seam kept gone;
      goes = ap (λ n. drop n t) (long ∙ none) ∙ ap (drop (length kept + 0)) parts ∙ after;
    }

pub trimmed_is : (text : List ℕ) → IsTrimmed text (trimmed text)
unfolding trimmed
trimmed_is text =
    let t = without_front text in
    let s = suffix_len is_blank t in
    let n = length t - s in
    let c = cut_back t in
    record {
      front = take (prefix_len is_blank text) text;
      back = drop n t;
      parts = sym (take-append-drop (prefix_len is_blank text) text)
          ∙ ap (λ x. take (prefix_len is_blank text) text ++ x) (sym (take-append-drop n t));
      blank_front = front_blank text;
      blank_back = subst IsBlank (sym c.goes) (blank_reverse (take s (reverse t)) (front_blank (reverse t)));
      first = λ b rest e.
          let whole : t ≡ b ∷ (rest ++ drop n t) = sym (take-append-drop n t) ∙ ap (λ x. x ++ drop n t) e in
          head_is b (rest ++ drop n t) (ap (prefix_len is_blank) (sym whole) ∙ begins text);
      last = λ rest b e.
          let backwards : drop s (reverse t) ≡ b ∷ reverse rest =
          sym (reverse-reverse (drop s (reverse t))) ∙ ap reverse (sym c.stays ∙ e) ∙ reverse-append rest (b ∷ []) in
          head_is b (reverse rest) (ap (prefix_len is_blank) (sym backwards) ∙ begins (reverse t));
    }
