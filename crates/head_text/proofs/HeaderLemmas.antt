-- Of a repeated header the first counts.
use Rattle.std.proofs.Common.{◌≡◌, ℕ, true, false, cond, List, [], ◌∷◌, ◌++◌, Option, None, Some, option_map, find, refl, ap, ◌∙◌}
use Rattle.std.specs.List.{AllByRecursion}
use Rattle.head_text.specs.Headers.{is_named, first_header}

abbrev Header : Type 0
Header = List ℕ × List ℕ

abbrev value_of : Option Header → Option (List ℕ)
value_of found = option_map (λ (header : Header). header.1) found

passed_over : (name : List ℕ) (front back : List Header) → AllByRecursion (λ h. is_named name h ≡ false) front
    → find (is_named name) (front ++ back) ≡ find (is_named name) back
passed_over name [] back h = refl
passed_over name (x ∷ front) back h =
    ap (λ b. cond b (Some x) (find (is_named name) (front ++ back))) h.0 ∙ passed_over name front back h.1

pub first_counts : (name : List ℕ) (front back : List Header) (header : Header)
    → AllByRecursion (λ h. is_named name h ≡ false) front → is_named name header ≡ true
    → first_header name (front ++ header ∷ back) ≡ Some header.1
unfolding first_header
first_counts name front back header h is =
    ap value_of (passed_over name front (header ∷ back) h)
    ∙ ap (λ b. value_of (cond b (Some header) (find (is_named name) back))) is

pub none_is_found : (name : List ℕ) (headers : List Header) → AllByRecursion (λ h. is_named name h ≡ false) headers
    → first_header name headers ≡ None
unfolding first_header
none_is_found name [] h = refl
none_is_found name (x ∷ headers) h =
    ap (λ b. value_of (cond b (Some x) (find (is_named name) headers))) h.0 ∙ none_is_found name headers h.1
