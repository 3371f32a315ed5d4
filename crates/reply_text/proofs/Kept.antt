-- What stood in a buffer before more was written behind it.
use Rattle.std.proofs.Common.{◌≡◌, ℕ, ◌≤◌, List, ◌++◌, take, length, ap, sym, subst, ◌∙◌, arith, append_assoc, length-append}
use Rattle.std.proofs.lemmas.List.{take-take}
use Rattle.std.proofs.Math.Seq.{take-append_seam, take-length}

-- what stood before bytes that are still there is still there
pub kept_before : (front back bytes : List ℕ) → take (length (front ++ back)) bytes ≡ front ++ back → take (length front) bytes ≡ front
kept_before front back bytes kept =
    let short : length front ≤ length (front ++ back) = rw (length-append front back) (omega arith) in
    sym (take-take (length front) (length (front ++ back)) bytes short) ∙ ap (take (length front)) kept ∙ take-append_seam front back

-- the same, where the bytes that are still there are known to begin so
pub kept_past : (front back bytes more : List ℕ) → bytes ≡ front ++ back → take (length bytes) more ≡ bytes → take (length front) more ≡ front
kept_past front back bytes more same kept = kept_before front back more (subst (λ t. take (length t) more ≡ t) same kept)

pub kept_front : (front back bytes : List ℕ) → bytes ≡ front ++ back → take (length front) bytes ≡ front
kept_front front back bytes same = rw same (take-append_seam front back)

pub ruleset kept_rules = (take-append_seam, take-length, append_assoc, kept_before)
