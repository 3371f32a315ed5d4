-- What is found among the names of headers.
use Rattle.std.proofs.Common.{◌≡◌, ℕ, Bool, List, [], ◌∷◌, map, length, take, refl, ap, ◌∙◌}
use Rattle.std.specs.Prelude.{◌||◌, bytes_eq}
use Rattle.std.specs.Char.{to_ascii_lowercase}
use Rattle.std.specs.List.{list_any, take-map}
use Rattle.std.proofs.lemmas.Str.Ascii.{lowercase-lowercase}
use Rattle.op_decode.specs.Renames.{begins_with}

-- one of a list passes a test of what it is seen as exactly where one of those passes
pub any_seen : {X Y : Type 0} (test : Y → Bool) (seen : X → Y) (xs : List X) → list_any (λ x. test (seen x)) xs ≡ list_any test (map seen xs)
any_seen test seen [] = refl
any_seen test seen (x ∷ xs) = ap (λ (b : Bool). test (seen x) || b) (any_seen test seen xs)

lowered_twice : (text : List ℕ) → map to_ascii_lowercase (map to_ascii_lowercase text) ≡ map to_ascii_lowercase text
lowered_twice [] = refl
lowered_twice (b ∷ text) = rw (lowercase-lowercase b, lowered_twice text) refl

-- the front of a name has no case
pub front_in_any_case : (front name : List ℕ) (value : List ℕ) → begins_with front (map to_ascii_lowercase name, value) ≡ begins_with front (name, value)
front_in_any_case front name value =
    ap (λ (text : List ℕ). bytes_eq text (map to_ascii_lowercase front))
    (ap (λ (text : List ℕ). map to_ascii_lowercase text) (take-map to_ascii_lowercase (length front) name)
    ∙ lowered_twice (take (length front) name))
