-- Facts about the parts of a text.
use Rattle.std.proofs.Common.{◌≡◌, ℕ, ◌+◌, ◌<◌, true, false, List, length, get_or, drop, Option, Some, None, is_some, sym, ap, subst, refl, ◌∙◌}
use Rattle.std.proofs.lemmas.Bool.{false≢true}
use Rattle.std.proofs.lemmas.List.{at_drop_more}
use Rattle.path_text.specs.declared.fault.PathFault.{PathFault}
use Rattle.path_text.specs.Texts.{or_else, part_fault, parts_fault}

or_else_some : (a b : Option PathFault) → is_some a ≡ true → or_else a b ≡ a
or_else_some None b e = absurd (false≢true e)
or_else_some (Some fault) b e = refl

or_else_none : (a b : Option PathFault) → is_some a ≡ false → or_else a b ≡ b
or_else_none None b e = refl
or_else_none (Some fault) b e = absurd (false≢true (sym e))

-- the first fault from a place on is that of the part there, or the first behind it
parts_fault-turn : (parts : List (List ℕ)) (place i : ℕ) (part : List ℕ) → place ≡ i → (i < length parts) × (part ≡ get_or parts i part) → parts_fault place (drop place parts) ≡ or_else (part_fault place part) (parts_fault (place + 1) (drop (place + 1) parts))
parts_fault-turn parts place i part same h =
    let here : (place < length parts) × (part ≡ get_or parts place part) = subst (λ (k : ℕ). (k < length parts) × (part ≡ get_or parts k part)) (sym same) h in
    at_drop_more (parts_fault place) parts place part here.0 ∙ ap (λ x. or_else (part_fault place x) (parts_fault (place + 1) (drop (place + 1) parts))) (sym here.1)

pub parts_fault-found : (parts : List (List ℕ)) (place i : ℕ) (part : List ℕ) (fault : Option PathFault) → place ≡ i → (i < length parts) × (part ≡ get_or parts i part) → parts_fault place (drop place parts) ≡ parts_fault 0 parts → fault ≡ part_fault place part → is_some fault ≡ true → fault ≡ parts_fault 0 parts
parts_fault-found parts place i part fault same h before is some =
    is ∙ sym (or_else_some _ _ (ap is_some (sym is) ∙ some)) ∙ sym (parts_fault-turn parts place i part same h) ∙ before

pub parts_fault-passed : (parts : List (List ℕ)) (place i : ℕ) (part : List ℕ) (fault : Option PathFault) → place ≡ i → (i < length parts) × (part ≡ get_or parts i part) → parts_fault place (drop place parts) ≡ parts_fault 0 parts → fault ≡ part_fault place part → is_some fault ≡ false → parts_fault (place + 1) (drop (place + 1) parts) ≡ parts_fault 0 parts
parts_fault-passed parts place i part fault same h before is none =
    sym (or_else_none _ _ (ap is_some (sym is) ∙ none)) ∙ sym (parts_fault-turn parts place i part same h) ∙ before
