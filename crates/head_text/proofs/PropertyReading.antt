-- The loop over the items of a text of properties.
use Rattle.std.proofs.Common.{◌≡◌, ℕ, ◌+◌, ◌<◌, List, [], ◌∷◌, map, length, get_or, drop, Result, Ok, Bor, sym, ap, ◌∙◌, arith}
use Rattle.std.proofs.lemmas.List.{drop_more, get_or-map, length-map}
use Rattle.head_text.specs.declared.props_fault.PropsFault.{PropsFault}
use Rattle.head_text.specs.declared.props_fault.PropsStop.{PropsStop}
use Rattle.head_text.specs.declared.props_fault.PropsStop.TheVariants as stop
use Rattle.head_text.specs.Properties.{Property}
use Rattle.head_text.specs.PropertyStops.{Stops}
use Rattle.head_text.specs.PropertyTexts.{and_then, property_said, read_from, with_property}

abbrev pub texts : List (Bor (List ℕ)) → List (List ℕ)
texts items = map (λ t. t.now) items

one_more : (items : List (Bor (List ℕ))) (at : ℕ) (d : Bor (List ℕ)) → at < length items
    → drop at (texts items) ≡ (get_or items at d).now ∷ drop (at + 1) (texts items)
one_more items at d within =
    let long = length-map items (λ (t : Bor (List ℕ)). t.now) in
    drop_more (texts items) at [] (omega (arith, long))
    ∙ ap (λ u. u ∷ drop (at + 1) (texts items)) (get_or-map (λ (t : Bor (List ℕ)). t.now) items at d [] within)

module _ (items : List (Bor (List ℕ))) (at : ℕ) (d : Bor (List ℕ)) (pairs : List Property) (answer : Result (List Property) PropsFault)
    (within : at < length items) (so_far : read_from at pairs (drop at (texts items)) ≡ answer) where
  abbrev rest : Result (List Property) PropsFault → Result (List Property) PropsFault
  rest r = and_then r (λ more. read_from (at + 1) more (drop (at + 1) (texts items)))

  at_item : rest (and_then (property_said at (get_or items at d).now) (with_property at pairs)) ≡ answer
  at_item = sym (ap (read_from at pairs) (one_more items at d within)) ∙ so_far

  -- the item has a fault of its own
  pub fault_there : (e : PropsStop) → Stops e (property_said at (get_or items at d).now) → Stops e answer
  fault_there (stop.Fault f) s = sym at_item ∙ ap (λ r. rest (and_then r (with_property at pairs))) s
  fault_there stop.NoMemory s = tt

  module _ (p : Property) (said : property_said at (get_or items at d).now ≡ Ok p) where
    at_property : rest (with_property at pairs p) ≡ answer
    at_property = sym (ap (λ r. rest (and_then r (with_property at pairs))) said) ∙ at_item

    -- its name stood before
    pub repeat_there : (e : PropsStop) → Stops e (with_property at pairs p) → Stops e answer
    repeat_there (stop.Fault f) s = sym at_property ∙ ap rest s
    repeat_there stop.NoMemory s = tt

    -- it is read, and the rest is left
    pub more_there : (more : List Property) → with_property at pairs p ≡ Ok more → read_from (at + 1) more (drop (at + 1) (texts items)) ≡ answer
    more_there more is = sym (ap rest is) ∙ at_property
