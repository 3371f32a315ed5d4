-- Reading a list item by item, and looking for a repeated one.
use Rattle.std.proofs.Common.{◌≡◌, ℕ, ◌+◌, ◌<◌, ◌≤◌, Bool, true, false, cond, List, [], ◌∷◌, ◌++◌, map, filter, length, get_or, take, drop, Option, None, Some, is_none, Ok, Err, sym, ap, ◌∙◌, arith}
use Rattle.std.specs.List.{AllByRecursion, filter_map, cons_option, list_any, position_from}
use Rattle.std.proofs.lemmas.List.{drop_more, take_more, get_or-map, length-map, at_drop_all, take_all}
use Rattle.std.proofs.lemmas.List.Elements.{filter_map-append}
use denote.Ref.{Bor}
use Rattle.acl_text.specs.declared.acl.AclFault.TheVariants.{BadEntry}
use Rattle.acl_text.specs.AclTexts.{repeat_from, values_of, or_bad}

module _ {X : Type 0} (read : List ℕ → Option X) where
  -- an item that can't be read
  abbrev pub is_bad : List ℕ → Bool
  is_bad item = is_none (read item)

  abbrev pub texts : List (Bor (List ℕ)) → List (List ℕ)
  texts items = map (λ t. t.now) items

  one_more : (items : List (Bor (List ℕ))) (at : ℕ) (d : Bor (List ℕ)) → at < length items
      → drop at (texts items) ≡ (get_or items at d).now ∷ drop (at + 1) (texts items)
  one_more items at d within =
      let long = length-map items (λ (t : Bor (List ℕ)). t.now) in
      drop_more (texts items) at [] (omega (arith, long))
      ∙ ap (λ u. u ∷ drop (at + 1) (texts items)) (get_or-map (λ (t : Bor (List ℕ)). t.now) items at d [] within)

  front_more : (items : List (Bor (List ℕ))) (at : ℕ) (d : Bor (List ℕ)) → at < length items
      → take (at + 1) (texts items) ≡ take at (texts items) ++ (get_or items at d).now ∷ []
  front_more items at d within =
      let long = length-map items (λ (t : Bor (List ℕ)). t.now) in
      take_more (texts items) at [] (omega (arith, long))
      ∙ ap (λ u. take at (texts items) ++ u ∷ []) (get_or-map (λ (t : Bor (List ℕ)). t.now) items at d [] within)

  -- one more item that is read
  pub read_more : (items : List (Bor (List ℕ))) (at : ℕ) (d : Bor (List ℕ)) (x : X) (r : Option X) → at < length items
      → r ≡ read (get_or items at d).now → r ≡ Some x
      → (position_from is_bad at (drop at (texts items)) ≡ position_from is_bad (at + 1) (drop (at + 1) (texts items)))
      × (filter_map read (take (at + 1) (texts items)) ≡ filter_map read (take at (texts items)) ++ x ∷ [])
  read_more items at d x r within e is = (
    ap (position_from is_bad at) (one_more items at d within)
        ∙ ap (λ o. cond (is_none o) (Some at) (position_from is_bad (at + 1) (drop (at + 1) (texts items)))) (sym e ∙ is),
    ap (filter_map read) (front_more items at d within)
        ∙ filter_map-append read (take at (texts items)) ((get_or items at d).now ∷ [])
        ∙ ap (λ o. filter_map read (take at (texts items)) ++ cons_option o []) (sym e ∙ is),
  )

  -- the first item that isn't
  pub read_bad : (items : List (Bor (List ℕ))) (at : ℕ) (d : Bor (List ℕ)) (r : Option X) → at < length items
      → r ≡ read (get_or items at d).now → r ≡ None
      → position_from is_bad at (drop at (texts items)) ≡ Some at
  read_bad items at d r within e is =
      ap (position_from is_bad at) (one_more items at d within)
      ∙ ap (λ o. cond (is_none o) (Some at) (position_from is_bad (at + 1) (drop (at + 1) (texts items)))) (sym e ∙ is)

  -- what all items give
  pub all_read : (items : List (Bor (List ℕ))) (at : ℕ) (xs : List X) → length items ≤ at
      → position_from is_bad 0 (texts items) ≡ position_from is_bad at (drop at (texts items))
      → xs ≡ filter_map read (take at (texts items)) → values_of read (texts items) ≡ Ok xs
  unfolding values_of
  all_read items at xs past none is =
      let long = length-map items (λ (t : Bor (List ℕ)). t.now) in
      let end : length (texts items) ≤ at = omega (arith, long) in
      let good : position_from is_bad 0 (texts items) ≡ None = none ∙ at_drop_all (position_from is_bad at) (texts items) at end in
      ap (λ o. or_bad o (filter_map read (texts items))) good ∙ ap Ok (sym (is ∙ ap (filter_map read) (take_all at (texts items) end)))

  pub one_bad : (items : List (Bor (List ℕ))) (at : ℕ) → position_from is_bad 0 (texts items) ≡ Some at → values_of read (texts items) ≡ Err (BadEntry at)
  unfolding values_of
  one_bad items at e = ap (λ o. or_bad o (filter_map read (texts items))) e

module _ {X : Type 0} (same : X → X → Bool) where
  pub no_repeat_yet : (xs : List X) (at : ℕ) (x : X) → at < length xs → x ≡ get_or xs at x → list_any (same x) (take at xs) ≡ false
      → repeat_from same (take at xs) (drop at xs) ≡ repeat_from same (take (at + 1) xs) (drop (at + 1) xs)
  no_repeat_yet xs at x within is e =
      ap (repeat_from same (take at xs)) (drop_more xs at x within ∙ ap (λ y. y ∷ drop (at + 1) xs) (sym is))
      ∙ ap (λ b. cond b (Some (length (take at xs))) (repeat_from same (take at xs ++ x ∷ []) (drop (at + 1) xs))) e
      ∙ ap (λ seen. repeat_from same seen (drop (at + 1) xs)) (sym (take_more xs at x within ∙ ap (λ y. take at xs ++ y ∷ []) (sym is)))

-- what is so of all is so of those that a test keeps
pub all_filtered : {X : Type 0} (P : X → Type 0) (p : X → Bool) (xs : List X) → AllByRecursion P xs → AllByRecursion P (filter p xs)
all_filtered P p [] h = tt
all_filtered P p (x ∷ xs) h =
    elim (p x) as (λ b. AllByRecursion P (cond b (x ∷ filter p xs) (filter p xs))) [
      | true ↦ (h.0, all_filtered P p xs h.1)
      | false ↦ all_filtered P p xs h.1
    ]
