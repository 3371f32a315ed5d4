-- Reading the ids of items one by one.
use Rattle.std.proofs.Common.{◌≡◌, ℕ, ◌+◌, ◌<◌, ◌≤◌, List, [], ◌∷◌, ◌++◌, map, length, get_or, drop, Option, None, Some, refl, sym, ap, ◌∙◌, arith}
use Rattle.std.proofs.lemmas.List.{drop_more, get_or-map, length-map, at_drop_all}
use denote.Ref.{Bor}
use Rattle.acl_text.specs.Ids.{id_of}
use Rattle.head_text.specs.ETags.{trimmed}
use Rattle.op_decode.specs.Callers.{ids_of, with_id}

-- ids before others, where those are there
abbrev pub with_front : List (List ℕ) → Option (List (List ℕ)) → Option (List (List ℕ))
with_front front None = None
with_front front (Some ids) = Some (front ++ ids)

abbrev pub texts : List (Bor (List ℕ)) → List (List ℕ)
texts items = map (λ t. t.now) items

one_more : (items : List (Bor (List ℕ))) (at : ℕ) (d : Bor (List ℕ)) → at < length items
    → drop at (texts items) ≡ (get_or items at d).now ∷ drop (at + 1) (texts items)
one_more items at d within =
    let long = length-map items (λ (t : Bor (List ℕ)). t.now) in
    drop_more (texts items) at [] (omega (arith, long))
    ∙ ap (λ u. u ∷ drop (at + 1) (texts items)) (get_or-map (λ (t : Bor (List ℕ)). t.now) items at d [] within)

append_one : {X : Type 0} (xs ys : List X) (x : X) → (xs ++ x ∷ []) ++ ys ≡ xs ++ x ∷ ys
append_one [] ys x = refl
append_one {X = X} (z ∷ xs) ys x = ap (λ (r : List X). z ∷ r) (append_one xs ys x)

with_front-more : (front : List (List ℕ)) (id : List ℕ) (rest : Option (List (List ℕ))) → with_front front (with_id (Some id) rest) ≡ with_front (front ++ id ∷ []) rest
with_front-more front id None = refl
with_front-more front id (Some ids) = ap Some (sym (append_one front ids id))

-- one id more
pub id_more : (items : List (Bor (List ℕ))) (at : ℕ) (d : Bor (List ℕ)) (front : List (List ℕ)) (id : List ℕ) → at < length items
    → id_of (trimmed (get_or items at d).now) ≡ Some id
    → with_front front (ids_of (drop at (texts items))) ≡ with_front (front ++ id ∷ []) (ids_of (drop (at + 1) (texts items)))
id_more items at d front id within e =
    ap (λ (ts : List (List ℕ)). with_front front (ids_of ts)) (one_more items at d within)
    ∙ ap (λ (o : Option (List ℕ)). with_front front (with_id o (ids_of (drop (at + 1) (texts items))))) e
    ∙ with_front-more front id (ids_of (drop (at + 1) (texts items)))

-- an item that is no id
pub id_none : (items : List (Bor (List ℕ))) (at : ℕ) (d : Bor (List ℕ)) (front : List (List ℕ)) → at < length items
    → id_of (trimmed (get_or items at d).now) ≡ None → with_front front (ids_of (drop at (texts items))) ≡ None
id_none items at d front within e =
    ap (λ (ts : List (List ℕ)). with_front front (ids_of ts)) (one_more items at d within)
    ∙ ap (λ (o : Option (List ℕ)). with_front front (with_id o (ids_of (drop (at + 1) (texts items))))) e

append_none : {X : Type 0} (xs : List X) → xs ++ [] ≡ xs
append_none [] = refl
append_none {X = X} (x ∷ xs) = ap (λ (r : List X). x ∷ r) (append_none xs)

front_none : (o : Option (List (List ℕ))) → with_front [] o ≡ o
front_none None = refl
front_none (Some ids) = refl

-- no item is left
pub ids_all : (items : List (Bor (List ℕ))) (at : ℕ) (front : List (List ℕ)) → length items ≤ at
    → with_front front (ids_of (drop at (texts items))) ≡ ids_of (texts items) → ids_of (texts items) ≡ Some front
ids_all items at front past e =
    let long = length-map items (λ (t : Bor (List ℕ)). t.now) in
    let end : length (texts items) ≤ at = omega (arith, long, past) in
    sym e ∙ at_drop_all (λ (ts : List (List ℕ)). with_front front (ids_of ts)) (texts items) at end ∙ ap Some (append_none front)

-- the id that is read of an item
pub id_at : (item text : List ℕ) (o r : Option (List ℕ)) → text ≡ trimmed item → o ≡ id_of text → o ≡ r → id_of (trimmed item) ≡ r
id_at item text o r is read e = ap id_of (sym is) ∙ sym read ∙ e
