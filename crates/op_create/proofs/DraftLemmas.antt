-- The ids that are drawn, and the changes of a chain, one after the other.
use Rattle.std.proofs.Common.{◌≡◌, ℕ, zero, suc, ◌+◌, ◌==◌, ◌<◌, ◌≤◌, Bool, true, false, List, [], ◌∷◌, ◌++◌, length, drop, slice_get, slice_index_or, Some, is_some, refl, ap, sym, ◌∙◌, append_assoc, arith}
use Rattle.std.proofs.lemmas.Bool.{false≢true}
use Rattle.std.proofs.lemmas.Option.{same_Some}
use Rattle.std.specs.Cmp.{unsigned_Decides}
use Rattle.acl_text.specs.declared.acl.AclPair.{AclPair}
use Rattle.namespace_model.specs.Create.{Making}
use Rattle.namespace_model.specs.Trees.{Path}
use Rattle.inode_tree.specs.declared.change.Change.{Change}
use Rattle.inode_tree.specs.declared.change.Change.TheVariants as change
use Rattle.inode_tree.specs.declared.id.NodeId.{NodeId}
use Rattle.inode_tree.specs.Drawing.{next_ids}
use Rattle.inode_tree.specs.Rows.{fresh_id}
use Rattle.inode_tree.proofs.TurnLemmas.{number_differs}
use Rattle.inode_tree.specs.declared.inode.Inode.{Inode}
use Rattle.op_create.specs.Chains.{Maker, chained, new_inode, next_node}

-- ---- ids

abbrev one_id : ℕ → List NodeId
one_id k = record { 0 = k } ∷ []

pub next_more : (pass used many : ℕ) → next_ids pass used many ++ one_id (fresh_id pass (used + many)) ≡ next_ids pass used (suc many)
next_more pass used zero = ap (λ k. one_id (fresh_id pass k)) (let h : used + 0 ≡ used = omega arith in h)
next_more pass used (suc many) =
    ap (λ (l : List NodeId). record { 0 = fresh_id pass used } ∷ l)
    (ap (λ k. next_ids pass (suc used) many ++ one_id (fresh_id pass k)) (let h : used + suc many ≡ suc used + many = omega arith in h) ∙ next_more pass (suc used) many)

pub one_drawn : (ids now : List NodeId) (id : NodeId) (pass used many next : ℕ) → ids ≡ next_ids pass used many → id.0 ≡ fresh_id pass (used + many) → now ≡ ids ++ id ∷ [] → next ≡ many + 1 → now ≡ next_ids pass used next
one_drawn ids now id pass used many next are is pushed e =
    pushed ∙ ap (λ l. l ++ id ∷ []) are ∙ ap (λ k. next_ids pass used many ++ one_id k) is ∙ next_more pass used many
    ∙ ap (next_ids pass used) (let h : suc many ≡ next = omega arith in h)

-- ---- names

pub at_drop : {A : Type 0} (xs : List A) (k : ℕ) (x : A) → slice_get xs k ≡ Some x → drop k xs ≡ x ∷ drop (suc k) xs
at_drop [] k x e = absurd (false≢true (ap is_some e))
at_drop (y ∷ ys) zero x e = ap (λ z. z ∷ ys) (same_Some y x e)
at_drop (y ∷ ys) (suc k) x e = at_drop ys k x e

abbrev is_none_left : Path → Bool
is_none_left [] = true
is_none_left (n ∷ names) = false

length_drop : (k : ℕ) (xs : Path) → k ≤ length xs → length (drop k xs) + k ≡ length xs
length_drop zero xs h = let e : length xs + 0 ≡ length xs = omega arith in e
length_drop (suc k) [] h = absurd (omega arith)
length_drop (suc k) (x ∷ xs) h = let r = length_drop k xs (let s : length (x ∷ xs) ≡ suc (length xs) = refl in let g : k ≤ length xs = omega arith in g) in let s : length (x ∷ xs) ≡ suc (length xs) = refl in omega arith

last_test : (k : ℕ) (names : Path) → k < length names → (k + 1 == length names) ≡ is_none_left (drop (suc k) names)
last_test k names h = by_rest (drop (suc k) names) refl
  where
    by_rest : (rest : Path) → drop (suc k) names ≡ rest → (k + 1 == length names) ≡ is_none_left rest
    by_rest [] e = (unsigned_Decides (k + 1) (length names)).1 (let l = length_drop (suc k) names (let g : suc k ≤ length names = omega arith in g) in let z : length (drop (suc k) names) ≡ 0 = ap (λ (q : Path). length q) e in omega arith)
    by_rest (n ∷ rest) e =
        number_differs (k + 1) (length names)
        (λ same. let l = length_drop (suc k) names (let g : suc k ≤ length names = omega arith in g) in let z : length (drop (suc k) names) ≡ suc (length rest) = ap (λ (q : Path). length q) e in omega arith)

-- ---- changes

module _ (maker : Maker) (m : Making) (group : List ℕ) (acl : AclPair) (above : NodeId) (n : List ℕ) (id : NodeId) where
  one_more : (names : Path) (ids : List NodeId) (last : Bool) → last ≡ is_none_left names
      → chained maker m group acl above (n ∷ names) (id ∷ ids)
      ≡ change.Link above n id ∷ change.Put id (new_inode maker.moment (next_node maker m group acl last)) ∷ chained maker m group (next_node maker m group acl last).acl id names ids
  one_more [] ids last is = ap (λ b. change.Link above n id ∷ change.Put id (new_inode maker.moment (next_node maker m group acl b)) ∷ []) (sym is)
  one_more (o ∷ names) ids last is =
      ap (λ b. change.Link above n id ∷ change.Put id (new_inode maker.moment (next_node maker m group acl b)) ∷ chained maker m group (next_node maker m group acl b).acl id (o ∷ names) ids) (sym is)

  -- the first two changes of what is left, and what is left then
  pub chained_next : (names : Path) (ids : List NodeId) (k : ℕ) (last : Bool) → k < length names → last ≡ (k + 1 == length names) → slice_get names k ≡ Some n → slice_get ids k ≡ Some id
      → chained maker m group acl above (drop k names) (drop k ids)
      ≡ change.Link above n id ∷ change.Put id (new_inode maker.moment (next_node maker m group acl last)) ∷ chained maker m group (next_node maker m group acl last).acl id (drop (k + 1) names) (drop (k + 1) ids)
  chained_next names ids k last within is name drawn =
      ap (λ ns. chained maker m group acl above ns (drop k ids)) (at_drop names k n name)
      ∙ ap (chained maker m group acl above (n ∷ drop (suc k) names)) (at_drop ids k id drawn)
      ∙ one_more (drop (suc k) names) (drop (suc k) ids) last (is ∙ last_test k names within)
      ∙ ap (λ j. change.Link above n id ∷ change.Put id (new_inode maker.moment (next_node maker m group acl last)) ∷ chained maker m group (next_node maker m group acl last).acl id (drop j names) (drop j ids))
      (let h : suc k ≡ k + 1 = omega arith in h)

-- ---- a step of the loop

pub get_at : {A : Type 0} (xs : List A) (i : ℕ) (d : A) → i < length xs → slice_get xs i ≡ Some (slice_index_or xs i d)
get_at [] i d h = absurd (omega arith)
get_at (x ∷ xs) zero d h = refl
get_at (x ∷ xs) (suc i) d h = get_at xs i d (let s : length (x ∷ xs) ≡ suc (length xs) = refl in let g : i < length xs = omega arith in g)

-- what was pushed and what is left is what is to be pushed
pub pushed_on : (maker : Maker) (m : Making) (group near : List ℕ) (acl next : AclPair) (above : NodeId) (names : Path) (ids : List NodeId) (k : ℕ) (n : List ℕ) (id : NodeId) (last : Bool) (inode : Inode)
    (before one two whole : List Change)
    → before ++ chained maker m group acl above (drop k names) (drop k ids) ≡ whole → k < length names → last ≡ (k + 1 == length names) → slice_get names k ≡ Some n → slice_get ids k ≡ Some id
    → near ≡ group → inode ≡ new_inode maker.moment (next_node maker m near acl last) → next ≡ inode.meta.acl → one ≡ before ++ change.Link above n id ∷ [] → two ≡ one ++ change.Put id inode ∷ []
    → two ++ chained maker m group next id (drop (k + 1) names) (drop (k + 1) ids) ≡ whole
pushed_on maker m group near acl next above names ids k n id last inode before one two whole is within tests name drawn same made inherits first second =
    let node : inode ≡ new_inode maker.moment (next_node maker m group acl last) = made ∙ ap (λ g. new_inode maker.moment (next_node maker m g acl last)) same in
    ap (λ a. two ++ chained maker m group a id (drop (k + 1) names) (drop (k + 1) ids)) (inherits ∙ ap (λ (i : Inode). i.meta.acl) node)
    ∙ ap (λ l. l ++ chained maker m group (next_node maker m group acl last).acl id (drop (k + 1) names) (drop (k + 1) ids)) (second ∙ ap (λ (i : Inode). one ++ change.Put id i ∷ []) node ∙ ap (λ l. l ++ change.Put id (new_inode maker.moment (next_node maker m group acl last)) ∷ []) first ∙ append_assoc before (change.Link above n id ∷ []) (change.Put id (new_inode maker.moment (next_node maker m group acl last)) ∷ []))
    ∙ append_assoc before (change.Link above n id ∷ change.Put id (new_inode maker.moment (next_node maker m group acl last)) ∷ []) (chained maker m group (next_node maker m group acl last).acl id (drop (k + 1) names) (drop (k + 1) ids))
    ∙ ap (λ l. before ++ l) (sym (chained_next maker m group acl above n id names ids k last within tests name drawn))
    ∙ is
