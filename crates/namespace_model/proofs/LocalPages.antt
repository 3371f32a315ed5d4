-- The pages and the batch are decided by what they read and write.
use Rattle.std.proofs.Common.{◌≡◌, ◌⊎◌, inl, inr, ℕ, zero, suc, ◌<◌, ◌≤◌, ◌==◌, Bool, true, false, not, ◌&&◌, List, [], ◌∷◌, ◌++◌, map, length, take, drop, min, Option, Result, Ok, Err, refl, ap, sym, subst, ◌∙◌, length-take, arith}
use Rattle.namespace_model.proofs.PageOrder.{among_take}
use Rattle.acl_text.specs.declared.acl.AclPair.{AclPair}
use Rattle.path_text.specs.Paths.{is_prefix}
use Rattle.namespace_model.specs.declared.code.Code.{Code}
use Rattle.namespace_model.specs.declared.code.Code.TheVariants as code
use Rattle.namespace_model.specs.declared.op.BatchChange.{BatchChange}
use Rattle.namespace_model.specs.declared.request.Entry.{Entry}
use Rattle.namespace_model.specs.Nodes.{Node, is_directory}
use Rattle.namespace_model.specs.Trees.{Path, Tree, node_at, keys_where, is_child, is_below, subtree, IsLaid}
use Rattle.namespace_model.specs.Effects.{Put}
use Rattle.namespace_model.specs.Outcomes.{reading, unless}
use Rattle.namespace_model.specs.Refusals.{caller_of, is_no_superuser, lacks, refuse_if, first_refusal}
use Rattle.namespace_model.specs.Locality.{Among, Alike, IsLocal}
use Rattle.namespace_model.specs.Pages.{Page, page_of, above, on_the_way}
use Rattle.namespace_model.specs.ListFilesystems.{list_filesystems, filesystems, filesystems_listed, filesystem_items, begins_with}
use Rattle.namespace_model.specs.ListPaths.{list_paths, list_node, list_page, listing, paged, listed_below, listed, is_closed, path_items}
use Rattle.namespace_model.specs.SetAccessRecursive.{set_access_recursive, batch_below, batch_page, batch_of, batched, Batch, Failure, turn_of, with_turn}
use Rattle.namespace_model.proofs.Lookups.{keys_same}
use Rattle.namespace_model.proofs.Prefixes.{both, child_name}
use Rattle.namespace_model.proofs.Alikeness.{AlikeOn, go_on, unless_same, found_same, shown_below, node_same, first_refusal_same, among_left, among_right, read_touched, then_touched}
use Rattle.namespace_model.proofs.PageLooks.{above_keys, page_same, take_less, over_test, first_paths, way_same_paths, below_is_listing, at_or_below_is_listing}

module _ (s t : Tree) (laid_s : IsLaid s) (laid_t : IsLaid t) where
  -- ---- the bodies

  filesystem_items_same : (ps : List Path) → ((q : Path) → Among q ps → Alike s t q) → filesystem_items s ps ≡ filesystem_items t ps
  filesystem_items_same [] alike = refl
  filesystem_items_same (p ∷ ps) alike = rw (node_same s t laid_s laid_t p (alike p (inl refl)), filesystem_items_same ps (λ q k. alike q (inr k))) refl

  path_items_same : (ps : List Path) → ((q : Path) → Among q ps → Alike s t q) → path_items s ps ≡ path_items t ps
  path_items_same [] alike = refl
  path_items_same (p ∷ ps) alike = rw (node_same s t laid_s laid_t p (alike p (inl refl)), path_items_same ps (λ q k. alike q (inr k))) refl

  -- ---- filesystems

  filesystems_same : (prefix : List ℕ) → Alike s t [] → filesystems s prefix ≡ filesystems t prefix
  filesystems_same prefix root =
      keys_same s t (λ q. is_child [] q && begins_with prefix q) (λ q e. let name = child_name [] q (both _ _ e).0 in shown_below s t laid_s laid_t [] q name.0 name.1 root)

  filesystems_listed_same : (page page' : Page) → page ≡ page' → AlikeOn s t laid_s laid_t (filesystems_listed s page) → filesystems_listed s page ≡ filesystems_listed t page'
  filesystems_listed_same page page' e h =
      let items = filesystem_items_same page.paths (λ q k. h q (among_left q (page.paths ++ []) [] (among_left q page.paths [] k))) in
      rw (items) (ap (filesystems_listed t) e)

  -- ---- paths

  listed_below_same : (e : Entry) (dir : Path) (seen : List Path) (page : Page) → ((q : Path) → Among q seen → Alike s t q) → ((q : Path) → Among q page.paths → Alike s t q)
      → listed_below s e dir seen page ≡ listed_below t e dir seen page
  listed_below_same e dir seen page alike paths =
      let closed = first_refusal_same s t laid_s laid_t (is_closed (caller_of e)) (is_closed (caller_of e)) seen (λ q k. (alike q k, λ x. refl)) in
      rw (closed, path_items_same page.paths paths) refl

  listed_same : (dir : Path) (page : Page) → ((q : Path) → Among q page.paths → Alike s t q) → listed s dir page ≡ listed t dir page
  listed_same dir page paths = rw (path_items_same page.paths paths) refl

  paged_same : (e : Entry) (dir : Path) (recursive : Bool) (token : Option Path) (max : ℕ) → Alike s t dir
      → AlikeOn s t laid_s laid_t (paged s e dir recursive token (list_page s dir recursive token max)) → paged s e dir recursive token (list_page s dir recursive token max) ≡ paged t e dir recursive token (list_page t dir recursive token max)
  paged_same e dir true token max here h =
      let page = list_page s dir true token max in
      let way : (o : Path) → Among o (on_the_way s (is_below dir) token) → Alike s t o =
      λ o k. h o (read_touched o (on_the_way s (is_below dir) token ++ page.paths) (unless (first_refusal (is_closed (caller_of e)) s (on_the_way s (is_below dir) token ++ page.paths)) (listed s dir page)) (among_left o (on_the_way s (is_below dir) token) page.paths k)) in
      let paths : (o : Path) → Among o page.paths → Alike s t o =
      λ o k. h o (read_touched o (on_the_way s (is_below dir) token ++ page.paths) (unless (first_refusal (is_closed (caller_of e)) s (on_the_way s (is_below dir) token ++ page.paths)) (listed s dir page)) (among_right o (on_the_way s (is_below dir) token) page.paths k)) in
      let cut : (o : Path) → Among o (take max (keys_where s (over_test (is_below dir) token))) → Alike s t o =
      λ o k. paths o (subst (λ (ps : List Path). Among o (take max ps)) (sym (above_keys s (is_below dir) token)) k) in
      let first = first_paths s t laid_s laid_t dir (is_below dir) (below_is_listing dir) token here way max cut in
      let same_page : page ≡ list_page t dir true token max =
      page_same max (above token (listing s dir true)) (above token (listing t dir true)) (ap (take (suc max)) (above_keys s (is_below dir) token) ∙ first ∙ sym (ap (take (suc max)) (above_keys t (is_below dir) token))) in
      let same_way = way_same_paths s t laid_s laid_t dir (is_below dir) (below_is_listing dir) token here way in
      listed_below_same e dir (on_the_way s (is_below dir) token ++ page.paths) page (λ o k. h o (read_touched o (on_the_way s (is_below dir) token ++ page.paths) (unless (first_refusal (is_closed (caller_of e)) s (on_the_way s (is_below dir) token ++ page.paths)) (listed s dir page)) k)) paths
      ∙ ap (λ w. listed_below t e dir (w ++ page.paths) page) same_way ∙ ap (λ (g : Page). listed_below t e dir (on_the_way t (is_below dir) token ++ g.paths) g) same_page
  paged_same e dir false token max here h =
      let page = list_page s dir false token max in
      let same_list : listing s dir false ≡ listing t dir false = keys_same s t (is_child dir) (λ q k. let name = child_name dir q k in shown_below s t laid_s laid_t dir q name.0 name.1 here) in
      let paths : (o : Path) → Among o page.paths → Alike s t o = λ o k. h o (read_touched o page.paths (listed s dir page) k) in
      ap (reading page.paths) (listed_same dir page paths) ∙ ap (λ (l : List Path). reading (page_of max (above token l)).paths (listed t dir (page_of max (above token l)))) same_list

  list_node_same : (e : Entry) (dir : Path) (recursive : Bool) (token : Option Path) (max : ℕ) (x : Node) → Alike s t dir
      → AlikeOn s t laid_s laid_t (list_node s e dir recursive token max x) → list_node s e dir recursive token max x ≡ list_node t e dir recursive token max x
  list_node_same e dir recursive token max x here =
      unless_same s t laid_s laid_t (refuse_if (not (is_directory x)) code.ResourceTypeMismatch) _ _ _ refl
      (unless_same s t laid_s laid_t (lacks (caller_of e) 5 dir x) _ _ _ refl
      (paged_same e dir recursive token max here))

pub list_filesystems_local : (e : Entry) (prefix : List ℕ) (token : Option Path) (max : ℕ) → IsLocal (λ t. list_filesystems t e prefix token max)
unfolding list_filesystems
list_filesystems_local e prefix token max s t laid_s laid_t =
    unless_same s t laid_s laid_t (is_no_superuser (caller_of e) []) _ _ _ refl
    (go_on s t laid_s laid_t ([] ∷ []) _ _ (λ root.
    filesystems_listed_same s t laid_s laid_t (page_of max (above token (filesystems s prefix))) (page_of max (above token (filesystems t prefix))) (ap (λ (l : List Path). page_of max (above token l)) (filesystems_same s t laid_s laid_t prefix (root [] (inl refl))))))

pub list_paths_local : (e : Entry) (dir : Path) (recursive : Bool) (token : Option Path) (max : ℕ) → IsLocal (λ t. list_paths t e dir recursive token max)
unfolding list_paths
list_paths_local e dir recursive token max s t laid_s laid_t =
    found_same s t laid_s laid_t e dir (list_node s e dir recursive token max) (list_node t e dir recursive token max) (λ x here. list_node_same s t laid_s laid_t e dir recursive token max x here)

-- ---- batches

head_same : (x y : Path) (xs ys : List Path) → x ∷ xs ≡ y ∷ ys → x ≡ y
head_same x y xs ys e = ap (first_of_list x) e
  where
    first_of_list : Path → List Path → Path
    first_of_list d [] = d
    first_of_list d (z ∷ zs) = z

tail_same : (x y : Path) (xs ys : List Path) → x ∷ xs ≡ y ∷ ys → xs ≡ ys
tail_same x y xs ys e = ap (drop 1) e

changed_paths : Batch → List Path
changed_paths b = map (λ (x : Path × Put). x.0) b.changed

failed_paths : Batch → List Path
failed_paths b = map (λ (f : Failure). f.path) b.failed

module _ (e : Entry) (change : BatchChange) where
  turn_at : Tree → Path → Result AclPair Code
  turn_at u p = turn_of (caller_of e) change (node_at u p)

  forced_turn : (p : Path) (x : Node) (turn : Result AclPair Code) (rest : Batch) (q : Path) (ps : List Path)
      → (Among q ps → Among q (map (λ (y : Path × Put). y.0) rest.changed) ⊎ Among q (map (λ (f : Failure). f.path) rest.failed)) → Among q (p ∷ ps)
      → Among q (map (λ (y : Path × Put). y.0) (with_turn e true p x turn rest).changed) ⊎ Among q (map (λ (f : Failure). f.path) (with_turn e true p x turn rest).failed)
  forced_turn p x (Ok pair) rest q ps more (inl same) = inl (inl same)
  forced_turn p x (Ok pair) rest q ps more (inr k) = elim (more k) [ inl h ↦ inl (inr h) | inr h ↦ inr h ]
  forced_turn p x (Err c) rest q ps more (inl same) = inr (inl same)
  forced_turn p x (Err c) rest q ps more (inr k) = elim (more k) [ inl h ↦ inl h | inr h ↦ inr (inr h) ]

  -- a forced batch changes or fails each of its nodes
  forced_all : (u : Tree) (ps : List Path) (q : Path) → Among q ps → Among q (map (λ (y : Path × Put). y.0) (batch_of u e change true ps).changed) ⊎ Among q (map (λ (f : Failure). f.path) (batch_of u e change true ps).failed)
  forced_all u [] q h = absurd h
  forced_all u (p ∷ ps) q h = forced_turn p (node_at u p) (turn_of (caller_of e) change (node_at u p)) (batch_of u e change true ps) q ps (forced_all u ps q) h

  -- the batch stops at this place: each node before it is changed, and the one there fails
  abbrev StopsAt : Tree → ℕ → List Path → Type 0
  StopsAt u n [] = ⊥
  StopsAt u zero (p ∷ ps) = (c : Code) × (turn_of (caller_of e) change (node_at u p) ≡ Err c)
  StopsAt u (suc n) (p ∷ ps) = ((pair : AclPair) × (turn_of (caller_of e) change (node_at u p) ≡ Ok pair)) × StopsAt u n ps

  -- what an unforced batch comes to: it changes each node, or stops at a place
  data Comes (u : Tree) (ps : List Path) : Type 0 where
    through : ((q : Path) → Among q ps → Among q (map (λ (y : Path × Put). y.0) (batch_of u e change false ps).changed)) → Comes u ps
    stopping : (n : ℕ) → StopsAt u n ps → ((q : Path) → Among q (take (suc n) ps) → Among q (map (λ (y : Path × Put). y.0) (batch_of u e change false ps).changed) ⊎ Among q (map (λ (f : Failure). f.path) (batch_of u e change false ps).failed))
        → ((length (batch_of u e change false ps).failed == 0) ≡ false) → Comes u ps

  through_turn : (p : Path) (x : Node) (pair : AclPair) (turn : Result AclPair Code) (rest : Batch) (q : Path) (ps : List Path) → turn ≡ Ok pair
      → (Among q ps → Among q (map (λ (y : Path × Put). y.0) rest.changed)) → Among q (p ∷ ps) → Among q (map (λ (y : Path × Put). y.0) (with_turn e false p x turn rest).changed)
  through_turn p x pair turn rest q ps is more (inl same) = subst (λ r. Among q (map (λ (y : Path × Put). y.0) (with_turn e false p x r rest).changed)) (sym is) (inl same)
  through_turn p x pair turn rest q ps is more (inr k) = subst (λ r. Among q (map (λ (y : Path × Put). y.0) (with_turn e false p x r rest).changed)) (sym is) (inr (more k))

  stop_turn : (p : Path) (x : Node) (pair : AclPair) (turn : Result AclPair Code) (rest : Batch) (q : Path) (ps : List Path) → turn ≡ Ok pair
      → (Among q ps → Among q (map (λ (y : Path × Put). y.0) rest.changed) ⊎ Among q (map (λ (f : Failure). f.path) rest.failed)) → Among q (p ∷ ps)
      → Among q (map (λ (y : Path × Put). y.0) (with_turn e false p x turn rest).changed) ⊎ Among q (map (λ (f : Failure). f.path) (with_turn e false p x turn rest).failed)
  stop_turn p x pair turn rest q ps is more k =
      subst (λ r. Among q (map (λ (y : Path × Put). y.0) (with_turn e false p x r rest).changed) ⊎ Among q (map (λ (f : Failure). f.path) (with_turn e false p x r rest).failed)) (sym is) (by_place k)
    where
      by_place : (q ≡ p) ⊎ Among q ps → (Among q (p ∷ map (λ (y : Path × Put). y.0) rest.changed)) ⊎ Among q (map (λ (f : Failure). f.path) rest.failed)
      by_place (inl same) = inl (inl same)
      by_place (inr j) = elim (more j) [ inl h ↦ inl (inr h) | inr h ↦ inr h ]

  turn_tells : (turn : Result AclPair Code) → ((pair : AclPair) × (turn ≡ Ok pair)) ⊎ ((c : Code) × (turn ≡ Err c))
  turn_tells (Ok pair) = inl (pair, refl)
  turn_tells (Err c) = inr (c, refl)

  comes_on : (u : Tree) (p : Path) (ps : List Path) (pair : AclPair) → turn_of (caller_of e) change (node_at u p) ≡ Ok pair → Comes u ps → Comes u (p ∷ ps)
  comes_on u p ps pair is (through all) = through (λ q k. through_turn p (node_at u p) pair (turn_of (caller_of e) change (node_at u p)) (batch_of u e change false ps) q ps is (all q) k)
  comes_on u p ps pair is (stopping n stops all some) =
      stopping (suc n) ((pair, is), stops)
      (λ q k. stop_turn p (node_at u p) pair (turn_of (caller_of e) change (node_at u p)) (batch_of u e change false ps) q (take (suc n) ps) is (all q) k)
      (subst (λ r. (length (with_turn e false p (node_at u p) r (batch_of u e change false ps)).failed == 0) ≡ false) (sym is) some)

  comes_to : (u : Tree) (ps : List Path) → Comes u ps
  comes_to u [] = through (λ q k. k)
  comes_to u (p ∷ ps) = elim (turn_tells (turn_of (caller_of e) change (node_at u p))) [
    | inl h ↦ comes_on u p ps h.0 h.1 (comes_to u ps)
    | inr h ↦ stopping 0 h
        (λ q k. subst (λ r. Among q (map (λ (y : Path × Put). y.0) (with_turn e false p (node_at u p) r (batch_of u e change false ps)).changed) ⊎ Among q (map (λ (f : Failure). f.path) (with_turn e false p (node_at u p) r (batch_of u e change false ps)).failed)) (sym h.1) (inr k))
        (subst (λ r. (length (with_turn e false p (node_at u p) r (batch_of u e change false ps)).failed == 0) ≡ false) (sym h.1) refl)
  ]

  -- what stands behind the stop isn't looked at
  stops_cut : (u : Tree) (n : ℕ) (ps : List Path) → StopsAt u n ps → batch_of u e change false ps ≡ batch_of u e change false (take (suc n) ps)
  stops_cut u n [] h = refl
  stops_cut u zero (p ∷ ps) h = rw (h.1) refl
  stops_cut u (suc n) (p ∷ ps) h = ap (λ b. with_turn e false p (node_at u p) (turn_of (caller_of e) change (node_at u p)) b) (stops_cut u n ps h.1)

  module _ (s t : Tree) (laid_s : IsLaid s) (laid_t : IsLaid t) where
    stops_same : (n : ℕ) (ps qs : List Path) → StopsAt s n ps → take (suc n) ps ≡ take (suc n) qs → ((q : Path) → Among q (take (suc n) ps) → Alike s t q) → StopsAt t n qs
    stops_same n [] qs h same alike = absurd h
    stops_same n (p ∷ ps) [] h same alike = absurd (cons_not_nil p (take n ps) same)
      where
        cons_not_nil : (x : Path) (xs : List Path) → x ∷ xs ≡ [] → ⊥
        cons_not_nil x xs is = subst (λ l. Among x l) is (inl refl)
    stops_same zero (p ∷ ps) (q ∷ qs) h same alike =
        let heads : p ≡ q = head_same p q (take 0 ps) (take 0 qs) same in
        (h.0, sym (ap (λ x. turn_of (caller_of e) change x) (node_same s t laid_s laid_t p (alike p (inl refl)) ∙ ap (node_at t) heads)) ∙ h.1)
    stops_same (suc n) (p ∷ ps) (q ∷ qs) h same alike =
        let heads : p ≡ q = head_same p q (take (suc n) ps) (take (suc n) qs) same in (
          (h.0.0, sym (ap (λ x. turn_of (caller_of e) change x) (node_same s t laid_s laid_t p (alike p (inl refl)) ∙ ap (node_at t) heads)) ∙ h.0.1),
          stops_same n ps qs h.1 (tail_same p q (take (suc n) ps) (take (suc n) qs) same) (λ r k. alike r (inr k)),
        )

    batch_same : (force : Bool) (ps : List Path) → ((q : Path) → Among q ps → Alike s t q) → batch_of s e change force ps ≡ batch_of t e change force ps
    batch_same force [] alike = refl
    batch_same force (p ∷ ps) alike =
        rw (node_same s t laid_s laid_t p (alike p (inl refl)), batch_same force ps (λ q k. alike q (inr k))) refl

-- ---- places in lists

take_take : (n m : ℕ) (ps : List Path) → n ≤ m → take n (take m ps) ≡ take n ps
take_take zero m ps h = refl
take_take (suc n) zero ps h = absurd (omega arith)
take_take (suc n) (suc m) [] h = refl
take_take (suc n) (suc m) (p ∷ ps) h = ap (λ l. p ∷ l) (take_take n m ps (omega arith))

module _ (e : Entry) (change : BatchChange) (s t : Tree) (laid_s : IsLaid s) (laid_t : IsLaid t) (p : Path) (token : Option Path) (max : ℕ) (here : Alike s t p) where
  stops_within : (n : ℕ) (ps : List Path) → StopsAt e change s n ps → n < length ps
  stops_within n [] h = absurd h
  stops_within zero (q ∷ ps) h = let l : length (q ∷ ps) ≡ suc (length ps) = refl in omega arith
  stops_within (suc n) (q ∷ ps) h = let l : length (q ∷ ps) ≡ suc (length ps) = refl in let k = stops_within n ps h.1 in omega arith

  -- a batch without a failure that ends it shows that its failures don't matter for the token
  stopped : (page page' : Page) (b : Batch) → (length b.failed == 0) ≡ false → batched e p false token page b ≡ batched e p false token page' b
  stopped page page' b some = rw (some) refl

  paths_are : (u : Tree) (n : ℕ) → n < max → take (suc n) (batch_page u p token max).paths ≡ take (suc n) (keys_where u (over_test (is_prefix p) token))
  paths_are u n h = take_take (suc n) max (above token (subtree u p)) (omega arith) ∙ ap (take (suc n)) (above_keys u (is_prefix p) token)

  module _ (way : (o : Path) → Among o (on_the_way s (is_prefix p) token) → Alike s t o) where
    same_way : on_the_way s (is_prefix p) token ≡ on_the_way t (is_prefix p) token
    same_way = way_same_paths s t laid_s laid_t p (is_prefix p) (at_or_below_is_listing p) token here way

    -- all of the page is alike
    whole : (force : Bool) → ((o : Path) → Among o (batch_page s p token max).paths → Alike s t o)
        → batched e p force token (batch_page s p token max) (batch_of s e change force (batch_page s p token max).paths) ≡ batched e p force token (batch_page t p token max) (batch_of t e change force (batch_page t p token max).paths)
    whole force alike =
        let cut : (o : Path) → Among o (take max (keys_where s (over_test (is_prefix p) token))) → Alike s t o =
        λ o k. alike o (subst (λ (ps : List Path). Among o (take max ps)) (sym (above_keys s (is_prefix p) token)) k) in
        let first = first_paths s t laid_s laid_t p (is_prefix p) (at_or_below_is_listing p) token here way max cut in
        let same_page : batch_page s p token max ≡ batch_page t p token max =
        page_same max (above token (subtree s p)) (above token (subtree t p)) (ap (take (suc max)) (above_keys s (is_prefix p) token) ∙ first ∙ sym (ap (take (suc max)) (above_keys t (is_prefix p) token))) in
        ap (λ b. batched e p force token (batch_page s p token max) b) (batch_same e change s t laid_s laid_t force (batch_page s p token max).paths alike)
        ∙ ap (λ (g : Page). batched e p force token g (batch_of t e change force g.paths)) same_page

    -- the page is alike up to the failure that ends the batch
    up_to_stop : (n : ℕ) → StopsAt e change s n (batch_page s p token max).paths → ((o : Path) → Among o (take (suc n) (batch_page s p token max).paths) → Alike s t o)
        → ((length (batch_of s e change false (batch_page s p token max).paths).failed == 0) ≡ false)
        → batched e p false token (batch_page s p token max) (batch_of s e change false (batch_page s p token max).paths) ≡ batched e p false token (batch_page t p token max) (batch_of t e change false (batch_page t p token max).paths)
    up_to_stop n stops alike some =
        let inside : n < length (take max (above token (subtree s p))) = stops_within n (batch_page s p token max).paths stops in
        let small : n < max = within_max n max (length (above token (subtree s p))) (subst (λ k. n < k) (length-take max (above token (subtree s p))) inside) in
        let cut : (o : Path) → Among o (take n (keys_where s (over_test (is_prefix p) token))) → Alike s t o =
        λ o k. alike o (subst (λ ps. Among o ps) (sym (paths_are s n small)) (one_more n o (keys_where s (over_test (is_prefix p) token)) k)) in
        let first = first_paths s t laid_s laid_t p (is_prefix p) (at_or_below_is_listing p) token here way n cut in
        let same : take (suc n) (batch_page s p token max).paths ≡ take (suc n) (batch_page t p token max).paths = paths_are s n small ∙ first ∙ sym (paths_are t n small) in
        let stops_t = stops_same e change s t laid_s laid_t n (batch_page s p token max).paths (batch_page t p token max).paths stops same alike in
        let same_batch : batch_of s e change false (batch_page s p token max).paths ≡ batch_of t e change false (batch_page t p token max).paths =
        stops_cut e change s n (batch_page s p token max).paths stops ∙ batch_same e change s t laid_s laid_t false (take (suc n) (batch_page s p token max).paths) alike
        ∙ ap (batch_of t e change false) same ∙ sym (stops_cut e change t n (batch_page t p token max).paths stops_t) in
        stopped (batch_page s p token max) (batch_page t p token max) (batch_of s e change false (batch_page s p token max).paths) some
        ∙ ap (λ b. batched e p false token (batch_page t p token max) b) same_batch
      where
        within_max : (n max k : ℕ) → n < min max k → n < max
        within_max n max k h = omega arith

        one_more : (n : ℕ) (o : Path) (ps : List Path) → Among o (take n ps) → Among o (take (suc n) ps)
        one_more n o ps h = among_take n o (take (suc n) ps) (subst (λ l. Among o l) (take_less n ps) h)

    by_course : Comes e change s (batch_page s p token max).paths
        → AlikeOn s t laid_s laid_t (batched e p false token (batch_page s p token max) (batch_of s e change false (batch_page s p token max).paths))
        → batched e p false token (batch_page s p token max) (batch_of s e change false (batch_page s p token max).paths) ≡ batched e p false token (batch_page t p token max) (batch_of t e change false (batch_page t p token max).paths)
    by_course (through all) h = whole false (λ o k. h o (among_right o (map (λ (f : Failure). f.path) (batch_of s e change false (batch_page s p token max).paths).failed) _ (all o k)))
    by_course (stopping n stops all some) h =
        up_to_stop n stops (λ o k. elim (all o k) [
          | inl c ↦ h o (among_right o (map (λ (f : Failure). f.path) (batch_of s e change false (batch_page s p token max).paths).failed) _ c)
          | inr f ↦ h o (among_left o _ _ f)
        ]) some

    batched_same : (force : Bool)
        → AlikeOn s t laid_s laid_t (batched e p force token (batch_page s p token max) (batch_of s e change force (batch_page s p token max).paths))
        → batched e p force token (batch_page s p token max) (batch_of s e change force (batch_page s p token max).paths) ≡ batched e p force token (batch_page t p token max) (batch_of t e change force (batch_page t p token max).paths)
    batched_same true h = whole true (λ o k. elim (forced_all e change s (batch_page s p token max).paths o k) [
      | inl c ↦ h o (among_right o (map (λ (f : Failure). f.path) (batch_of s e change true (batch_page s p token max).paths).failed) _ c)
      | inr f ↦ h o (among_left o _ _ f)
    ])
    batched_same false h = by_course (comes_to e change s (batch_page s p token max).paths) h

  batch_below_same : (force : Bool) (x : Node) → AlikeOn s t laid_s laid_t (batch_below s e p change token force (batch_page s p token max) x)
      → batch_below s e p change token force (batch_page s p token max) x ≡ batch_below t e p change token force (batch_page t p token max) x
  batch_below_same force x h =
      let way : (o : Path) → Among o (on_the_way s (is_prefix p) token) → Alike s t o =
      λ o k. h o (read_touched o (on_the_way s (is_prefix p) token) (batched e p force token (batch_page s p token max) (batch_of s e change force (batch_page s p token max).paths)) k) in
      ap (reading (on_the_way s (is_prefix p) token)) (batched_same way force (λ o k. h o (then_touched o (on_the_way s (is_prefix p) token) (batched e p force token (batch_page s p token max) (batch_of s e change force (batch_page s p token max).paths)) k)))
      ∙ ap (λ w. reading w (batched e p force token (batch_page t p token max) (batch_of t e change force (batch_page t p token max).paths))) (same_way way)

pub set_access_recursive_local : (e : Entry) (p : Path) (change : BatchChange) (token : Option Path) (max : ℕ) (force : Bool) → IsLocal (λ t. set_access_recursive t e p change token max force)
unfolding set_access_recursive
set_access_recursive_local e p change token max force s t laid_s laid_t =
    found_same s t laid_s laid_t e p (batch_below s e p change token force (batch_page s p token max)) (batch_below t e p change token force (batch_page t p token max))
    (λ x here. batch_below_same e change s t laid_s laid_t p token max here force x)
