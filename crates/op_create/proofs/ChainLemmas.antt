-- New nodes in a chain: the changes leave at each id what the turns leave there.
use Rattle.std.proofs.Common.{◌≡◌, ◌≢◌, inl, inr, ℕ, suc, pred, ◌+◌, ◌==◌, ◌<◌, ◌≤◌, Bool, true, false, cond, not, List, [], ◌∷◌, ◌++◌, map, flat_map, filter, zip, length, slice_get, unwrap_or, Option, Some, None, refl, ap, sym, subst, ◌∙◌, arith}
use Rattle.std.proofs.lemmas.Bool.{false≢true}
use Rattle.std.specs.Cmp.Lexicographic.{nat_list_cmp_total}
use Rattle.std.specs.Ordering.{eq_by_cmp}
use Rattle.std.specs.FinMap as fin
use Rattle.std.specs.FinMap.{find}
use Rattle.path_text.specs.Paths.{path_cmp}
use Rattle.namespace_model.specs.declared.request.Entry.{Entry}
use Rattle.namespace_model.specs.Create.{Making, new_nodes, new_node, new_directory}
use Rattle.namespace_model.specs.Effects.{Put, put_by, stamp, Effect}
use Rattle.namespace_model.specs.Locality.{Among}
use Rattle.namespace_model.specs.Nodes as model
use Rattle.namespace_model.specs.Nodes.{Node}
use Rattle.namespace_model.specs.Outcomes.{once}
use Rattle.namespace_model.specs.Refusals.{caller_of}
use Rattle.namespace_model.specs.Trees.{Path}
use Rattle.namespace_model.proofs.Effected.{same_behind}
use Rattle.namespace_model.proofs.Lookups.{same_path}
use Rattle.namespace_model.proofs.Prefixes.{length_append}
use Rattle.inode_tree.specs.declared.change.Change.TheVariants as change
use Rattle.inode_tree.specs.declared.id.NodeId.{NodeId}
use Rattle.inode_tree.specs.After.{Relink, Turn, making, making_of, relinked, inode_with, content_with, meta_of}
use Rattle.inode_tree.specs.ChildLists.{name_cmp}
use Rattle.inode_tree.specs.Changes.{node_after}
use Rattle.inode_tree.specs.Inodes.{Links, BareContent, BareInode, bare, bare_content, numbered}
use Rattle.inode_tree.specs.Promises.{numbers_of}
use Rattle.inode_tree.proofs.LinkLemmas.{last_link, get-relinked, key_same, key_tells, path_differs}
use Rattle.inode_tree.proofs.MapLemmas.{name_cmp-IsAntisymmetric}
use Rattle.inode_tree.proofs.PairLemmas.{IsOnce, drawn_links, drawn_unsaid}
use Rattle.inode_tree.proofs.PromiseLemmas.{changed_by}
use Rattle.inode_tree.proofs.TurnLemmas.{turned_by}
use Rattle.op_create.specs.Chains.{Maker, chained, new_inode, own_content}

-- ---- the paths of a chain

-- the paths of names below a path, each one name below the one before it
abbrev pub paths_from : Path → Path → List Path
paths_from done [] = []
paths_from done (n ∷ names) = (done ++ n ∷ []) ∷ paths_from (done ++ n ∷ []) names

one_more : (done : Path) (n : List ℕ) → length (done ++ n ∷ []) ≡ length done + 1
one_more done n = length_append done (n ∷ [])

pub longer_one : (done : Path) (n : List ℕ) → length done < length (done ++ n ∷ [])
longer_one done n = let l = one_more done n in omega arith

pub longer : (done names q : Path) → Among q (paths_from done names) → length done < length q
longer done [] q h = absurd h
longer done (n ∷ names) q (inl e) =
    let l = one_more done n in
    let k : length q ≡ length (done ++ n ∷ []) = ap (λ (p : Path). length p) e in
    omega arith
longer done (n ∷ names) q (inr h) = let l = one_more done n in let k = longer (done ++ n ∷ []) names q h in omega arith

pub not_among : (done names q : Path) → length q ≤ length done → Among q (paths_from done names) → ⊥
not_among done names q short h = let k = longer done names q h in omega arith

long_differs : (p q : Path) → length p < length q → q ≢ p
long_differs p q h e = let k : length q ≡ length p = ap (λ (r : Path). length r) e in omega arith

pub chain_once : (done names : Path) → IsOnce (paths_from done names)
chain_once done [] = tt
chain_once done (n ∷ names) = (
  not_among (done ++ n ∷ []) names (done ++ n ∷ []) (let h : length (done ++ n ∷ []) ≤ length (done ++ n ∷ []) = omega arith in h),
  chain_once (done ++ n ∷ []) names,
)

all_kept : (p : Path) (ps : List Path) → (Among p ps → ⊥) → filter (λ q. not (eq_by_cmp path_cmp q p)) ps ≡ ps
all_kept p [] h = refl
all_kept p (q ∷ qs) h =
    ap (λ b. cond (not b) (q ∷ filter (λ r. not (eq_by_cmp path_cmp r p)) qs) (filter (λ r. not (eq_by_cmp path_cmp r p)) qs)) (path_differs q p (λ e. h (inl (sym e))))
    ∙ ap (λ (l : List Path). q ∷ l) (all_kept p qs (λ k. h (inr k)))

-- paths that stand once are left as they are
pub once_all : (ps : List Path) → IsOnce ps → once ps ≡ ps
once_all [] h = refl
once_all (p ∷ ps) h =
    ap (λ (l : List Path). p ∷ filter (λ q. not (eq_by_cmp path_cmp q p)) l) (once_all ps h.1) ∙ ap (λ (l : List Path). p ∷ l) (all_kept p ps h.0)

pub length_paths : (done names : Path) → length (paths_from done names) ≡ length names
length_paths done [] = refl
length_paths done (n ∷ names) = ap suc (length_paths (done ++ n ∷ []) names)

-- ---- the puts of a chain

-- who makes the nodes of an entry
abbrev pub maker_for : Entry → Maker
maker_for e = record { owner = (caller_of e).id; moment = e.moment }

pub paths_are : (e : Entry) (m : Making) (x : Node) (done names : Path) → map (λ (y : Path × Put). y.0) (new_nodes e m x done names) ≡ paths_from done names
paths_are e m x done [] = refl
paths_are e m x done (n ∷ []) = refl
paths_are e m x done (n ∷ o ∷ names) = ap (λ (l : List Path). (done ++ n ∷ []) ∷ l) (paths_are e m (new_directory e m x) (done ++ n ∷ []) (o ∷ names))

find_none : (xs : List (Path × Put)) (q : Path) → (Among q (map (λ (y : Path × Put). y.0) xs) → ⊥) → find path_cmp q xs ≡ None
find_none [] q h = refl
find_none (x ∷ xs) q h = ap (λ b. cond b (Some x.1) (find path_cmp q xs)) (path_differs q x.0 (λ e. h (inl e))) ∙ find_none xs q (λ k. h (inr k))

-- nothing is put at the path below which the chain stands
pub none_put : (e : Entry) (m : Making) (x : Node) (done names : Path) → find path_cmp done (new_nodes e m x done names) ≡ None
none_put e m x done names =
    find_none (new_nodes e m x done names) done
    (λ k. not_among done names done (let h : length done ≤ length done = omega arith in h) (subst (λ l. Among done l) (paths_are e m x done names) k))

-- ---- the inode of a new node

content_is : (c : model.Content) → bare_content (own_content c) ≡ content_with c fin.empty
content_is model.directory = refl
content_is (model.file bytes staged) = refl

inode_is : (number moment : ℕ) (x : Node) → numbered number (bare (new_inode moment x)) ≡ inode_with (put_by number (stamp moment x)) fin.empty
inode_is number moment x = ap (λ (c : BareContent). record { meta = meta_of (put_by number (stamp moment x)); content = c }) (content_is x.content)

-- ---- the links of a chain

same_names : (done : Path) (k n : List ℕ) → eq_by_cmp path_cmp (done ++ k ∷ []) (done ++ n ∷ []) ≡ eq_by_cmp name_cmp k n
same_names done k n = elim (key_tells name_cmp nat_list_cmp_total name_cmp-IsAntisymmetric k n) [
  | inl e ↦
      ap (λ j. eq_by_cmp path_cmp (done ++ j ∷ []) (done ++ n ∷ [])) e ∙ same_path (done ++ n ∷ [])
      ∙ sym (ap (λ j. eq_by_cmp name_cmp j n) e ∙ key_same name_cmp nat_list_cmp_total name_cmp-IsAntisymmetric n)
  | inr other ↦
      path_differs (done ++ k ∷ []) (done ++ n ∷ [])
      (λ same. false≢true (sym other ∙ ap (λ j. eq_by_cmp name_cmp j n) (one_name (same_behind done (k ∷ []) (n ∷ []) same)) ∙ key_same name_cmp nat_list_cmp_total name_cmp-IsAntisymmetric n))
      ∙ sym other
]
  where
    one_name : k ∷ [] ≡ n ∷ [] → k ≡ n
    one_name same = ap (λ (l : Path). unwrap_or (slice_get l 0) k) same

module _ (number i : ℕ) (e : Entry) (m : Making) (eff : Effect) (ls : List Relink) where
  -- of the paths below this one the links are those of the chain
  abbrev pub SaysAs : Path → Path → List ℕ → Type 0
  SaysAs done names ids = (q : Path) → length done < length q → (o : Option ℕ) → last_link ls q o ≡ last_link (drawn_links (zip (paths_from done names) ids)) q o

  -- and the puts are those of the chain
  abbrev pub PutsAs : Node → Path → Path → Type 0
  PutsAs x done names = (q : Path) → length done < length q → find path_cmp q eff.puts ≡ find path_cmp q (new_nodes e m x done names)

  below_next : (done : Path) (n : List ℕ) (q : Path) → length (done ++ n ∷ []) < length q → length done < length q
  below_next done n q h = let l = one_more done n in omega arith

  says_next : (done : Path) (n : List ℕ) (names : Path) (id : ℕ) (ids : List ℕ) → SaysAs done (n ∷ names) (id ∷ ids) → SaysAs (done ++ n ∷ []) names ids
  says_next done n names id ids says q h o =
      says q (below_next done n q h) o
      ∙ ap (λ b. last_link (drawn_links (zip (paths_from (done ++ n ∷ []) names) ids)) q (cond b (Some id) o)) (path_differs q (done ++ n ∷ []) (long_differs (done ++ n ∷ []) q h))

  puts_next : (x : Node) (done : Path) (n o : List ℕ) (names : Path) → PutsAs x done (n ∷ o ∷ names) → PutsAs (new_directory e m x) (done ++ n ∷ []) (o ∷ names)
  puts_next x done n o names puts q h =
      puts q (below_next done n q h)
      ∙ ap (λ b. cond b (Some (stamp e.moment (new_directory e m x))) (find path_cmp q (new_nodes e m (new_directory e m x) (done ++ n ∷ []) (o ∷ names))))
      (path_differs q (done ++ n ∷ []) (long_differs (done ++ n ∷ []) q h))

  -- the directory leads to the first one by its name
  pub links_here : (done : Path) (n : List ℕ) (names : Path) (id : ℕ) (ids : List ℕ) → SaysAs done (n ∷ names) (id ∷ ids) → (links : Links) → relinked done ls links ≡ fin.insert links n id
  links_here done n names id ids says links =
      fin.same_map nat_list_cmp_total name_cmp-IsAntisymmetric (relinked done ls links) (fin.insert links n id)
      (λ k. get-relinked done k ls links ∙ says (done ++ k ∷ []) (longer_one done k) (fin.get links k)
      ∙ drawn_unsaid (paths_from (done ++ n ∷ []) names) ids (done ++ k ∷ []) (cond (eq_by_cmp path_cmp (done ++ k ∷ []) (done ++ n ∷ [])) (Some id) (fin.get links k))
      (not_among (done ++ n ∷ []) names (done ++ k ∷ []) (let a = one_more done k in let b = one_more done n in let h : length (done ++ k ∷ []) ≤ length (done ++ n ∷ []) = omega arith in h))
      ∙ ap (λ b. cond b (Some id) (fin.get links k)) (same_names done k n)
      ∙ sym (fin.get-insert nat_list_cmp_total links n id k))

  -- the last one leads nowhere
  no_links_here : (done : Path) (ids : List ℕ) → SaysAs done [] ids → relinked done ls fin.empty ≡ fin.empty
  no_links_here done ids says =
      fin.same_map nat_list_cmp_total name_cmp-IsAntisymmetric (relinked done ls fin.empty) fin.empty
      (λ k. get-relinked done k ls fin.empty ∙ says (done ++ k ∷ []) (longer_one done k) (fin.get {R = name_cmp} fin.empty k))

  abbrev linked_above : NodeId → List ℕ → NodeId → Option BareInode → Option BareInode
  linked_above above n id before = cond (above.0 == i) (node_after number (change.Link above n id) before) before

  abbrev made_turns : Path → Path → List NodeId → List Turn
  made_turns done names ids = flat_map (making_of eff ls) (zip (paths_from done names) (numbers_of ids))

  -- a directory on the way, with its link to the next one
  linked_next : (x : Node) (p : Path) (o : List ℕ) (names : Path) (id next : NodeId) (ids : List NodeId) (state : Option BareInode) → SaysAs p (o ∷ names) (numbers_of (next ∷ ids)) → (b : Bool)
      → cond b (node_after number (change.Link id o next) (cond b (Some (numbered number (bare (new_inode e.moment (new_directory e m x))))) state))
      (cond b (Some (numbered number (bare (new_inode e.moment (new_directory e m x))))) state)
      ≡ cond b (Some (inode_with (put_by number (stamp e.moment (new_directory e m x))) (relinked p ls fin.empty))) state
  linked_next x p o names id next ids state says true =
      ap (λ links. Some (inode_with (put_by number (stamp e.moment (new_directory e m x))) links)) (sym (links_here p o names next.0 (numbers_of ids) says fin.empty))
  linked_next x p o names id next ids state says false = refl

  -- The changes of a chain leave at the id what the directory's link and the turns of the new nodes leave there.
  pub chain_same : (x : Node) (done : Path) (above : NodeId) (n : List ℕ) (names : Path) (id : NodeId) (ids : List NodeId) (before : Option BareInode)
      → length ids ≡ length names → SaysAs done (n ∷ names) (numbers_of (id ∷ ids)) → PutsAs x done (n ∷ names)
      → changed_by number i (chained (maker_for e) m x.group x.acl above (n ∷ names) (id ∷ ids)) before ≡ turned_by number i (made_turns done (n ∷ names) (id ∷ ids)) (linked_above above n id before)
  chain_same x done above n [] id ids before long says puts =
      ap (λ (y : BareInode). cond (id.0 == i) (Some y) (linked_above above n id before))
      (inode_is number e.moment (new_node e m x)
      ∙ ap (inode_with (put_by number (stamp e.moment (new_node e m x)))) (sym (no_links_here (done ++ n ∷ []) (numbers_of ids) (says_next done n [] id.0 (numbers_of ids) says))))
      ∙ sym (ap (λ (o : Option Put). turned_by number i (making (done ++ n ∷ [], id.0) ls o ++ []) (linked_above above n id before))
      (puts (done ++ n ∷ []) (longer_one done n) ∙ ap (λ b. cond b (Some (stamp e.moment (new_node e m x))) None) (same_path (done ++ n ∷ []))))
  chain_same x done above n (o ∷ names) id [] before long says puts = absurd (let l : length (o ∷ names) ≡ suc (length names) = refl in omega arith)
  chain_same x done above n (o ∷ names) id (next ∷ ids) before long says puts =
      chain_same (new_directory e m x) (done ++ n ∷ []) id o names next ids
      (cond (id.0 == i) (Some (numbered number (bare (new_inode e.moment (new_directory e m x))))) (linked_above above n id before)) (ap pred long)
      (says_next done n (o ∷ names) id.0 (numbers_of (next ∷ ids)) says) (puts_next x done n o names puts)
      ∙ ap (turned_by number i (made_turns (done ++ n ∷ []) (o ∷ names) (next ∷ ids)))
      (linked_next x (done ++ n ∷ []) o names id next ids (linked_above above n id before) (says_next done n (o ∷ names) id.0 (numbers_of (next ∷ ids)) says) (id.0 == i))
      ∙ sym (ap (λ (f : Option Put). turned_by number i (making (done ++ n ∷ [], id.0) ls f ++ made_turns (done ++ n ∷ []) (o ∷ names) (next ∷ ids)) (linked_above above n id before))
      (puts (done ++ n ∷ []) (longer_one done n)
      ∙ ap (λ b. cond b (Some (stamp e.moment (new_directory e m x))) (find path_cmp (done ++ n ∷ []) (new_nodes e m (new_directory e m x) (done ++ n ∷ []) (o ∷ names)))) (same_path (done ++ n ∷ []))))
