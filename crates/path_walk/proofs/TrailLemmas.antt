-- One step of a visit: what stands at the next name of the way, and what the visit says then.
use Rattle.std.proofs.Common.{◌≡◌, ℕ, zero, suc, ◌+◌, ◌%◌, ◌==◌, Bool, true, false, cond, ◌||◌, List, [], ◌∷◌, ◌++◌, map, length, take, drop, slice_get, Option, Some, None, option_and_then, is_some, IsSome, Ok, Err, refl, ap, sym, subst, ◌∙◌, append_assoc, append-nil, arith}
use Rattle.std.proofs.lemmas.Bool.{false≢true}
use Rattle.std.proofs.lemmas.Option.{same_Some}
use Rattle.std.specs.Cmp.{unsigned_Decides}
use Rattle.std.specs.FinMap as fin
use Rattle.namespace_model.specs.declared.caller.Caller.{Caller}
use Rattle.namespace_model.specs.declared.denied.Refusal.{Refusal}
use Rattle.namespace_model.specs.Nodes.{is_directory}
use Rattle.namespace_model.specs.Trees.{Path, Tree, at}
use Rattle.inode_tree.specs.declared.id.NodeId.{NodeId}
use Rattle.inode_tree.specs.Inodes.{BareInode, node_of}
use Rattle.inode_tree.specs.Changes.{Part}
use Rattle.inode_tree.specs.Footprints.{ids_of, lies_in}
use Rattle.inode_tree.specs.Index.{IsIndex}
use Rattle.inode_tree.specs.Parts.{Parts, inode_at, child_of, follow, id_at}
use Rattle.inode_tree.specs.After.{with_id, known}
use Rattle.inode_tree.specs.Promises.{numbers_of, is_one_of}
use Rattle.inode_tree.specs.Stands.{Stands}
use Rattle.inode_tree.specs.Views.{Held, Shown, Agrees, Grows, shown_at}
use Rattle.inode_tree.proofs.IndexLemmas.{index_from_stands, reached_short, some_there}
use Rattle.inode_tree.proofs.FrameLemmas.{short_id}
use Rattle.path_walk.specs.declared.stop.End.TheVariants as end
use Rattle.namespace_model.specs.Ways.{Way, reached, missing, blocked, closed, passed, may_enter, met, way_from, behind, seen, read_from}
use Rattle.path_walk.specs.Visits.{end_of, AreLookedAt, IsHeldAndShown}
use Rattle.path_walk.specs.Trails.{IsAt}

-- ---- what was shown

-- parts that agree with what was shown have the inode that was shown
pub agreed : (shown : Shown) (parts : Parts) (id : ℕ) (x : BareInode) → Agrees shown parts → shown_at shown id ≡ Some x → inode_at parts id ≡ Some x
agreed shown parts id x agrees e = by_part (shown (id % 64)) refl e
  where
    by_part : (o : Option Part) → shown (id % 64) ≡ o → option_and_then (λ (p : Part). fin.get p id) o ≡ Some x → inode_at parts id ≡ Some x
    by_part None f h = absurd (false≢true (ap is_some h))
    by_part (Some part) f h = ap (option_and_then (λ (p : Part). fin.get p id)) (agrees (id % 64) part f) ∙ h

-- a node that was shown is in a part that was shown
pub part_shown : (shown : Shown) (id : ℕ) (x : BareInode) → shown_at shown id ≡ Some x → IsSome (shown (id % 64))
part_shown shown id x e = by_part (shown (id % 64)) e
  where
    by_part : (o : Option Part) → option_and_then (λ (p : Part). fin.get p id) o ≡ Some x → IsSome o
    by_part None h = absurd (false≢true (ap is_some h))
    by_part (Some part) h = refl

pub agrees_before : (old new : Shown) (parts : Parts) → Grows old new → Agrees new parts → Agrees old parts
agrees_before old new parts grows agrees stripe part e = agrees stripe part (grows stripe part e)

some_grows : (old new : Shown) (stripe : ℕ) → Grows old new → IsSome (old stripe) → IsSome (new stripe)
some_grows old new stripe grows h = by_part (old stripe) refl h
  where
    by_part : (o : Option Part) → old stripe ≡ o → IsSome o → IsSome (new stripe)
    by_part None e k = absurd (false≢true k)
    by_part (Some part) e k = some_there (grows stripe part e)

-- what was looked at stays so
pub looked_grows : (held : Held) (old new : Shown) (ids : List NodeId) → Grows old new → AreLookedAt held old ids → AreLookedAt held new ids
looked_grows held old new ids grows looked id h = let was = looked id h in (was.0, some_grows old new (id % 64) grows was.1)

pub one_of_append : (id : ℕ) (xs ys : List ℕ) → is_one_of id (xs ++ ys) ≡ (is_one_of id xs || is_one_of id ys)
one_of_append id [] ys = refl
one_of_append id (x ∷ xs) ys = ap (λ b. (x == id) || b) (one_of_append id xs ys) ∙ or_assoc (x == id) (is_one_of id xs) (is_one_of id ys)
  where
    or_assoc : (a b c : Bool) → (a || (b || c)) ≡ ((a || b) || c)
    or_assoc true b c = refl
    or_assoc false b c = refl

pub numbers-append : (xs ys : List NodeId) → numbers_of (xs ++ ys) ≡ numbers_of xs ++ numbers_of ys
numbers-append [] ys = refl
numbers-append (x ∷ xs) ys = ap (λ l. x.0 ∷ l) (numbers-append xs ys)

-- one more id that was looked at
pub looked_more : (held : Held) (shown : Shown) (ids : List NodeId) (one : NodeId) → AreLookedAt held shown ids → IsHeldAndShown held shown one.0 → AreLookedAt held shown (ids ++ one ∷ [])
looked_more held shown ids one looked here id h =
    by_first (is_one_of id (numbers_of ids)) refl (sym (one_of_append id (numbers_of ids) (one.0 ∷ [])) ∙ ap (is_one_of id) (sym (numbers-append ids (one ∷ []))) ∙ h)
  where
    by_last : (b : Bool) → (one.0 == id) ≡ b → (b || false) ≡ true → IsHeldAndShown held shown id
    by_last true e k = subst (IsHeldAndShown held shown) ((unsigned_Decides one.0 id).0 e) here
    by_last false e k = absurd (false≢true k)

    by_first : (b : Bool) → is_one_of id (numbers_of ids) ≡ b → (b || ((one.0 == id) || false)) ≡ true → IsHeldAndShown held shown id
    by_first true e k = looked id e
    by_first false e k = by_last (one.0 == id) refl k

-- ---- names

pub drop_at : (xs : Path) (k : ℕ) (n : List ℕ) → slice_get xs k ≡ Some n → drop k xs ≡ n ∷ drop (suc k) xs
drop_at [] k n e = absurd (false≢true (ap is_some e))
drop_at (x ∷ xs) zero n e = ap (λ y. y ∷ xs) (same_Some x n e)
drop_at (x ∷ xs) (suc k) n e = drop_at xs k n e

pub take_at : (xs : Path) (k : ℕ) (n : List ℕ) → slice_get xs k ≡ Some n → take (suc k) xs ≡ take k xs ++ n ∷ []
take_at [] k n e = absurd (false≢true (ap is_some e))
take_at (x ∷ xs) zero n e = ap (λ y. y ∷ []) (same_Some x n e)
take_at (x ∷ xs) (suc k) n e = ap (λ l. x ∷ l) (take_at xs k n e)

pub length-take_at : (xs : Path) (k : ℕ) (n : List ℕ) → slice_get xs k ≡ Some n → length (take k xs) ≡ k
length-take_at [] k n e = absurd (false≢true (ap is_some e))
length-take_at (x ∷ xs) zero n e = refl
length-take_at (x ∷ xs) (suc k) n e = ap suc (length-take_at xs k n e)

length-one_more : (p : Path) (n : List ℕ) → length (p ++ n ∷ []) ≡ length p + 1
length-one_more [] n = refl
length-one_more (m ∷ p) n = ap suc (length-one_more p n) ∙ (let h : suc (length p + 1) ≡ suc (length p) + 1 = omega arith in h)

-- ---- a step

module _ (parts : Parts) (t : Tree) (stands : Stands parts t) (caller : Caller) (names : Path) (k : ℕ) (ids : List NodeId) (i : ℕ) (x : BareInode) (n : List ℕ) (is : IsAt parts t caller names k ids i x) (name : slice_get names k ≡ Some n) where
  index : IsIndex parts t (follow parts 0)
  index = index_from_stands parts t stands

  abbrev p : Path
  p = take k names

  abbrev q : Path
  q = take k names ++ n ∷ []

  abbrev on : Way
  on = way_from t caller q (drop (suc k) names)

  abbrev further : List Path
  further = read_from t caller q (drop (suc k) names)

  -- where the name leads
  leads_to : (child : Option ℕ) → child_of x n ≡ child → follow parts 0 q ≡ child
  leads_to child e =
      let place = index.places p i is.leads in
      sym (place.links n) ∙ ap (λ (y : BareInode). child_of y n) (same_Some place.inode x (sym place.found ∙ is.there)) ∙ e

  the_way : way_from t caller [] names ≡ met caller p q (at t q) on
  the_way = is.rest ∙ ap (way_from t caller p) (drop_at names k n name)

  the_read : ids_of parts ([] ∷ read_from t caller [] names) ≡ numbers_of ids ++ ids_of parts (seen caller q (at t q) further)
  the_read = is.so_far ∙ ap (λ l. numbers_of ids ++ ids_of parts (read_from t caller p l)) (drop_at names k n name)

  -- a child is there
  pub child_found : (c : ℕ) → child_of x n ≡ Some c → IsSome (inode_at parts c)
  child_found c e = stands.found q c (leads_to (Some c) e)

  child_node : (c : ℕ) → child_of x n ≡ Some c → (y : BareInode) → inode_at parts c ≡ Some y → at t q ≡ Some (node_of y)
  child_node c e y there =
      let place = index.places q c (leads_to (Some c) e) in
      place.shows ∙ ap (λ (z : BareInode). Some (node_of z)) (same_Some place.inode y (sym place.found ∙ there))

  child_id : (c : ℕ) → child_of x n ≡ Some c → id_at parts q ≡ Some c
  child_id c e = let leads = leads_to (Some c) e in short_id parts q (reached_short parts t stands q c leads) ∙ leads

  read_child : (c : ℕ) → child_of x n ≡ Some c → (rest : List Path) → ids_of parts (q ∷ rest) ≡ c ∷ ids_of parts rest
  read_child c e rest = ap (λ (o : Option ℕ). map (λ (z : Path × ℕ). z.1) (with_id q o ++ known parts rest)) (child_id c e)

  names_so_far : length p ≡ k
  names_so_far = length-take_at names k n name

  names_here : length q ≡ k + 1
  names_here = length-one_more p n ∙ ap (λ m. m + 1) names_so_far

  -- nothing stands at the name
  pub missing_way : child_of x n ≡ None → way_from t caller [] names ≡ missing p
  missing_way e = the_way ∙ ap (λ u. met caller p q u on) (index.nothing q (leads_to None e))

  pub missing_ends : child_of x n ≡ None → end.NotFound (k + 1) ≡ end_of (way_from t caller [] names)
  missing_ends e = sym (ap end_of (missing_way e) ∙ ap (λ m. end.NotFound (m + 1)) names_so_far)

  pub missing_read : child_of x n ≡ None → numbers_of ids ≡ ids_of parts ([] ∷ read_from t caller [] names)
  missing_read e = sym (the_read ∙ ap (λ u. numbers_of ids ++ ids_of parts (seen caller q u further)) (index.nothing q (leads_to None e)) ∙ append-nil (numbers_of ids))

  module _ (c : NodeId) (leads : child_of x n ≡ Some c.0) (y : BareInode) (there : inode_at parts c.0 ≡ Some y) where
    met_here : way_from t caller [] names ≡ met caller p q (Some (node_of y)) on
    met_here = the_way ∙ ap (λ u. met caller p q u on) (child_node c.0 leads y there)

    read_here : ids_of parts ([] ∷ read_from t caller [] names) ≡ numbers_of ids ++ c.0 ∷ ids_of parts (cond (is_directory (node_of y)) (behind (may_enter caller (node_of y)) further) [])
    read_here =
        the_read ∙ ap (λ u. numbers_of ids ++ ids_of parts (seen caller q u further)) (child_node c.0 leads y there)
        ∙ ap (λ l. numbers_of ids ++ l) (read_child c.0 leads (cond (is_directory (node_of y)) (behind (may_enter caller (node_of y)) further) []))

    more_ids : numbers_of (ids ++ c ∷ []) ≡ numbers_of ids ++ c.0 ∷ []
    more_ids = numbers-append ids (c ∷ [])

    -- a file stands there
    pub blocked_way : is_directory (node_of y) ≡ false → way_from t caller [] names ≡ blocked q
    blocked_way file = met_here ∙ ap (λ b. cond b (passed q (may_enter caller (node_of y)) on) (blocked q)) file

    pub blocked_ends : is_directory (node_of y) ≡ false → end.NotDirectory (k + 1) ≡ end_of (way_from t caller [] names)
    blocked_ends file = sym (ap end_of (blocked_way file) ∙ ap end.NotDirectory names_here)

    pub blocked_read : is_directory (node_of y) ≡ false → numbers_of (ids ++ c ∷ []) ≡ ids_of parts ([] ∷ read_from t caller [] names)
    blocked_read file =
        more_ids ∙ sym (read_here ∙ ap (λ b. numbers_of ids ++ c.0 ∷ ids_of parts (cond b (behind (may_enter caller (node_of y)) further) [])) file)

    -- a directory that doesn't let the caller through
    pub closed_way : (r : Refusal) → is_directory (node_of y) ≡ true → may_enter caller (node_of y) ≡ Err r → way_from t caller [] names ≡ closed q r
    closed_way r dir refused = met_here ∙ ap (λ b. cond b (passed q (may_enter caller (node_of y)) on) (blocked q)) dir ∙ ap (λ a. passed q a on) refused

    pub closed_ends : (r : Refusal) → is_directory (node_of y) ≡ true → may_enter caller (node_of y) ≡ Err r
        → end.Denied (record { rule = r.rule; at = q; want = 1; have = r.have }) ≡ end_of (way_from t caller [] names)
    closed_ends r dir refused = sym (ap end_of (closed_way r dir refused))

    pub closed_read : (r : Refusal) → is_directory (node_of y) ≡ true → may_enter caller (node_of y) ≡ Err r → numbers_of (ids ++ c ∷ []) ≡ ids_of parts ([] ∷ read_from t caller [] names)
    closed_read r dir refused =
        more_ids
        ∙ sym (read_here ∙ ap (λ b. numbers_of ids ++ c.0 ∷ ids_of parts (cond b (behind (may_enter caller (node_of y)) further) [])) dir
        ∙ ap (λ a. numbers_of ids ++ c.0 ∷ ids_of parts (behind a further)) refused)

    -- one that does
    pub passed_on : is_directory (node_of y) ≡ true → may_enter caller (node_of y) ≡ Ok tt → IsAt parts t caller names (k + 1) (ids ++ c ∷ []) c.0 y
    passed_on dir lets =
        let next : k + 1 ≡ suc k = omega arith in
        let here : take (k + 1) names ≡ q = ap (λ m. take m names) next ∙ take_at names k n name in
        let left : drop (k + 1) names ≡ drop (suc k) names = ap (λ m. drop m names) next in
        record {
          leads = ap (follow parts 0) here ∙ leads_to (Some c.0) leads;
          there = there;
          rest = met_here ∙ ap (λ b. cond b (passed q (may_enter caller (node_of y)) on) (blocked q)) dir ∙ ap (λ a. passed q a on) lets
              ∙ sym (ap (λ d. way_from t caller d (drop (k + 1) names)) here ∙ ap (way_from t caller q) left);
          so_far = read_here ∙ ap (λ b. numbers_of ids ++ c.0 ∷ ids_of parts (cond b (behind (may_enter caller (node_of y)) further) [])) dir
              ∙ ap (λ a. numbers_of ids ++ c.0 ∷ ids_of parts (behind a further)) lets
              ∙ sym (ap (λ d. numbers_of (ids ++ c ∷ []) ++ ids_of parts (read_from t caller d (drop (k + 1) names))) here
              ∙ ap (λ l. numbers_of (ids ++ c ∷ []) ++ ids_of parts (read_from t caller q l)) left
              ∙ ap (λ l. l ++ ids_of parts further) more_ids ∙ append_assoc (numbers_of ids) (c.0 ∷ []) (ids_of parts further));
        }

  -- a child is read
  pub child_lies : (c : ℕ) → child_of x n ≡ Some c → lies_in (c % 64) (ids_of parts ([] ∷ read_from t caller [] names)) ≡ true
  child_lies c e = by_node (inode_at parts c) refl (child_found c e)
    where
      same : (m : ℕ) → (m == m) ≡ true
      same m = (unsigned_Decides m m).1 refl

      lies_behind : (s : ℕ) (xs : List ℕ) (i : ℕ) (ys : List ℕ) → (i % 64 == s) ≡ true → lies_in s (xs ++ i ∷ ys) ≡ true
      lies_behind s [] i ys h = ap (λ b. b || lies_in s ys) h
      lies_behind s (z ∷ zs) i ys h = ap (λ b. (z % 64 == s) || b) (lies_behind s zs i ys h) ∙ or_true (z % 64 == s)
        where
          or_true : (b : Bool) → (b || true) ≡ true
          or_true true = refl
          or_true false = refl

      by_node : (o : Option BareInode) → inode_at parts c ≡ o → IsSome o → lies_in (c % 64) (ids_of parts ([] ∷ read_from t caller [] names)) ≡ true
      by_node None f h = absurd (false≢true h)
      by_node (Some y) f h =
          ap (lies_in (c % 64)) (read_here (record { 0 = c }) e y f)
          ∙ lies_behind (c % 64) (numbers_of ids) c (ids_of parts (cond (is_directory (node_of y)) (behind (may_enter caller (node_of y)) further) [])) (same (c % 64))

-- ---- the start

pub starts : (parts : Parts) (t : Tree) (caller : Caller) (names : Path) (x : BareInode) → inode_at parts 0 ≡ Some x → IsAt parts t caller names 0 (record { 0 = 0 } ∷ []) 0 x
starts parts t caller names x there = record { leads = refl; there = there; rest = refl; so_far = refl }

-- the whole way was gone
pub reached_ends : (parts : Parts) (t : Tree) (caller : Caller) (names : Path) (ids : List NodeId) (i : ℕ) (x : BareInode) → IsAt parts t caller names (length names) ids i x
    → (reached ≡ way_from t caller [] names) × (numbers_of ids ≡ ids_of parts ([] ∷ read_from t caller [] names)) × (follow parts 0 names ≡ Some i)
reached_ends parts t caller names ids i x is =
    let none : drop (length names) names ≡ [] = drop_all names in (
      sym (is.rest ∙ ap (way_from t caller (take (length names) names)) none),
      sym (is.so_far ∙ ap (λ l. numbers_of ids ++ ids_of parts (read_from t caller (take (length names) names) l)) none ∙ append-nil (numbers_of ids)),
      ap (follow parts 0) (sym (take_all names)) ∙ is.leads,
    )
  where
    take_all : (xs : Path) → take (length xs) xs ≡ xs
    take_all [] = refl
    take_all (x ∷ xs) = ap (λ l. x ∷ l) (take_all xs)

    drop_all : (xs : Path) → drop (length xs) xs ≡ []
    drop_all [] = refl
    drop_all (x ∷ xs) = drop_all xs
