-- What an entry does rests on the parts that it reads and writes: each touched path has one id in both lists, since each front of it is
-- touched, and so the two trees are alike there.
use Rattle.std.proofs.Common.{◌≡◌, ◌⊎◌, inl, inr, ℕ, zero, suc, ◌+◌, ◌%◌, ◌==◌, Bool, true, false, cond, ◌||◌, leb, List, [], ◌∷◌, ◌++◌, map, length, slice_get, Option, Some, None, option_map, option_and_then, is_some, IsSome, IsTrue, unwrap_or, refl, ap, sym, subst, ◌∙◌, append_assoc, add-zero, zero-add, zip, flat_map, nat_lt, arith}
use Rattle.std.proofs.lemmas.Bool.{false≢true}
use Rattle.std.proofs.lemmas.Bool.Decides.{leb_tells}
use Rattle.std.specs.Cmp.{unsigned_Decides}
use Rattle.std.specs.FinMap as fin
use Rattle.std.specs.FinMap.{find}
use Rattle.std.specs.Ordering.{eq_by_cmp}
use Rattle.std.specs.List.{list_any}
use Rattle.path_text.specs.Paths.{path_cmp}
use Rattle.namespace_model.specs.Nodes.{is_directory, blank}
use Rattle.namespace_model.specs.Trees.{Path, at, IsDirectory, IsLaid}
use Rattle.namespace_model.specs.Effects.{Put, Effect}
use Rattle.namespace_model.specs.Outcomes.{Outcome, touched}
use Rattle.namespace_model.specs.Locality.{Among, Alike}
use Rattle.namespace_model.proofs.Prefixes.{length_append}
use Rattle.namespace_model.proofs.StepLocality.{outcome_local}
use Rattle.namespace_model.proofs.ClosedOperations.{outcome_closed}
use Rattle.inode_tree.specs.declared.placed.Placed.{Placed}
use Rattle.inode_tree.specs.declared.change.Change.{Change}
use Rattle.inode_tree.specs.Inodes.{BareContent, directory, file, BareInode, links_in, node_of}
use Rattle.inode_tree.specs.ChildLists.{name_cmp}
use Rattle.inode_tree.specs.Parts.{Parts, inode_at, child_of, child_at, follow, id_at, node_at, tree_of}
use Rattle.inode_tree.specs.Changes.{Part}
use Rattle.inode_tree.specs.After.{Relink, relinks, Turn, gone, stays_at, id_of, turn_of, making, making_of, turns, turns_by, turned_in, part_after, parts_after, with_id, known, drawn_ids, outcome_on, turns_on, after}
use Rattle.inode_tree.specs.Footprints.{ids_of, lies_in, reads, writes, Fits, Does}
use Rattle.inode_tree.specs.Framed.{AgreeOnFootprint, IsFramed, LeavesOthers}
use Rattle.inode_tree.proofs.ShownTree.{at-tree_of}

-- ---- following names

pub follow-append : (parts : Parts) (id : ℕ) (q r : Path) → follow parts id (q ++ r) ≡ option_and_then (λ c. follow parts c r) (follow parts id q)
follow-append parts id [] r = refl
follow-append parts id (n ∷ q) r = by_child (child_at parts id n) (λ c. follow-append parts c q r)
  where
    by_child : (o : Option ℕ) → ((c : ℕ) → follow parts c (q ++ r) ≡ option_and_then (λ d. follow parts d r) (follow parts c q))
        → option_and_then (λ c. follow parts c (q ++ r)) o ≡ option_and_then (λ c. follow parts c r) (option_and_then (λ c. follow parts c q) o)
    by_child None h = refl
    by_child (Some c) h = h c

shorter : (a b c : ℕ) → leb (a + b) c ≡ true → leb a c ≡ true
shorter a b c e = elim (leb_tells a c) [
  | inl h ↦ h.0
  | inr h ↦ elim (leb_tells (a + b) c) [ inl k ↦ absurd (let u = h.1 in let v = k.1 in omega arith) | inr k ↦ absurd (false≢true (sym k.0 ∙ e)) ]
]

-- a front of a path of at most 60 names has at most 60
pub front_is_short : (q r : Path) → leb (length (q ++ r)) 60 ≡ true → leb (length q) 60 ≡ true
front_is_short q r e = shorter (length q) (length r) 60 (ap (λ n. leb n 60) (sym (length_append q r)) ∙ e)

pub short_id : (parts : Parts) (p : Path) → leb (length p) 60 ≡ true → id_at parts p ≡ follow parts 0 p
short_id parts p e = ap (λ b. cond b (follow parts 0 p) None) e

-- ---- what is above each path is a directory

absent : (n bytes : List ℕ) (staged : List (ℕ × List ℕ)) → IsSome (fin.get (links_in (file bytes staged)) n) → ⊥
absent n bytes staged h = false≢true (subst IsSome (fin.get-empty name_cmp n) h)

has_names : (x : BareInode) (n : List ℕ) → IsSome (child_of x n) → IsTrue (is_directory (node_of x))
has_names x n h = by_content x.content h
  where
    by_content : (c : BareContent) → IsSome (fin.get (links_in c) n) → IsTrue (is_directory (node_of (record x { content = c })))
    by_content (directory links) h = refl
    by_content (file bytes staged) h = absurd (absent n bytes staged h)

pub tree_is_laid : (parts : Parts) → IsLaid (tree_of parts)
tree_is_laid parts p n h = by_test (leb (length (p ++ n ∷ [])) 60) refl (subst IsSome (at-tree_of parts (p ++ n ∷ [])) h)
  where
    by_inode : (id : ℕ) → id_at parts p ≡ Some id → (i : Option BareInode) → inode_at parts id ≡ i
        → IsSome (option_map (node_at parts) (option_and_then (λ c. Some c) (option_and_then (λ x. child_of x n) i))) → IsDirectory (at (tree_of parts) p)
    by_inode id e None f k = absurd (false≢true k)
    by_inode id e (Some x) f k =
        subst IsDirectory (sym (at-tree_of parts p ∙ ap (option_map (node_at parts)) e ∙ ap (λ i. Some (unwrap_or (option_map node_of i) blank)) f)) (has_names x n (linked (child_of x n) k))
      where
        linked : (o : Option ℕ) → IsSome (option_map (node_at parts) (option_and_then (λ c. Some c) o)) → IsSome o
        linked None k = k
        linked (Some c) k = refl

    by_id : leb (length p) 60 ≡ true → (o : Option ℕ) → follow parts 0 p ≡ o
        → IsSome (option_map (node_at parts) (option_and_then (λ c. follow parts c (n ∷ [])) o)) → IsDirectory (at (tree_of parts) p)
    by_id short None e k = absurd (false≢true k)
    by_id short (Some id) e k = by_inode id (short_id parts p short ∙ e) (inode_at parts id) refl k

    by_test : (b : Bool) → leb (length (p ++ n ∷ [])) 60 ≡ b → IsSome (option_map (node_at parts) (cond b (follow parts 0 (p ++ n ∷ [])) None)) → IsDirectory (at (tree_of parts) p)
    by_test false e k = absurd (false≢true k)
    by_test true e k = by_id (front_is_short p (n ∷ []) e) (follow parts 0 p) refl (subst (λ o. IsSome (option_map (node_at parts) o)) (follow-append parts 0 p (n ∷ [])) k)

-- ---- the stripes of ids

or_true : (b : Bool) → (b || true) ≡ true
or_true true = refl
or_true false = refl

same_number : (n : ℕ) → (n == n) ≡ true
same_number n = (unsigned_Decides n n).1 refl

pub lies_first : (s : ℕ) (xs ys : List ℕ) → lies_in s xs ≡ true → lies_in s (xs ++ ys) ≡ true
lies_first s [] ys e = absurd (false≢true e)
lies_first s (x ∷ xs) ys e = by_test (x % 64 == s) e (lies_first s xs ys)
  where
    by_test : (b : Bool) → (b || lies_in s xs) ≡ true → (lies_in s xs ≡ true → lies_in s (xs ++ ys) ≡ true) → (b || lies_in s (xs ++ ys)) ≡ true
    by_test true e h = refl
    by_test false e h = h e

-- the id of a path lies with those of the paths
pub id_lies : (parts : Parts) (p : Path) (id : ℕ) (ps : List Path) → Among p ps → id_at parts p ≡ Some id → lies_in (id % 64) (ids_of parts ps) ≡ true
id_lies parts p id [] h e = absurd h
id_lies parts p id (q ∷ qs) (inl same) e =
    subst (λ o. lies_in (id % 64) (map (λ (x : Path × ℕ). x.1) (with_id q o ++ known parts qs)) ≡ true) (sym (ap (id_at parts) (sym same) ∙ e))
    (ap (λ b. b || lies_in (id % 64) (ids_of parts qs)) (same_number (id % 64)))
id_lies parts p id (q ∷ qs) (inr h) e = later (id_at parts q) (id_lies parts p id qs h e)
  where
    later : (o : Option ℕ) → lies_in (id % 64) (ids_of parts qs) ≡ true → lies_in (id % 64) (map (λ (x : Path × ℕ). x.1) (with_id q o ++ known parts qs)) ≡ true
    later None k = k
    later (Some c) k = ap (λ b. (c % 64 == id % 64) || b) k ∙ or_true (c % 64 == id % 64)

in_one : (p : Path) (ps qs : List Path) → Among p (ps ++ qs) → (Among p ps) ⊎ (Among p qs)
in_one p [] qs h = inr h
in_one p (a ∷ ps) qs (inl e) = inl (inl e)
in_one p (a ∷ ps) qs (inr h) = elim (in_one p ps qs h) [ inl k ↦ inl (inr k) | inr k ↦ inr k ]

is_some_map : {A B : Type 0} (f : A → B) (o : Option A) → is_some (option_map f o) ≡ is_some o
is_some_map f None = refl
is_some_map f (Some x) = refl

-- the part of each stripe afterwards
pub at-parts_after : (from number : ℕ) (ts : List Turn) (parts : Parts) (i : ℕ) → slice_get (parts_after from number ts parts) i ≡ option_map (part_after (from + i) number ts) (slice_get parts i)
at-parts_after from number ts [] i = refl
at-parts_after from number ts (x ∷ xs) zero = ap (λ s. Some (part_after s number ts x)) (sym (add-zero from))
at-parts_after from number ts (x ∷ xs) (suc i) =
    at-parts_after (suc from) number ts xs i ∙ ap (λ s. option_map (part_after s number ts) (slice_get xs i)) (let k : suc from + i ≡ from + suc i = omega arith in k)

pub at-after : (number : ℕ) (ts : List Turn) (parts : Parts) (i : ℕ) → slice_get (parts_after 0 number ts parts) i ≡ option_map (part_after i number ts) (slice_get parts i)
at-after number ts parts i = at-parts_after 0 number ts parts i ∙ ap (λ s. option_map (part_after s number ts) (slice_get parts i)) (zero-add i)

-- ---- two lists of parts

module _ (xs ys : Parts) (e : Placed) (agree : AgreeOnFootprint xs ys e) where
  -- the inode of a touched path is the same
  same_inode : (p : Path) (id : ℕ) → Among p (touched (outcome_on xs e)) → id_at xs p ≡ Some id → inode_at xs id ≡ inode_at ys id
  same_inode p id h at = ap (option_and_then (λ part. fin.get part id)) (elim (in_one p (outcome_on xs e).read (outcome_on xs e).written h) [
    | inl k ↦ agree.read (id % 64) (id_lies xs p id (outcome_on xs e).read k at)
    | inr k ↦ agree.written (id % 64) (lies_first (id % 64) (ids_of xs (outcome_on xs e).written) (drawn_ids e) (id_lies xs p id (outcome_on xs e).written k at))
  ])

  same_child : (p : Path) (id : ℕ) (n : List ℕ) → Among p (touched (outcome_on xs e)) → id_at xs p ≡ Some id → child_at xs id n ≡ child_at ys id n
  same_child p id n h at = ap (option_and_then (λ x. child_of x n)) (same_inode p id h at)

  -- what is above a touched path is touched
  fronts : (q r : Path) → Among (q ++ r) (touched (outcome_on xs e)) → Among q (touched (outcome_on xs e))
  fronts q r h = outcome_closed e.entry (tree_of xs) (tree_is_laid xs) q r h

  same_way : (q r : Path) (id : ℕ) → Among (q ++ r) (touched (outcome_on xs e)) → leb (length (q ++ r)) 60 ≡ true → follow xs 0 q ≡ Some id → follow xs id r ≡ follow ys id r
  same_way q [] id h short at = refl
  same_way q (n ∷ r) id h short at =
      by_child (child_at xs id n) refl (λ c k. same_way (q ++ n ∷ []) r c (subst (λ p. Among p (touched (outcome_on xs e))) behind h) (subst (λ p. leb (length p) 60 ≡ true) behind short) k)
      ∙ ap (option_and_then (λ c. follow ys c r)) (same_child q id n (fronts q (n ∷ r) h) (short_id xs q (front_is_short q (n ∷ r) short) ∙ at))
    where
      behind : q ++ n ∷ r ≡ (q ++ n ∷ []) ++ r
      behind = sym (append_assoc q (n ∷ []) r)

      by_child : (o : Option ℕ) → child_at xs id n ≡ o → ((c : ℕ) → follow xs 0 (q ++ n ∷ []) ≡ Some c → follow xs c r ≡ follow ys c r)
          → option_and_then (λ c. follow xs c r) o ≡ option_and_then (λ c. follow ys c r) o
      by_child None k deeper = refl
      by_child (Some c) k deeper = deeper c (follow-append xs 0 q (n ∷ []) ∙ ap (option_and_then (λ d. follow xs d (n ∷ []))) at ∙ ap (option_and_then (λ d. Some d)) k)

  -- a touched path has one id in both
  pub same_id : (p : Path) → Among p (touched (outcome_on xs e)) → id_at xs p ≡ id_at ys p
  same_id p h = by_test (leb (length p) 60) refl
    where
      by_test : (b : Bool) → leb (length p) 60 ≡ b → cond b (follow xs 0 p) None ≡ cond b (follow ys 0 p) None
      by_test true short = same_way [] p 0 h short refl
      by_test false long = refl

  same_below : (p : Path) (n : List ℕ) → Among p (touched (outcome_on xs e)) → id_at xs (p ++ n ∷ []) ≡ id_at ys (p ++ n ∷ [])
  same_below p n h = by_test (leb (length (p ++ n ∷ [])) 60) refl
    where
      by_id : leb (length p) 60 ≡ true → (o : Option ℕ) → follow xs 0 p ≡ o → option_and_then (λ c. follow xs c (n ∷ [])) o ≡ option_and_then (λ c. follow ys c (n ∷ [])) o
      by_id short None k = refl
      by_id short (Some id) k = ap (option_and_then (λ d. Some d)) (same_child p id n h (short_id xs p short ∙ k))

      by_test : (b : Bool) → leb (length (p ++ n ∷ [])) 60 ≡ b → cond b (follow xs 0 (p ++ n ∷ [])) None ≡ cond b (follow ys 0 (p ++ n ∷ [])) None
      by_test true short =
          let front = front_is_short p (n ∷ []) short in
          follow-append xs 0 p (n ∷ []) ∙ by_id front (follow xs 0 p) refl
          ∙ ap (option_and_then (λ c. follow ys c (n ∷ []))) (sym (short_id xs p front) ∙ same_id p h ∙ short_id ys p front) ∙ sym (follow-append ys 0 p (n ∷ []))
      by_test false long = refl

  alike : (p : Path) → Among p (touched (outcome_on xs e)) → Alike (tree_of xs) (tree_of ys) p
  alike p h = record {
    node = at-tree_of xs p ∙ by_id (id_at xs p) refl ∙ ap (option_map (node_at ys)) (same_id p h) ∙ sym (at-tree_of ys p);
    names = λ n. ap is_some (at-tree_of xs (p ++ n ∷ [])) ∙ is_some_map (node_at xs) (id_at xs (p ++ n ∷ [])) ∙ ap is_some (same_below p n h)
        ∙ sym (ap is_some (at-tree_of ys (p ++ n ∷ [])) ∙ is_some_map (node_at ys) (id_at ys (p ++ n ∷ [])));
  }
    where
      by_id : (o : Option ℕ) → id_at xs p ≡ o → option_map (node_at xs) o ≡ option_map (node_at ys) o
      by_id None k = refl
      by_id (Some id) k = ap (λ i. Some (unwrap_or (option_map node_of i) blank)) (same_inode p id h k)

  pub same_outcome : outcome_on xs e ≡ outcome_on ys e
  same_outcome = outcome_local e.entry (tree_of xs) (tree_of ys) (tree_is_laid xs) (tree_is_laid ys) alike

  known_same : (ps : List Path) → ((p : Path) → Among p ps → id_at xs p ≡ id_at ys p) → known xs ps ≡ known ys ps
  known_same [] same = refl
  known_same (p ∷ ps) same = ap (λ o. with_id p o ++ known xs ps) (same p (inl refl)) ∙ ap (λ rest. with_id p (id_at ys p) ++ rest) (known_same ps (λ q h. same q (inr h)))

  in_read : (p : Path) (ps qs : List Path) → Among p ps → Among p (ps ++ qs)
  in_read p [] qs h = absurd h
  in_read p (a ∷ ps) qs (inl h) = inl h
  in_read p (a ∷ ps) qs (inr h) = inr (in_read p ps qs h)

  in_written : (p : Path) (ps qs : List Path) → Among p qs → Among p (ps ++ qs)
  in_written p [] qs h = h
  in_written p (a ∷ ps) qs h = inr (in_written p ps qs h)

  known_read : known xs (outcome_on xs e).read ≡ known ys (outcome_on ys e).read
  known_read = known_same (outcome_on xs e).read (λ p h. same_id p (in_read p (outcome_on xs e).read (outcome_on xs e).written h)) ∙ ap (λ (o : Outcome). known ys o.read) same_outcome

  known_written : known xs (outcome_on xs e).written ≡ known ys (outcome_on ys e).written
  known_written = known_same (outcome_on xs e).written (λ p h. same_id p (in_written p (outcome_on xs e).read (outcome_on xs e).written h)) ∙ ap (λ (o : Outcome). known ys o.written) same_outcome

  same_reads : (s : ℕ) → reads xs e s ≡ reads ys e s
  same_reads s = ap (λ ids. lies_in s (map (λ (x : Path × ℕ). x.1) ids)) known_read

  same_writes : (s : ℕ) → writes xs e s ≡ writes ys e s
  same_writes s = ap (λ ids. lies_in s (map (λ (x : Path × ℕ). x.1) ids ++ drawn_ids e)) known_written

  same_turns : turns_on xs e ≡ turns_on ys e
  same_turns =
      ap (λ o. turns_by o (known xs (outcome_on xs e).written) (drawn_ids e)) same_outcome
      ∙ ap (λ ids. turns_by (outcome_on ys e) ids (drawn_ids e)) known_written

  same_after : (s number : ℕ) → writes xs e s ≡ true → slice_get (after xs e number) s ≡ slice_get (after ys e number) s
  same_after s number h =
      at-after number (turns_on xs e) xs s
      ∙ ap (λ ts. option_map (part_after s number ts) (slice_get xs s)) same_turns
      ∙ ap (option_map (part_after s number (turns_on ys e))) (agree.written s h)
      ∙ sym (at-after number (turns_on ys e) ys s)

  agree_back : AgreeOnFootprint ys xs e
  agree_back = record { read = λ s h. sym (agree.read s (same_reads s ∙ h)); written = λ s h. sym (agree.written s (same_writes s ∙ h)) }

  fits_too : (pass : ℕ) (mine : List Placed) → Fits pass mine xs e → Fits pass mine ys e
  fits_too pass mine f = record {
    sound = f.sound;
    moment = f.moment;
    by = f.by;
    below = f.below;
    as_many = f.as_many ∙ ap (λ (o : Outcome). length o.fresh) same_outcome;
    next = f.next;
  }

  does_too : (work : List Change) → Does work xs e → Does work ys e
  does_too work f s number part h at =
      let here = same_writes s ∙ h in
      sym (same_after s number here) ∙ f s number part here (agree.written s here ∙ at)

pub framed : IsFramed
framed xs ys e agree = record {
  outcome = same_outcome xs ys e agree;
  read = same_reads xs ys e agree;
  written = same_writes xs ys e agree;
  after = same_after xs ys e agree;
  fits = λ pass mine. (fits_too xs ys e agree pass mine, fits_too ys xs e (agree_back xs ys e agree) pass mine);
  does = λ work. (does_too xs ys e agree work, does_too ys xs e (agree_back xs ys e agree) work);
}

-- ---- parts that are not written

not_here : (a b : Bool) → (a || b) ≡ false → (a ≡ false) × (b ≡ false)
not_here false b e = (refl, e)
not_here true b e = absurd (false≢true (sym e))

part_stays : (s number : ℕ) (ts : List Turn) (part : Part) → list_any (λ t. id_of t % 64 == s) ts ≡ false → part_after s number ts part ≡ part
part_stays s number [] part e = refl
part_stays s number (t ∷ ts) part e =
    let tests = not_here (id_of t % 64 == s) (list_any (λ t. id_of t % 64 == s) ts) e in
    ap (λ b. part_after s number ts (cond b (turned_in number part t) part)) tests.0 ∙ part_stays s number ts part tests.1

any_in_two : (s : ℕ) (ts us : List Turn) → list_any (λ t. id_of t % 64 == s) ts ≡ false → list_any (λ t. id_of t % 64 == s) us ≡ false
    → list_any (λ t. id_of t % 64 == s) (ts ++ us) ≡ false
any_in_two s [] us e f = f
any_in_two s (t ∷ ts) us e f =
    let tests = not_here (id_of t % 64 == s) (list_any (λ t. id_of t % 64 == s) ts) e in
    ap (λ b. b || list_any (λ t. id_of t % 64 == s) (ts ++ us)) tests.0 ∙ any_in_two s ts us tests.1 f

lies_in_two : (s : ℕ) (is js : List ℕ) → lies_in s (is ++ js) ≡ false → (lies_in s is ≡ false) × (lies_in s js ≡ false)
lies_in_two s [] js e = (refl, e)
lies_in_two s (i ∷ is) js e =
    let tests = not_here (i % 64 == s) (lies_in s (is ++ js)) e in
    let rest = lies_in_two s is js tests.1 in
    (ap (λ b. b || lies_in s is) tests.0 ∙ rest.0, rest.1)

pub id_of_turn : (e : Effect) (ls : List Relink) (x : Path × ℕ) → id_of (turn_of e ls x) ≡ x.1
id_of_turn e ls x = by_test (list_any (eq_by_cmp path_cmp x.0) e.taken)
  where
    by_test : (b : Bool) → id_of (cond b (gone x.1) (stays_at x.1 x.0 (find path_cmp x.0 e.puts) ls)) ≡ x.1
    by_test true = refl
    by_test false = refl

no_known : (s : ℕ) (e : Effect) (ls : List Relink) (xs : List (Path × ℕ)) → lies_in s (map (λ (x : Path × ℕ). x.1) xs) ≡ false
    → list_any (λ t. id_of t % 64 == s) (map (turn_of e ls) xs) ≡ false
no_known s e ls [] h = refl
no_known s e ls (x ∷ xs) h =
    let tests = not_here (x.1 % 64 == s) (lies_in s (map (λ (x : Path × ℕ). x.1) xs)) h in
    ap (λ id. (id % 64 == s) || list_any (λ t. id_of t % 64 == s) (map (turn_of e ls) xs)) (id_of_turn e ls x)
    ∙ ap (λ b. b || list_any (λ t. id_of t % 64 == s) (map (turn_of e ls) xs)) tests.0 ∙ no_known s e ls xs tests.1

no_drawn : (s : ℕ) (e : Effect) (ls : List Relink) (ps : List Path) (ids : List ℕ) → lies_in s ids ≡ false
    → list_any (λ t. id_of t % 64 == s) (flat_map (making_of e ls) (zip ps ids)) ≡ false
no_drawn s e ls [] ids h = refl
no_drawn s e ls (p ∷ ps) [] h = refl
no_drawn s e ls (p ∷ ps) (id ∷ ids) h =
    let tests = not_here (id % 64 == s) (lies_in s ids) h in
    any_in_two s (making_of e ls (p, id)) (flat_map (making_of e ls) (zip ps ids)) (one (find path_cmp p e.puts) tests.0) (no_drawn s e ls ps ids tests.1)
  where
    one : (put : Option Put) → (id % 64 == s) ≡ false → list_any (λ t. id_of t % 64 == s) (making (p, id) ls put) ≡ false
    one None k = refl
    one (Some put) k = ap (λ b. b || false) k

pub others_stay : LeavesOthers
others_stay parts e s number h =
    at-after number (turns_on parts e) parts s ∙ by_part (slice_get parts s)
  where
    no_turns : (b : Bool) → list_any (λ t. id_of t % 64 == s) (cond b [] (turns (outcome_on parts e).effect (relinks (outcome_on parts e).effect (known parts (outcome_on parts e).written) (zip (outcome_on parts e).fresh (drawn_ids e))) (known parts (outcome_on parts e).written) (zip (outcome_on parts e).fresh (drawn_ids e)))) ≡ false
    no_turns true = refl
    no_turns false =
        let tests = lies_in_two s (ids_of parts (outcome_on parts e).written) (drawn_ids e) h in
        any_in_two s _ _
        (no_known s (outcome_on parts e).effect (relinks (outcome_on parts e).effect (known parts (outcome_on parts e).written) (zip (outcome_on parts e).fresh (drawn_ids e))) (known parts (outcome_on parts e).written) tests.0)
        (no_drawn s (outcome_on parts e).effect (relinks (outcome_on parts e).effect (known parts (outcome_on parts e).written) (zip (outcome_on parts e).fresh (drawn_ids e))) (outcome_on parts e).fresh (drawn_ids e) tests.1)

    by_part : (x : Option Part) → option_map (part_after s number (turns_on parts e)) x ≡ x
    by_part None = refl
    by_part (Some part) = ap Some (part_stays s number (turns_on parts e) part (no_turns (nat_lt (length (drawn_ids e)) (length (outcome_on parts e).fresh))))
