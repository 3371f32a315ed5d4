-- What came of the nodes so far, with one node more.
use Rattle.std.proofs.Common.{◌≡◌, ℕ, suc, ◌+◌, ◌≤◌, ◌<◌, Bool, true, false, not, cond, List, [], ◌∷◌, ◌++◌, length, map, Result, Ok, Err, refl, sym, ap, ◌∙◌, append_assoc, append-nil, arith}
use Rattle.std.proofs.lemmas.List.Sums.{sum_by-append}
use Rattle.std.specs.Prelude.{count_by}
use Rattle.serde_json.specs.View.{items_view}
use Rattle.serde_json.specs.declared.value.Value.{Value}
use Rattle.acl_text.specs.declared.acl.AclPair.{AclPair}
use Rattle.body_text.specs.declared.batches.Changed.{Changed}
use Rattle.namespace_model.specs.declared.code.Code.{Code}
use Rattle.namespace_model.specs.Effects.{Put}
use Rattle.namespace_model.specs.Nodes.{is_directory}
use Rattle.namespace_model.specs.SetAccessRecursive.{failure_items, is_changed_directory, is_changed_file}
use Rattle.namespace_model.specs.Trees.{Path}
use Rattle.inode_tree.specs.Inodes.{node_of}
use Rattle.inode_tree.specs.Promises.{numbers_of}
use Rattle.path_walk.specs.Batches.{NodeEdit, puts_by, edits_by}
use Rattle.path_walk.proofs.TrailLemmas.{numbers-append}
use Rattle.path_order.specs.PagesBelow.{ids_in}
use Rattle.path_order.proofs.IdLemmas.{ids_more}
use Rattle.acl_recursive.specs.declared.tally.Tally.{Tally}
use Rattle.acl_recursive.specs.declared.walk.Step.{Step}
use Rattle.acl_recursive.specs.Batched.{Turns, path_in, edit_to, edit_of, edits_of, failure_of, failures_of, failed_node, failed_nodes, IsTally, IsWithEdit, IsWithFailure}

-- ---- one more

module _ (turns : Turns) (moment : ℕ) (dir : Path) where
  pub edits_more : (rows : List Step) (r : Step) → edits_of turns moment dir (rows ++ r ∷ []) ≡ edits_of turns moment dir rows ++ edit_of (turns (node_of r.seen.node)) moment (path_in dir r) r.seen
  edits_more [] r = append-nil (edit_of (turns (node_of r.seen.node)) moment (path_in dir r) r.seen)
  edits_more (x ∷ rows) r =
      ap (λ l. edit_of (turns (node_of x.seen.node)) moment (path_in dir x) x.seen ++ l) (edits_more rows r)
      ∙ sym (append_assoc (edit_of (turns (node_of x.seen.node)) moment (path_in dir x) x.seen) (edits_of turns moment dir rows) (edit_of (turns (node_of r.seen.node)) moment (path_in dir r) r.seen))

  pub failures_more : (rows : List Step) (r : Step) → failures_of turns dir (rows ++ r ∷ []) ≡ failures_of turns dir rows ++ failure_of (turns (node_of r.seen.node)) (path_in dir r) r.seen
  failures_more [] r = append-nil (failure_of (turns (node_of r.seen.node)) (path_in dir r) r.seen)
  failures_more (x ∷ rows) r =
      ap (λ l. failure_of (turns (node_of x.seen.node)) (path_in dir x) x.seen ++ l) (failures_more rows r)
      ∙ sym (append_assoc (failure_of (turns (node_of x.seen.node)) (path_in dir x) x.seen) (failures_of turns dir rows) (failure_of (turns (node_of r.seen.node)) (path_in dir r) r.seen))

  failed_more : (rows : List Step) (r : Step) → failed_nodes turns (rows ++ r ∷ []) ≡ failed_nodes turns rows ++ failed_node (turns (node_of r.seen.node)) r.seen
  failed_more [] r = append-nil (failed_node (turns (node_of r.seen.node)) r.seen)
  failed_more (x ∷ rows) r =
      ap (λ l. failed_node (turns (node_of x.seen.node)) x.seen ++ l) (failed_more rows r)
      ∙ sym (append_assoc (failed_node (turns (node_of x.seen.node)) x.seen) (failed_nodes turns rows) (failed_node (turns (node_of r.seen.node)) r.seen))

map_more : {A B : Type 0} (f : A → B) (xs : List A) (x : A) → map f (xs ++ x ∷ []) ≡ map f xs ++ f x ∷ []
map_more f [] x = refl
map_more f (y ∷ xs) x = ap (λ l. f y ∷ l) (map_more f xs x)

count_more : {A : Type 0} (p : A → Bool) (xs : List A) (x : A) → count_by p (xs ++ x ∷ []) ≡ cond (p x) (count_by p xs + 1) (count_by p xs)
count_more p xs x = sum_by-append (λ y. cond (p y) 1 0) xs (x ∷ []) ∙ by_test (p x) (count_by p xs)
  where
    by_test : (b : Bool) (n : ℕ) → n + (0 + cond b 1 0) ≡ cond b (n + 1) n
    by_test true n = omega arith
    by_test false n = omega arith

other_way : (b : Bool) (n : ℕ) → cond b n (n + 1) ≡ cond (not b) (n + 1) n
other_way true n = refl
other_way false n = refl

-- each node that is changed is counted once
count_first : (p : Path × Put → Bool) (x : Path × Put) (xs : List (Path × Put)) → count_by p (x ∷ xs) ≡ (0 + cond (p x) 1 0) + count_by p xs
count_first p x xs = sum_by-append (λ y. cond (p y) 1 0) (x ∷ []) xs

one_count : (x : Path × Put) (xs : List (Path × Put)) (b : Bool) → count_by is_changed_directory (x ∷ xs) ≡ (0 + cond b 1 0) + count_by is_changed_directory xs
    → count_by is_changed_file (x ∷ xs) ≡ (0 + cond (not b) 1 0) + count_by is_changed_file xs → count_by is_changed_directory xs + count_by is_changed_file xs ≤ length xs
    → count_by is_changed_directory (x ∷ xs) + count_by is_changed_file (x ∷ xs) ≤ suc (length xs)
one_count x xs true d f k = omega (arith, d, f, k)
one_count x xs false d f k = omega (arith, d, f, k)

counts_within : (xs : List (Path × Put)) → count_by is_changed_directory xs + count_by is_changed_file xs ≤ length xs
counts_within [] = omega arith
counts_within (x ∷ xs) = one_count x xs (is_changed_directory x) (count_first is_changed_directory x xs) (count_first is_changed_file x xs) (counts_within xs)

edits_few : (turns : Turns) (moment : ℕ) (dir : Path) (rows : List Step) → length (puts_by (edits_of turns moment dir rows)) ≤ length rows
edits_few turns moment dir [] = omega arith
edits_few turns moment dir (r ∷ rows) = by_turn (turns (node_of r.seen.node)) (edits_few turns moment dir rows)
  where
    by_turn : (k : Result AclPair Code) → length (puts_by (edits_of turns moment dir rows)) ≤ length rows
        → length (puts_by (edit_of k moment (path_in dir r) r.seen ++ edits_of turns moment dir rows)) ≤ suc (length rows)
    by_turn (Ok pair) few = omega (arith, few)
    by_turn (Err code) few = omega (arith, few)

module _ (turns : Turns) (moment : ℕ) (dir : Path) (rows : List Step) (before after : Tally) (r : Step) (is : IsTally turns moment dir rows before) where
  abbrev edits : List NodeEdit
  edits = edits_of turns moment dir rows

  pub edit_more : (pair : AclPair) → turns (node_of r.seen.node) ≡ Ok pair → IsWithEdit before moment r.seen pair after → IsTally turns moment dir (rows ++ r ∷ []) after
  edit_more pair comes more = record {
    edits = more.edits ∙ ap (λ l. l ++ (y.id, y.edit) ∷ []) is.edits ∙ sym (map_more (λ (z : NodeEdit). (z.id, z.edit)) edits y) ∙ ap edits_by (sym all);
    directories =
        more.directories ∙ ap (λ n. cond (is_directory (node_of r.seen.node)) (n + 1) n) is.directories
        ∙ sym (count_more is_changed_directory (puts_by edits) (y.path, y.put)) ∙ ap (λ l. count_by is_changed_directory l) (sym puts);
    files =
        more.files ∙ ap (λ n. cond (is_directory (node_of r.seen.node)) n (n + 1)) is.files
        ∙ other_way (is_directory (node_of r.seen.node)) (count_by is_changed_file (puts_by edits))
        ∙ sym (count_more is_changed_file (puts_by edits) (y.path, y.put)) ∙ ap (λ l. count_by is_changed_file l) (sym puts);
    failed =
        ap (λ (l : List Value). items_view l) more.failed ∙ is.failed
        ∙ ap failure_items (sym (failures_more turns moment dir rows r ∙ ap (λ k. failures_of turns dir rows ++ failure_of k (path_in dir r) r.seen) comes ∙ append-nil (failures_of turns dir rows)));
    ids =
        ap numbers_of more.ids ∙ is.ids
        ∙ ap ids_in (sym (failed_more turns moment dir rows r ∙ ap (λ k. failed_nodes turns rows ++ failed_node k r.seen) comes ∙ append-nil (failed_nodes turns rows)));
  }
    where
      y : NodeEdit
      y = edit_to pair moment (path_in dir r) r.seen

      all : edits_of turns moment dir (rows ++ r ∷ []) ≡ edits ++ y ∷ []
      all = edits_more turns moment dir rows r ∙ ap (λ k. edits ++ edit_of k moment (path_in dir r) r.seen) comes

      puts : puts_by (edits_of turns moment dir (rows ++ r ∷ [])) ≡ puts_by edits ++ (y.path, y.put) ∷ []
      puts = ap puts_by all ∙ map_more (λ (z : NodeEdit). (z.path, z.put)) edits y

  pub failure_more : (code : Code) → turns (node_of r.seen.node) ≡ Err code → IsWithFailure before dir r code after → IsTally turns moment dir (rows ++ r ∷ []) after
  failure_more code comes more = record {
    edits = more.edits ∙ is.edits ∙ ap edits_by (sym same);
    directories = ap (λ (c : Changed). c.directories) more.changed ∙ is.directories ∙ ap (λ l. count_by is_changed_directory (puts_by l)) (sym same);
    files = ap (λ (c : Changed). c.files) more.changed ∙ is.files ∙ ap (λ l. count_by is_changed_file (puts_by l)) (sym same);
    failed =
        more.failed (failures_of turns dir rows) is.failed
        ∙ ap failure_items (sym (failures_more turns moment dir rows r ∙ ap (λ k. failures_of turns dir rows ++ failure_of k (path_in dir r) r.seen) comes));
    ids =
        ap numbers_of more.ids ∙ numbers-append before.failed_ids.items (r.seen.id ∷ []) ∙ ap (λ l. l ++ r.seen.id.0 ∷ []) is.ids ∙ sym (ids_more (failed_nodes turns rows) r.seen)
        ∙ ap ids_in (sym (failed_more turns moment dir rows r ∙ ap (λ k. failed_nodes turns rows ++ failed_node k r.seen) comes));
  }
    where
      same : edits_of turns moment dir (rows ++ r ∷ []) ≡ edits
      same = edits_more turns moment dir rows r ∙ ap (λ k. edits ++ edit_of k moment (path_in dir r) r.seen) comes ∙ append-nil edits

-- there is room to count one more
pub room_left : (turns : Turns) (moment : ℕ) (dir : Path) (rows : List Step) (tally : Tally) (n : ℕ) → IsTally turns moment dir rows tally → length rows ≤ n → n < 4294967296 → tally.changed.directories + tally.changed.files < 4294967296
room_left turns moment dir rows tally n is long small =
    let a = is.directories in
    let b = is.files in
    let both = counts_within (puts_by (edits_of turns moment dir rows)) in
    let few = edits_few turns moment dir rows in
    omega (arith, a, b, both, few, long, small)
