-- The step of a delete, by the ways that it can go.
use Rattle.std.proofs.Common.{◌≡◌, ℕ, ◌≤◌, ◌==◌, Bool, false, not, ◌&&◌, cond, [], ◌∷◌, ◌++◌, length, Option, Some, None, unwrap_or, sym, ap, ◌∙◌, append-nil, arith}
use Rattle.std.proofs.lemmas.Bool.Decides.{nat_tests}
use Rattle.namespace_model.specs.declared.caller.Caller.{Caller}
use Rattle.namespace_model.specs.declared.code.Code.TheVariants.{PathNotFound, DirectoryNotEmpty, FilesystemNotFound}
use Rattle.namespace_model.specs.declared.reply.Reply.{Reply}
use Rattle.namespace_model.specs.declared.request.Entry.{Entry}
use Rattle.namespace_model.specs.Delete.{delete, delete_in, delete_node, cleared}
use Rattle.namespace_model.specs.Nodes.{Node, blank, is_directory}
use Rattle.namespace_model.specs.Outcomes.{Outcome, answered, reading, refused, unless, noted}
use Rattle.namespace_model.specs.Refusals.{caller_of, lacks, is_guarded, is_unmet, lease_refuses, refuse_if, or_else}
use Rattle.namespace_model.specs.Trees.{Path, Tree, at, parent, is_bare, subtree}
use Rattle.namespace_model.specs.Walks.{ended, hand_on, missing_below, missing_code}
use Rattle.namespace_model.specs.Ways.{reached, way_of, read_on}
use Rattle.namespace_model.proofs.WayLemmas.{reading_both}
use Rattle.path_walk.specs.Finds.{read_to, last_read}
use Rattle.path_walk.proofs.QuestionLemmas.{unless_both}

module _ (t : Tree) (e : Entry) (p : Path) (recursive : Bool) (caller : Caller) (by : caller_of e ≡ caller) where
  abbrev pub behind_way : Outcome
  behind_way = hand_on t (parent p) (delete_in t e p recursive)

  -- the way is read, and then comes what its end says
  pub way_is : delete t e p recursive ≡ reading (read_on t caller p) (ended (missing_below PathNotFound) PathNotFound behind_way (way_of t caller p))
  unfolding delete
  way_is = ap (λ c. reading (read_on t c p) (ended (missing_below PathNotFound) PathNotFound behind_way (way_of t c p))) by

  -- what is asked of the parent, and then the node is looked at
  abbrev in_parent : Option Reply → Option Node → Node → Outcome
  in_parent r o dir = unless r (noted o p (refused (missing_code p PathNotFound)) (delete_node t e p recursive dir))

  reached_is : (dir : Node) → way_of t caller p ≡ reached → at t (parent p) ≡ Some dir → delete t e p recursive ≡ reading (read_on t caller p) (in_parent (lacks caller 3 (parent p) dir) (at t p) dir)
  reached_is dir same there =
      way_is ∙ ap (λ w. reading (read_on t caller p) (ended (missing_below PathNotFound) PathNotFound behind_way w)) same
      ∙ ap (λ o. reading (read_on t caller p) (delete_in t e p recursive (unwrap_or o blank))) there
      ∙ ap (λ c. reading (read_on t caller p) (in_parent (lacks c 3 (parent p) dir) (at t p) dir)) by

  -- the caller lacks rights on the parent
  pub denied_is : (dir : Node) (reply : Reply) → way_of t caller p ≡ reached → at t (parent p) ≡ Some dir → lacks caller 3 (parent p) dir ≡ Some reply
      → delete t e p recursive ≡ reading (read_on t caller p) (answered reply)
  denied_is dir reply same there denies = reached_is dir same there ∙ ap (λ r. reading (read_on t caller p) (in_parent r (at t p) dir)) denies

  let_in : (dir : Node) (o : Option Node) → way_of t caller p ≡ reached → at t (parent p) ≡ Some dir → lacks caller 3 (parent p) dir ≡ None → at t p ≡ o
      → delete t e p recursive ≡ reading (read_on t caller p) (in_parent None o dir)
  let_in dir o same there lets is =
      reached_is dir same there ∙ ap (λ r. reading (read_on t caller p) (in_parent r (at t p) dir)) lets ∙ ap (λ x. reading (read_on t caller p) (in_parent None x dir)) is

  read_is : (o : Option Node) → way_of t caller p ≡ reached → at t p ≡ o → read_to t caller p ≡ read_on t caller p ++ last_read reached p o
  read_is o same is = ap (λ w. read_on t caller p ++ last_read w p (at t p)) same ∙ ap (λ x. read_on t caller p ++ last_read reached p x) is

  -- nothing stands at the path
  pub missing_is : (dir : Node) → way_of t caller p ≡ reached → at t (parent p) ≡ Some dir → lacks caller 3 (parent p) dir ≡ None → at t p ≡ None → 2 ≤ length p
      → delete t e p recursive ≡ reading (read_to t caller p) (refused PathNotFound)
  missing_is dir same there lets none long =
      let_in dir None same there lets none
      ∙ ap (λ b. reading (read_on t caller p) (refused (cond b FilesystemNotFound PathNotFound))) (not_one (length p) long)
      ∙ sym (ap (λ l. reading l (refused PathNotFound)) (read_is None same none ∙ append-nil (read_on t caller p)))
    where
      not_one : (m : ℕ) → 2 ≤ m → (m == 1) ≡ false
      not_one m h = grind (arith, nat_tests)

  -- this node stands there
  pub found_is : (dir x : Node) → way_of t caller p ≡ reached → at t (parent p) ≡ Some dir → lacks caller 3 (parent p) dir ≡ None → at t p ≡ Some x
      → delete t e p recursive ≡ reading (read_to t caller p) (delete_node t e p recursive dir x)
  found_is dir x same there lets here =
      let_in dir (Some x) same there lets here
      ∙ reading_both (read_on t caller p) (p ∷ []) (delete_node t e p recursive dir x)
      ∙ sym (ap (λ l. reading l (delete_node t e p recursive dir x)) (read_is (Some x) same here))

  -- the questions of the node are one
  module _ (dir x : Node) where
    abbrev sticky : Option Reply
    sticky = is_guarded caller dir p x

    abbrev leased : Option Reply
    leased = lease_refuses e e.request.lease x

    abbrev filled : Option Reply
    filled = refuse_if (not recursive && (is_directory x && not (is_bare t p))) DirectoryNotEmpty

    abbrev rest : Outcome
    rest = cleared t e p recursive (subtree t p)

    pub node_is : delete_node t e p recursive dir x ≡ unless (or_else sticky (or_else (is_unmet e x) (or_else leased filled))) rest
    node_is =
        ap (λ c. unless (is_guarded c dir p x) (unless (is_unmet e x) (unless leased (unless filled rest)))) by
        ∙ ap (λ o. unless sticky (unless (is_unmet e x) o)) (unless_both leased filled rest)
        ∙ ap (λ o. unless sticky o) (unless_both (is_unmet e x) (or_else leased filled) rest)
        ∙ unless_both sticky (or_else (is_unmet e x) (or_else leased filled)) rest
