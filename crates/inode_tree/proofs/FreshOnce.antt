-- No step makes two nodes at one path: a create makes nodes ever deeper, a filesystem is one node, and every other step makes none.
use Rattle.std.proofs.Common.{◌≡◌, ℕ, suc, ◌+◌, List, [], ◌∷◌, ◌++◌, length, drop, refl, ap, sym, subst, ◌∙◌, arith}
use Rattle.namespace_model.specs.declared.request.Entry.{Entry}
use Rattle.namespace_model.specs.Nodes.{Node}
use Rattle.namespace_model.specs.Trees.{Path, Tree, IsTree}
use Rattle.namespace_model.specs.Outcomes.{Outcome}
use Rattle.namespace_model.specs.Create.{Making, new_nodes, new_directory}
use Rattle.namespace_model.specs.Step.{acts, outcome}
use Rattle.namespace_model.proofs.Prefixes.{length_append}
use Rattle.namespace_model.proofs.ShapedMaking.{paths_of, new_inside}
use Rattle.namespace_model.proofs.StepComes.{Comes, is_refused, succeeds, acts_come}
use Rattle.namespace_model.proofs.Successes.{IsSuccess, a_filesystem_is_made, a_filesystem_is_shown, a_filesystem_is_set, a_filesystem_goes, filesystems_are_listed, paths_are_listed, nodes_are_made, a_node_moves, a_file_is_read, a_part_is_read, properties_are_shown, access_is_shown, a_right_is_there, a_file_is_appended_to, a_file_is_flushed, properties_are_set, access_is_set, a_batch_is_done, a_lease_is_acted_on, nodes_go}
use Rattle.inode_tree.proofs.PairLemmas.{IsOnce}

-- a new node is deeper than those above it
pub new_nodes_once : (e : Entry) (m : Making) (above : Node) (done names : Path) → IsOnce (paths_of (new_nodes e m above done names))
new_nodes_once e m above done [] = tt
new_nodes_once e m above done (n ∷ []) = (λ h. h, tt)
new_nodes_once e m above done (n ∷ o ∷ names) = (
  λ h.
      let place = new_inside e m (new_directory e m above) (done ++ n ∷ []) (o ∷ names) (done ++ n ∷ []) h in
      let long : length (done ++ n ∷ []) ≡ length (done ++ n ∷ []) + length (place.0 ∷ place.1) =
      ap (λ (p : Path). length p) place.4 ∙ length_append (done ++ n ∷ []) (place.0 ∷ place.1) in
      let some : length (place.0 ∷ place.1) ≡ suc (length place.1) = refl in
      absurd (omega arith),
  new_nodes_once e m (new_directory e m above) (done ++ n ∷ []) (o ∷ names),
)

once_as : (o s : Outcome) → o ≡ s → IsOnce s.fresh → IsOnce o.fresh
once_as o s same h = subst (λ (x : Outcome). IsOnce x.fresh) (sym same) h

module _ (t : Tree) (e : Entry) where
  success_once : (o : Outcome) → IsSuccess t e o → IsOnce o.fresh
  success_once o (a_filesystem_is_made path props is same) = once_as o _ same (λ h. h, tt)
  success_once o (a_filesystem_is_shown path x is there same) = once_as o _ same tt
  success_once o (a_filesystem_is_set path props x is there same) = once_as o _ same tt
  success_once o (a_filesystem_goes path x is same) = once_as o _ same tt
  success_once o (filesystems_are_listed prefix token max next body ps is same) = once_as o _ same tt
  success_once o (paths_are_listed dir recursive token max fs next body is same) = once_as o _ same tt
  success_once o (nodes_are_made path kind permissions umask props base x replaced is base_is same) =
      once_as o _ same (new_nodes_once e (record { path = path; kind = kind; permissions = permissions; umask = umask; props = props }) x base (drop (length base) path))
  success_once o (a_node_moves path source props x replaced is same) = once_as o _ same tt
  success_once o (a_file_is_read path range x bytes is there same) = once_as o _ same tt
  success_once o (a_part_is_read path range x bytes from to is there same) = once_as o _ same tt
  success_once o (properties_are_shown path status x is there same) = once_as o _ same tt
  success_once o (access_is_shown path x is there same) = once_as o _ same tt
  success_once o (a_right_is_there path want is same) = once_as o _ same tt
  success_once o (a_file_is_appended_to path position flush retain act x after is there same) = once_as o _ same tt
  success_once o (a_file_is_flushed path position retain x is there same) = once_as o _ same tt
  success_once o (properties_are_set path props x is there same) = once_as o _ same tt
  success_once o (access_is_set path owner group permissions acl x pair is there same) = once_as o _ same tt
  success_once o (a_batch_is_done path change token max force is same) = once_as o _ same tt
  success_once o (a_lease_is_acted_on path act x after is there same) = once_as o _ same tt
  success_once o (nodes_go path recursive is same) = once_as o _ same tt

  comes_once : (o : Outcome) → Comes t e o → IsOnce o.fresh
  comes_once o (is_refused stop) = subst IsOnce (sym stop.none_new) tt
  comes_once o (succeeds s success same) = once_as o (record s { read = o.read }) same (success_once s success)

-- the paths of the nodes that a step makes stand once each
pub fresh_once : (t : Tree) → IsTree t → (e : Entry) → IsOnce (outcome t e).fresh
unfolding outcome
fresh_once t is e = comes_once t e (acts t e e.request.op) (acts_come t e)
