-- Each sound step lies on the tree as it has to, and leaves a tree.
use Rattle.std.proofs.Common.{ℕ, List, Option, Some, None, IfSome}
use Rattle.namespace_model.specs.declared.op.Op.{Op}
use Rattle.namespace_model.specs.declared.op.Op.TheVariants as op
use Rattle.namespace_model.specs.declared.request.Entry.{Entry}
use Rattle.namespace_model.specs.Trees.{Path, Tree, parent, IsTree}
use Rattle.namespace_model.specs.Effects.{Effect}
use Rattle.namespace_model.specs.Outcomes.{once}
use Rattle.namespace_model.specs.Shapes.{HasShape, IsShaped, WritesMove}
use Rattle.namespace_model.specs.Sound.{IsSound, IsOperation}
use Rattle.namespace_model.specs.Step.{acts, outcome, step}
use Rattle.namespace_model.proofs.StepLocality.{among_once}
use Rattle.namespace_model.proofs.TreeKept.{effected_is_tree}
use Rattle.namespace_model.proofs.ShapedEdits.{still_shape}
use Rattle.namespace_model.proofs.ShapedSteps.{create_filesystem_shaped, get_filesystem_shaped, set_filesystem_shaped, delete_filesystem_shaped, list_filesystems_shaped, list_paths_shaped, create_shaped, delete_shaped, rename_shaped, read_file_shaped, get_properties_shaped, get_access_shaped, check_access_shaped, append_shaped, flush_shaped, set_properties_shaped, set_access_shaped, set_access_recursive_shaped, act_on_lease_shaped}

acts_shaped : (t : Tree) → IsTree t → (e : Entry) (asked : Op) (body : ℕ) → IsOperation asked body → IsShaped t (acts t e asked)
acts_shaped t is e (op.ListFilesystems prefix token max) body sound = list_filesystems_shaped t is e prefix token max
acts_shaped t is e (op.CreateFilesystem path props) body sound = create_filesystem_shaped t is e path props sound
acts_shaped t is e (op.GetFilesystem path) body sound = get_filesystem_shaped t is e _
acts_shaped t is e (op.SetFilesystem path props) body sound = set_filesystem_shaped t is e _ props
acts_shaped t is e (op.DeleteFilesystem path) body sound = delete_filesystem_shaped t is e path sound
acts_shaped t is e (op.List dir recursive token max) body sound = list_paths_shaped t is e dir recursive token max
acts_shaped t is e (op.Create path kind permissions umask props) body sound = create_shaped t is e (record { path = path; kind = kind; permissions = permissions; umask = umask; props = props }) sound.0
acts_shaped t is e (op.Rename path source props) body sound = rename_shaped t is e (record { source = source; path = path; props = props }) sound.0 sound.1 sound.2
acts_shaped t is e (op.Read path range) body sound = read_file_shaped t is e path range
acts_shaped t is e (op.GetProperties path status) body sound = get_properties_shaped t is e path status
acts_shaped t is e (op.GetAccess path) body sound = get_access_shaped t is e path
acts_shaped t is e (op.CheckAccess path want) body sound = check_access_shaped t is e path want
acts_shaped t is e (op.Append path position flush retain action) body sound = append_shaped t is e path (record { position = position; flush = flush; retain = retain; action = action })
acts_shaped t is e (op.Flush path position retain) body sound = flush_shaped t is e path position retain
acts_shaped t is e (op.SetProperties path props) body sound = set_properties_shaped t is e path props
acts_shaped t is e (op.SetAccess path owner group permissions acl) body sound = set_access_shaped t is e path (record { owner = owner; group = group; permissions = permissions; acl = acl })
acts_shaped t is e (op.SetAccessRecursive path change token max force) body sound = set_access_recursive_shaped t is e path change token max force
acts_shaped t is e (op.Lease path action) body sound = act_on_lease_shaped t is e path action
acts_shaped t is e (op.Delete path recursive) body sound = delete_shaped t is e path recursive sound
acts_shaped t is e (op.Refused code) body sound = still_shape t

move_once : (written : List Path) (move : Option (Path × Path)) → IfSome move (WritesMove written) → IfSome move (WritesMove (once written))
move_once written None h = tt
move_once written (Some m) h = record { source = among_once m.0 written h.source; out_of = among_once (parent m.0) written h.out_of; into = among_once (parent m.1) written h.into }

-- a shape doesn't lie in repeats
shaped_once : (t : Tree) (written fresh : List Path) (e : Effect) → HasShape t written fresh e → HasShape t (once written) fresh e
shaped_once t written fresh e h = record {
  writes = record {
    taken_too = λ p k. among_once p written (h.writes.taken_too p k);
    put_too = λ p k. among_once p written (h.writes.put_too p k);
    fresh_too = λ p k. among_once p written (h.writes.fresh_too p k);
    above_taken = λ p k. among_once (parent p) written (h.writes.above_taken p k);
    above_fresh = λ p k. among_once (parent p) written (h.writes.above_fresh p k);
    moved = move_once written e.move h.writes.moved;
  };
  placed = h.placed;
  growth = h.growth;
}

pub outcome_shaped : (t : Tree) → IsTree t → (e : Entry) → IsSound e.request → IsShaped t (outcome t e)
unfolding outcome
outcome_shaped t is e sound =
    shaped_once t (acts t e e.request.op).written (acts t e e.request.op).fresh (acts t e e.request.op).effect (acts_shaped t is e e.request.op _ sound.operation)

pub step_is_tree : (t : Tree) → IsTree t → (e : Entry) → IsSound e.request → (number : ℕ) → IsTree (step t e number).tree
step_is_tree t is e sound number = effected_is_tree t is number (outcome t e) (outcome_shaped t is e sound)
