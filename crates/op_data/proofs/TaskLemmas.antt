-- The step of a call on a file is to find the node of its path, and then what comes of the task.
use Rattle.std.proofs.Common.{◌≡◌, ℕ, refl, ap, sym, subst, ◌∙◌}
use Rattle.namespace_model.specs.declared.request.Entry.{Entry}
use Rattle.namespace_model.specs.declared.request.Request.{Request}
use Rattle.namespace_model.specs.Append.{append}
use Rattle.namespace_model.specs.Flush.{flush}
use Rattle.namespace_model.specs.Looks as looks
use Rattle.namespace_model.specs.ReadFile.{read_file}
use Rattle.namespace_model.specs.Step.{acts}
use Rattle.namespace_model.specs.Trees.{Path, Tree}
use Rattle.inode_tree.specs.Inodes.{BareInode, node_of}
use Rattle.path_walk.specs.declared.call.Call.{Call}
use Rattle.path_walk.specs.declared.edits.Verdict.{Verdict}
use Rattle.path_walk.specs.Edits.{IsVerdict}
use Rattle.path_walk.specs.Settles.{LooksAs, IsVerdictOf}
use Rattle.path_walk.specs.Calls.{entry_of}
use Rattle.op_data.specs.declared.task.Task.{Task}
use Rattle.op_data.specs.declared.task.Task.TheVariants as task
use Rattle.op_data.specs.Tasks.{op_of, of_node, Asks, IsVerdictOfNode}

-- ---- the step

step_is : (t : Tree) (e : Entry) (path : Path) (k : Task) → acts t e (op_of path k) ≡ looks.found t e path (of_node e path k)
unfolding read_file append flush
step_is t e path (task.Read range) = refl
step_is t e path (task.Append a) = refl
step_is t e path (task.Flush position retain) = refl

pub looks_as : (call : Call) (k : Task) → Asks call k → LooksAs call (λ e. of_node e call.path.now k)
looks_as call k asked t e asks = ap (λ (r : Request). acts t e r.op) asks ∙ ap (acts t e) asked ∙ step_is t e call.path.now k

-- ---- any entry of a call

abbrev entry_with : Request → ℕ → Entry
entry_with request moment = record { conn = 0; index = 0; moment = moment; request = request }

-- on which connection an entry came doesn't matter
apart_from_conn : (e : Entry) (p : Path) (k : Task) (x : BareInode) → of_node e p k (node_of x) ≡ of_node (entry_with e.request e.moment) p k (node_of x)
apart_from_conn e p (task.Read range) x = refl
apart_from_conn e p (task.Append a) x = refl
apart_from_conn e p (task.Flush position retain) x = refl

same_outcome : (call : Call) (k : Task) (x : BareInode) (e : Entry) → e.request ≡ call.request.now → e.moment ≡ call.moment
    → of_node e call.path.now k (node_of x) ≡ of_node (entry_of call) call.path.now k (node_of x)
same_outcome call k x e asks at =
    apart_from_conn e call.path.now k x
    ∙ ap (λ (r : Request). of_node (entry_with r e.moment) call.path.now k (node_of x)) asks
    ∙ ap (λ (m : ℕ). of_node (entry_with call.request.now m) call.path.now k (node_of x)) at

pub verdict_for_all : (call : Call) (k : Task) (x : BareInode) (v : Verdict) → IsVerdictOfNode call k x v → IsVerdictOf call (λ e. of_node e call.path.now k) x v
verdict_for_all call k x v is e asks at = subst (λ o. IsVerdict o call.path.now x v) (sym (same_outcome call k x e asks at)) is
