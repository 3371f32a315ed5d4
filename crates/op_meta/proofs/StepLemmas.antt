-- The step of a call on what is kept of a node is to find the node of its path, and then what comes of it. Each such call has a
-- caller, and names a path below the account.
use Rattle.std.proofs.Common.{◌≡◌, ◌≢◌, ℕ, ◌≤◌, [], length, None, refl, ap, sym, subst, ◌∙◌, arith}
use Rattle.namespace_model.specs.declared.op.Op.{Op}
use Rattle.namespace_model.specs.declared.op.Op.TheVariants as op
use Rattle.namespace_model.specs.declared.request.Entry.{Entry}
use Rattle.namespace_model.specs.declared.request.Request.{Request}
use Rattle.namespace_model.specs.CheckAccess.{check_access}
use Rattle.namespace_model.specs.GetAccess.{get_access}
use Rattle.namespace_model.specs.GetProperties.{get_properties}
use Rattle.namespace_model.specs.LeaseNode.{act_on_lease}
use Rattle.namespace_model.specs.Looks as looks
use Rattle.namespace_model.specs.SetAccess.{set_access}
use Rattle.namespace_model.specs.SetProperties.{set_properties}
use Rattle.namespace_model.specs.Sound.{HasCaller, IsOperation}
use Rattle.namespace_model.specs.Step.{acts}
use Rattle.namespace_model.specs.Trees.{Path, Tree}
use Rattle.inode_tree.specs.Inodes.{BareInode, node_of}
use Rattle.path_walk.specs.declared.call.Call.{Call}
use Rattle.path_walk.specs.declared.edits.Verdict.{Verdict}
use Rattle.path_walk.specs.Calls.{IsCall, path_of, entry_of}
use Rattle.path_walk.specs.Edits.{IsVerdict}
use Rattle.path_walk.specs.Settles.{LooksAs, IsVerdictOf}
use Rattle.op_meta.specs.Metas.{IsOfMeta, comes_of, IsVerdictOfNode}

-- ---- the step

step_is : (t : Tree) (e : Entry) (o : Op) → IsOfMeta o → acts t e o ≡ looks.found t e (path_of o) (comes_of e (path_of o) o)
unfolding get_properties get_access check_access set_properties set_access act_on_lease
step_is t e (op.GetProperties path status) of = refl
step_is t e (op.GetAccess path) of = refl
step_is t e (op.CheckAccess path want) of = refl
step_is t e (op.SetProperties path props) of = refl
step_is t e (op.SetAccess path owner group permissions acl) of = refl
step_is t e (op.Lease path action) of = refl
step_is t e other of = absurd of

pub looks_as : (call : Call) → IsCall call → IsOfMeta call.request.now.op → LooksAs call (λ e. comes_of e call.path.now call.request.now.op)
looks_as call is of t e asks =
    ap (λ (r : Request). acts t e r.op) asks ∙ step_is t e call.request.now.op of
    ∙ ap (λ (p : Path). looks.found t e p (comes_of e p call.request.now.op)) is.named

-- ---- any entry of a call

abbrev entry_with : Request → ℕ → Entry
entry_with request moment = record { conn = 0; index = 0; moment = moment; request = request }

-- on which connection an entry came doesn't matter
apart_from_conn : (e : Entry) (p : Path) (o : Op) (x : BareInode) → comes_of e p o (node_of x) ≡ comes_of (entry_with e.request e.moment) p o (node_of x)
apart_from_conn e p (op.GetProperties path status) x = refl
apart_from_conn e p (op.GetAccess path) x = refl
apart_from_conn e p (op.CheckAccess path want) x = refl
apart_from_conn e p (op.SetProperties path props) x = refl
apart_from_conn e p (op.SetAccess path owner group permissions acl) x = refl
apart_from_conn e p (op.Lease path action) x = refl
apart_from_conn e p other x = refl

same_outcome : (call : Call) (o : Op) (x : BareInode) (e : Entry) → e.request ≡ call.request.now → e.moment ≡ call.moment
    → comes_of e call.path.now o (node_of x) ≡ comes_of (entry_of call) call.path.now o (node_of x)
same_outcome call o x e asks at =
    apart_from_conn e call.path.now o x
    ∙ ap (λ (r : Request). comes_of (entry_with r e.moment) call.path.now o (node_of x)) asks
    ∙ ap (λ (m : ℕ). comes_of (entry_with call.request.now m) call.path.now o (node_of x)) at

pub verdict_for_all : (call : Call) (x : BareInode) (v : Verdict) → IsVerdictOfNode call x v → IsVerdictOf call (λ e. comes_of e call.path.now call.request.now.op) x v
verdict_for_all call x v is e asks at = subst (λ o. IsVerdict o call.path.now x v) (sym (same_outcome call call.request.now.op x e asks at)) is

-- ---- its caller, and its path

pub some_caller : (o : Op) → IsOfMeta o → HasCaller o None → ⊥
some_caller (op.GetProperties path status) of has = has
some_caller (op.GetAccess path) of has = has
some_caller (op.CheckAccess path want) of has = has
some_caller (op.SetProperties path props) of has = has
some_caller (op.SetAccess path owner group permissions acl) of has = has
some_caller (op.Lease path action) of has = has
some_caller other of has = absurd of

some_names : (o : Op) (body : ℕ) → IsOfMeta o → IsOperation o body → 1 ≤ length (path_of o)
some_names (op.GetProperties path status) body of is = is.parts
some_names (op.GetAccess path) body of is = is.parts
some_names (op.CheckAccess path want) body of is = is.parts
some_names (op.SetProperties path props) body of is = is.parts
some_names (op.SetAccess path owner group permissions acl) body of is = is.0.parts
some_names (op.Lease path action) body of is = let l : 2 ≤ length path = is.0.parts in omega arith
some_names other body of is = absurd of

pub some_path : (call : Call) → IsCall call → IsOfMeta call.request.now.op → call.path.now ≢ []
some_path call is of e = absurd (
    let l : 1 ≤ length (path_of call.request.now.op) = some_names call.request.now.op (length call.request.now.body) of is.sound.operation in
    let k : length (path_of call.request.now.op) ≡ 0 = ap (λ (p : Path). length p) (is.named ∙ e) in omega arith)
