-- What a delete asks of the node of its path, and what a look through all that stands below it gives.
use Rattle.std.specs.Prelude.{◌≡◌, Bool, not, ◌&&◌, [], ◌∷◌, ◌++◌, Option, Some, None}
use Rattle.head_text.specs.ConditionsOf.{conditions_of}
use Rattle.lease_state.specs.LeaseTable.{lease_may_write}
use Rattle.namespace_model.specs.declared.caller.Caller.{Caller}
use Rattle.namespace_model.specs.declared.code.Code.TheVariants.{DirectoryNotEmpty}
use Rattle.namespace_model.specs.declared.op.Op.{Op}
use Rattle.namespace_model.specs.declared.op.Op.TheVariants as op
use Rattle.namespace_model.specs.declared.reply.Reply.{Reply}
use Rattle.namespace_model.specs.Access.{write_execute}
use Rattle.namespace_model.specs.Delete.{not_clearable}
use Rattle.namespace_model.specs.Refusals.{lacks, is_guarded, unmet_for_change, stamps_of, refused_by_lease, refuse_if, or_else, first_refusal}
use Rattle.namespace_model.specs.Trees.{Path, Tree, parent, children, subtree}
use Rattle.namespace_model.specs.Ways.{reached, way_of}
use Rattle.inode_tree.specs.Footprints.{ids_of}
use Rattle.inode_tree.specs.Inodes.{BareInode, node_of}
use Rattle.inode_tree.specs.Parts.{Parts, inode_at, follow}
use Rattle.inode_tree.specs.Promises.{numbers_of}
use Rattle.inode_tree.specs.Stands.{Stands}
use Rattle.inode_tree.specs.Views.{Held, Shown, Agrees}
use Rattle.path_walk.specs.declared.call.Call.{Call}
use Rattle.path_walk.specs.Children.{has_children}
use Rattle.path_walk.specs.Finds.{read_to}
use Rattle.path_walk.specs.Visits.{AreLookedAt, IsHeldAndShown}
use Rattle.op_delete.specs.declared.clear.Cleared.{Cleared}
use Rattle.op_delete.specs.declared.eval.Target.{Target}

-- the operations of this evaluator
abbrev pub IsOfDelete : Op → Type 0
IsOfDelete (op.Delete path recursive) = Unit {0}
IsOfDelete other = ⊥

-- ---- the node of the path

-- What is asked of the node, by the node of its parent: the sticky bit of the parent, the conditions, the lease, and unless the call is recursive that it is empty.
abbrev pub refusal_of : Call → Bool → BareInode → BareInode → Option Reply
refusal_of call recursive dir x =
    or_else (is_guarded call.caller.now (node_of dir) call.path.now (node_of x))
    (or_else (unmet_for_change (conditions_of call.request.now.cond (Some (stamps_of (node_of x)))))
    (or_else (refused_by_lease (lease_may_write (node_of x).lease call.request.now.lease call.moment))
    (refuse_if (not recursive && has_children x) DirectoryNotEmpty)))

-- the node of the path is this one, in this parent, and these are the ids of what was read to find it
pub record IsTargetIn (parts : Parts) (t : Tree) (caller : Caller) (path : Path) (target : Target) : Type 0 where
  pub passes : way_of t caller path ≡ reached
  pub reads : numbers_of target.reads.items ≡ ids_of parts (read_to t caller path)
  pub stands_in : follow parts 0 (parent path) ≡ Some target.base.id.0
  pub directory : inode_at parts target.base.id.0 ≡ Some target.base.node
  pub leads : follow parts 0 path ≡ Some target.top.id.0
  pub there : inode_at parts target.top.id.0 ≡ Some target.top.node

-- So it is for all parts that stand for a tree and agree with what was shown; what was read was looked at; and the caller has the rights on the parent.
pub record IsTarget (held : Held) (shown : Shown) (call : Call) (target : Target) : Type 0 where
  pub named : call.path.now ≡ parent call.path.now ++ target.name.now ∷ []
  pub is_target : (parts : Parts) (t : Tree) → Stands parts t → Agrees shown parts → IsTargetIn parts t call.caller.now call.path.now target
  pub looked : AreLookedAt held shown target.reads.items
  pub top_looked : IsHeldAndShown held shown target.top.id.0
  pub allowed : lacks call.caller.now write_execute (parent call.path.now) (node_of target.base.node) ≡ None

-- ---- a recursive delete

-- the answer is what is asked of the node at p, for all parts that stand for a tree and agree with what was shown
abbrev pub AsksNode : Shown → Caller → Path → BareInode → Option Reply → Type 0
AsksNode shown caller p x reply = (parts : Parts) (t : Tree) → Stands parts t → Agrees shown parts → reply ≡ not_clearable t caller p (node_of x)

-- so it is of the sticky rule for each child of the directory at p
abbrev pub AsksChildren : Shown → Caller → Path → BareInode → Option Reply → Type 0
AsksChildren shown caller p x reply =
    (parts : Parts) (t : Tree) → Stands parts t → Agrees shown parts → reply ≡ first_refusal (is_guarded caller (node_of x)) t (children t p)

-- the ids of p and of all that stands below it, in path order, each looked at; and the first refusal of one of them
pub record IsCleared (held : Held) (shown : Shown) (caller : Caller) (p : Path) (c : Cleared) : Type 0 where
  pub ids : (parts : Parts) (t : Tree) → Stands parts t → Agrees shown parts → numbers_of c.taken.items ≡ ids_of parts (subtree t p)
  pub says : (parts : Parts) (t : Tree) → Stands parts t → Agrees shown parts → c.refused ≡ first_refusal (not_clearable t caller) t (subtree t p)
  pub looked : AreLookedAt held shown c.taken.items
