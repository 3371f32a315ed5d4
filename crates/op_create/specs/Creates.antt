-- What a request to make a file or a directory comes to, once the directory was looked at in which a node is to be made.
use Rattle.std.specs.Prelude.{◌≡◌, not, List, [], ◌∷◌, ◌++◌, Option, Some, None, option_map, IsSome}
use Rattle.namespace_model.specs.declared.code.Code.TheVariants.{ResourceTypeMismatch, DirectoryNotEmpty}
use Rattle.namespace_model.specs.declared.op.Kind.{Kind}
use Rattle.namespace_model.specs.declared.op.Op.{Op}
use Rattle.namespace_model.specs.declared.op.Op.TheVariants as op
use Rattle.namespace_model.specs.declared.reply.Reply.{Reply}
use Rattle.namespace_model.specs.declared.request.Entry.{Entry}
use Rattle.namespace_model.specs.Create.{Making, create, made, new_nodes}
use Rattle.namespace_model.specs.Nodes.{Node, has_kind}
use Rattle.namespace_model.specs.Outcomes.{Outcome, reading, unless}
use Rattle.namespace_model.specs.Refusals.{or_else, refuse_if, is_guarded, exists_already, is_unmet, is_unmet_without}
use Rattle.namespace_model.specs.Trees.{Path, Tree}
use Rattle.inode_tree.specs.declared.id.NodeId.{NodeId}
use Rattle.inode_tree.specs.Footprints.{ids_of}
use Rattle.inode_tree.specs.Inodes.{BareInode, node_of}
use Rattle.inode_tree.specs.Parts.{Parts, follow}
use Rattle.inode_tree.specs.Promises.{numbers_of}
use Rattle.inode_tree.specs.Stands.{Stands}
use Rattle.inode_tree.specs.Views.{Held, Shown, Agrees}
use Rattle.path_walk.specs.declared.call.Call.{Call}
use Rattle.path_walk.specs.declared.find.Found.{Found}
use Rattle.path_walk.specs.declared.find.Found.TheVariants as found
use Rattle.path_walk.specs.Calls.{IsCall}
use Rattle.path_walk.specs.Children.{has_children}
use Rattle.path_walk.specs.Visits.{AreLookedAt}
use Rattle.op_create.specs.declared.nodes.NewNode.{NewNode}
use Rattle.op_create.specs.declared.place.Place.{Place}

-- ---- what is asked for

-- the operation of this evaluator
abbrev pub IsOfCreate : Op → Type 0
IsOfCreate (op.Create path kind permissions umask props) = Unit {0}
IsOfCreate other = ⊥

-- a call that asks for this node
pub record IsCreate (call : Call) (new : NewNode) : Type 0 where
  pub is_call : IsCall call
  pub operation : call.request.now.op ≡ op.Create call.path.now new.kind new.permissions new.umask new.props.now

abbrev pub making_of : Call → NewNode → Making
making_of call new = record { path = call.path.now; kind = new.kind; permissions = new.permissions; umask = new.umask; props = new.props.now }

-- an entry of the call: where it came from says nothing of what it is refused for
abbrev pub asked : Call → Entry
asked call = record { conn = 0; index = 0; moment = call.moment; request = call.request.now }

-- ---- refusals

-- the first refusal where a node is there, in this directory
abbrev pub refusal_over : Call → Kind → Node → BareInode → Option Reply
refusal_over call kind dir y =
    or_else (is_guarded call.caller.now dir call.path.now (node_of y))
    (or_else (exists_already (asked call))
    (or_else (is_unmet (asked call) (node_of y))
    (or_else (refuse_if (not (has_kind kind (node_of y))) ResourceTypeMismatch)
    (refuse_if (has_children y) DirectoryNotEmpty))))

-- the first refusal by what was found in this directory
abbrev pub refusal_by : Call → Kind → Node → Found → Option Reply
refusal_by call kind dir found.Nothing = is_unmet_without (asked call)
refusal_by call kind dir (found.Node id y) = refusal_over call kind dir y
refusal_by call kind dir (found.Stopped e) = None

-- ---- what comes of the step

-- the step of each entry of the call reads the nodes of these ids, and then this comes
pub record IsComing (parts : Parts) (t : Tree) (call : Call) (new : NewNode) (reads : List NodeId) (o : Entry → Outcome) : Type 0 where
  pub paths : List Path
  pub read : numbers_of reads ≡ ids_of parts paths
  pub comes : (e : Entry) → e.request ≡ call.request.now → e.moment ≡ call.moment → create t e (making_of call new) ≡ reading paths (o e)

-- ---- where new nodes come to stand

-- what was found goes
abbrev pub replaced_by : Found → Option NodeId
replaced_by found.Nothing = None
replaced_by (found.Node id y) = Some id
replaced_by (found.Stopped e) = None

abbrev pub replaced_path : Option NodeId → Path → List Path
replaced_path None p = []
replaced_path (Some id) p = p ∷ []

-- the first of these names leads from a path to this id, and is then the only one; or it leads nowhere
abbrev pub LeadsTo : Parts → Path → Path → Option NodeId → Type 0
LeadsTo parts p [] old = ⊥
LeadsTo parts p (n ∷ names) old = (follow parts 0 (p ++ n ∷ []) ≡ option_map (λ (id : NodeId). id.0) old) × (IsSome old → names ≡ [])

-- unless that is refused, the nodes of the place come to stand below the directory, to which this path leads
abbrev pub placed : Call → NewNode → Option Reply → Place → Path → Entry → Outcome
placed call new refused place above e =
    unless refused
    (made e (making_of call new) above (replaced_path place.replaced call.path.now)
    (new_nodes e (making_of call new) (node_of place.base.node) above place.names.now))

pub record IsPlaceIn (parts : Parts) (t : Tree) (call : Call) (new : NewNode) (refused : Option Reply) (place : Place) (above : Path) : Type 0 where
  pub coming : IsComing parts t call new place.reads.items (placed call new refused place above)
  pub leads : follow parts 0 above ≡ Some place.base.id.0
  pub first : LeadsTo parts above place.names.now place.replaced

-- So it is for all parts that stand for a tree and agree with what was shown, and what was read was looked at.
pub record IsPlace (held : Held) (shown : Shown) (call : Call) (new : NewNode) (refused : Option Reply) (place : Place) : Type 0 where
  pub above : Path
  pub named : call.path.now ≡ above ++ place.names.now
  pub is_place : (parts : Parts) (t : Tree) → Stands parts t → Agrees shown parts → IsPlaceIn parts t call new refused place above
  pub looked : AreLookedAt held shown place.reads.items
