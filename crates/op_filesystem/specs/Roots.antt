-- What is found at the root of a filesystem on which the superuser calls, and what it shows.
use Rattle.std.specs.Prelude.{◌≡◌, List, [], ◌∷◌, ◌++◌, length, None, Ok}
use Rattle.namespace_model.specs.declared.code.Code.TheVariants.{FilesystemNotFound}
use Rattle.namespace_model.specs.declared.field.Field.TheVariants.{NamespaceEnabled}
use Rattle.namespace_model.specs.declared.reply.Reply.{Reply}
use Rattle.namespace_model.specs.declared.request.Entry.{Entry}
use Rattle.namespace_model.specs.Nodes.{Node}
use Rattle.namespace_model.specs.Outcomes.{Outcome, reading, refused, unless, noted}
use Rattle.namespace_model.specs.Refusals.{caller_of, is_no_superuser}
use Rattle.namespace_model.specs.Replies.{success, node_fields, property_fields}
use Rattle.namespace_model.specs.Step.{acts}
use Rattle.namespace_model.specs.Trees.{Tree, at}
use Rattle.inode_tree.specs.declared.id.NodeId.{NodeId}
use Rattle.inode_tree.specs.Views.{Held, Shown}
use Rattle.path_walk.specs.declared.call.Call.{Call}
use Rattle.path_walk.specs.Calls.{Answers}
use Rattle.path_walk.specs.Edits.{IsSeat}
use Rattle.path_order.specs.declared.cursor.Seen.{Seen}
use Rattle.op_filesystem.specs.declared.find.Reached.{Reached}
use Rattle.op_filesystem.specs.declared.find.Reached.TheVariants as reached

-- The path is that of a root. The step of each entry of the call asks for the superuser and looks at the account and at
-- the root, and then comes what comes of it.
pub record AsksRoot (call : Call) : Type 0 where
  pub root : length call.path.now ≡ 1
  pub some : Tree → Entry → Node → Outcome
  pub asks : (t : Tree) (e : Entry) → e.request ≡ call.request.now
      → acts t e e.request.op
      ≡ unless (is_no_superuser (caller_of e) call.path.now) (reading ([] ∷ [])
      (noted (at t call.path.now) call.path.now (refused FilesystemNotFound) (some t e)))

-- the caller is the superuser, and the root of the path is this node, behind these that were read
pub record IsRootReached (held : Held) (shown : Shown) (call : Call) (reads : List NodeId) (root : Seen) : Type 0 where
  pub allowed : is_no_superuser call.caller.now call.path.now ≡ None
  pub seat : IsSeat held shown call.caller.now call.path.now reads root.id root.node

-- the root was reached, or the call is answered
abbrev pub IsReached : Held → Shown → Call → Reached → Type 0
IsReached held shown call (reached.Root reads root) = IsRootReached held shown call reads.items root
IsReached held shown call (reached.Ended draft) = Answers held shown call (Ok draft)

-- the reply by which the root is shown
abbrev pub shown_reply : Node → Reply
shown_reply x = success 200 (node_fields x ++ property_fields x.props ++ NamespaceEnabled ∷ [])
