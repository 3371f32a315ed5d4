-- Answers that change nothing: a reply, and the nodes that were read.
use Rattle.std.specs.Prelude.{◌≡◌, ◌==◌, Bool, List, [], Some, if◌then◌else◌}
use Rattle.namespace_model.specs.declared.code.Code.{Code}
use Rattle.namespace_model.specs.declared.code.Code.TheVariants.{FilesystemNotFound, PathNotFound, AuthorizationPermissionMismatch}
use Rattle.namespace_model.specs.declared.reply.Reply.{Reply}
use Rattle.namespace_model.specs.Nodes.{Node}
use Rattle.namespace_model.specs.Outcomes.{Outcome, answered, refused}
use Rattle.namespace_model.specs.Replies.{refusal}
use Rattle.namespace_model.specs.Step.{closing}
use Rattle.namespace_model.specs.Trees.{Path}
use Rattle.namespace_model.specs.Walks.{missing_code}
use Rattle.inode_tree.specs.Inodes.{node_of}
use Rattle.inode_tree.specs.declared.draft.Draft.{Draft}
use Rattle.inode_tree.specs.declared.id.NodeId.{NodeId}
use Rattle.path_walk.specs.declared.find.Found.{Found}
use Rattle.path_walk.specs.declared.find.Found.TheVariants as found
use Rattle.path_walk.specs.declared.stop.End.{End}
use Rattle.path_walk.specs.declared.stop.End.TheVariants as end

-- The reply to a way that ends before the parent: a filesystem that is missing has its own code; for another node that is missing, and for a file in the way, the
-- code is the given one; a directory that doesn't let the caller through denies it.
abbrev pub stop_reply : Code → End → Reply
stop_reply code end.Reached = refusal code
stop_reply code (end.NotFound names) = refusal (if names == 1 then FilesystemNotFound else code)
stop_reply code (end.NotDirectory names) = refusal code
stop_reply code (end.Denied denied) = record (refusal AuthorizationPermissionMismatch) { denied = Some denied }

-- a draft with this reply, by which nothing is written
pub record IsAnswered (close : Bool) (reply : Reply) (ids : List NodeId) (d : Draft) : Type 0 where
  pub replies : d.reply ≡ closing close reply
  pub reads_ids : d.reads.items ≡ ids
  pub writes_none : d.writes.items ≡ []
  pub changes_none : d.changes.items ≡ []
  pub draws_none : d.drawn ≡ 0

-- what comes of a step that looks at the node of a path, by what was found there
abbrev pub found_outcome : Path → (Node → Outcome) → Found → Outcome
found_outcome p some (found.Node id x) = some (node_of x)
found_outcome p some found.Nothing = refused (missing_code p PathNotFound)
found_outcome p some (found.Stopped e) = answered (stop_reply PathNotFound e)
