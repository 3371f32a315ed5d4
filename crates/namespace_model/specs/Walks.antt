-- The walk from the account to the parent of a path, and what comes then.
use Rattle.std.specs.Prelude.{◌==◌, [], ◌∷◌, length, if◌then◌else◌}
use Rattle.namespace_model.specs.declared.caller.Caller.{Caller}
use Rattle.namespace_model.specs.declared.code.Code.{Code}
use Rattle.namespace_model.specs.declared.code.Code.TheVariants.{FilesystemNotFound}
use Rattle.namespace_model.specs.Access.{execute}
use Rattle.namespace_model.specs.Nodes.{Node}
use Rattle.namespace_model.specs.Trees.{Path, Tree, node_at, parent}
use Rattle.namespace_model.specs.Outcomes.{Outcome, answered, reading, refused}
use Rattle.namespace_model.specs.Replies.{denial}
use Rattle.namespace_model.specs.Ways.{Way, reached, missing, blocked, closed, way_of, read_on}

-- the code of a path that is missing: one of one name is a filesystem
abbrev pub missing_code : Path → Code → Code
missing_code p code = if length p == 1 then FilesystemNotFound else code

-- what comes where a node is missing below this directory
abbrev pub missing_below : Code → Path → Outcome
missing_below code [] = refused FilesystemNotFound
missing_below code (fs ∷ names) = refused code

-- what comes of a step by the way: what comes where it is reached, what comes where a node is missing, the code of a file in the way, and the denial
abbrev pub ended : (Path → Outcome) → Code → Outcome → Way → Outcome
ended lost code after reached = after
ended lost code after (missing d) = lost d
ended lost code after (blocked p) = refused code
ended lost code after (closed p r) = answered (denial r.rule p execute r.have)

-- It goes on with the last directory that was passed. It is there, and is a directory.
abbrev pub hand_on : Tree → Path → (Node → Outcome) → Outcome
hand_on t d next = next (node_at t d)

-- The account is read, and then the way to the parent of a path. Where the parent is reached, and where a node is missing, it goes on with the last directory;
-- a file in the way ends it with a code.
abbrev pub walk_or : Tree → Caller → (Path → Node → Outcome) → Code → Path → (Node → Outcome) → Outcome
walk_or t caller lost code p next =
    reading (read_on t caller p) (ended (λ d. hand_on t d (lost d)) code (hand_on t (parent p) next) (way_of t caller p))

-- The walk to the parent of a path, which is handed on. A filesystem that is missing has its own code; for another node that is missing, and for a file in
-- the way, the code is the given one.
abbrev pub walk : Tree → Caller → Code → Path → (Node → Outcome) → Outcome
walk t caller code p next = walk_or t caller (λ d dir. missing_below code d) code p next

-- the walk to the parent of a path, where nothing more is asked of the parent
abbrev pub walk_to : Tree → Caller → Code → Path → Outcome → Outcome
walk_to t caller code p after = walk t caller code p (λ dir. after)
