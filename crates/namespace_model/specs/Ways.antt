-- The way from a directory along names: what is read on it, and how it ends.
use Rattle.std.specs.Prelude.{List, [], ◌∷◌, ◌++◌, Option, Some, None, Result, Ok, Err, if◌then◌else◌}
use Rattle.namespace_model.specs.declared.caller.Caller.{Caller}
use Rattle.namespace_model.specs.declared.denied.Refusal.{Refusal}
use Rattle.namespace_model.specs.Access.{access_check, execute}
use Rattle.namespace_model.specs.Nodes.{Node, is_directory}
use Rattle.namespace_model.specs.Trees.{Path, Tree, at, parent}

-- All directories of the way are there and let the caller through; or a node is missing below this directory; or there is a file at this path; or execute is
-- denied at this one.
pub data Way : Type 0 where
  reached : Way
  missing : Path → Way
  blocked : Path → Way
  closed : Path → Refusal → Way

-- whether a directory lets the caller through, by the check of execute
abbrev pub may_enter : Caller → Node → Result Unit Refusal
may_enter caller x = access_check x.acl.access x.owner x.group caller execute

-- how the way goes on behind a directory that lets the caller through
abbrev pub passed : Path → Result Unit Refusal → Way → Way
passed p (Ok allowed) on = on
passed p (Err r) on = closed p r

-- the node at a path below a directory, and how the way goes on behind it
abbrev pub met : Caller → Path → Path → Option Node → Way → Way
met caller done p None on = missing done
met caller done p (Some x) on = if is_directory x then passed p (may_enter caller x) on else blocked p

-- the way from a directory along these names
abbrev pub way_from : Tree → Caller → Path → Path → Way
way_from t caller done [] = reached
way_from t caller done (n ∷ names) = met caller done (done ++ n ∷ []) (at t (done ++ n ∷ [])) (way_from t caller (done ++ n ∷ []) names)

-- what is read behind a directory that lets the caller through
abbrev pub behind : Result Unit Refusal → List Path → List Path
behind (Ok allowed) rest = rest
behind (Err r) rest = []

-- a node that is there is read
abbrev pub seen : Caller → Path → Option Node → List Path → List Path
seen caller p None rest = []
seen caller p (Some x) rest = p ∷ (if is_directory x then behind (may_enter caller x) rest else [])

-- what is read on the way from a directory: each node up to and with the one at which it ends
abbrev pub read_from : Tree → Caller → Path → Path → List Path
read_from t caller done [] = []
read_from t caller done (n ∷ names) = seen caller (done ++ n ∷ []) (at t (done ++ n ∷ [])) (read_from t caller (done ++ n ∷ []) names)

-- the way from the account to the parent of a path
abbrev pub way_of : Tree → Caller → Path → Way
way_of t caller p = way_from t caller [] (parent p)

-- what is read on it, the account first
abbrev pub read_on : Tree → Caller → Path → List Path
read_on t caller p = [] ∷ read_from t caller [] (parent p)

-- the last directory on the way to a path that was passed
abbrev pub base_of : Path → Way → Path
base_of path reached = parent path
base_of path (missing d) = d
base_of path (blocked p) = parent p
base_of path (closed p r) = parent p
