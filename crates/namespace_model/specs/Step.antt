-- The step of the namespace: what an entry reads, writes, replies and makes of the tree; and the run of a journal.
use Rattle.std.specs.Prelude.{ℕ, suc, Bool, true, false, List, [], ◌∷◌}
use Rattle.namespace_model.specs.declared.field.Field.TheVariants.{Close}
use Rattle.namespace_model.specs.declared.op.Op.{Op}
use Rattle.namespace_model.specs.declared.op.Op.TheVariants as op
use Rattle.namespace_model.specs.declared.request.Entry.{Entry}
use Rattle.namespace_model.specs.declared.reply.Reply.{Reply}
use Rattle.namespace_model.specs.Trees.{Path, Tree, opening_tree}
use Rattle.namespace_model.specs.Effects.{effected}
use Rattle.namespace_model.specs.Outcomes.{Outcome, touched, refused, without_repeats}
use Rattle.namespace_model.specs.ListFilesystems.{list_filesystems}
use Rattle.namespace_model.specs.CreateFilesystem.{create_filesystem}
use Rattle.namespace_model.specs.GetFilesystem.{get_filesystem}
use Rattle.namespace_model.specs.SetFilesystem.{set_filesystem}
use Rattle.namespace_model.specs.DeleteFilesystem.{delete_filesystem}
use Rattle.namespace_model.specs.ListPaths.{list_paths}
use Rattle.namespace_model.specs.Create.{create}
use Rattle.namespace_model.specs.Rename.{rename}
use Rattle.namespace_model.specs.ReadFile.{read_file}
use Rattle.namespace_model.specs.GetProperties.{get_properties}
use Rattle.namespace_model.specs.GetAccess.{get_access}
use Rattle.namespace_model.specs.CheckAccess.{check_access}
use Rattle.namespace_model.specs.Append.{append}
use Rattle.namespace_model.specs.Flush.{flush}
use Rattle.namespace_model.specs.SetProperties.{set_properties}
use Rattle.namespace_model.specs.SetAccess.{set_access}
use Rattle.namespace_model.specs.SetAccessRecursive.{set_access_recursive}
use Rattle.namespace_model.specs.LeaseNode.{act_on_lease}
use Rattle.namespace_model.specs.Delete.{delete}

-- the root of a path's filesystem: a sound call on filesystems names no more than that
abbrev pub root_of : Path → Path
root_of [] = []
root_of (fs ∷ names) = fs ∷ []

-- by operation
abbrev pub acts : Tree → Entry → Op → Outcome
acts t e (op.ListFilesystems prefix token max) = list_filesystems t e prefix token max
acts t e (op.CreateFilesystem path props) = create_filesystem t e (root_of path) props
acts t e (op.GetFilesystem path) = get_filesystem t e (root_of path)
acts t e (op.SetFilesystem path props) = set_filesystem t e (root_of path) props
acts t e (op.DeleteFilesystem path) = delete_filesystem t e (root_of path)
acts t e (op.List dir recursive token max) = list_paths t e dir recursive token max
acts t e (op.Create path kind permissions umask props) =
    create t e (record { path = path; kind = kind; permissions = permissions; umask = umask; props = props })
acts t e (op.Rename path source props) = rename t e (record { source = source; path = path; props = props })
acts t e (op.Read path range) = read_file t e path range
acts t e (op.GetProperties path status) = get_properties t e path status
acts t e (op.GetAccess path) = get_access t e path
acts t e (op.CheckAccess path want) = check_access t e path want
acts t e (op.Append path position flush retain action) =
    append t e path (record { position = position; flush = flush; retain = retain; action = action })
acts t e (op.Flush path position retain) = flush t e path position retain
acts t e (op.SetProperties path props) = set_properties t e path props
acts t e (op.SetAccess path owner group permissions acl) =
    set_access t e path (record { owner = owner; group = group; permissions = permissions; acl = acl })
acts t e (op.SetAccessRecursive path change token max force) = set_access_recursive t e path change token max force
acts t e (op.Lease path action) = act_on_lease t e path action
acts t e (op.Delete path recursive) = delete t e path recursive
acts t e (op.Refused code) = refused code

-- a reply that ends its connection says so
abbrev pub closing : Bool → Reply → Reply
closing true reply = record reply { fields = Close ∷ reply.fields }
closing false reply = reply

abbrev pub with_close : Bool → Outcome → Outcome
with_close close o = record o { reply = closing close o.reply }

-- what comes of an entry on a tree, whatever its number will be
unfoldable pub outcome : Tree → Entry → Outcome
outcome t e = without_repeats (with_close e.request.close (acts t e e.request.op))

-- the paths that an entry reads and writes
abbrev pub touched_paths : Tree → Entry → List Path
touched_paths t e = touched (outcome t e)

-- the paths of the nodes that an entry makes, from the top
abbrev pub new_paths : Tree → Entry → List Path
new_paths t e = (outcome t e).fresh

-- what an entry replies, and the tree that it leaves
pub record Stepped : Type 0 where
  pub reply : Reply
  pub tree : Tree

-- the step of an entry under its number in the journal
abbrev pub step : Tree → Entry → ℕ → Stepped
step t e number = record { reply = (outcome t e).reply; tree = effected number (outcome t e).effect t }

-- ---- the run of a journal

-- the tree after entries with numbers from this one on
unfoldable pub tree_from : Tree → ℕ → List Entry → Tree
tree_from t number [] = t
tree_from t number (e ∷ es) = tree_from (step t e number).tree (suc number) es

-- the replies to entries with numbers from this one on
unfoldable pub replies_from : Tree → ℕ → List Entry → List Reply
replies_from t number [] = []
replies_from t number (e ∷ es) = (step t e number).reply ∷ replies_from (step t e number).tree (suc number) es

-- The run of a journal starts from the opening tree, and its first entry has the number 1: the tree that it leaves, and
-- its reply at each place.
unfoldable pub tree_after : List Entry → Tree
tree_after journal = tree_from opening_tree 1 journal

unfoldable pub replies_of : List Entry → List Reply
replies_of journal = replies_from opening_tree 1 journal
