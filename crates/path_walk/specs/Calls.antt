-- What is asked of an evaluator, what it answers, and what a view that it looked through keeps.
use Rattle.std.specs.Prelude.{◌≡◌, ◌<◌, ◌≤◌, ◌^◌, [], Some, Result}
use Rattle.lease_state.specs.declared.lease.TheConstants.{LAST_MOMENT}
use Rattle.namespace_model.specs.declared.op.Op.{Op}
use Rattle.namespace_model.specs.declared.op.Op.TheVariants as op
use Rattle.namespace_model.specs.Sound.{IsSound}
use Rattle.namespace_model.specs.Trees.{Path}
use Rattle.namespace_model.specs.declared.request.Entry.{Entry}
use Rattle.inode_tree.specs.declared.draft.Draft.{Draft}
use Rattle.inode_tree.specs.declared.draft.EvalStop.{EvalStop}
use Rattle.inode_tree.specs.Promises.{IsEvaluated}
use Rattle.inode_tree.specs.Views.{Held, Shown, Grows}
use Rattle.path_walk.specs.declared.call.Call.{Call}

-- The path that an operation names: of a rename the destination, of a listing the directory, and of a listing of filesystems the account.
abbrev pub path_of : Op → Path
path_of (op.ListFilesystems prefix token max) = []
path_of (op.CreateFilesystem path props) = path
path_of (op.GetFilesystem path) = path
path_of (op.SetFilesystem path props) = path
path_of (op.DeleteFilesystem path) = path
path_of (op.List dir recursive token max) = dir
path_of (op.Create path kind permissions umask props) = path
path_of (op.Rename path source props) = path
path_of (op.Read path range) = path
path_of (op.GetProperties path status) = path
path_of (op.GetAccess path) = path
path_of (op.CheckAccess path want) = path
path_of (op.Append path position flush retain action) = path
path_of (op.Flush path position retain) = path
path_of (op.SetProperties path props) = path
path_of (op.SetAccess path owner group permissions acl) = path
path_of (op.SetAccessRecursive path change token max force) = path
path_of (op.Lease path action) = path
path_of (op.Delete path recursive) = path
path_of (op.Refused code) = []

-- The request is sound, caller and path are its own, the moment has a date, and ids may be given.
pub record IsCall (call : Call) : Type 0 where
  pub sound : IsSound call.request.now
  pub by : call.request.now.caller ≡ Some call.caller.now
  pub named : path_of call.request.now.op ≡ call.path.now
  pub moment : call.moment ≤ LAST_MOMENT
  pub pass : call.fresh.pass < 64
  pub used : call.fresh.used < 2 ^ 40

-- An entry of the call. On which connection it came doesn't matter to what comes of a node.
abbrev pub entry_of : Call → Entry
entry_of call = record { conn = 0; index = 0; moment = call.moment; request = call.request.now }

-- what an evaluator answers
abbrev pub Answers : Held → Shown → Call → Result Draft EvalStop → Type 0
Answers held shown call answer = IsEvaluated held shown call.request.now call.moment call.fresh answer

-- A view that went on: it holds the same, it is a view of the same, and what was shown stays shown.
pub record GoesOn {O : Type 0} (held later : Held) (over over_later : O) (shown shown_later : Shown) : Type 0 where
  pub held_same : later ≡ held
  pub over_same : over_later ≡ over
  pub grows : Grows shown shown_later
