-- What comes of reading a file, appending to it and flushing it, by the node of its path.
use Rattle.std.specs.Prelude.{◌≡◌, ℕ, Bool, Option}
use Rattle.head_text.specs.declared.range.Range.{Range}
use Rattle.lease_state.specs.LeaseAppends.{lease_act_append}
use Rattle.file_data.specs.FileRecord.{FileRecord, flush_answer}
use Rattle.namespace_model.specs.declared.code.Code.TheVariants.{ResourceTypeMismatch}
use Rattle.namespace_model.specs.declared.op.Op.{Op}
use Rattle.namespace_model.specs.declared.op.Op.TheVariants as op
use Rattle.namespace_model.specs.declared.request.Entry.{Entry}
use Rattle.namespace_model.specs.Access.{read, read_write}
use Rattle.namespace_model.specs.Append as model
use Rattle.namespace_model.specs.Append.{under_lease, append_data}
use Rattle.namespace_model.specs.Contents.{data_of, refused_flush}
use Rattle.namespace_model.specs.Flush.{flushed_to}
use Rattle.namespace_model.specs.Nodes.{Node, bytes_in, is_directory}
use Rattle.namespace_model.specs.Outcomes.{Outcome, unless}
use Rattle.namespace_model.specs.ReadFile.{bytes_read}
use Rattle.namespace_model.specs.Refusals.{caller_of, lacks, is_unmet, is_unmet_look, lease_refuses, refuse_if}
use Rattle.namespace_model.specs.Trees.{Path}
use Rattle.inode_tree.specs.Inodes.{BareInode, file, node_of}
use Rattle.path_walk.specs.declared.call.Call.{Call}
use Rattle.path_walk.specs.declared.edits.Verdict.{Verdict}
use Rattle.path_walk.specs.Edits.{IsVerdict}
use Rattle.path_walk.specs.Calls.{entry_of}
use Rattle.op_data.specs.declared.task.Appending.{Appending}
use Rattle.op_data.specs.declared.task.Task.{Task}
use Rattle.op_data.specs.declared.task.Task.TheVariants as task

-- the operations of this evaluator
abbrev pub IsOfData : Op → Type 0
IsOfData (op.Read path range) = Unit {0}
IsOfData (op.Append path position flush retain action) = Unit {0}
IsOfData (op.Flush path position retain) = Unit {0}
IsOfData other = ⊥

-- the operation that asks this of the file of a path
abbrev pub op_of : Path → Task → Op
op_of path (task.Read range) = op.Read path range
op_of path (task.Append a) = op.Append path a.position a.flush a.retain a.action
op_of path (task.Flush position retain) = op.Flush path position retain

-- the permissions on the file without which it is denied
abbrev pub wants : Task → ℕ
wants (task.Read range) = read
wants (task.Append a) = read_write
wants (task.Flush position retain) = read_write

-- the same append in the model's record
abbrev pub appending : Appending → model.Appending
appending a = record { position = a.position; flush = a.flush; retain = a.retain; action = a.action }

-- ---- what comes of a task

-- a read asks the conditions
abbrev pub of_read : Entry → Option Range → Node → Outcome
of_read e range x =
    unless (is_unmet_look e x)
    (bytes_read e x (bytes_in x.content) range)

-- an append acts on the lease, and goes on with it
abbrev pub of_append : Entry → Path → Appending → Node → Outcome
of_append e p a x =
    under_lease (lease_act_append x.lease a.action e.request.lease e.moment)
    (append_data e p (appending a) x)

-- a flush asks the conditions, the lease, and what is staged
abbrev pub of_flush : Entry → Path → ℕ → Bool → Node → Outcome
of_flush e p position retain x =
    unless (is_unmet e x)
    (unless (lease_refuses e e.request.lease x)
    (unless (refused_flush (flush_answer (data_of x.content) position))
    (flushed_to e p position retain x)))

-- what comes of a task where the node is a file on which the caller has the permissions
abbrev pub of_file : Entry → Path → Task → Node → Outcome
of_file e p (task.Read range) x = of_read e range x
of_file e p (task.Append a) x = of_append e p a x
of_file e p (task.Flush position retain) x = of_flush e p position retain x

abbrev pub of_node : Entry → Path → Task → Node → Outcome
of_node e p task x =
    unless (lacks (caller_of e) (wants task) p x)
    (unless (refuse_if (is_directory x) ResourceTypeMismatch)
    (of_file e p task x))

-- ---- calls

-- the call asks this of the file of its path
abbrev pub Asks : Call → Task → Type 0
Asks call task = call.request.now.op ≡ op_of call.path.now task

-- the verdict says what comes of a task where the node is such a file
abbrev pub IsVerdictOfFile : Call → Task → BareInode → Verdict → Type 0
IsVerdictOfFile call task x v = IsVerdict (of_file (entry_of call) call.path.now task (node_of x)) call.path.now x v

-- the verdict says what comes of a task
abbrev pub IsVerdictOfNode : Call → Task → BareInode → Verdict → Type 0
IsVerdictOfNode call task x v = IsVerdict (of_node (entry_of call) call.path.now task (node_of x)) call.path.now x v

-- the node is a file, and has these data
abbrev pub IsFileOf : BareInode → FileRecord → Type 0
IsFileOf x f = x.content ≡ file f.committed f.staged
