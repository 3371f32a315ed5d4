-- Stage the body of a request at a position of a file, and perhaps flush it at once (Path - Update with action=append of the REST reference).
--
--   1  the way to the path            denied (execute), FilesystemNotFound, PathNotFound                 found
--   2  the node is there              PathNotFound                                                       found
--   3  read and write on it           denied                                                             lacks
--   4  it is a file                   ResourceTypeMismatch                                               refuse_if
--   5  its lease lets the append in   LeaseIdMissing and the other codes of leases                       under_lease
--   6  the body can be staged         PositionBelowLength, FileTooLarge                                  refused_staging
--   7  with flush, to its end         InvalidFlushPosition, and nothing is staged                        refused_flush_too
--
-- The node is put, and stamped exactly where the append flushes. Conditions aren't asked.
use Rattle.std.specs.Prelude.{ℕ, Bool, true, false, List, [], ◌∷◌, ◌++◌, Option, None, Result, Ok, Err, if◌then◌else◌}
use Rattle.file_data.specs.declared.fault.DataFault.{DataFault}
use Rattle.file_data.specs.FileRecord.{FileRecord, stage_answer, staged_with, append_flush_answer, append_flushed}
use Rattle.lease_state.specs.declared.lease.Lease.{Lease}
use Rattle.lease_state.specs.declared.lease.AppendLease.{AppendLease}
use Rattle.lease_state.specs.declared.lease.AppendLease.TheVariants.{Plain, Acquire, AutoRenew, Release, AcquireRelease}
use Rattle.lease_state.specs.declared.lease.LeaseFault.{LeaseFault}
use Rattle.lease_state.specs.LeaseAppends.{lease_act_append}
use Rattle.lease_state.specs.LeaseTable.{kept_id}
use Rattle.namespace_model.specs.declared.code.Code.TheVariants.{ResourceTypeMismatch}
use Rattle.namespace_model.specs.declared.field.Field.{Field}
use Rattle.namespace_model.specs.declared.field.Field.TheVariants.{LeaseId}
use Rattle.namespace_model.specs.declared.reply.Reply.{Reply}
use Rattle.namespace_model.specs.declared.request.Entry.{Entry}
use Rattle.namespace_model.specs.Access.{read_write}
use Rattle.namespace_model.specs.Contents.{data_of, content_of, refused_staging, refused_flush}
use Rattle.namespace_model.specs.Nodes.{Node, is_directory}
use Rattle.namespace_model.specs.Trees.{Path, Tree}
use Rattle.namespace_model.specs.Effects.{Put, stamp, keep}
use Rattle.namespace_model.specs.Replies.{success, stamp_fields}
use Rattle.namespace_model.specs.Outcomes.{Outcome, edited, refused, unless}
use Rattle.namespace_model.specs.Refusals.{caller_of, lacks, code_of_fault, refuse_if}
use Rattle.namespace_model.specs.Looks.{found}

-- what is asked for: whether the file is flushed to the end of the body, whether what is staged behind it is kept then, and what is done with the lease
pub record Appending : Type 0 where
  pub position : ℕ
  pub flush : Bool
  pub retain : Bool
  pub action : AppendLease

-- it goes on with the lease as it is afterwards
abbrev pub under_lease : Result Lease LeaseFault → (Lease → Outcome) → Outcome
under_lease (Err f) next = refused (code_of_fault f)
under_lease (Ok after) next = next after

-- where the append flushes, the file can be flushed to the end of the body once that is staged
abbrev pub refused_flush_too : Bool → Result Unit DataFault → Option Reply
refused_flush_too true answer = refused_flush answer
refused_flush_too false answer = None

-- the body is staged, and flushed where that is asked
abbrev pub appended_data : Entry → Appending → FileRecord → FileRecord
appended_data e a f =
    if a.flush then append_flushed f a.position e.request.body a.retain else staged_with f a.position e.request.body

abbrev pub appended_node : Entry → Appending → Node → Lease → Node
appended_node e a x after = record x { content = content_of (appended_data e a (data_of x.content)); lease = after }

-- an append that doesn't flush leaves number and moment
abbrev pub append_put : Bool → ℕ → Node → Put
append_put true moment x = stamp moment x
append_put false moment x = keep x

abbrev pub flush_fields : Bool → ℕ → List Field
flush_fields true moment = stamp_fields moment
flush_fields false moment = []

-- the id that is held from now on, where the append took or renewed the lease
abbrev pub append_lease_fields : AppendLease → Lease → List Field
append_lease_fields Plain after = []
append_lease_fields (Acquire id secs) after = LeaseId (kept_id after) ∷ []
append_lease_fields AutoRenew after = LeaseId (kept_id after) ∷ []
append_lease_fields Release after = []
append_lease_fields (AcquireRelease id secs) after = []

abbrev pub appended : Entry → Path → Appending → Node → Lease → Outcome
appended e p a x after =
    edited p (append_put a.flush e.moment (appended_node e a x after))
    (success 202 (flush_fields a.flush e.moment ++ append_lease_fields a.action after))

abbrev pub append_data : Entry → Path → Appending → Node → Lease → Outcome
append_data e p a x after =
    unless (refused_staging (stage_answer (data_of x.content) a.position e.request.body))
    (unless (refused_flush_too a.flush (append_flush_answer (data_of x.content) a.position e.request.body))
    (appended e p a x after))

abbrev pub append_node : Entry → Path → Appending → Node → Outcome
append_node e p a x =
    unless (lacks (caller_of e) read_write p x)
    (unless (refuse_if (is_directory x) ResourceTypeMismatch)
    (under_lease (lease_act_append x.lease a.action e.request.lease e.moment)
    (append_data e p a x)))

unfoldable pub append : Tree → Entry → Path → Appending → Outcome
append t e p a = found t e p (append_node e p a)
