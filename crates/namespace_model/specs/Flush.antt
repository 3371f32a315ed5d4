-- Take what is staged below a position into a file (Path - Update with action=flush of the REST reference).
--
--   1  the way, and the node            denied (execute), FilesystemNotFound, PathNotFound   found
--   2  read and write on it             denied                                               lacks
--   3  it is a file                     ResourceTypeMismatch                                 refuse_if
--   4  the conditions                   ConditionNotMet                                      is_unmet
--   5  the lease                        LeaseIdMissing and the other codes of writes         lease_refuses
--   6  what is staged lies end to end   InvalidFlushPosition                                 refused_flush
--   7  the node is put, stamped         none                                                 flushed_to
use Rattle.std.specs.Prelude.{ℕ, Bool}
use Rattle.file_data.specs.FileRecord.{flush_answer, flushed}
use Rattle.lease_state.specs.LeaseTable.{lease_after_write}
use Rattle.namespace_model.specs.declared.code.Code.TheVariants.{ResourceTypeMismatch}
use Rattle.namespace_model.specs.declared.request.Entry.{Entry}
use Rattle.namespace_model.specs.Contents.{data_of, content_of, refused_flush}
use Rattle.namespace_model.specs.Nodes.{Node, is_directory}
use Rattle.namespace_model.specs.Trees.{Path, Tree}
use Rattle.namespace_model.specs.Effects.{stamp}
use Rattle.namespace_model.specs.Replies.{success, stamp_fields}
use Rattle.namespace_model.specs.Access.{read_write}
use Rattle.namespace_model.specs.Outcomes.{Outcome, edited, unless}
use Rattle.namespace_model.specs.Refusals.{caller_of, lacks, is_unmet, lease_refuses, refuse_if}
use Rattle.namespace_model.specs.Looks.{found}

-- the file is stamped, also where the position is its length
abbrev pub flushed_to : Entry → Path → ℕ → Bool → Node → Outcome
flushed_to e p position retain x =
    edited p (stamp e.moment (record x {
      content = content_of (flushed (data_of x.content) position retain);
      lease = lease_after_write x.lease e.moment;
    })) (success 200 (stamp_fields e.moment))

abbrev pub flush_node : Entry → Path → ℕ → Bool → Node → Outcome
flush_node e p position retain x =
    unless (lacks (caller_of e) read_write p x)
    (unless (refuse_if (is_directory x) ResourceTypeMismatch)
    (unless (is_unmet e x)
    (unless (lease_refuses e e.request.lease x)
    (unless (refused_flush (flush_answer (data_of x.content) position))
    (flushed_to e p position retain x)))))

unfoldable pub flush : Tree → Entry → Path → ℕ → Bool → Outcome
flush t e p position retain = found t e p (flush_node e p position retain)
