-- Whether the caller has permissions on a node (Path - Get Properties with action=checkAccess of the REST reference).
--
--   1  the way, and the node           denied (execute), FilesystemNotFound, PathNotFound   found
--   2  the conditions                  ConditionNotMet, also as 304                         is_unmet_look
--   3  the bits that are asked about   denied                                               lacks
use Rattle.std.specs.Prelude.{ℕ, []}
use Rattle.namespace_model.specs.declared.request.Entry.{Entry}
use Rattle.namespace_model.specs.Nodes.{Node}
use Rattle.namespace_model.specs.Trees.{Path, Tree}
use Rattle.namespace_model.specs.Replies.{success}
use Rattle.namespace_model.specs.Outcomes.{Outcome, answered, unless}
use Rattle.namespace_model.specs.Refusals.{caller_of, lacks, is_unmet_look}
use Rattle.namespace_model.specs.Looks.{found}

abbrev pub checked_on : Entry → Path → ℕ → Node → Outcome
checked_on e p want x =
    unless (is_unmet_look e x)
    (unless (lacks (caller_of e) want p x)
    (answered (success 200 [])))

unfoldable pub check_access : Tree → Entry → Path → ℕ → Outcome
check_access t e p want = found t e p (checked_on e p want)
