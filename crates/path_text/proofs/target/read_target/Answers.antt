use Rattle.std.proofs.Common.{subst}
use Rattle.path_text.specs.Faults.{Answers}
use Rattle.path_text.specs.Targets.{target_parts}
use Rattle.path_text.proofs.RefusalLemmas.{answers_of, ok_as, refused_where, stopped_by, where_refused}
use Rattle.path_text.proofs.TargetLemmas.{spelled_target_is_read, target_is_spelled}
use Rattle.path_text.proofs.target.read_target.Goals as goal

pub returns-clause-spelled : goal.returns-clause-spelled
returns-clause-spelled c =
    ok_as c.target_parts.result _ c.target_parts.ensures.value
    (λ read e. target_is_spelled c.args.target.now read.0 read.1 e)

pub returns-clause-limits : goal.returns-clause-limits
returns-clause-limits c =
    ok_as c.target_parts.result _ c.target_parts.ensures.value
    (λ read e. (target_is_spelled c.args.target.now read.0 read.1 e).path_part.limits)

pub returns-clause-only : goal.returns-clause-only
returns-clause-only c = λ path pairs is.
    subst (Answers c.target_parts.result) (spelled_target_is_read c.args.target.now path pairs is)
    (answers_of c.target_parts.result (target_parts c.args.target.now) c.target_parts.ensures.value c.target_parts.ensures.fault)

pub returns-clause-cause : goal.returns-clause-cause
returns-clause-cause c = λ stop e known.
    refused_where c.args.target.now stop
    (stopped_by c.target_parts.result (target_parts c.args.target.now) stop c.target_parts.ensures.fault e known)

pub returns-clause-refused : goal.returns-clause-refused
returns-clause-refused c = λ stop h.
    subst (Answers c.target_parts.result) (where_refused c.args.target.now stop h)
    (answers_of c.target_parts.result (target_parts c.args.target.now) c.target_parts.ensures.value c.target_parts.ensures.fault)
