use Rattle.std.proofs.Common.{subst}
use Rattle.path_text.specs.declared.fault.TargetStop.TheVariants.{Fault}
use Rattle.path_text.specs.Faults.{Answers}
use Rattle.path_text.specs.Texts.{plain_path}
use Rattle.path_text.proofs.GrammarLemmas.{path_is_spelled}
use Rattle.path_text.proofs.ReadLemmas.{spelled_is_read}
use Rattle.path_text.proofs.RefusalLemmas.{answers_of, ok_as, plain_stopped, plain_stops, stopped_by}
use Rattle.path_text.proofs.plain.read_plain.Goals as goal

pub returns-clause-spelled : goal.returns-clause-spelled
returns-clause-spelled c =
    ok_as c.path_of_text.result _ c.path_of_text.ensures.path
    (λ path e. (path_is_spelled c.args.text.now path e).1)

pub returns-clause-limits : goal.returns-clause-limits
returns-clause-limits c =
    ok_as c.path_of_text.result _ c.path_of_text.ensures.path
    (λ path e. (path_is_spelled c.args.text.now path e).0)

pub returns-clause-only : goal.returns-clause-only
returns-clause-only c = λ path limits is.
    subst (Answers c.path_of_text.result) (spelled_is_read c.args.text.now path limits is)
    (answers_of c.path_of_text.result (plain_path c.args.text.now) c.path_of_text.ensures.path c.path_of_text.ensures.fault)

pub returns-clause-cause : goal.returns-clause-cause
returns-clause-cause c = λ fault e.
    plain_stopped c.args.text.now fault (stopped_by c.path_of_text.result _ (Fault fault) c.path_of_text.ensures.fault e (λ e. cc))

pub returns-clause-refused : goal.returns-clause-refused
returns-clause-refused c = λ fault h.
    subst (Answers c.path_of_text.result) (plain_stops c.args.text.now fault h)
    (answers_of c.path_of_text.result (plain_path c.args.text.now) c.path_of_text.ensures.path c.path_of_text.ensures.fault)
