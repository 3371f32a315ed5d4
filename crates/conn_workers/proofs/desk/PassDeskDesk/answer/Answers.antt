use Rattle.std.proofs.Common.{length, map, sym, subst}
use Rattle.engine.specs.Solos.{as_asked}
use Rattle.path_locks.specs.Alike.{limits_of}
use Rattle.serving.specs.Answered.{Answered, HasFull}
use Rattle.serving.specs.Known.{Grew}
use Rattle.striped_store.specs.Views.{number_of_pass, seen_by}
use Rattle.conn_workers.specs.Counted.{entry_in, is_by}
use Rattle.conn_workers.specs.Desks.{AsksLast, Sitter, known_by}
use Rattle.conn_workers.proofs.DeskLemmas.{pass_answers, pass_refused, pass_full}
use Rattle.conn_workers.proofs.desk.PassDeskDesk.answer.Goals as goal

pub returns-clause-answered : goal.returns-clause-answered
returns-clause-answered g c =
    subst (λ (d : Sitter _). Answered entry_in (is_by (number_of_pass d.pass)) as_asked AsksLast d.conn (known_by d.pass) (known_by c.submit.new.self.pass)
    (g.C.Clock.ahead c.args.clock.now) (g.C.Clock.ahead c.submit.new.clock) c.args.index c.args.request c.in-Ok.answer.bytes.items) c.self.view_is
    (pass_answers c.self.inside.pass.now.pass c.submit.new.self.pass (g.C.Clock.ahead c.args.clock.now) (g.C.Clock.ahead c.submit.new.clock)
    (record { conn = c.self.inside.conn; index = c.args.index; request = c.args.request }) c.in-Ok.answer c.submit.ensures.again c.self.invariant.found c.submit.ensures.found
    c.in-Ok.ensures.ok c.in-Ok.ensures.ticked c.in-Ok.ensures.rounds.0 c.in-Ok.ensures.rounds.1)

pub returns-in-Err-clause-refused : goal.returns-in-Err-clause-refused
returns-in-Err-clause-refused g c =
    subst (λ (d : Sitter _). Grew (is_by (number_of_pass d.pass)) (known_by d.pass) (known_by c.submit.new.self.pass) _) c.self.view_is
    (pass_refused c.self.inside.pass.now.pass c.submit.new.self.pass c.submit.ensures.again c.self.invariant.found c.submit.ensures.found c.in-Err.ensures.refused)

pub returns-in-Err-clause-full : goal.returns-in-Err-clause-full
returns-in-Err-clause-full g c =
    subst (λ (d : Sitter _). HasFull c.refusal_of.result (map entry_in (seen_by c.submit.new.self.pass)) (limits_of d.pass.seat) (length c.args.request.body)) c.self.view_is
    (subst (λ r. HasFull r (map entry_in (seen_by c.submit.new.self.pass)) (limits_of c.self.inside.pass.now.pass.seat) (length c.args.request.body)) (sym c.refusal_of.ensures)
    (pass_full c.self.inside.pass.now.pass c.submit.new.self.pass (length c.args.request.body) c.in-Err.refusal c.submit.ensures.again c.in-Err.ensures.caused))
