use Rattle.std.proofs.Common.{◌≡◌, ◌<◌, refl, ap, ◌∙◌, arith}
use Rattle.commit_journal.specs.Limits.{LimitNumbers}
use Rattle.serving.proofs.CompleteLemmas.{completes}
use Rattle.serving.proofs.ServeLemmas.{fault_reads, refusal_reads, serving-start, spent, done, refused, turned_away, cut_off, closed, next_turn}
use Rattle.serving.proofs.connection.serve.Goals as goal

pub serving-init : goal.serving-init
serving-init g c = record {
  serving = serving-start _ _ _ _ _ (g.D.Desk.limits c.args.desk.now) _ _ _ _ _ c.new-reader.ensures.none c.requests_max-most.ensures.own;
  not_over = c.new-reader.ensures.not_over;
  same_limits = refl;
  same_conn = refl;
  same_own = refl;
  same_over = refl;
  reads = refl;
  writes = refl;
}

pub returns-in-Ok-Ended-clause-served : goal.returns-in-Ok-Ended-clause-served
returns-in-Ok-Ended-clause-served g c =
    let short : c.serving.index < (g.D.Desk.limits c.args.desk.now).requests_max = rw (← c.requests_max-most.ensures.value) c.serving-test.true in
    let reads = rw (c.in-Ok-Ended.is, c.in-Ok-Ended.field-0-is) at (c.next.ensures.answered c.serving.invariant.not_over) in
    done _ _ _ _ _ _ _ _ _ _ _ _ _ _ _ _ _ _ c.serving.invariant.serving short reads

pub returns-in-Err-clause-served : goal.returns-in-Err-clause-served
returns-in-Err-clause-served g c =
    let short : c.serving.index < (g.D.Desk.limits c.args.desk.now).requests_max = rw (← c.requests_max-most.ensures.value) c.serving-test.true in
    let reads = rw c.in-Err.is at (c.next.ensures.answered c.serving.invariant.not_over) in
    refused _ _ _ _ _ _ _ _ _ _ _ _ _ _ _ _ _ _ _ _ _ c.serving.invariant.serving short reads c.refuse_bytes.ensures.refused

pub returns-in-Err-answer-clause-served : goal.returns-in-Err-answer-clause-served
returns-in-Err-answer-clause-served g c =
    let inv = c.serving.invariant in
    let short : c.serving.index < (g.D.Desk.limits c.args.desk.now).requests_max = rw (← c.requests_max-most.ensures.value) c.serving-test.true in
    let reads = rw (c.in-Ok-Request.is, c.in-Ok-Request.field-0-is) at (c.next.ensures.answered inv.not_over) in
    turned_away _ _ _ _ _ _ _ _ _ _ _ _ _ _ _ _ _ _ _ _ _ _ _ inv.serving short reads
    (rw inv.same_own at c.in-Err-answer.ensures.refused) (rw inv.same_limits at c.in-Err-answer.ensures.full) c.refuse_request.ensures.refused

pub returns-in-Err-write_all-clause-served : goal.returns-in-Err-write_all-clause-served
returns-in-Err-write_all-clause-served g c =
    let inv = c.serving.invariant in
    let short : c.serving.index < (g.D.Desk.limits c.args.desk.now).requests_max = rw (← c.requests_max-most.ensures.value) c.serving-test.true in
    let reads = rw (c.in-Ok-Request.is, c.in-Ok-Request.field-0-is) at (c.next.ensures.answered inv.not_over) in
    cut_off _ _ _ _ _ _ _ _ _ _ _ _ _ _ _ _ _ _ _ _ _ _ _ inv.serving short reads
    (rw (inv.same_own, inv.same_conn) at c.in-Ok.ensures.answered) (rw c.as_slice.ensures.value at c.in-Err-write_all.ensures.written)

pub returns-then-response-clause-served : goal.returns-then-response-clause-served
returns-then-response-clause-served g c =
    let inv = c.serving.invariant in
    let short : c.serving.index < (g.D.Desk.limits c.args.desk.now).requests_max = rw (← c.requests_max-most.ensures.value) c.serving-test.true in
    let reads = rw (c.in-Ok-Request.is, c.in-Ok-Request.field-0-is) at (c.next.ensures.answered inv.not_over) in
    closed _ _ _ _ _ _ _ _ _ _ _ _ _ _ _ _ _ _ _ _ _ _ _ inv.serving short reads
    (rw (inv.same_own, inv.same_conn) at c.in-Ok.ensures.answered) (rw c.as_slice.ensures.value at c.in-Ok-write_all.ensures.written)
    (rw c.in-Ok.ensures.closes at c.if-response.true)

pub serving-preserved : goal.serving-preserved
serving-preserved g c =
    let inv = c.serving.invariant in
    let reads = rw (c.in-Ok-Request.is, c.in-Ok-Request.field-0-is) at (c.next.ensures.answered inv.not_over) in
    record {
      serving =
          next_turn _ _ _ _ _ (g.D.Desk.limits c.args.desk.now) _ _ _ _ _ _ _ _ _ _ _ _ _ _ _ _ _ inv.serving reads
          (rw (inv.same_own, inv.same_conn) at c.in-Ok.ensures.answered) (rw c.as_slice.ensures.value at c.in-Ok-write_all.ensures.written)
          (rw c.in-Ok.ensures.closes at c.if-response.false);
      not_over = rw c.in-Ok-Request.field-0-is at c.in-Ok-Request.ensures.over;
      same_limits = c.in-Ok.ensures.same_limits ∙ inv.same_limits;
      same_conn = c.in-Ok.ensures.same_conn ∙ inv.same_conn;
      same_own = c.in-Ok.ensures.same_own ∙ inv.same_own;
      same_over = c.in-Ok.ensures.same_over ∙ inv.same_over;
      reads = c.in-Ok-Request.ensures.counts ∙ inv.reads;
      writes = c.in-Ok-write_all.ensures.counts.kept ∙ inv.writes;
    }

pub returns-clause-served : goal.returns-clause-served
returns-clause-served g c =
    let at : c.serving.index ≡ c.requests_max-most.result = omega (arith, c.serving.auto.index-end) in
    rw (← at) (spent _ _ _ _ _ _ _ _ _ _ _ _ _ _ _ _ c.serving.invariant.serving (at ∙ c.requests_max-most.ensures.value))

pub returns-in-Ok-Ended-clause-complete : goal.returns-in-Ok-Ended-clause-complete
returns-in-Ok-Ended-clause-complete g c =
    completes _ _ _ _ _ _ _ _ _ _ _ _ _ _ _ _ _ _ _ (returns-in-Ok-Ended-clause-served g c) (c.in-Ok-Ended.ensures.counts ∙ c.serving.invariant.reads) c.serving.invariant.writes

pub returns-in-Err-clause-complete : goal.returns-in-Err-clause-complete
returns-in-Err-clause-complete g c =
    let reads = fault_reads _ _ _ (g.K.Sink.out c.serving.sink) (g.K.Sink.out c.refuse_bytes.new.sink) c.in-Err.fault c.refuse_bytes.result c.serving.invariant.reads c.in-Err.ensures.counts c.refuse_bytes.ensures.refused in
    completes _ _ _ _ _ _ _ _ _ _ _ _ _ _ _ _ _ _ _ (returns-in-Err-clause-served g c) reads (rw c.serving.invariant.writes at c.refuse_bytes.ensures.counts)

pub returns-in-Err-answer-clause-complete : goal.returns-in-Err-answer-clause-complete
returns-in-Err-answer-clause-complete g c =
    let reads = refusal_reads _ _ (g.K.Sink.out c.serving.sink) (g.K.Sink.out c.refuse_request.new.sink) c.in-Err-answer.refusal c.refuse_request.result
    (c.in-Ok-Request.ensures.counts ∙ c.serving.invariant.reads) c.refuse_request.ensures.refused in
    completes _ _ _ _ _ _ _ _ _ _ _ _ _ _ _ _ _ _ _ (returns-in-Err-answer-clause-served g c) reads (rw c.serving.invariant.writes at c.refuse_request.ensures.counts)

pub returns-then-response-clause-complete : goal.returns-then-response-clause-complete
returns-then-response-clause-complete g c =
    completes _ _ _ _ _ _ _ _ _ _ _ _ _ _ _ _ _ _ _ (returns-then-response-clause-served g c) (c.in-Ok-Request.ensures.counts ∙ c.serving.invariant.reads) (c.in-Ok-write_all.ensures.counts.kept ∙ c.serving.invariant.writes)

pub returns-clause-complete : goal.returns-clause-complete
returns-clause-complete g c =
    completes _ _ _ _ _ _ _ _ _ _ _ _ _ _ _ _ _ _ _ (returns-clause-served g c) c.serving.invariant.reads c.serving.invariant.writes
