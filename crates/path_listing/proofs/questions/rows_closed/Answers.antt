use Rattle.std.proofs.Common.{◌≡◌, ◌+◌, ◌<◌, length, drop, sym, ap, ◌∙◌, arith}
use Rattle.namespace_model.specs.Refusals.{or_else}
use Rattle.path_walk.proofs.Truths.{is_none}
use Rattle.path_listing.specs.Listed.{rows_closed}
use Rattle.path_listing.proofs.RowLemmas.{rows_one, rows_none}
use Rattle.path_listing.proofs.questions.rows_closed.Goals as goal

pub returns-in-Some : goal.returns-in-Some
returns-in-Some c =
    sym (rows_one c.args.caller.now c.args.dir.now c.args.rows.now c.loop-row.row-index c.row-item.result _
    (let a = c.loop-row-test.true in let b = c.loop-row.auto.row-index-end in let h : c.loop-row.row-index < length c.args.rows.now = omega arith in h) c.row-item.is c.in_ok-reply.ensures c.loop-row.invariant
    ∙ ap (λ o. or_else o (rows_closed c.args.caller.now c.args.dir.now (drop (c.loop-row.row-index + 1) c.args.rows.now))) c.in-Some.is)

pub loop-row-preserved : goal.loop-row-preserved
loop-row-preserved c =
    rows_one c.args.caller.now c.args.dir.now c.args.rows.now c.loop-row.row-index c.row-item.result _
    (let a = c.loop-row-test.true in let b = c.loop-row.auto.row-index-end in let h : c.loop-row.row-index < length c.args.rows.now = omega arith in h) c.row-item.is c.in_ok-reply.ensures c.loop-row.invariant
    ∙ ap (λ o. or_else o (rows_closed c.args.caller.now c.args.dir.now (drop (c.loop-row.row-index + 1) c.args.rows.now))) (is_none _ c.in_default.not-Some)

pub returns : goal.returns
returns c =
    rows_none c.args.caller.now c.args.dir.now c.args.rows.now c.loop-row.row-index
    (let a = c.loop-row-test.false in let b = c.loop-row.auto.row-index-end in let h : c.loop-row.row-index ≡ length c.args.rows.now = omega arith in h) c.loop-row.invariant
