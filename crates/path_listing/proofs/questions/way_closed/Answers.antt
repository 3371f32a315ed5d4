use Rattle.std.proofs.Common.{◌≡◌, ◌+◌, ◌<◌, length, drop, refl, sym, ap, ◌∙◌, arith}
use Rattle.namespace_model.specs.Refusals.{or_else}
use Rattle.path_walk.proofs.Truths.{is_none}
use Rattle.path_listing.specs.Listed.{way_closed}
use Rattle.path_listing.proofs.RowLemmas.{way_one, way_none}
use Rattle.path_listing.proofs.questions.way_closed.Goals as goal

pub returns-in-Some : goal.returns-in-Some
returns-in-Some c =
    sym (way_one c.args.caller.now c.args.token.now c.args.names c.loop-seen.depth _ c.args.way.now c.loop-seen.seen-index c.seen-item.result _
    (let a = c.loop-seen-test.true in let b = c.loop-seen.auto.seen-index-end in let h : c.loop-seen.seen-index < length c.args.way.now = omega arith in h) c.seen-item.is refl c.in_ok-reply.ensures c.loop-seen.invariant.left
    ∙ ap (λ o. or_else o (way_closed c.args.caller.now c.args.token.now (c.loop-seen.depth + 1) (drop (c.loop-seen.seen-index + 1) c.args.way.now))) c.in-Some.is)

pub loop-seen-preserved : goal.loop-seen-preserved
loop-seen-preserved c = record {
  depth = let e = c.loop-seen.invariant.depth in omega arith;
  left = way_one c.args.caller.now c.args.token.now c.args.names c.loop-seen.depth _ c.args.way.now c.loop-seen.seen-index c.seen-item.result _
      (let a = c.loop-seen-test.true in let b = c.loop-seen.auto.seen-index-end in let h : c.loop-seen.seen-index < length c.args.way.now = omega arith in h) c.seen-item.is refl c.in_ok-reply.ensures c.loop-seen.invariant.left
      ∙ ap (λ o. or_else o (way_closed c.args.caller.now c.args.token.now (c.loop-seen.depth + 1) (drop (c.loop-seen.seen-index + 1) c.args.way.now))) (is_none _ c.in_default.not-Some);
}

pub returns : goal.returns
returns c =
    way_none c.args.caller.now c.args.token.now c.args.names c.loop-seen.depth c.args.way.now c.loop-seen.seen-index
    (let a = c.loop-seen-test.false in let b = c.loop-seen.auto.seen-index-end in let h : c.loop-seen.seen-index ≡ length c.args.way.now = omega arith in h) c.loop-seen.invariant.left
