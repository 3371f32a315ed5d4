use Rattle.std.proofs.Common.{◌+◌, sym, ap, ◌∙◌, arith, rules, tests}
use Rattle.std.proofs.lemmas.Iterator.Splits.{YieldsList-from_slice_split}
use Rattle.std.proofs.lemmas.Iterator.Consumers.{YieldsList-turn, YieldsList-end}
use Rattle.std.proofs.lemmas.List.{at_drop_all, length_push}
use Rattle.std.specs.List.{slice_split}
use Rattle.path_text.specs.Names.{is_slash}
use Rattle.path_text.specs.Texts.{parts_fault}
use Rattle.path_text.proofs.TextLemmas.{parts_fault-found, parts_fault-passed}
use Rattle.path_text.proofs.plain.parts_fault.Goals as goal

pub returns-then-is_some : goal.returns-then-is_some
returns-then-is_some c =
    let t = YieldsList-turn (YieldsList-from_slice_split {s = c.into_iter-part-iterator.result} _ is_slash c.args.rest.now (cc) (cc) c.split-part-items.ensures.closure (λ x r q k. search (rules, tests))) c.loop-part.yielded _ c.loop-part.yielded_by _ _ c.in-Some.part c.in-Some.is c.next.ensures.steps in
    parts_fault-found _ c.loop-part.place _ _ _ c.loop-part.invariant.0 t c.loop-part.invariant.1 c.part_fault-fault.ensures (sym c.is_some.ensures ∙ c.if-is_some.true)

pub loop-part-preserved : goal.loop-part-preserved
loop-part-preserved c =
    let t = YieldsList-turn (YieldsList-from_slice_split {s = c.into_iter-part-iterator.result} _ is_slash c.args.rest.now (cc) (cc) c.split-part-items.ensures.closure (λ x r q k. search (rules, tests))) c.loop-part.yielded _ c.loop-part.yielded_by _ _ c.in-Some.part c.in-Some.is c.next.ensures.steps in
    let n = length_push c.loop-part.yielded c.in-Some.part in
    (ap (λ k. k + 1) c.loop-part.invariant.0 ∙ sym n, parts_fault-passed _ c.loop-part.place _ _ _ c.loop-part.invariant.0 t c.loop-part.invariant.1 c.part_fault-fault.ensures (sym c.is_some.ensures ∙ c.if-is_some.false))

pub returns : goal.returns
returns c =
    let t = YieldsList-end (YieldsList-from_slice_split {s = c.into_iter-part-iterator.result} _ is_slash c.args.rest.now (cc) (cc) c.split-part-items.ensures.closure (λ x r q k. search (rules, tests))) c.loop-part.yielded _ c.loop-part.yielded_by _ _ c.in-None.is c.next.ensures.steps in
    let e = at_drop_all (parts_fault c.loop-part.place) (slice_split is_slash c.args.rest.now) c.loop-part.place (omega (arith, t.1)) in
    sym e ∙ c.loop-part.invariant.1
