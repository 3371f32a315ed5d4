use Rattle.std.proofs.Common.{ap, ◌∙◌, rules, tests}
use Rattle.path_text.specs.Names.{is_name, is_slash}
use Rattle.path_text.proofs.NameLemmas.{name_at}
use Rattle.std.proofs.lemmas.Iterator.Splits.{YieldsList-from_slice_split}
use Rattle.std.proofs.lemmas.Iterator.Consumers.{YieldsList-end, YieldsList-turn}
use Rattle.path_text.proofs.plain.names_between.Goals as goal

pub returns : goal.returns
returns c =
    let t = YieldsList-end (YieldsList-from_slice_split {s = c.into_iter-part-iterator.result} _ is_slash c.args.rest.now (cc) (cc) c.split-part-items.ensures.closure (λ x r q k. search (rules, tests))) c.loop-part.yielded _ c.loop-part.yielded_by _ _ c.in-None.is c.next.ensures.steps in
    c.loop-part.invariant ∙ t.0

pub of_bytes-requires : goal.of_bytes-requires
of_bytes-requires c =
    let t = YieldsList-turn (YieldsList-from_slice_split {s = c.into_iter-part-iterator.result} _ is_slash c.args.rest.now (cc) (cc) c.split-part-items.ensures.closure (λ x r q k. search (rules, tests))) c.loop-part.yielded _ c.loop-part.yielded_by _ _ c.in-Some.part c.in-Some.is c.next.ensures.steps in
    ap is_name t.1 ∙ name_at _ _ _ c.requires t.0
