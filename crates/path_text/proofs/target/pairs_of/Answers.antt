use Rattle.std.proofs.Common.{ap, map, ◌∙◌, rules, tests}
use Rattle.std.proofs.lemmas.Iterator.Splits.{YieldsList-from_slice_split}
use Rattle.std.proofs.lemmas.Iterator.Consumers.{YieldsList-end}
use Rattle.path_text.specs.Queries.{is_ampersand}
use Rattle.path_text.specs.Targets.{pair_of}
use Rattle.path_text.proofs.target.pairs_of.Goals as goal

pub returns : goal.returns
returns c =
    let t = YieldsList-end (YieldsList-from_slice_split {s = c.into_iter-piece-iterator.result} _ is_ampersand c.args.text.now (cc) (cc) c.split-piece-items.ensures.closure (λ x r q k. search (rules, tests))) c.loop-piece.yielded _ c.loop-piece.yielded_by _ _ c.in-None.is c.next.ensures.steps in
    c.loop-piece.invariant ∙ ap (map pair_of) t.0
