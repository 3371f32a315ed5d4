use Rattle.std.proofs.Common.{rules, tests}
use Rattle.std.proofs.lemmas.Iterator.Search.{all_from_yields_List}
use Rattle.std.proofs.lemmas.Iterator.Splits.{YieldsList-from_slice_split}
use Rattle.path_text.specs.Names.{is_hyphen, is_some_run}
use Rattle.path_text.proofs.name.has_single_hyphens.Goals as goal

pub returns : goal.returns
returns c =
    all_from_yields_List is_some_run _ _ _ c.all.ensures.ran
    (YieldsList-from_slice_split _ is_hyphen c.args.text.now c.split.ensures.rest c.split.ensures.done c.split.ensures.closure (λ x r q k. search (rules, tests)))
    (λ x b q k. search (rules, tests))
