use Rattle.std.proofs.Common.{ap, sym, [], ◌∷◌, ◌++◌, ◌∙◌, rules, tests}
use Rattle.std.specs.List.{filter_map}
use Rattle.std.proofs.lemmas.Iterator.Splits.{YieldsList-from_slice_split}
use Rattle.std.proofs.lemmas.Iterator.Consumers.{YieldsList-end}
use Rattle.head_text.specs.ETags.{is_comma, item_number}
use Rattle.head_text.proofs.TagLemmas.{with_number, without_number}
use Rattle.head_text.proofs.read_tags.numbers_of.Goals as goal

pub returns : goal.returns
returns c =
    let t = YieldsList-end (YieldsList-from_slice_split {s = c.into_iter-item-iterator.result} _ is_comma c.args.text.now (cc) (cc) c.split-item-items.ensures.closure (λ x r q k. search (rules, tests))) c.loop-item.yielded _ c.loop-item.yielded_by _ _ c.in-None.is c.next.ensures.steps in
    c.loop-item.invariant ∙ ap (filter_map item_number) t.0

pub loop-item-preserved-in-Continue-1 : goal.loop-item-preserved-in-Continue-1
loop-item-preserved-in-Continue-1 c =
    c.in_ok-push-in-Some-item_number.ensures.items ∙ ap (λ ns. ns ++ c.in-Some-item_number.number ∷ []) c.loop-item.invariant
    ∙ with_number c.loop-item.yielded c.in-Some.item c.in-Some-item_number.number (sym c.item_number.ensures ∙ c.in-Some-item_number.is)

pub loop-item-preserved : goal.loop-item-preserved
loop-item-preserved c =
    c.loop-item.invariant ∙ without_number c.loop-item.yielded c.in-Some.item (sym c.item_number.ensures ∙ c.in-None-item_number.is)
