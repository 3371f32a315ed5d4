use Rattle.std.proofs.Common.{ℕ, ◌++◌, ◌-◌, List, length, take, drop, ap, sym, subst, ◌∙◌, arith}
use Rattle.file_data.specs.Staging.{bytes_of, Ascends}
use Rattle.file_data.proofs.StagingLemmas.{Ascends-drop}
use Rattle.file_data.proofs.ExtentLemmas.{extents_ascend, rest_is, range_of_rest}
use Rattle.file_data.proofs.extents.append_range.Goals as goal

pub count_below-requires : goal.count_below-requires
count_below-requires c = extents_ascend (bytes_of c.args.extents.now) c.args.extents.now c.requires.lie

pub count_below-count-requires : goal.count_below-count-requires
count_below-count-requires c =
    subst Ascends (sym (rest_is c.args.extents.now c.saturating_sub-first.result))
    (Ascends-drop c.saturating_sub-first.result c.args.extents.now (extents_ascend (bytes_of c.args.extents.now) c.args.extents.now c.requires.lie))

pub append_parts-requires-clause-room : goal.append_parts-requires-clause-room
append_parts-requires-clause-room c =
    let fits = (range_of_rest c.args.extents.now (take (length c.args.extents.now - c.saturating_sub-first.result) (drop c.saturating_sub-first.result c.args.extents.now))
    c.count_below.result c.saturating_sub-first.result c.count_below-count.result c.args.from c.args.to c.requires.lie c.count_below.ensures.within c.saturating_sub-first.ensures
    c.count_below.ensures.front (sym (rest_is c.args.extents.now c.saturating_sub-first.result)) c.count_below-count.ensures.back).1 in
    omega arith

pub returns : goal.returns
returns c =
    let same = (range_of_rest c.args.extents.now (take (length c.args.extents.now - c.saturating_sub-first.result) (drop c.saturating_sub-first.result c.args.extents.now))
    c.count_below.result c.saturating_sub-first.result c.count_below-count.result c.args.from c.args.to c.requires.lie c.count_below.ensures.within c.saturating_sub-first.ensures
    c.count_below.ensures.front (sym (rest_is c.args.extents.now c.saturating_sub-first.result)) c.count_below-count.ensures.back).0 in
    record { appended = c.append_parts.ensures ∙ ap (λ (bs : List ℕ). c.args.out.now.items ++ bs) (sym same) }
