use Rattle.std.proofs.Common.{arith}
use Rattle.std.proofs.lemmas.List.Splits.{length-slice_split}
use Rattle.std.proofs.lemmas.Bool.Decides.{nat_tests}
use Rattle.path_text.specs.Names.{is_slash}
use Rattle.path_text.specs.Texts.{size_fault, split_parts}
use Rattle.path_text.proofs.plain.size_fault.Goals as goal

pub returns-then-slashes-ge-DEPTH_MOST : goal.returns-then-slashes-ge-DEPTH_MOST
unfolding size_fault split_parts
returns-then-slashes-ge-DEPTH_MOST c =
    let long = length-slice_split is_slash c.args.rest.now in
    grind (arith, nat_tests)

pub returns : goal.returns
unfolding size_fault split_parts
returns c =
    let long = length-slice_split is_slash c.args.rest.now in
    grind (arith, nat_tests)
