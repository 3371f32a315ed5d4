use Rattle.std.proofs.Common.{◌∷◌, ◌++◌}
use Rattle.op_decode.proofs.HeaderLemmas.{alike_behind_the_first, decoded_same}
use Rattle.op_decode.proofs.laws.the_first_of_a_name_counts.Goals as goal

pub returns : goal.returns
returns c raw front back header e =
    decoded_same raw (front ++ header ∷ back) (front ++ back) (alike_behind_the_first front back header e)
