use Rattle.std.proofs.Common.{◌∷◌, ◌++◌}
use Rattle.op_decode.proofs.HeaderLemmas.{alike_but_for_unknown, decoded_same}
use Rattle.op_decode.proofs.laws.other_headers_are_ignored.Goals as goal

pub returns : goal.returns
returns c raw front back header e off =
    decoded_same raw (front ++ header ∷ back) (front ++ back) (alike_but_for_unknown front back header e off)
