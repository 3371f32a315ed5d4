use Rattle.op_decode.proofs.HeaderLemmas.{alike_in_any_case, decoded_same}
use Rattle.op_decode.proofs.laws.names_of_headers_have_no_case.Goals as goal

pub returns : goal.returns
returns c raw headers others e = decoded_same raw headers others (alike_in_any_case headers others e)
