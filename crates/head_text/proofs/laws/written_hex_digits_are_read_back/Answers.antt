use Rattle.head_text.proofs.HexLemmas.{hex16_is_read}
use Rattle.head_text.proofs.laws.written_hex_digits_are_read_back.Goals as goal

pub returns : goal.returns
returns c = hex16_is_read
