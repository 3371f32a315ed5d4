use Rattle.head_text.proofs.HexLemmas.{etag_text_is_read}
use Rattle.head_text.proofs.laws.a_written_entity_tag_is_read_back.Goals as goal

pub returns : goal.returns
returns c = etag_text_is_read
