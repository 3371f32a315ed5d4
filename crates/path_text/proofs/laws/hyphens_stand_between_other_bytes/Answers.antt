use Rattle.path_text.proofs.HyphenLemmas.{single_hyphens_stand, standing_hyphens_are_single}
use Rattle.path_text.proofs.laws.hyphens_stand_between_other_bytes.Goals as goal

pub returns : goal.returns
returns c = λ text. (single_hyphens_stand text, standing_hyphens_are_single text)
