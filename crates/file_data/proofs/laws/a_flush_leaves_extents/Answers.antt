use Rattle.file_data.proofs.ExtentLemmas.{extents_stay}
use Rattle.file_data.proofs.laws.a_flush_leaves_extents.Goals as goal

pub returns : goal.returns
returns c = extents_stay
