use Rattle.namespace_model.proofs.ApartTrees.{seen_alone, agree_after, others_kept, no_number_told, alike_after, moves_inside}
use Rattle.namespace_model.proofs.laws.filesystems_are_apart.Goals as goal

pub returns : goal.returns
returns c = record { sees = seen_alone; agrees = agree_after; others = others_kept; no_number = no_number_told; alike = alike_after; moves = moves_inside }
