use Rattle.namespace_model.proofs.RenameLaw.{renames_move}
use Rattle.namespace_model.proofs.laws.renames_move_a_subtree.Goals as goal

pub returns : goal.returns
returns c = λ t e number path source props is sound asked coded. renames_move t is e sound number path source props asked coded
