use Rattle.file_data.proofs.OrderLemmas.{two_staged, reordered_staged}
use Rattle.file_data.proofs.laws.pieces_are_staged_in_any_order.Goals as goal

pub returns-clause-two : goal.returns-clause-two
returns-clause-two c = two_staged

pub returns-clause-all : goal.returns-clause-all
returns-clause-all c = λ f ks ps h. reordered_staged ks ps f h
