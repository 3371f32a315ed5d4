use Rattle.std.proofs.Common.{◌∷◌, refl, ap}
use Rattle.path_order.proofs.WholeLemmas.{all_below}
use Rattle.acl_recursive.proofs.WalkLemmas.{seen_of, top_ahead}
use Rattle.acl_recursive.proofs.walk.at_top.Goals as goal

pub returns-clause-walk : goal.returns-clause-walk
returns-clause-walk c = λ held shown p is. top_ahead held shown p c.args.top.now _ _ _ refl (ap (seen_of c.args.top.now.id) c.in_ok-copy.ensures) c.in_ok-copy-2.ensures c.start.ensures is

pub returns-clause-all : goal.returns-clause-all
returns-clause-all c = λ t p. ap (λ l. p ∷ l) (all_below t p)
