use Rattle.path_order.proofs.FollowLemmas.{pages_cover}
use Rattle.path_order.proofs.laws.pages_cover_their_list.Goals as goal

pub returns : goal.returns
returns c = pages_cover
