use Rattle.followed_calls.proofs.CallLemmas.{tells_behind, writes_behind}
use Rattle.followed_calls.proofs.FollowLemmas.{tokens_cover}
use Rattle.followed_calls.proofs.laws.tokens_cover_their_course.Goals as goal

pub returns : goal.returns
returns c = record { covered = tokens_cover; behind = tells_behind; written = writes_behind }
