use Rattle.std.proofs.Common.{None}
use Rattle.namespace_model.proofs.PageLaws.{followed_covers, page_is_above, batches_write_above}
use Rattle.namespace_model.proofs.laws.pages_cover_their_course.Goals as goal

pub returns : goal.returns
returns c = record {
  covered = λ course less t ts followed. followed_covers course less None t ts followed;
  behind = λ course max token t q among. page_is_above course max token t q among;
  written = λ t e path change token max force is asked q among. batches_write_above t is e path change token max force asked q among;
}
