use Rattle.file_data.proofs.OrderLemmas.{ends_at_limit}
use Rattle.file_data.proofs.data.FileData.can_append_flush.Goals as goal

pub append_trouble-requires-clause-within : goal.append_trouble-requires-clause-within
append_trouble-requires-clause-within c = ends_at_limit c.args.self.now c.args.position c.args.len c.in_ok-can_stage.ensures.answer
