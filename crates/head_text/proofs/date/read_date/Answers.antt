use Rattle.std.proofs.Common.{sym}
use Rattle.head_text.proofs.date.read_date.Goals as goal

pub returns-in-Ok-clause-found : goal.returns-in-Ok-clause-found
returns-in-Ok-clause-found c = (c.in-Ok.date, c.in-Ok.ensures.shown, sym c.unix_secs.ensures.value)
