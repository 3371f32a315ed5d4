use Rattle.striped_store.proofs.Using.{IsThrough}
use Rattle.striped_store.proofs.used.used_ids.Given as goal

abbrev pub invariant-loop-number : goal.invariant-loop-number
invariant-loop-number g l = IsThrough g.P.Parted.object g.P.Entry.Bodied.uses l.fn.journal.entries l.number l.used
