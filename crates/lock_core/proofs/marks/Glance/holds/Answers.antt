use Rattle.lock_core.proofs.marks.Glance.holds.Goals as goal

pub returns : goal.returns
returns c = c.is_in.ensures
