use Rattle.std.proofs.Common.{sym, subst}
use Rattle.lock_core.specs.Sound.{AllFit}
use Rattle.path_locks.specs.declared.rule.Opening.{Opening}
use Rattle.path_locks.proofs.table.LockTable.start.Goals as goal

pub make_seats-places-requires-clause-fit : goal.make_seats-places-requires-clause-fit
make_seats-places-requires-clause-fit g c =
    subst (λ (z : Opening g.row.P-Entry.Denot g.row.K.Denot). AllFit g.P.Parted.object z.journal.value.entries) (sym c.in_ok-memory.ensures.key)
    (subst (λ z. AllFit g.P.Parted.object z.entries) (sym c.of.ensures) c.requires.fit)
