use Rattle.std.proofs.Common.{List, sym, subst}
use Rattle.lock_core.specs.declared.object.LockMode.{LockMode}
use Rattle.path_locks.specs.Plans.{no_plan}
use Rattle.striped_store.specs.Passes.{KeepsCount}
use Rattle.striped_store.proofs.Counts.{nothing_held, counts_same}
use Rattle.striped_store.proofs.store.Store.finish.Goals as goal

pub invariant_of-pass : goal.invariant_of-pass
invariant_of-pass g c = (
  subst (λ (p : List LockMode). KeepsCount g.P.Entry.Bodied.uses c.release.new.seat p c.pass.inside.number c.pass.inside.used) (sym c.none-pass-inside.ensures)
      (counts_same g.P.Entry.Bodied.uses c.pass.inside.seat c.release.new.seat c.pass.inside.plan no_plan _ _ c.pass.invariant.0 c.release.ensures.same c.release.ensures.seen
      c.release.ensures.mine c.release.ensures.nothing.idle.no_journal (nothing_held c.release.new.seat c.release.ensures.nothing)),
  c.pass.invariant.1,
  c.pass.invariant.2,
)
