use Rattle.std.proofs.Common.{List, sym, subst}
use Rattle.lock_core.specs.declared.object.LockMode.{LockMode}
use Rattle.path_locks.specs.Plans.{AreHeld}
use Rattle.path_locks.proofs.Extended.{held_more}
use Rattle.striped_store.proofs.Counts.{counts_same}
use Rattle.striped_store.proofs.store.Store.extend.Goals as goal

pub invariant_of-pass : goal.invariant_of-pass
invariant_of-pass g c = (
  counts_same g.P.Entry.Bodied.uses c.pass.inside.seat c.extend.new.seat c.pass.inside.plan c.set.new.self _ _ c.pass.invariant.0 c.extend.ensures.same c.extend.ensures.seen
      c.extend.ensures.mine c.extend.ensures.journal
      (subst (λ (z : List LockMode). AreHeld z 64 c.extend.new.seat.me.0.at.holds) (sym c.set.ensures)
      (held_more c.pass.inside.plan c.args.stripe c.args.mode c.pass.inside.seat.me.0.at.holds c.extend.new.seat.me.0.at.holds c.pass.invariant.0.held c.extend.ensures.there c.extend.ensures.others)),
  c.pass.invariant.1,
  c.pass.invariant.2,
)
