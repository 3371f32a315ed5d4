use Rattle.std.proofs.Common.{sym, subst}
use Rattle.path_locks.specs.Views.{IsHeldBy}
use Rattle.striped_store.specs.Views.{PassView}
use Rattle.striped_store.proofs.Counts.{looked_held, counts_same}
use Rattle.striped_store.proofs.store.Store.look.Goals as goal

pub invariant_of-pass : goal.invariant_of-pass
invariant_of-pass g c =
    let held = subst (λ (z : PassView g.row.P-Part.Denot g.row.P-Entry.Denot g.row.K.Denot). IsHeldBy g.P.Parted.bare z.seat c.args.held.now) (sym c.pass.view_is) c.requires.held in (
      counts_same g.P.Entry.Bodied.uses c.pass.inside.seat c.look.new.seat c.pass.inside.plan c.pass.inside.plan _ _ c.pass.invariant.0 c.look.ensures.same c.look.ensures.seen
          c.look.ensures.mine c.look.ensures.journal
          (looked_held g.P.Parted.bare c.pass.inside.seat c.look.new.seat c.args.held.now c.pass.inside.plan c.args.stripe _ c.requires.stripe c.requires.some held c.look.ensures.held
          c.look.ensures.looked.2 c.look.ensures.others c.pass.invariant.0.held),
      c.pass.invariant.1,
      c.pass.invariant.2,
    )
