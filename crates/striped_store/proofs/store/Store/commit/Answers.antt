use Rattle.std.proofs.Common.{◌≡◌, ℕ, ◌+◌, ◌≤◌, List, sym, ◌∙◌, subst, arith}
use Rattle.lock_core.specs.declared.object.LockMode.{LockMode}
use Rattle.lock_core.specs.declared.object.LockMode.TheVariants as mode
use Rattle.lock_core.specs.declared.machine.Hold.{Hold}
use Rattle.path_locks.specs.Plans.{no_plan, AreHeld}
use Rattle.striped_store.specs.Views.{PassView}
use Rattle.striped_store.specs.Passes.{KeepsCount}
use Rattle.striped_store.specs.Commits.{ArePartsOf}
use Rattle.striped_store.proofs.Counts.{counts_again, counts_more}
use Rattle.striped_store.proofs.Footprints.{bits_of_holds, tells_footprint}
use Rattle.striped_store.proofs.store.Store.commit.Goals as goal

pub invariant_of-pass : goal.invariant_of-pass
invariant_of-pass g c = (
  counts_again g.P.Entry.Bodied.uses c.pass.inside.seat c.commit_seat.new.seat c.pass.inside.plan c.pass.inside.plan _ _ c.pass.invariant.0 c.commit_seat.ensures.same
      c.in-Err.ensures.mine c.commit_seat.ensures.within.few c.commit_seat.ensures.own c.commit_seat.ensures.journal
      (subst (λ (z : List (Hold g.row.P-Part.Denot)). AreHeld c.pass.inside.plan 64 z) (sym c.in-Err.ensures.back.holds) c.pass.invariant.0.held),
  c.pass.invariant.1,
  c.pass.invariant.2,
)

pub invariant_of-pass-in-Ok : goal.invariant_of-pass-in-Ok
invariant_of-pass-in-Ok g c =
    let few : g.P.Entry.Bodied.uses c.args.entry ≤ 255 = omega (arith, c.uses_len-uses.ensures, c.uses_len-uses.type_inv) in
    let count : c.from.result ≡ g.P.Entry.Bodied.uses c.args.entry = c.from.ensures ∙ c.uses_len-uses.ensures in (
      subst (λ (p : List LockMode). KeepsCount g.P.Entry.Bodied.uses c.commit_seat.new.seat p c.pass.inside.number (c.pass.inside.used + c.from.result)) (sym c.none-pass-inside.ensures)
          (subst (λ (n : ℕ). KeepsCount g.P.Entry.Bodied.uses c.commit_seat.new.seat no_plan c.pass.inside.number (c.pass.inside.used + n)) (sym count)
          (counts_more g.P.Entry.Bodied.uses c.pass.inside.seat c.commit_seat.new.seat c.pass.inside.plan _ _ c.args.entry c.pass.invariant.0 c.commit_seat.ensures.same
          c.in-Ok.ensures.mine c.commit_seat.ensures.within.few c.commit_seat.ensures.own c.in-Ok.ensures.nothing few)),
      c.pass.invariant.1,
      c.pass.invariant.2,
    )

pub returns-clause-parts : goal.returns-clause-parts
returns-clause-parts g c = λ h is.
    subst (λ (z : PassView g.row.P-Part.Denot g.row.P-Entry.Denot g.row.K.Denot). ArePartsOf g.P.Parted.object h z.seat) c.pass.view_is (c.in-Ok.ensures.parts h is)

pub returns-clause-holds : goal.returns-clause-holds
returns-clause-holds g c =
    let held = subst (λ (z : PassView g.row.P-Part.Denot g.row.P-Entry.Denot g.row.K.Denot). AreHeld c.pass.inside.plan 64 z.seat.me.0.at.holds) c.pass.view_is c.pass.invariant.0.held in
    record {
      shared = bits_of_holds c.pass.inside.plan c.args.pass.now.seat.me.0.at.holds mode.Shared c.stripes_in-shared.result held c.stripes_in-shared.ensures.whole
          c.stripes_in-shared.ensures.bits;
      exclusive = bits_of_holds c.pass.inside.plan c.args.pass.now.seat.me.0.at.holds mode.Exclusive c.stripes_in-exclusive.result held c.stripes_in-exclusive.ensures.whole
          c.stripes_in-exclusive.ensures.bits;
    }

pub returns-clause-footprint : goal.returns-clause-footprint
returns-clause-footprint g c = λ h is.
    let held = subst (λ (z : PassView g.row.P-Part.Denot g.row.P-Entry.Denot g.row.K.Denot). AreHeld c.pass.inside.plan 64 z.seat.me.0.at.holds) c.pass.view_is c.pass.invariant.0.held in
    let parts = subst (λ (z : PassView g.row.P-Part.Denot g.row.P-Entry.Denot g.row.K.Denot). ArePartsOf g.P.Parted.object h z.seat) c.pass.view_is (c.in-Ok.ensures.parts h is) in
    tells_footprint g.P.Parted.object g.met.P.Parted.lawful c.args.pass.now.seat c.args.entry h c.requires.can parts _ (record {
      shared = bits_of_holds c.pass.inside.plan c.args.pass.now.seat.me.0.at.holds mode.Shared c.stripes_in-shared.result held c.stripes_in-shared.ensures.whole
          c.stripes_in-shared.ensures.bits;
      exclusive = bits_of_holds c.pass.inside.plan c.args.pass.now.seat.me.0.at.holds mode.Exclusive c.stripes_in-exclusive.result held c.stripes_in-exclusive.ensures.whole
          c.stripes_in-exclusive.ensures.bits;
    })
