use Rattle.std.proofs.Common.{◌∙◌, subst}
use Rattle.path_walk.specs.Holds.{AreHeldToWrite, LacksStripe}
use Rattle.dir_rename.proofs.ShiftLemmas.{shift_draft, shift_need}
use Rattle.dir_rename.proofs.shift.settle_shift.Goals as goal

pub returns-in-Some : goal.returns-in-Some
returns-in-Some g c =
    shift_need (g.V.View.held c.args.view.now) (g.V.View.shown c.args.view.now) c.args.call.now.request.now c.args.call.now.moment c.args.call.now.fresh c.requires.call.sound c.requires.shift.0 c.args.reads.items c.args.shift c.requires.shift.1
    c.in-Some.need (subst (λ l. LacksStripe (g.V.View.held c.args.view.now) l c.in-Some.need) (c.as_slice.ensures.value ∙ c.in_ok-writes.ensures) c.in-Some.ensures)

pub returns : goal.returns
returns g c =
    shift_draft (g.V.View.held c.args.view.now) (g.V.View.shown c.args.view.now) c.args.call.now.request.now c.args.call.now.moment c.args.call.now.fresh c.requires.call.sound c.requires.shift.0 c.args.reads.items c.args.shift c.requires.shift.1
    _ c.requires.looked (subst (λ l. AreHeldToWrite (g.V.View.held c.args.view.now) l) (c.as_slice.ensures.value ∙ c.in_ok-writes.ensures) c.in_default.ensures) c.in_ok-shifted.ensures
