use Rattle.std.proofs.Common.{refl, ap, sym, ◌∙◌}
use Rattle.std.specs.Prelude.{not, Option, Some}
use Rattle.std.proofs.lemmas.Option.{slice_get_read}
use Rattle.path_locks.specs.Holding.{bared}
use Rattle.path_locks.specs.Working.{worked}
use Rattle.path_locks.proofs.Works.{changed_at, stays_none}
use Rattle.path_locks.proofs.steps.work.apply_at.Goals as goal

pub returns-in-Some : goal.returns-in-Some
returns-in-Some g c =
    changed_at g.P.Parted.bare (worked g.P.Parted.applied c.args.work.now c.args.number) _ _ _ c.args.at _ (Some c.apply.new.part) c.pick.ensures.picked c.pick.ensures.left c.put.ensures
    (ap (λ (z : g.row.P-Part.Denot). Some z) c.apply.ensures ∙ ap (λ (z : Option g.row.P-Part.Denot). worked g.P.Parted.applied c.args.work.now c.args.number (bared g.P.Parted.bare z)) (sym c.in-Some.is))

pub returns-then-is_none : goal.returns-then-is_none
returns-then-is_none g c = stays_none g.P.Parted.bare (worked g.P.Parted.applied c.args.work.now c.args.number) c.args.parts.now.items c.args.at _ (slice_get_read c.args.parts.now.items _ c.args.at c.index.result.now refl c.requires.place c.index.ensures) (c.is_none.ensures ∙ ap not c.if-is_none.true) refl
