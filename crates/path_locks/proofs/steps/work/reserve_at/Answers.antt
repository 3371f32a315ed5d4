use Rattle.std.proofs.Common.{◌≡◌, refl, ap, sym, ◌∙◌}
use Rattle.std.specs.Prelude.{not, Option, None, Some, slice_get}
use Rattle.std.proofs.lemmas.Option.{slice_get_read}
use Rattle.path_locks.proofs.Below.{get-set_same}
use Rattle.path_locks.specs.Holding.{bared}
use Rattle.path_locks.specs.Working.{IsReady}
use Rattle.path_locks.proofs.Works.{changed_at, stays_none, is_none_is, got_placed, if_ok_more}
use Rattle.path_locks.proofs.steps.work.reserve_at.Goals as goal

pub returns-in-Some-clause-changed : goal.returns-in-Some-clause-changed
returns-in-Some-clause-changed g c =
    changed_at g.P.Parted.bare (λ q. q) _ _ _ c.args.at _ (Some c.reserve-done.new.part) c.pick.ensures.picked c.pick.ensures.left c.put.ensures
    (ap (λ (z : g.row.P-Part.Denot). Some z) c.reserve-done.ensures.same ∙ ap (λ (z : Option g.row.P-Part.Denot). bared g.P.Parted.bare z) (sym c.in-Some.is))

pub returns-in-Some-clause-ready : goal.returns-in-Some-clause-ready
returns-in-Some-clause-ready g c =
    if_ok_more c.reserve-done.result (λ _. g.P.Parted.ready c.reserve-done.new.part c.args.work.now)
    (λ _. (q : Option g.row.P-Part.Denot) × (slice_get c.put.new.parts.items c.args.at ≡ Some q) × IsReady g.P.Parted.ready c.args.work.now q)
    (λ _ r. (Some c.reserve-done.new.part, got_placed _ _ _ c.args.at _ _ c.pick.ensures.left c.put.ensures c.requires.place, r)) c.reserve-done.ensures.reserved

pub returns-then-is_none-clause-changed : goal.returns-then-is_none-clause-changed
returns-then-is_none-clause-changed g c = stays_none g.P.Parted.bare (λ q. q) c.args.parts.now.items c.args.at _ (slice_get_read c.args.parts.now.items _ c.args.at c.index.result.now refl c.requires.place c.index.ensures) (c.is_none.ensures ∙ ap not c.if-is_none.true) refl

pub returns-then-is_none-clause-ready : goal.returns-then-is_none-clause-ready
returns-then-is_none-clause-ready g c =
    (None, (slice_get_read c.args.parts.now.items _ c.args.at c.index.result.now refl c.requires.place c.index.ensures) ∙ ap (λ (z : Option g.row.P-Part.Denot). Some z) (is_none_is _ (c.is_none.ensures ∙ ap not c.if-is_none.true)), tt)

pub returns-in-None-clause-ready : goal.returns-in-None-clause-ready
returns-in-None-clause-ready g c =
    (None, ap (λ z. slice_get z c.args.at) c.pick.ensures.left ∙ get-set_same c.args.parts.now.items c.args.at None c.requires.place, tt)
