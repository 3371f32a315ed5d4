use Rattle.std.proofs.Common.{◌≡◌, List, slice_get, slice_set, length, ap, sym, ◌∙◌, subst}
use Rattle.lock_core.specs.declared.object.LockMode.{LockMode}
use Rattle.lock_core.specs.declared.object.LockMode.TheVariants as mode
use Rattle.path_locks.specs.Views.{HeldView}
use Rattle.path_locks.specs.Narrow.{IsWithin, AreNarrowed}
use Rattle.path_locks.proofs.Rounds.{shared_within, shared_note, shared_others}
use Rattle.path_locks.proofs.table.LockTable.downgrade.Goals as goal

pub drop_extra-requires-clause-within : goal.drop_extra-requires-clause-within
drop_extra-requires-clause-within g c =
    let modes : c.held.inside.plan ≡ c.args.held.now.modes = ap (λ (z : HeldView g.row.P-Part.Denot). z.modes) c.held.view_is in
    subst (λ (z : List LockMode). IsWithin z c.args.held.now.modes) (ap (λ (l : List LockMode). slice_set l c.args.stripe mode.Shared) (sym modes) ∙ sym c.shared_at-keep.ensures.value)
    (shared_within c.args.held.now.modes c.args.stripe c.requires.exclusive)

pub returns-clause-note : goal.returns-clause-note
returns-clause-note g c =
    let modes : c.held.inside.plan ≡ c.args.held.now.modes = ap (λ (z : HeldView g.row.P-Part.Denot). z.modes) c.held.view_is in
    shared_note c.held.inside.plan c.args.stripe c.args.seat.now.me.0.at.holds c.drop_extra.new.seat.me.0.at.holds c.requires.stripe
    (ap (λ (l : List LockMode). slice_get l c.args.stripe) modes ∙ c.requires.exclusive)
    (subst (λ (z : List LockMode). AreNarrowed z c.args.seat.now.me.0.at.holds c.drop_extra.new.seat.me.0.at.holds) c.shared_at-keep.ensures.value c.drop_extra.ensures.kept)

pub returns-clause-others : goal.returns-clause-others
returns-clause-others g c =
    let modes : c.held.inside.plan ≡ c.args.held.now.modes = ap (λ (z : HeldView g.row.P-Part.Denot). z.modes) c.held.view_is in
    shared_others c.args.held.now.modes c.args.stripe c.args.seat.now.me.0.at.holds c.drop_extra.new.seat.me.0.at.holds
    (ap (λ (l : List LockMode). length l) (sym modes) ∙ c.shared_at-keep.ensures.whole) c.requires.held.modes
    (subst (λ (z : List LockMode). AreNarrowed z c.args.seat.now.me.0.at.holds c.drop_extra.new.seat.me.0.at.holds)
    (c.shared_at-keep.ensures.value ∙ ap (λ (l : List LockMode). slice_set l c.args.stripe mode.Shared) modes) c.drop_extra.ensures.kept)
