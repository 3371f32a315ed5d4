use Rattle.std.proofs.Common.{refl, sym, ◌∙◌, inl, inr, true≢false}
use Rattle.lock_core.proofs.Looking.{idle_of, idle_glance}
use Rattle.lock_core.proofs.pure_core.Core.join.Goals as goal

pub returns-then-not-is_idle : goal.returns-then-not-is_idle
returns-then-not-is_idle g c =
    let lw = c.glance-gone.ensures.looks in
    let lv = c.glance-kept.ensures.looks in (
      inr (
        (sym lw.live ∙ c.if-not-gone.false, sym lv.live ∙ c.if-not-kept.false, c.if-from-to.false),
        inl ((λ p. true≢false (sym (c.if-not-is_idle.ensures.1 (idle_glance c.glance-gone.result _ lw p.0)))), refl),
      ),
      refl,
    )

pub returns-then-not-is_idle-2 : goal.returns-then-not-is_idle-2
returns-then-not-is_idle-2 g c =
    let lw = c.glance-gone.ensures.looks in
    let lv = c.glance-kept.ensures.looks in (
      inr (
        (sym lw.live ∙ c.if-not-gone.false, sym lv.live ∙ c.if-not-kept.false, c.if-from-to.false),
        inl ((λ p. true≢false (sym (c.if-not-is_idle-2.ensures.1 (idle_glance c.glance-kept.result _ lv p.1)))), refl),
      ),
      refl,
    )

pub join_seats-requires : goal.join_seats-requires
join_seats-requires g c =
    let lw = c.glance-gone.ensures.looks in
    let lv = c.glance-kept.ensures.looks in (
      (sym lw.live ∙ c.if-not-gone.false, sym lv.live ∙ c.if-not-kept.false, c.if-from-to.false),
      ((idle_of c.glance-gone.result _ lw (c.if-not-is_idle.ensures.0 refl), idle_of c.glance-kept.result _ lv (c.if-not-is_idle-2.ensures.0 refl)), tt),
    )

pub returns : goal.returns
returns g c =
    let lw = c.glance-gone.ensures.looks in
    let lv = c.glance-kept.ensures.looks in (
      (
        (sym lw.live ∙ c.if-not-gone.false, sym lv.live ∙ c.if-not-kept.false, c.if-from-to.false),
        ((idle_of c.glance-gone.result _ lw (c.if-not-is_idle.ensures.0 refl), idle_of c.glance-kept.result _ lv (c.if-not-is_idle-2.ensures.0 refl)), tt),
      ),
      c.in_ok-join_seats.ensures,
    )
