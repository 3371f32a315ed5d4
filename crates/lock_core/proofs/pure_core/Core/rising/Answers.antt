use Rattle.std.proofs.Common.{refl, sym, inl, inr, true≢false}
use Rattle.lock_core.specs.declared.object.LockMode.TheVariants as mode
use Rattle.lock_core.proofs.Looking.{marked}
use Rattle.lock_core.proofs.pure_core.Core.rising.Goals as goal

pub returns-then-not-is_free_from-clause-stop : goal.returns-then-not-is_free_from-clause-stop
returns-then-not-is_free_from-clause-stop g c =
    let e = c.in_ok-glance.ensures.ok in
    inr (e.1.0, inr (e.1.1, inr (e.1.2, inl ((λ f. true≢false (sym (c.if-not-is_free_from.ensures.1 (λ k l. marked c.in_ok-glance.glance _ e.0 mode.None k (f k l))))), refl))))
