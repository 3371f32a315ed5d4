use Rattle.std.proofs.Common.{refl, sym, inl, inr, true≢false}
use Rattle.lock_core.proofs.Looking.{marked}
use Rattle.lock_core.proofs.Putting.{unlock_exclusive_puts}
use Rattle.lock_core.specs.declared.object.LockMode.TheVariants as mode
use Rattle.lock_core.proofs.pure_core.Core.unlock_exclusive.Goals as goal

pub returns-then-not-holds : goal.returns-then-not-holds
returns-then-not-holds g c = let e = c.in_ok-glance.ensures.ok in (inr (e.1.0, inr (e.1.1, inr (e.1.2, inl ((λ p. true≢false (sym (c.if-not-holds.ensures.1 (marked c.in_ok-glance.glance _ e.0 mode.Exclusive c.args.stripe p)))), refl)))), refl)

pub put-requires : goal.put-requires
put-requires g c = let e = c.in_ok-glance.ensures.ok in let t = unlock_exclusive_puts g.P.Parted.object g.met.P.Parted.lawful c.args.self.now e.2 c.args.seat c.in_ok-glance.glance e.0 c.args.stripe c.requires e.1 (c.if-not-holds.ensures.0 refl) in (_, t.1, t.2)

pub returns : goal.returns
returns g c = let e = c.in_ok-glance.ensures.ok in let t = unlock_exclusive_puts g.P.Parted.object g.met.P.Parted.lawful c.args.self.now e.2 c.args.seat c.in_ok-glance.glance e.0 c.args.stripe c.requires e.1 (c.if-not-holds.ensures.0 refl) in (t.0, c.put.ensures _ t.1 t.2)
