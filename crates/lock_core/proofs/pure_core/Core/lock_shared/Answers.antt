use Rattle.std.proofs.Common.{refl, inl, inr, arith}
use Rattle.lock_core.proofs.Looking.{held}
use Rattle.lock_core.proofs.Putting.{lock_shared_puts}
use Rattle.lock_core.specs.declared.object.LockMode.TheVariants as mode
use Rattle.lock_core.proofs.pure_core.Core.lock_shared.Goals as goal

pub returns-then-word : goal.returns-then-word
returns-then-word g c = let e = c.in_ok-glance.ensures.ok in (inr (e.1.0, inr (e.1.1, inr (e.1.2, inr ((λ k l. held c.in_ok-glance.glance _ e.0 mode.None k (e.3 k l)), inl ((λ r. omega (arith, c.if-word.true, c.word-word.ensures)), refl))))), refl)

pub put-requires : goal.put-requires
put-requires g c = let e = c.in_ok-glance.ensures.ok in let t = lock_shared_puts g.P.Parted.object g.met.P.Parted.lawful c.args.self.now e.2 c.args.seat c.in_ok-glance.glance e.0 c.args.stripe c.requires e.1 e.3 c.word-word.result c.word-word.ensures c.if-word.false in (_, t.1, t.2)

pub returns : goal.returns
returns g c = let e = c.in_ok-glance.ensures.ok in let t = lock_shared_puts g.P.Parted.object g.met.P.Parted.lawful c.args.self.now e.2 c.args.seat c.in_ok-glance.glance e.0 c.args.stripe c.requires e.1 e.3 c.word-word.result c.word-word.ensures c.if-word.false in (t.0, c.put.ensures _ t.1 t.2)
