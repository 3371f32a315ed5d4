use Rattle.std.proofs.Common.{refl, sym, inl, inr, true≢false, arith}
use Rattle.lock_core.proofs.Looking.{marked}
use Rattle.lock_core.proofs.Putting.{unlock_shared_puts, shared_word}
use Rattle.lock_core.specs.declared.object.LockMode.TheVariants as mode
use Rattle.lock_core.proofs.pure_core.Core.unlock_shared.Goals as goal

pub returns-then-not-holds : goal.returns-then-not-holds
returns-then-not-holds g c = let e = c.in_ok-glance.ensures.ok in (inr (e.1.0, inr (e.1.1, inr (e.1.2, inl ((λ p. true≢false (sym (c.if-not-holds.ensures.1 (marked c.in_ok-glance.glance _ e.0 mode.Shared c.args.stripe p)))), refl)))), refl)

pub put-requires : goal.put-requires
put-requires g c = let e = c.in_ok-glance.ensures.ok in let t = unlock_shared_puts g.P.Parted.object g.met.P.Parted.lawful c.args.self.now e.2 c.args.seat c.in_ok-glance.glance e.0 c.args.stripe c.requires e.1 (c.if-not-holds.ensures.0 refl) c.word-word.result c.word-word.ensures in (_, t.1, t.2)

pub returns : goal.returns
returns g c = let e = c.in_ok-glance.ensures.ok in let t = unlock_shared_puts g.P.Parted.object g.met.P.Parted.lawful c.args.self.now e.2 c.args.seat c.in_ok-glance.glance e.0 c.args.stripe c.requires e.1 (c.if-not-holds.ensures.0 refl) c.word-word.result c.word-word.ensures in (t.0, c.put.ensures _ t.1 t.2)

pub overflow_sub-word : goal.overflow_sub-word
overflow_sub-word g c =
    let e = c.in_ok-glance.ensures.ok in
    omega (
      arith,
      c.word-word.ensures,
      shared_word g.P.Parted.object g.met.P.Parted.lawful c.args.self.now e.2 c.args.seat c.in_ok-glance.glance e.0 c.args.stripe c.requires e.1.0
          (c.if-not-holds.ensures.0 refl),
    )
