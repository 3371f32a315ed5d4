use Rattle.std.proofs.Common.{sym, ◌∙◌}
use Rattle.lock_core.proofs.Looking.{same_latch}
use Rattle.lock_core.proofs.Putting.{latch_give_puts}
use Rattle.lock_core.proofs.pure_core.Core.latch_give.Goals as goal

pub put-requires : goal.put-requires
put-requires g c =
    let e = c.glance-glance.ensures in
    let t = latch_give_puts g.P.Parted.object g.met.P.Parted.lawful c.args.self.now e.sound c.args.seat c.glance-glance.result e.looks c.args.stripe c.requires
    (sym e.looks.live ∙ c.if-not-glance.false) (sym e.looks.latch ∙ same_latch _ _ c.if-ne.ensures) in
    (_, t.1, t.2)

pub returns : goal.returns
returns g c =
    let e = c.glance-glance.ensures in
    let t = latch_give_puts g.P.Parted.object g.met.P.Parted.lawful c.args.self.now e.sound c.args.seat c.glance-glance.result e.looks c.args.stripe c.requires
    (sym e.looks.live ∙ c.if-not-glance.false) (sym e.looks.latch ∙ same_latch _ _ c.if-ne.ensures) in
    (t.0, c.put.ensures _ t.1 t.2)
