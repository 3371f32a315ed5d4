use Rattle.std.proofs.Common.{sym, ◌∙◌}
use Rattle.lock_core.proofs.Looking.{true_of_not}
use Rattle.lock_core.proofs.Putting.{journal_give_puts}
use Rattle.lock_core.proofs.pure_core.Core.journal_give.Goals as goal

pub put-requires : goal.put-requires
put-requires g c =
    let e = c.glance-glance.ensures in
    let t = journal_give_puts g.P.Parted.object g.met.P.Parted.lawful c.args.self.now e.sound c.args.seat c.glance-glance.result e.looks
    (sym e.looks.live ∙ true_of_not _ c.if-not-glance.false) (sym e.looks.journal ∙ true_of_not _ c.if-not-glance-2.false) in
    (_, t.1, t.2)

pub returns : goal.returns
returns g c =
    let e = c.glance-glance.ensures in
    let t = journal_give_puts g.P.Parted.object g.met.P.Parted.lawful c.args.self.now e.sound c.args.seat c.glance-glance.result e.looks
    (sym e.looks.live ∙ true_of_not _ c.if-not-glance.false) (sym e.looks.journal ∙ true_of_not _ c.if-not-glance-2.false) in
    (t.0, c.put.ensures _ t.1 t.2)
