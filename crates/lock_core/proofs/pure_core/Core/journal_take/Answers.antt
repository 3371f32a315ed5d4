use Rattle.std.proofs.Common.{List, sym, ap, length, ◌∙◌}
use Rattle.lock_core.proofs.Putting.{journal_take_puts}
use Rattle.lock_core.proofs.pure_core.Core.journal_take.Goals as goal

pub put-requires : goal.put-requires
put-requires g c =
    let e = c.in_ok-glance.ensures.ok in
    let t = journal_take_puts g.P.Parted.object g.met.P.Parted.lawful c.args.self.now e.2 c.args.seat c.in_ok-glance.glance e.0 e.1
    (sym c.word.ensures ∙ c.if-word-ne0.false) _ (ap (λ (l : List g.row.P-Entry.Denot). length l) (sym c.journal.ensures)) in
    (_, t.1, t.2)

pub returns : goal.returns
returns g c =
    let e = c.in_ok-glance.ensures.ok in
    let t = journal_take_puts g.P.Parted.object g.met.P.Parted.lawful c.args.self.now e.2 c.args.seat c.in_ok-glance.glance e.0 e.1
    (sym c.word.ensures ∙ c.if-word-ne0.false) _ (ap (λ (l : List g.row.P-Entry.Denot). length l) (sym c.journal.ensures)) in
    (t.0, c.put.ensures _ t.1 t.2)
