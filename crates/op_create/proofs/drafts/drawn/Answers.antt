use Rattle.std.proofs.Common.{◌+◌, refl}
use Rattle.op_create.proofs.DraftLemmas.{one_drawn}
use Rattle.op_create.proofs.drafts.drawn.Goals as goal

pub loop-place-preserved : goal.loop-place-preserved
loop-place-preserved c =
    one_drawn c.loop-place.ids.items c.push.new.self.items c.id.result c.args.fresh.now.pass c.args.fresh.now.used c.loop-place.place (c.loop-place.place + 1)
    c.loop-place.invariant c.id.ensures c.in_ok-push.ensures.items refl
