use Rattle.std.proofs.Common.{◌≡◌, ◌++◌, drop}
use Rattle.op_create.specs.Creates.{making_of}
use Rattle.op_create.specs.Chains.{maker_of, chained, dropped}
use Rattle.op_create.proofs.drafts.changes.Given as goal

abbrev pub invariant-loop-i : goal.invariant-loop-i
invariant-loop-i l = l.changes.items ++ chained (maker_of l.call) (making_of l.call l.new) l.place.base.node.meta.group l.acl l.above (drop l.i l.place.names.now) (drop l.i l.ids)
    ≡ dropped l.place.replaced ++ chained (maker_of l.call) (making_of l.call l.new) l.place.base.node.meta.group l.place.base.node.meta.acl l.place.base.id l.place.names.now l.ids
