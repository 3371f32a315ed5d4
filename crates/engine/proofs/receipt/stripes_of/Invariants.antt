use Rattle.std.proofs.Common.{take}
use Rattle.engine.proofs.ReceiptLemmas.{AreStripesOf}
use Rattle.engine.proofs.receipt.stripes_of.Given as goal

abbrev pub invariant-loop-id : goal.invariant-loop-id
invariant-loop-id l = AreStripesOf (take l.id-index l.ids) l.bits
