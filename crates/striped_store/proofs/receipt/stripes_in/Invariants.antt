use Rattle.striped_store.proofs.Bits.{AreBitsBelow}
use Rattle.striped_store.proofs.receipt.stripes_in.Given as goal

abbrev pub invariant-loop-stripe : goal.invariant-loop-stripe
invariant-loop-stripe l = AreBitsBelow l.plan l.mode l.stripe l.bits
