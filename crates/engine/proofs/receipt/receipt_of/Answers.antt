use Rattle.std.proofs.Common.{refl}
use Rattle.engine.proofs.ReceiptLemmas.{read_alone}
use Rattle.engine.proofs.receipt.receipt_of.Goals as goal

pub returns-clause-shared : goal.returns-clause-shared
returns-clause-shared c = read_alone c.args.reads.now c.args.writes.now c.stripes_of.result c.stripes_of-exclusive.result _ c.stripes_of-exclusive.type_inv c.stripes_of.ensures c.stripes_of-exclusive.ensures refl
