use Rattle.op_decode.proofs.OrderLemmas.{caller_refused, encoding_refused, lease_refused, operation_refused, parts_refused, row_refused, source_refused, target_refused}
use Rattle.op_decode.proofs.laws.checks_go_in_their_order.Goals as goal

pub returns : goal.returns
returns c = record {
  encoding = encoding_refused;
  target = target_refused;
  caller = caller_refused;
  operation = operation_refused;
  parts = parts_refused;
  row = row_refused;
  lease = lease_refused;
  source_lease = source_refused;
}
