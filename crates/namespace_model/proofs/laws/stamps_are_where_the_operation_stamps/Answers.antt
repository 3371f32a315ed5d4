use Rattle.namespace_model.proofs.StepStamps.{outcome_stamps, stamps_after, others_stay}
use Rattle.namespace_model.proofs.laws.stamps_are_where_the_operation_stamps.Goals as goal

pub returns : goal.returns
returns c = record {
  puts = λ t e is. outcome_stamps t is.root e;
  after = λ t e number q y is sound there. stamps_after t is e sound number q y there;
  others = λ t e number is sound. others_stay t is e sound number;
}
