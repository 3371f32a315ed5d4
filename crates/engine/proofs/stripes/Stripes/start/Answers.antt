use Rattle.engine.proofs.StripeLemmas.{started_opening, started_stripes}
use Rattle.engine.proofs.stripes.Stripes.start.Goals as goal

pub invariant_of-result : goal.invariant_of-result
invariant_of-result c = started_stripes _ c.in_ok-opening_parts.ensures

pub returns : goal.returns
returns c = started_opening _ c.in_ok-opening_parts.ensures
