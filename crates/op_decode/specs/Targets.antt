-- The target of a request, or the code of what is wrong with it.
use Rattle.std.specs.Prelude.{ℕ, List, Result, Ok, Err}
use Rattle.path_text.specs.Targets.{target_parts}
use Rattle.path_text.specs.declared.fault.PathFault.{PathFault}
use Rattle.path_text.specs.declared.fault.PathFault.TheVariants.{BadFsName}
use Rattle.path_text.specs.declared.fault.TargetStop.{TargetStop}
use Rattle.path_text.specs.declared.fault.TargetStop.TheVariants.{Fault, BadQuery}
use Rattle.namespace_model.specs.declared.code.Code.{Code}
use Rattle.namespace_model.specs.declared.code.Code.TheVariants.{InvalidResourceName, InvalidUri, InvalidQueryParameterValue}

abbrev pub path_code : PathFault → Code
path_code BadFsName = InvalidResourceName
path_code other = InvalidUri

abbrev pub target_code : TargetStop → Code
target_code (Fault fault) = path_code fault
target_code BadQuery = InvalidQueryParameterValue
target_code other = InvalidUri

abbrev pub or_code : {Asked : Type 0} → Result Asked TargetStop → Result Asked Code
or_code (Ok asked) = Ok asked
or_code (Err stop) = Err (target_code stop)

-- the path and the query of a target
unfoldable pub target_of : List ℕ → Result (List (List ℕ) × List (List ℕ × List ℕ)) Code
target_of target = or_code (target_parts target)
