-- The first of the four conditions that fails.
use Rattle.std.specs.Prelude.{ℕ, Option, Result, Ok, Err, if◌then◌else◌}
use Rattle.head_text.specs.declared.conditions.Conditions.{Conditions}
use Rattle.head_text.specs.declared.conditions.Unmet.{Unmet}
use Rattle.head_text.specs.declared.conditions.Unmet.TheVariants.{Match, Unmodified, NoneMatch, Modified}
use Rattle.head_text.specs.Conditions.{match_holds, unmodified_holds, none_match_holds, modified_holds}

abbrev pub conditions_of : Conditions → Option (ℕ × ℕ) → Result (Unit {0}) Unmet
conditions_of c node =
    if match_holds c.matches node
    then (if unmodified_holds c.unmodified node
    then (if none_match_holds c.none node
    then (if modified_holds c.modified node then Ok tt else Err Modified) else Err NoneMatch) else Err Unmodified) else Err Match
