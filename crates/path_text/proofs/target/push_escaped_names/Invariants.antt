use Rattle.std.proofs.Common.{◌≡◌, ◌∷◌, ◌++◌, take}
use Rattle.std.specs.List.{flat_map}
use Rattle.std.specs.String.{string_bytes}
use Rattle.path_text.specs.Targets.{escaped}
use Rattle.path_text.proofs.target.push_escaped_names.Given as goal

abbrev pub invariant-loop-name : goal.invariant-loop-name
invariant-loop-name l =
    string_bytes l.text ≡ string_bytes l.fn.text ++ flat_map (λ name. 47 ∷ escaped name) (take l.name-index l.names)
