use Rattle.std.proofs.Common.{◌≡◌, length, drop}
use Rattle.std.specs.List.{slice_split}
use Rattle.path_text.specs.Names.{is_slash}
use Rattle.path_text.specs.Texts.{parts_fault}
use Rattle.path_text.proofs.plain.parts_fault.Given as goal

abbrev pub invariant-loop-part : goal.invariant-loop-part
invariant-loop-part l =
    (l.place ≡ length l.yielded)
    × (parts_fault l.place (drop l.place (slice_split is_slash l.rest)) ≡ parts_fault 0 (slice_split is_slash l.rest))
