use Rattle.std.proofs.Common.{◌≡◌, ◌∷◌, take}
use Rattle.namespace_model.specs.declared.field.Field.TheVariants.{Close}
use Rattle.path_walk.proofs.answer.closing_lines.Given as goal

abbrev pub invariant-loop-field : goal.invariant-loop-field
invariant-loop-field l = l.lines.items ≡ Close ∷ take l.field-index l.fields
