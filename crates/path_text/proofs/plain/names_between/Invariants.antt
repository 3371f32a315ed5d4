use Rattle.std.proofs.Common.{◌≡◌, map}
use Rattle.path_text.proofs.plain.names_between.Given as goal

abbrev pub invariant-loop-part : goal.invariant-loop-part
invariant-loop-part l = l.names.items ≡ map (λ part. part.now) l.yielded
