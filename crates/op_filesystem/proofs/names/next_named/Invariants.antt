use Rattle.std.proofs.Common.{option_map}
use Rattle.op_filesystem.proofs.NamedLemmas.{IsPassing}
use Rattle.op_filesystem.proofs.names.next_named.Given as goal

abbrev pub invariant-loop-count : goal.invariant-loop-count
invariant-loop-count l = IsPassing l.account l.prefix (option_map (λ n. n.now) l.from) (option_map (λ n. n.now) l.last)
