use Rattle.std.proofs.Common.{◌≡◌, ◌++◌, take}
use Rattle.path_order.proofs.names.path_below.Given as goal

abbrev pub invariant-loop-name : goal.invariant-loop-name
invariant-loop-name l = l.whole ≡ l.fn.path ++ take l.name-index l.names
