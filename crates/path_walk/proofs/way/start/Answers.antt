use Rattle.std.proofs.Common.{[], refl}
use Rattle.path_walk.proofs.way.start.Goals as goal

pub get-requires-clause-known : goal.get-requires-clause-known
get-requires-clause-known g c = λ parts t stands agrees. stands.found [] 0 refl
