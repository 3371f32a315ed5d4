use Rattle.std.proofs.Common.{◌-◌}
use Rattle.path_text.proofs.NameLemmas.{front_parts}
use Rattle.path_text.proofs.path.Path.front.Goals as goal

pub invariant_of-result : goal.invariant_of-result
invariant_of-result c =
    rw (c.in_ok-copy-in-Some.ensures, c.in_ok-copy_names-in-Some.ensures, c.as_slice.ensures.value)
    (front_parts (c.args.parts - 1) c.in-Some.place.fs c.in-Some.place.names.items (rw c.in-Some.is at c.self.invariant))
