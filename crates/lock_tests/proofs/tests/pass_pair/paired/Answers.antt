use Rattle.lock_tests.proofs.Pairing.{both_new}
use Rattle.lock_tests.proofs.tests.pass_pair.paired.Goals as goal

pub invariant_of-result : goal.invariant_of-result
invariant_of-result c =
    both_new c.args.store c.args.passes.items c.pop.new.self.items c.pop-2.new.self.items c.in-Some-pop.first c.in-Some.second c.requires.new c.requires.many
    c.in-Some.ensures.items c.in-Some-pop.ensures.items (c.is_none.ensures c.if-is_none.true)
