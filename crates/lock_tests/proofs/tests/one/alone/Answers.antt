use Rattle.lock_tests.proofs.Pairing.{only_new}
use Rattle.lock_tests.proofs.tests.one.alone.Goals as goal

pub invariant_of-result : goal.invariant_of-result
invariant_of-result g c =
    only_new c.args.store c.args.passes.items c.pop.new.self.items c.in-Some.pass c.requires.idle c.requires.many c.in-Some.ensures.items (c.is_none.ensures c.if-is_none.true)
