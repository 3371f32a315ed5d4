use Rattle.std.proofs.Common.{◌≡◌, ◌≤◌, ◌-◌, length}
use Rattle.http_front.specs.declared.body.TheConstants.{BODY_READ_MOST}
use Rattle.http_front.proofs.ReadLemmas.{HasRead}
use Rattle.http_front.proofs.body.read_body.Given as goal

abbrev pub invariant-reading : goal.invariant-reading
invariant-reading g l = record {
  read : HasRead (record { left = g.S.Source.left l.initial.source; faults = g.S.Source.faults l.initial.source })
      (record { left = g.S.Source.left l.source; faults = g.S.Source.faults l.source }) l.initial.body.items l.body.items;
  few : length l.body.items ≤ l.many;
  size : length l.buffer ≡ BODY_READ_MOST;
}

abbrev pub decreases-reading : goal.decreases-reading
decreases-reading g l = l.many - length l.body.items
