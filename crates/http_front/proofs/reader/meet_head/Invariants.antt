use Rattle.std.proofs.Common.{◌≡◌, ℕ, List, ◌-◌, length}
use Rattle.httparse.specs.Grammar.{RequestHead}
use Rattle.http_front.specs.declared.limits.TheConstants.{HEAD_MOST}
use Rattle.http_front.specs.Reads.{BeginsWithHead}
use Rattle.http_front.proofs.ReadLemmas.{HasRead}
use Rattle.http_front.proofs.reader.meet_head.Given as goal

abbrev pub invariant-reading : goal.invariant-reading
invariant-reading g l = record {
  read : HasRead (record { left = g.S.Source.left l.initial.source; faults = g.S.Source.faults l.initial.source })
      (record { left = g.S.Source.left l.source; faults = g.S.Source.faults l.source }) l.initial.window l.window;
  untouched : (head : RequestHead) (rest : List ℕ) → BeginsWithHead l.initial.window head rest → (l.source ≡ l.initial.source) × (l.window ≡ l.initial.window);
}

abbrev pub decreases-reading : goal.decreases-reading
decreases-reading g l = HEAD_MOST - length l.window
