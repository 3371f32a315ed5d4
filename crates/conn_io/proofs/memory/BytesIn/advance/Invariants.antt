use Rattle.std.proofs.Common.{◌≡◌, length}
use Rattle.conn_io.specs.Memory.{bytes_left}
use Rattle.conn_io.proofs.memory.BytesIn.advance.Given as goal

abbrev pub invariant-skipping : goal.invariant-skipping
invariant-skipping l = record {
  bytes : bytes_left l.self ≡ bytes_left l.fn.self;
  faults : l.self.faults ≡ l.fn.self.faults;
  failing : l.self.failing ≡ l.fn.self.failing;
  calls : l.self.calls ≡ l.fn.self.calls;
}

abbrev pub decreases-skipping : goal.decreases-skipping
decreases-skipping l = length l.self.pieces.items
