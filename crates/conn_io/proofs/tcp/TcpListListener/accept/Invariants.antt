use Rattle.std.proofs.Common.{◌≡◌, ◌≤◌}
use Rattle.conn_io.proofs.tcp.TcpListListener.accept.Given as goal

-- no connection was given yet, and the count did not fall
abbrev pub invariant-loop : goal.invariant-loop
invariant-loop g l = (l.self.given ≡ l.fn.self.given) × (l.fn.self.faults ≤ l.self.faults)
