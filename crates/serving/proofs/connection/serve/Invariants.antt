use Rattle.std.proofs.Common.{◌≡◌, false}
use Rattle.serving.proofs.ServingInvariant.{Serving}
use Rattle.serving.proofs.connection.serve.Given as goal

abbrev pub invariant-serving : goal.invariant-serving
invariant-serving g l = record {
  serving : Serving g.D.Desk.entry_of (g.D.Desk.is_own l.fn.desk) g.D.Desk.entered g.D.Desk.asks (g.D.Desk.conn l.fn.desk)
      (g.S.Source.left l.fn.source) (g.S.Source.left l.source) (g.K.Sink.out l.fn.sink) (g.K.Sink.out l.sink)
      (g.C.Clock.ahead l.fn.clock) (g.C.Clock.ahead l.clock) l.reader.bytes (g.D.Desk.known l.fn.desk) (g.D.Desk.known l.desk) l.index;
  not_over : l.reader.over ≡ false;
  same_limits : g.D.Desk.limits l.desk ≡ g.D.Desk.limits l.fn.desk;
  same_conn : g.D.Desk.conn l.desk ≡ g.D.Desk.conn l.fn.desk;
  same_own : g.D.Desk.is_own l.desk ≡ g.D.Desk.is_own l.fn.desk;
  same_over : g.D.Desk.over l.desk ≡ g.D.Desk.over l.fn.desk;
  reads : g.S.Source.faults l.source ≡ g.S.Source.faults l.fn.source;
  writes : g.K.Sink.faults l.sink ≡ g.K.Sink.faults l.fn.sink;
}
