use Rattle.std.proofs.Common.{inl, inr, refl, rules}
use Rattle.conn_io.proofs.memory.BytesOutSink.write.Goals.{then-contains-via-then-contains, then-contains-via-else-contains+then-self-taken}
use Rattle.conn_io.proofs.memory.BytesOutSink.write.Goals as goal

pub returns-then-contains-clause-fails : goal.returns-then-contains-clause-fails
returns-then-contains-clause-fails c = (
  λ _. elim c.then-contains.branch [
    | then-contains-via-then-contains w ↦ inl (search rules)
    | then-contains-via-else-contains+then-self-taken w ↦ inr (search rules)
  ],
  λ _. refl,
)
