use Rattle.std.proofs.Common.{rules}
use Rattle.http_front.specs.Reads.{Reads}
use Rattle.http_front.proofs.FaultLemmas.{foretold}
use Rattle.http_front.proofs.reader.Reader.next.Goals as goal

pub returns-then-is_last-clause-foretold : goal.returns-then-is_last-clause-foretold
returns-then-is_last-clause-foretold g c going =
    let reads : Reads (g.S.Source.left c.args.source.now) (g.S.Source.left c.answer-answer.new.source) c.args.self.now.bytes c.answer-answer.new.window c.answer-answer.result = search rules in
    foretold _ _ c.args.self.now.bytes _ _ reads

pub returns-else-is_last-clause-foretold : goal.returns-else-is_last-clause-foretold
returns-else-is_last-clause-foretold g c going =
    let reads : Reads (g.S.Source.left c.args.source.now) (g.S.Source.left c.answer-answer.new.source) c.args.self.now.bytes c.answer-answer.new.window c.answer-answer.result = search rules in
    foretold _ _ c.args.self.now.bytes _ _ reads
