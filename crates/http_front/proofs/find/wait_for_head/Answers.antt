use Rattle.std.proofs.Common.{arith, sym, ◌∙◌}
use Rattle.std.proofs.lemmas.Bool.{false≢true}
use Rattle.conn_io.specs.Crowded.{Crowded}
use Rattle.http_front.proofs.FindLemmas.{unfinished_found, long_found, crowded_found}
use Rattle.http_front.proofs.find.wait_for_head.Goals as goal

pub returns-then-bytes-eq-HEAD_MOST : goal.returns-then-bytes-eq-HEAD_MOST
returns-then-bytes-eq-HEAD_MOST c = long_found c.args.bytes.now c.requires.none (omega arith)

pub returns-then-is_crowded : goal.returns-then-is_crowded
returns-then-is_crowded c =
    let crowded : Crowded c.args.bytes.now = c.is_crowded.ensures.0 c.if-is_crowded.true in
    crowded_found c.args.bytes.now c.requires.none crowded

pub returns : goal.returns
returns c =
    unfinished_found c.args.bytes.now c.requires.none c.requires.goes_on (omega arith) (λ crowded. false≢true (sym c.if-is_crowded.false ∙ c.is_crowded.ensures.1 crowded))
