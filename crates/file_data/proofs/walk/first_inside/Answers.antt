use Rattle.file_data.proofs.AppendLemmas.{inside_none, inside_some}
use Rattle.file_data.proofs.walk.first_inside.Goals as goal

pub returns-then-end-start : goal.returns-then-end-start
returns-then-end-start c =
    inside_none c.args.pieces.now c.count_below-next.result c.args.position c.args.end c.index-pieces-next.result c.requires.ascends c.if-pieces-next.false c.count_below-next.ensures.back
    c.if-end-start.true

pub returns : goal.returns
returns c =
    inside_some c.args.pieces.now c.count_below-next.result c.args.position c.args.end c.index-pieces-next.result c.if-pieces-next.false c.count_below-next.ensures.back
    c.if-end-start.false
