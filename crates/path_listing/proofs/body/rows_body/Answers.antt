use Rattle.std.proofs.Common.{◌≡◌, ◌<◌, List, length, ap, arith}
use Rattle.std.proofs.lemmas.Result.{IfOk-weaker}
use Rattle.serde_json.specs.View.{items_view}
use Rattle.serde_json.specs.declared.value.Value.{Value}
use Rattle.path_listing.specs.Listed.{paths_in}
use Rattle.path_listing.proofs.BodyLemmas.{values_more, all_values}
use Rattle.path_listing.proofs.RowLemmas.{timely_item}
use Rattle.path_listing.proofs.body.rows_body.Goals as goal

pub loop-row-init : goal.loop-row-init
loop-row-init c = λ t are. ap (λ (l : List Value). items_view l) c.new-entries.ensures.items

pub row_value-requires-clause-timely : goal.row_value-requires-clause-timely
row_value-requires-clause-timely c =
    timely_item c.args.rows.now c.loop-row.row-index c.row-item.result
    (let a = c.loop-row-test.true in let b = c.loop-row.auto.row-index-end in let h : c.loop-row.row-index < length c.args.rows.now = omega arith in h) c.row-item.is c.requires.timely

pub loop-row-preserved : goal.loop-row-preserved
loop-row-preserved c = λ t are.
    values_more t c.args.dir.now c.args.rows.now c.loop-row.row-index c.row-item.result c.loop-row.entries.items _ _
    (let a = c.loop-row-test.true in let b = c.loop-row.auto.row-index-end in let h : c.loop-row.row-index < length c.args.rows.now = omega arith in h) c.row-item.is are (c.loop-row.invariant t are) c.in_ok-row_value.ensures
    c.in_ok-push.ensures.items

pub returns : goal.returns
returns c =
    IfOk-weaker c.paths_body.result _ _
    (λ body text t are. text t (paths_in c.args.dir.now c.args.rows.now) (all_values t c.args.dir.now c.args.rows.now c.loop-row.row-index c.loop-row.entries.items
    (let a = c.loop-row-test.false in let b = c.loop-row.auto.row-index-end in let h : c.loop-row.row-index ≡ length c.args.rows.now = omega arith in h) (c.loop-row.invariant t are)))
    c.paths_body.ensures.text
