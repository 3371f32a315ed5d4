use Rattle.std.proofs.Common.{map, []}
use Rattle.std.proofs.lemmas.Result.{err_from_is_err_and}
use Rattle.head_text.specs.Properties.{property_of}
use Rattle.head_text.proofs.PropertyReading.{fault_there, repeat_there, more_there}
use Rattle.head_text.proofs.props_reader.pairs_of.Goals as goal

pub returns-in_err-pair : goal.returns-in_err-pair
returns-in_err-pair c =
    let p = err_from_is_err_and c.from_residual.result c.from_residual.ensures.1 in
    rw (p.1, p.2) (fault_there c.args.items.now c.loop-at.at (record { ref_ptr = (0, 0); now = [] }) (map property_of c.loop-at.pairs.items) _ c.loop-at-test.true c.loop-at.invariant c.in_err-pair.field-0.0 c.in_err-pair.ensures)

pub returns-in_err-put_property : goal.returns-in_err-put_property
returns-in_err-put_property c =
    let p = err_from_is_err_and c.from_residual-in_err-put_property.result c.from_residual-in_err-put_property.ensures.1 in
    rw (p.1, p.2) (repeat_there c.args.items.now c.loop-at.at (record { ref_ptr = (0, 0); now = [] }) (map property_of c.loop-at.pairs.items) _ c.loop-at-test.true c.loop-at.invariant (property_of c.in_ok-pair.pair) c.in_ok-pair.ensures c.in_err-put_property.field-0.0 c.in_err-put_property.ensures)

pub loop-at-preserved : goal.loop-at-preserved
loop-at-preserved c =
    more_there c.args.items.now c.loop-at.at (record { ref_ptr = (0, 0); now = [] }) (map property_of c.loop-at.pairs.items) _ c.loop-at-test.true c.loop-at.invariant (property_of c.in_ok-pair.pair) c.in_ok-pair.ensures (map property_of c.put_property.new.pairs.items) c.in_ok-put_property.ensures
