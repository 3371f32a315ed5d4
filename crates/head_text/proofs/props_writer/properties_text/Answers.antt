use Rattle.head_text.proofs.PropertyWriting.{text_more}
use Rattle.head_text.proofs.props_writer.properties_text.Goals as goal

pub loop-pair-preserved : goal.loop-pair-preserved
loop-pair-preserved c =
    text_more c.args.pairs.now c.loop-pair.pair-index c.pair-item.result c.loop-pair.text.items c.part.new.text.items c.push_property.new.text.items c.as_slice.result.now c.as_slice-in-loop-pair.result.now
    c.loop-pair-test.true c.pair-item.is c.loop-pair.invariant c.in_ok-part.ensures c.in_ok-push_property.ensures c.as_slice.ensures.value c.as_slice-in-loop-pair.ensures.value
