use Rattle.std.proofs.Common.{length, ap, arith}
use Rattle.head_text.proofs.PropertyLemmas.{twice, place_within, put_there}
use Rattle.head_text.proofs.props_reader.put_property.Goals as goal

pub returns-then-is_named : goal.returns-then-is_named
returns-then-is_named c =
    twice c.args.at c.args.pairs.now.items c.as_slice.result.now c.args.pair c.as_slice-2.result.now c.is_named.result c.as_slice.ensures.value c.as_slice-2.ensures.value c.is_named.ensures c.if-is_named.true

pub insert-requires : goal.insert-requires
insert-requires c =
    let within = place_within c.args.at c.args.pairs.now.items c.as_slice.result.now c.args.pair c.as_slice-2.result.now c.is_named.result c.as_slice.ensures.value c.as_slice-2.ensures.value c.is_named.ensures c.if-is_named.false
    c.place_of-place.result c.as_slice-3.result.now c.as_slice-4.result.now c.as_slice-3.ensures.value c.as_slice-4.ensures.value c.place_of-place.ensures in
    omega (arith, within, c.as_slice.ensures.len, ap length c.as_slice.ensures.value)

pub returns : goal.returns
returns c =
    put_there c.args.at c.args.pairs.now.items c.as_slice.result.now c.args.pair c.as_slice-2.result.now c.is_named.result c.as_slice.ensures.value c.as_slice-2.ensures.value c.is_named.ensures c.if-is_named.false
    c.place_of-place.result c.as_slice-3.result.now c.insert.new.self.items c.as_slice-4.result.now c.as_slice-3.ensures.value c.as_slice-4.ensures.value c.place_of-place.ensures c.in_ok-insert.ensures.items
