use Rattle.std.proofs.Common.{[], ap, sym, ◌∙◌, arith, map, length}
use Rattle.std.proofs.lemmas.List.{length-map}
use Rattle.head_text.specs.Properties.{property_of}
use Rattle.head_text.specs.PropertyTexts.{items_of, read_from}
use Rattle.head_text.proofs.PropertyLemmas.{text_bytes}
use Rattle.head_text.proofs.PropertyAnswers.{read_properties, few_enough}
use Rattle.head_text.proofs.props_reader.properties_of.Goals as goal

pub new-requires : goal.new-requires
new-requires c =
    let same = ap (map (λ item. item.now)) c.as_slice.ensures.value ∙ c.in_ok-items.ensures in
    let long = length-map c.in_ok-items.items.items (λ item. item.now) in
    let listed = ap length c.in_ok-items.ensures in
    read_properties c.args.text.now (map property_of c.in_ok-pairs_of.field-0.items) (text_bytes c.args.text.now (λ i within. omega (arith, c.type_inv.text i)))
    (few_enough (length (items_of c.args.text.now)) (omega (arith, long, listed, c.if-len-gt64.false, c.len.ensures)))
    (ap (read_from 0 []) (sym same) ∙ c.in_ok-pairs_of.ensures)
