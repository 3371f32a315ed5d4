use Rattle.std.proofs.Common.{◌≡◌, ℕ, length, Some, option_map, sym, ◌∙◌, ap, arith}
use Rattle.std.specs.Int.{w128, from_be_bytes, to_be_bytes}
use Rattle.uuid.specs.Text.{lower, hyphenated_text, parsed, parsed_hyphenated}
use Rattle.uuid.proofs.TextLemmas.{by_index_length}
use Rattle.lease_state.specs.LeaseId.{lease_id_text}
use Rattle.lease_state.proofs.IdLemmas.{from_be_bytes-to_be_bytes_16, parsed-hyphenated}
use Rattle.lease_state.proofs.lease_id.write_lease_id.Goals as goal

-- a printed id has 36 characters
length-text : (id : ℕ) → length (lease_id_text id) ≡ 36
length-text id = by_index_length 36 _

pub copy_from_slice-requires : goal.copy_from_slice-requires
copy_from_slice-requires c =
    let text : c.as_bytes.result.now ≡ lease_id_text c.args.id =
    c.as_bytes.ensures.value ∙ c.encode_lower-text.ensures.text ∙ ap (hyphenated_text lower) (c.hyphenated.ensures ∙ c.from_u128.ensures) in
    let long : length c.as_bytes.result.now ≡ 36 = ap length text ∙ length-text c.args.id in
    omega arith

pub returns-clause-text : goal.returns-clause-text
returns-clause-text c =
    c.copy_from_slice.ensures.after ∙ c.as_bytes.ensures.value ∙ c.encode_lower-text.ensures.text
    ∙ ap (hyphenated_text lower) (c.hyphenated.ensures ∙ c.from_u128.ensures)

pub returns-clause-read_back : goal.returns-clause-read_back
returns-clause-read_back c =
    let bytes : c.hyphenated.result ≡ to_be_bytes w128 c.args.id = c.hyphenated.ensures ∙ c.from_u128.ensures in
    let written : c.copy_from_slice.new.self ≡ c.encode_lower-text.result.now =
    c.copy_from_slice.ensures.after ∙ c.as_bytes.ensures.value in
    let text : c.copy_from_slice.new.self ≡ lease_id_text c.args.id =
    written ∙ c.encode_lower-text.ensures.text ∙ ap (hyphenated_text lower) bytes in
    let long : length c.copy_from_slice.new.self ≡ 36 = ap length text ∙ length-text c.args.id in
    let read : parsed_hyphenated c.copy_from_slice.new.self ≡ Some (to_be_bytes w128 c.args.id) =
    sym (parsed-hyphenated c.copy_from_slice.new.self long) ∙ ap parsed written ∙ sym c.encode_lower-text.ensures.parsed ∙ ap Some bytes in
    ap (option_map (from_be_bytes w128)) read ∙ ap Some (from_be_bytes-to_be_bytes_16 c.args.id c.ranges.id.fits)
