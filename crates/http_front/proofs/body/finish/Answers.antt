use Rattle.std.proofs.Common.{◌≡◌, length, rules}
use Rattle.http_front.specs.Finds.{raw_from}
use Rattle.http_front.proofs.BodyLemmas.{Finishes-whole, Finishes-memory, Finishes-short, Finishes-fault, kept_full, kept_answers}
use Rattle.http_front.proofs.body.finish.Goals as goal

pub returns-in-Ok-false-clause-finishes : goal.returns-in-Ok-false-clause-finishes
returns-in-Ok-false-clause-finishes g c =
    let count : c.len.result ≡ length c.fill_body.new.body.items = search rules in
    Finishes-short _ _ c.args.window.now c.take_kept.new.window c.args.head c.in-Ok.body.items c.fill_body.new.body.items c.requires c.in-Ok.ensures.takes
    c.in-Ok-false.field-0 _ c.in-Ok-false.field-0-test c.in-Ok-false.ensures.fills count

pub returns-in-Ok-false-clause-kept_first : goal.returns-in-Ok-false-clause-kept_first
returns-in-Ok-false-clause-kept_first g c t rest begins = (
  c.in-Ok-false.ensures.whole (kept_full c.args.window.now c.take_kept.new.window c.args.head c.in-Ok.body.items t rest c.requires c.in-Ok.ensures.takes begins),
  kept_answers _ _ c.args.window.now c.take_kept.new.window c.args.head _ t rest c.requires (returns-in-Ok-false-clause-finishes g c) begins,
)

pub returns-in-Err-fill_body-clause-finishes : goal.returns-in-Err-fill_body-clause-finishes
returns-in-Err-fill_body-clause-finishes g c =
    Finishes-fault _ _ c.args.window.now c.take_kept.new.window c.args.head c.in-Ok.body.items c.fill_body.new.body.items c.requires c.in-Ok.ensures.takes
    c.in-Err-fill_body.fault c.in-Err-fill_body.ensures.fills

pub returns-in-Err-fill_body-clause-kept_first : goal.returns-in-Err-fill_body-clause-kept_first
returns-in-Err-fill_body-clause-kept_first g c t rest begins = (
  c.in-Err-fill_body.ensures.whole (kept_full c.args.window.now c.take_kept.new.window c.args.head c.in-Ok.body.items t rest c.requires c.in-Ok.ensures.takes begins),
  kept_answers _ _ c.args.window.now c.take_kept.new.window c.args.head _ t rest c.requires (returns-in-Err-fill_body-clause-finishes g c) begins,
)

pub returns-in-Ok-share-clause-finishes : goal.returns-in-Ok-share-clause-finishes
returns-in-Ok-share-clause-finishes g c =
    let is : c.with_body.result ≡ raw_from c.args.head.parts c.fill_body.new.body.items = search rules in
    Finishes-whole _ _ c.args.window.now c.take_kept.new.window c.args.head c.in-Ok.body.items c.fill_body.new.body.items c.requires c.in-Ok.ensures.takes
    c.in-Ok-true.field-0 c.with_body.result c.in-Ok-true.field-0-test c.in-Ok-true.ensures.fills is

pub returns-in-Ok-share-clause-kept_first : goal.returns-in-Ok-share-clause-kept_first
returns-in-Ok-share-clause-kept_first g c t rest begins = (
  c.in-Ok-true.ensures.whole (kept_full c.args.window.now c.take_kept.new.window c.args.head c.in-Ok.body.items t rest c.requires c.in-Ok.ensures.takes begins),
  kept_answers _ _ c.args.window.now c.take_kept.new.window c.args.head _ t rest c.requires (returns-in-Ok-share-clause-finishes g c) begins,
)

pub returns-in-Err-share-clause-finishes : goal.returns-in-Err-share-clause-finishes
returns-in-Err-share-clause-finishes g c =
    Finishes-memory _ _ c.args.window.now c.take_kept.new.window c.args.head c.in-Ok.body.items c.fill_body.new.body.items c.requires c.in-Ok.ensures.takes
    c.in-Ok-true.field-0 c.in-Ok-true.field-0-test c.in-Ok-true.ensures.fills

pub returns-in-Err-share-clause-kept_first : goal.returns-in-Err-share-clause-kept_first
returns-in-Err-share-clause-kept_first g c t rest begins = (
  c.in-Ok-true.ensures.whole (kept_full c.args.window.now c.take_kept.new.window c.args.head c.in-Ok.body.items t rest c.requires c.in-Ok.ensures.takes begins),
  tt,
)
