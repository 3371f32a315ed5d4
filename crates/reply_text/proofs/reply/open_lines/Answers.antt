use Rattle.std.proofs.Common.{◌≤◌, ◌++◌, append_assoc, ◌∙◌}
use Rattle.std.specs.Prelude.{count_by}
use Rattle.reply_text.specs.ReplyText.{is_open, start_lines}
use Rattle.reply_text.proofs.FieldLemmas.{spells_none, spells_next}
use Rattle.reply_text.proofs.Kept.{kept_past, kept_front}
use Rattle.reply_text.proofs.reply.open_lines.Goals as goal

pub loop-field-init : goal.loop-field-init
loop-field-init c =
    spells_none (λ n. c.args.out.now.items ++ start_lines c.args.reply.now.status c.args.moment n) c.items-field-items.result.now c.in_ok-slots.slots c.begun.new.out.items
    c.in_ok-slots.ensures.zeros c.in_ok-slots.ensures.spelled c.in_ok-slots.ensures.one

pub loop-field-preserved : goal.loop-field-preserved
loop-field-preserved c =
    let few : count_by is_open c.items-field-items.result.now ≤ 1 = rw c.items-field-items.ensures c.requires.reply.one_open in
    spells_next (λ n. c.args.out.now.items ++ start_lines c.args.reply.now.status c.args.moment n) c.items-field-items.result.now c.loop-field.field-index c.field-item.result
    c.loop-field.slots c.in_ok-slots-2.slots c.loop-field.out.items c.put_field.new.out.items
    c.loop-field-test.true c.field-item.is few c.loop-field.invariant c.in_ok-slots-2.ensures.slots c.in_ok-slots-2.ensures.zeros

pub returns-in_err-slots-2-clause-kept : goal.returns-in_err-slots-2-clause-kept
returns-in_err-slots-2-clause-kept c =
    let before = c.loop-field.invariant.zeros ∙ append_assoc c.args.out.now.items _ _ in
    kept_past c.args.out.now.items _ c.loop-field.out.items c.put_field.new.out.items before c.put_field.ensures.kept

pub returns-clause-kept : goal.returns-clause-kept
returns-clause-kept c =
    kept_front c.args.out.now.items _ c.loop-field.out.items (c.loop-field.invariant.zeros ∙ append_assoc c.args.out.now.items _ _)
