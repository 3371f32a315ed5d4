use Rattle.std.proofs.lemmas.List.{with_items_is}
use Rattle.std.proofs.Common.{rules, ◌≡◌, ◌<◌, length, ap, sym, subst, ◌∙◌}
use Rattle.namespace_model.specs.declared.request.Entry.{Entry}
use Rattle.inode_tree.specs.declared.placed.Placed.{Placed}
use Rattle.std.specs.Vec.{with_items}
use Rattle.reply_text.specs.ReplyText.{reply_text}
use Rattle.reply_text.specs.Slots.{filled}
use Rattle.striped_store.specs.Views.{number_of_pass}
use Rattle.service_workers.proofs.AnswerLemmas.{spelled, refused_same, commits_as}
use Rattle.service_workers.proofs.service.Service.answer_draft.Goals as goal

pub prepare-requires-clause-reply : goal.prepare-requires-clause-reply
prepare-requires-clause-reply g c =
    let small : number_of_pass c.args.pass.now < 64 = subst (λ n. n < 64) c.number.ensures.value c.number.ensures.small in
    spelled c.args.pass.now c.requires.found c.args.held c.requires.holds c.args.draft c.args.entry small c.requires.sound c.requires.moment c.requires.drafts

pub returns-in_default-clause-refused : goal.returns-in_default-clause-refused
returns-in_default-clause-refused g c = refused_same c.args.pass.now c.finish.new.pass c.finish.ensures.seen c.finish.ensures.mine c.finish.ensures.last

pub returns-in-Ok-commit_draft-clause-ok : goal.returns-in-Ok-commit_draft-clause-ok
returns-in-Ok-commit_draft-clause-ok g c =
    let done = c.in-Ok-commit_draft.ensures in
    let number = c.in-Ok-commit_draft.receipt.number in
    let entry_is : c.in-Ok.prepared.placed.entry ≡ c.args.entry = ap (λ (e : Placed). e.entry) c.in-Ok.ensures.placed in
    let by : c.in-Ok.prepared.placed.pass ≡ number_of_pass c.args.pass.now = ap (λ (e : Placed). e.pass) c.in-Ok.ensures.placed ∙ c.number.ensures.value in
    let text : c.fill.new.bytes ≡ reply_text c.args.draft.reply number c.in-Ok.prepared.placed.entry.moment c.in-Ok.prepared.placed.entry.request.head =
    c.fill.ensures ∙ ap (λ b. filled b c.in-Ok.prepared.slots number) c.as_mut_slice.ensures.value ∙ c.in-Ok.ensures.text.text_is number
    ∙ ap (λ (x : Entry). reply_text c.args.draft.reply number x.moment x.request.head) (sym entry_is) in
    let long : length c.fill.new.bytes ≡ c.in-Ok.prepared.text.len = search rules in
    let items : (with_items c.in-Ok.prepared.text c.fill.new.bytes).items ≡ c.fill.new.bytes = with_items_is c.in-Ok.prepared.text c.fill.new.bytes long in
    commits_as c.args.pass.now c.commit_draft.new.pass c.in-Ok.prepared.placed c.args.entry c.args.draft.reply (record { bytes = with_items c.in-Ok.prepared.text c.fill.new.bytes; mark = c.of-mark.result; receipt = c.in-Ok-commit_draft.receipt })
    entry_is done.seen done.mine done.fit by done.reply done.number done.footprint (items ∙ text) c.of-mark.ensures
