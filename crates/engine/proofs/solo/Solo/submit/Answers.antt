use Rattle.std.proofs.Common.{◌≡◌, ◌+◌, true, false, List, [], ◌∷◌, ◌++◌, length, slice_get, refl, ap, subst, ◌∙◌}
use Rattle.inode_tree.specs.declared.id.NodeId.{NodeId}
use Rattle.inode_tree.specs.Footprints.{lies_in}
use Rattle.inode_tree.specs.Promises.{numbers_of}
use Rattle.striped_store.specs.Receipts.{AreBits}
use Rattle.reply_text.specs.ReplyText.{reply_text}
use Rattle.engine.specs.Solos.{SoloView}
use Rattle.parted_namespace.specs.Namespace.{parts_of}
use Rattle.engine.specs.Submits.{Submits}
use Rattle.engine.proofs.SoloLemmas.{spelled, applied_is, stand_as, date_as, kept_after, others_left, submits}
use Rattle.engine.proofs.solo.Solo.submit.Goals as goal

pub spell-requires-clause-reply : goal.spell-requires-clause-reply
spell-requires-clause-reply c =
    spelled (record { entries = c.self.inside.journal.entries; limits = c.self.inside.journal.limits; spare = c.self.inside.journal.spare; stripes = c.self.inside.stripes; used = c.self.inside.used })
    c.self.invariant (record { conn = c.args.conn; index = c.args.index; moment = c.args.moment; request = c.args.request }) c.requires.sound c.requires.moment
    (λ stripe. slice_get (parts_of c.eval.new.view) stripe) (λ stripe. ap (λ v. slice_get (parts_of v) stripe) c.in-Ok.ensures.on.over_same)
    (record { pass = 0; used = c.self.inside.used }) refl refl c.in-Ok.draft c.in-Ok.ensures.evaluated

pub apply-requires-clause-stands : goal.apply-requires-clause-stands
apply-requires-clause-stands c =
    stand_as (record { entries = c.self.inside.journal.entries; limits = c.self.inside.journal.limits; spare = c.self.inside.journal.spare; stripes = c.self.inside.stripes; used = c.self.inside.used })
    c.self.invariant (record { conn = c.args.conn; index = c.args.index; moment = c.args.moment; request = c.args.request }) c.requires.sound c.requires.moment
    (λ stripe. slice_get (parts_of c.eval.new.view) stripe) (λ stripe. ap (λ v. slice_get (parts_of v) stripe) c.in-Ok.ensures.on.over_same)
    (record { pass = 0; used = c.self.inside.used }) refl refl c.in-Ok.draft c.in-Ok.ensures.evaluated
    _
    (applied_is (record { entries = c.self.inside.journal.entries; limits = c.self.inside.journal.limits; spare = c.self.inside.journal.spare; stripes = c.self.inside.stripes; used = c.self.inside.used })
    c.self.invariant (record { conn = c.args.conn; index = c.args.index; moment = c.args.moment; request = c.args.request }) c.requires.sound c.requires.moment
    (λ stripe. slice_get (parts_of c.eval.new.view) stripe) (λ stripe. ap (λ v. slice_get (parts_of v) stripe) c.in-Ok.ensures.on.over_same)
    (record { pass = 0; used = c.self.inside.used }) refl refl c.in-Ok.draft c.in-Ok.ensures.evaluated
    (c.len-number.result + 1) c.as_slice-changes.result.now (parts_of c.reserve-2.new.self) (ap (λ n. n + 1) (c.len-number.ensures.value ∙ ap length c.reserve.ensures.entries)) c.as_slice-changes.ensures.value (c.reserve-2.ensures.parts ∙ ap parts_of c.in-Ok.ensures.on.over_same))

pub apply-requires-clause-dates : goal.apply-requires-clause-dates
apply-requires-clause-dates c =
    date_as (record { entries = c.self.inside.journal.entries; limits = c.self.inside.journal.limits; spare = c.self.inside.journal.spare; stripes = c.self.inside.stripes; used = c.self.inside.used })
    c.self.invariant (record { conn = c.args.conn; index = c.args.index; moment = c.args.moment; request = c.args.request }) c.requires.sound c.requires.moment
    (λ stripe. slice_get (parts_of c.eval.new.view) stripe) (λ stripe. ap (λ v. slice_get (parts_of v) stripe) c.in-Ok.ensures.on.over_same)
    (record { pass = 0; used = c.self.inside.used }) refl refl c.in-Ok.draft c.in-Ok.ensures.evaluated
    _
    (applied_is (record { entries = c.self.inside.journal.entries; limits = c.self.inside.journal.limits; spare = c.self.inside.journal.spare; stripes = c.self.inside.stripes; used = c.self.inside.used })
    c.self.invariant (record { conn = c.args.conn; index = c.args.index; moment = c.args.moment; request = c.args.request }) c.requires.sound c.requires.moment
    (λ stripe. slice_get (parts_of c.eval.new.view) stripe) (λ stripe. ap (λ v. slice_get (parts_of v) stripe) c.in-Ok.ensures.on.over_same)
    (record { pass = 0; used = c.self.inside.used }) refl refl c.in-Ok.draft c.in-Ok.ensures.evaluated
    (c.len-number.result + 1) c.as_slice-changes.result.now (parts_of c.reserve-2.new.self) (ap (λ n. n + 1) (c.len-number.ensures.value ∙ ap length c.reserve.ensures.entries)) c.as_slice-changes.ensures.value (c.reserve-2.ensures.parts ∙ ap parts_of c.in-Ok.ensures.on.over_same))

pub apply-requires-clause-others : goal.apply-requires-clause-others
apply-requires-clause-others c =
    others_left (record { entries = c.self.inside.journal.entries; limits = c.self.inside.journal.limits; spare = c.self.inside.journal.spare; stripes = c.self.inside.stripes; used = c.self.inside.used })
    c.self.invariant (record { conn = c.args.conn; index = c.args.index; moment = c.args.moment; request = c.args.request }) c.requires.sound c.requires.moment
    (λ stripe. slice_get (parts_of c.eval.new.view) stripe) (λ stripe. ap (λ v. slice_get (parts_of v) stripe) c.in-Ok.ensures.on.over_same)
    (record { pass = 0; used = c.self.inside.used }) refl refl c.in-Ok.draft c.in-Ok.ensures.evaluated
    c.stripes_of-written.result (c.len-number.result + 1) c.as_slice-changes.result.now (parts_of c.reserve-2.new.self)
    (subst (λ (l : List NodeId). AreBits c.stripes_of-written.result (λ k. lies_in k (numbers_of l) ≡ true)) c.as_slice.ensures.value c.stripes_of-written.ensures)
    (ap (λ n. n + 1) (c.len-number.ensures.value ∙ ap length c.reserve.ensures.entries)) c.as_slice-changes.ensures.value (c.reserve-2.ensures.parts ∙ ap parts_of c.in-Ok.ensures.on.over_same)

pub invariant_of-self-2 : goal.invariant_of-self-2
invariant_of-self-2 c =
    kept_after (record { entries = c.self.inside.journal.entries; limits = c.self.inside.journal.limits; spare = c.self.inside.journal.spare; stripes = c.self.inside.stripes; used = c.self.inside.used })
    c.self.invariant (record { conn = c.args.conn; index = c.args.index; moment = c.args.moment; request = c.args.request }) c.requires.sound c.requires.moment
    (λ stripe. slice_get (parts_of c.eval.new.view) stripe) (λ stripe. ap (λ v. slice_get (parts_of v) stripe) c.in-Ok.ensures.on.over_same)
    (record { pass = 0; used = c.self.inside.used }) refl refl c.in-Ok.draft c.in-Ok.ensures.evaluated
    _ (c.push.ensures.entries ∙ ap (λ es. es ++ (record { conn = c.args.conn; index = c.args.index; moment = c.args.moment; request = c.args.request }) ∷ []) c.reserve.ensures.entries)
    (c.apply.ensures
    ∙ applied_is (record { entries = c.self.inside.journal.entries; limits = c.self.inside.journal.limits; spare = c.self.inside.journal.spare; stripes = c.self.inside.stripes; used = c.self.inside.used })
    c.self.invariant (record { conn = c.args.conn; index = c.args.index; moment = c.args.moment; request = c.args.request }) c.requires.sound c.requires.moment
    (λ stripe. slice_get (parts_of c.eval.new.view) stripe) (λ stripe. ap (λ v. slice_get (parts_of v) stripe) c.in-Ok.ensures.on.over_same)
    (record { pass = 0; used = c.self.inside.used }) refl refl c.in-Ok.draft c.in-Ok.ensures.evaluated
    (c.len-number.result + 1) c.as_slice-changes.result.now (parts_of c.reserve-2.new.self) (ap (λ n. n + 1) (c.len-number.ensures.value ∙ ap length c.reserve.ensures.entries)) c.as_slice-changes.ensures.value (c.reserve-2.ensures.parts ∙ ap parts_of c.in-Ok.ensures.on.over_same))
    (ap (λ n. c.self.inside.used + n) c.from.ensures)

pub returns-clause-ok : goal.returns-clause-ok
returns-clause-ok c =
    subst (λ (old : SoloView). Submits old (record { entries = c.push.new.self.entries; limits = c.push.new.self.limits; spare = c.push.new.self.spare; stripes = c.apply.new.self; used = c.self.inside.used + c.from.result }) (record { conn = c.args.conn; index = c.args.index; moment = c.args.moment; request = c.args.request }) (record { bytes = c.in_ok-bytes.bytes; mark = c.of.result; receipt = c.receipt_of.result }))
    (let view = c.self.view_is in let same : (record { entries = c.self.inside.journal.entries; limits = c.self.inside.journal.limits; spare = c.self.inside.journal.spare; stripes = c.self.inside.stripes; used = c.self.inside.used }) ≡ c.args.self.now = cc in same)
    (submits (record { entries = c.self.inside.journal.entries; limits = c.self.inside.journal.limits; spare = c.self.inside.journal.spare; stripes = c.self.inside.stripes; used = c.self.inside.used })
    c.self.invariant (record { conn = c.args.conn; index = c.args.index; moment = c.args.moment; request = c.args.request }) c.requires.sound c.requires.moment
    (λ stripe. slice_get (parts_of c.eval.new.view) stripe) (λ stripe. ap (λ v. slice_get (parts_of v) stripe) c.in-Ok.ensures.on.over_same)
    (record { pass = 0; used = c.self.inside.used }) refl refl c.in-Ok.draft c.in-Ok.ensures.evaluated
    (record { entries = c.push.new.self.entries; limits = c.push.new.self.limits; spare = c.push.new.self.spare; stripes = c.apply.new.self; used = c.self.inside.used + c.from.result }) (record { bytes = c.in_ok-bytes.bytes; mark = c.of.result; receipt = c.receipt_of.result }) (c.push.ensures.entries ∙ ap (λ es. es ++ (record { conn = c.args.conn; index = c.args.index; moment = c.args.moment; request = c.args.request }) ∷ []) c.reserve.ensures.entries)
    (c.apply.ensures
    ∙ applied_is (record { entries = c.self.inside.journal.entries; limits = c.self.inside.journal.limits; spare = c.self.inside.journal.spare; stripes = c.self.inside.stripes; used = c.self.inside.used })
    c.self.invariant (record { conn = c.args.conn; index = c.args.index; moment = c.args.moment; request = c.args.request }) c.requires.sound c.requires.moment
    (λ stripe. slice_get (parts_of c.eval.new.view) stripe) (λ stripe. ap (λ v. slice_get (parts_of v) stripe) c.in-Ok.ensures.on.over_same)
    (record { pass = 0; used = c.self.inside.used }) refl refl c.in-Ok.draft c.in-Ok.ensures.evaluated
    (c.len-number.result + 1) c.as_slice-changes.result.now (parts_of c.reserve-2.new.self) (ap (λ n. n + 1) (c.len-number.ensures.value ∙ ap length c.reserve.ensures.entries)) c.as_slice-changes.ensures.value (c.reserve-2.ensures.parts ∙ ap parts_of c.in-Ok.ensures.on.over_same))
    (ap (λ n. c.self.inside.used + n) c.from.ensures)
    (c.in_ok-bytes.ensures ∙ ap (λ n. reply_text c.in-Ok.draft.reply n c.args.moment c.args.request.head) (ap (λ n. n + 1) (c.len-number.ensures.value ∙ ap length c.reserve.ensures.entries)))
    c.of.ensures
    (c.receipt_of.ensures.number ∙ ap (λ n. n + 1) (c.len-number.ensures.value ∙ ap length c.reserve.ensures.entries))
    (subst (λ (l : List NodeId). AreBits c.receipt_of.result.exclusive (λ k. lies_in k (numbers_of l) ≡ true)) c.as_slice-3.ensures.value c.receipt_of.ensures.exclusive)
    (subst (λ (l : List NodeId). AreBits c.receipt_of.result.shared (λ k. (lies_in k (numbers_of l) ≡ false) × (lies_in k (numbers_of c.in-Ok.draft.reads.items) ≡ true))) c.as_slice-3.ensures.value
    (subst (λ (l : List NodeId). AreBits c.receipt_of.result.shared (λ k. (lies_in k (numbers_of c.as_slice-3.result.now) ≡ false) × (lies_in k (numbers_of l) ≡ true))) c.as_slice-2.ensures.value c.receipt_of.ensures.shared))
    c.receipt_of.ensures.rounds)
