use Rattle.std.proofs.Common.{◌+◌, ◌==◌, ◌<◌, length, refl, ap, sym, ◌∙◌, slice_index_or, Some, arith}
use Rattle.std.proofs.lemmas.Option.{slice_get_read}
use Rattle.inode_tree.specs.Inodes.{BareInode}
use Rattle.op_create.specs.Creates.{making_of}
use Rattle.op_create.specs.Chains.{maker_of}
use Rattle.op_create.proofs.DraftLemmas.{pushed_on, get_at}
use Rattle.op_create.proofs.drafts.changes.Goals as goal

pub loop-i-preserved : goal.loop-i-preserved
loop-i-preserved c =
    let within : c.loop-i.i < length c.args.place.now.names.now = let a = c.loop-i-test.true in let b = c.loop-i.auto.i-end in omega arith in
    pushed_on (maker_of c.args.call.now) (making_of c.args.call.now c.args.new.now) _ c.inode.result.now.meta.group c.loop-i.acl c.in_ok-acl-2.acl c.loop-i.above
    c.args.place.now.names.now c.args.ids.now c.loop-i.i c.in_ok-copy.field-0 (slice_index_or c.args.ids.now c.loop-i.i (record { 0 = 0 })) (c.loop-i.i + 1 == length c.args.place.now.names.now) c.in_ok-inode.inode
    c.loop-i.changes.items c.push.new.self.items c.push-in-loop-i.new.self.items _ c.loop-i.invariant within refl
    (slice_get_read c.args.place.now.names.now (length c.args.place.now.names.now) c.loop-i.i c.index-names-i.result refl within c.index-names-i.is ∙ ap Some (sym c.in_ok-copy.ensures))
    (get_at c.args.ids.now c.loop-i.i (record { 0 = 0 }) (let d = c.requires.many in let h : c.loop-i.i < length c.args.ids.now = omega arith in h))
    (ap (λ (x : BareInode). x.meta.group) c.inode.ensures)
    c.in_ok-inode.ensures c.in_ok-acl-2.ensures c.in_ok-push.ensures.items c.in_ok-push-2.ensures.items
