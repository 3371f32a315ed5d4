use Rattle.std.proofs.Common.{List, subst}
use Rattle.inode_tree.specs.declared.id.NodeId.{NodeId}
use Rattle.service_workers.specs.Drafts.{AreKept}
use Rattle.service_workers.proofs.KeepLemmas.{kept_within}
use Rattle.service_workers.proofs.CommitLemmas.{where_ok, can_commit, is_work, reply_there}
use Rattle.service_workers.proofs.commit.commit_draft.Goals as goal

pub narrow-requires-clause-within : goal.narrow-requires-clause-within
narrow-requires-clause-within g c =
    let so : AreKept c.args.draft.reads.items c.args.draft.writes.items c.stripes_to_keep-keep.result =
    subst (λ (ids : List NodeId). AreKept ids c.args.draft.writes.items c.stripes_to_keep-keep.result) c.as_slice.ensures.value
    (subst (λ (ids : List NodeId). AreKept c.as_slice.result.now ids c.stripes_to_keep-keep.result) c.as_slice-2.ensures.value c.stripes_to_keep-keep.ensures) in
    kept_within c.args.held _ _ _ _ c.args.draft c.requires.drafted.drafts c.stripes_to_keep-keep.result so

pub commit-requires-clause-can : goal.commit-requires-clause-can
commit-requires-clause-can g c =
    let so : AreKept c.args.draft.reads.items c.args.draft.writes.items c.stripes_to_keep-keep.result =
    subst (λ (ids : List NodeId). AreKept ids c.args.draft.writes.items c.stripes_to_keep-keep.result) c.as_slice.ensures.value
    (subst (λ (ids : List NodeId). AreKept c.as_slice.result.now ids c.stripes_to_keep-keep.result) c.as_slice-2.ensures.value c.stripes_to_keep-keep.ensures) in
    let n = c.narrow.ensures in
    can_commit c.args.pass.now c.requires.found c.args.held c.requires.held c.args.draft c.args.entry c.requires.drafted c.stripes_to_keep-keep.result so c.narrow.new.pass n.found n.same n.mine n.kept

pub commit-requires-clause-does : goal.commit-requires-clause-does
commit-requires-clause-does g c =
    let so : AreKept c.args.draft.reads.items c.args.draft.writes.items c.stripes_to_keep-keep.result =
    subst (λ (ids : List NodeId). AreKept ids c.args.draft.writes.items c.stripes_to_keep-keep.result) c.as_slice.ensures.value
    (subst (λ (ids : List NodeId). AreKept c.as_slice.result.now ids c.stripes_to_keep-keep.result) c.as_slice-2.ensures.value c.stripes_to_keep-keep.ensures) in
    let n = c.narrow.ensures in
    is_work c.args.pass.now c.requires.found c.args.held c.requires.held c.args.draft c.args.entry c.requires.drafted c.stripes_to_keep-keep.result so c.narrow.new.pass n.found n.same n.mine n.kept

pub returns-clause-reply : goal.returns-clause-reply
returns-clause-reply g c =
    let so : AreKept c.args.draft.reads.items c.args.draft.writes.items c.stripes_to_keep-keep.result =
    subst (λ (ids : List NodeId). AreKept ids c.args.draft.writes.items c.stripes_to_keep-keep.result) c.as_slice.ensures.value
    (subst (λ (ids : List NodeId). AreKept c.as_slice.result.now ids c.stripes_to_keep-keep.result) c.as_slice-2.ensures.value c.stripes_to_keep-keep.ensures) in
    let n = c.narrow.ensures in
    where_ok c.commit.result c.commit.ensures.parts
    (λ parts before ends. reply_there c.args.pass.now c.requires.found c.args.held c.requires.held c.args.draft c.args.entry c.requires.drafted c.stripes_to_keep-keep.result so c.narrow.new.pass n.found n.same n.mine n.kept
    before (parts before ends))
