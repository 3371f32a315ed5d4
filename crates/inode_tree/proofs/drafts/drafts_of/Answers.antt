use Rattle.std.proofs.Common.{◌≡◌, ◌+◌, ◌++◌, ◌∷◌, [], take, true, false, sym, ap, ◌∙◌, subst, refl}
use Rattle.std.proofs.lemmas.List.{take_more}
use Rattle.inode_tree.specs.Changes.{is_own}
use Rattle.inode_tree.specs.Drafts.{AreDrafts}
use Rattle.inode_tree.proofs.DraftLemmas.{no_drafts, own_more, other_more}
use Rattle.inode_tree.proofs.drafts.drafts_of.Goals as goal
use Rattle.inode_tree.proofs.drafts.drafts_of.Goals.{then-is_own+in_ok-add_draft, else-is_own}

pub loop-change-init : goal.loop-change-init
loop-change-init c = record {
  sorted = rw c.new-drafts.ensures.items refl;
  drafts = rw c.new-drafts.ensures.items (no_drafts c.args.stripe c.args.nodes.now);
}

pub loop-change-preserved : goal.loop-change-preserved
loop-change-preserved c =
    let so_far = take c.loop-change.change-index c.args.changes.now in
    let more : take (c.loop-change.change-index + 1) c.args.changes.now ≡ so_far ++ c.change-item.result ∷ [] =
    take_more c.args.changes.now c.loop-change.change-index c.change-item.result c.loop-change-test.true ∙ ap (λ x. so_far ++ x ∷ []) (sym c.change-item.is) in
    elim c.if-is_own.branch [
      | then-is_own+in_ok-add_draft w ↦
          let own : is_own c.args.stripe c.change-item.result ≡ true = sym c.is_own.ensures ∙ w.if-is_own.true in
          record {
            sorted = rw w.drafts-is w.in_ok-add_draft.ensures.sorted;
            drafts = subst (λ cs. AreDrafts c.args.stripe c.args.nodes.now cs c.if-is_own.drafts.items) (sym more)
                (rw w.drafts-is (own_more c.args.stripe c.args.nodes.now so_far c.change-item.result c.loop-change.drafts.items _ c.loop-change.invariant.drafts own w.in_ok-add_draft.ensures.drafted));
          }
      | else-is_own w ↦
          let other : is_own c.args.stripe c.change-item.result ≡ false = sym c.is_own.ensures ∙ w.if-is_own.false in
          record {
            sorted = rw w.drafts-is c.loop-change.invariant.sorted;
            drafts = subst (λ cs. AreDrafts c.args.stripe c.args.nodes.now cs c.if-is_own.drafts.items) (sym more)
                (rw w.drafts-is (other_more c.args.stripe c.args.nodes.now so_far c.change-item.result c.loop-change.drafts.items c.loop-change.invariant.drafts other));
          }
    ]
