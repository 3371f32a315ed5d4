use Rattle.std.proofs.Common.{[], ◌∷◌, ◌++◌, sym, ap, ◌∙◌}
use Rattle.acl_text.proofs.ListLemmas.{read_more, read_bad, all_read, one_bad}
use Rattle.acl_text.proofs.read_list.values_of.Goals as goal

pub returns-in-None-clause-refused : goal.returns-in-None-clause-refused
returns-in-None-clause-refused g c =
    one_bad g.T.Item.read_of c.args.items.now c.loop-at.at
    (c.loop-at.invariant.0 ∙ read_bad g.T.Item.read_of c.args.items.now c.loop-at.at (record { ref_ptr = (0, 0); now = [] }) c.in_ok-value.field-0 c.loop-at-test.true c.in_ok-value.ensures c.in-None.is)

pub loop-at-preserved : goal.loop-at-preserved
loop-at-preserved g c =
    let more = read_more g.T.Item.read_of c.args.items.now c.loop-at.at (record { ref_ptr = (0, 0); now = [] }) c.in-Some.value c.in_ok-value.field-0 c.loop-at-test.true c.in_ok-value.ensures c.in-Some.is in
    (c.loop-at.invariant.0 ∙ more.0, c.in_ok-push-in-Some.ensures.items ∙ ap (λ xs. xs ++ c.in-Some.value ∷ []) c.loop-at.invariant.1 ∙ sym more.1)

pub returns-clause-read : goal.returns-clause-read
returns-clause-read g c = all_read g.T.Item.read_of c.args.items.now c.loop-at.at c.loop-at.values.items c.loop-at-test.false c.loop-at.invariant.0 c.loop-at.invariant.1
