use Rattle.std.proofs.Common.{subst, ap, ◌∙◌}
use Rattle.path_walk.specs.Batches.{ids_in}
use Rattle.path_walk.specs.Holds.{AreHeldToWrite, LacksStripe}
use Rattle.path_walk.proofs.SettleLemmas.{all_settle, need_settles_all}
use Rattle.path_walk.proofs.settles.settle_all.Goals as goal

pub returns-in-Some : goal.returns-in-Some
returns-in-Some g c = record {
  evaluated = need_settles_all _ _ _ c.requires.call _ c.args.edits.items _ _
      (subst (λ l. LacksStripe (g.V.View.held c.args.view.now) l c.in-Some.need) (c.as_slice-2.ensures.value ∙ c.in_ok-writes.ensures ∙ ap ids_in c.as_slice.ensures.value) c.in-Some.ensures);
}

pub returns : goal.returns
returns g c = record {
  evaluated = all_settle _ _ _ c.requires.call _ c.args.edits.items _ _
      (subst (λ l. AreHeldToWrite (g.V.View.held c.args.view.now) l) (c.as_slice-2.ensures.value ∙ c.in_ok-writes.ensures ∙ ap ids_in c.as_slice.ensures.value) c.in_default.ensures)
      c.in_ok-edited_all.ensures;
}
