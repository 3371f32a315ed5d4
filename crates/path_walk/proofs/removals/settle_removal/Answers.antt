use Rattle.std.proofs.Common.{◌∷◌, subst, ap, ◌∙◌}
use Rattle.path_walk.specs.Holds.{AreHeldToWrite, LacksStripe}
use Rattle.path_walk.proofs.SettleLemmas.{removal_settles, need_settles_removal}
use Rattle.path_walk.proofs.removals.settle_removal.Goals as goal

pub returns-in-Some : goal.returns-in-Some
returns-in-Some g c = record {
  evaluated = need_settles_removal _ _ _ c.requires.call _ c.args.removal _ _
      (subst (λ l. LacksStripe (g.V.View.held c.args.view.now) l c.in-Some.need) (c.as_slice-2.ensures.value ∙ c.in_ok-writes.ensures ∙ ap (λ l. c.args.removal.base ∷ l) c.as_slice.ensures.value) c.in-Some.ensures);
}

pub returns : goal.returns
returns g c = record {
  evaluated = removal_settles _ _ _ c.requires.call _ c.args.removal _ _
      (subst (λ l. AreHeldToWrite (g.V.View.held c.args.view.now) l) (c.as_slice-2.ensures.value ∙ c.in_ok-writes.ensures ∙ ap (λ l. c.args.removal.base ∷ l) c.as_slice.ensures.value) c.in_default.ensures)
      c.in_ok-removed.ensures;
}
