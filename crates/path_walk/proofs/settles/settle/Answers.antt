use Rattle.std.proofs.Common.{Ok, subst, sym}
use Rattle.path_walk.specs.Edits.{IsVerdict}
use Rattle.path_walk.specs.Settles.{Settles}
use Rattle.path_walk.proofs.SettleLemmas.{answer_settles, edits_settle, need_settles}
use Rattle.path_walk.proofs.settles.settle.Goals as goal

pub returns-in-Some : goal.returns-in-Some
returns-in-Some g c = record {
  evaluated = need_settles _ _ _ c.requires.call _ _ _ c.in-Edits.edits.items c.in-Edits.reply _ (λ o p x h. subst (IsVerdict o p x) c.in-Edits.is h) c.in-Some.ensures;
}

pub returns-in_ok-answered-in-Answer : goal.returns-in_ok-answered-in-Answer
returns-in_ok-answered-in-Answer g c = record {
  evaluated = subst (λ v. Settles (g.V.View.held c.args.view.now) (g.V.View.shown c.args.view.now) c.args.call.now c.args.reads.items c.args.id v (Ok c.in_ok-answered-in-Answer.field-0)) (sym c.in-Answer.is)
      (answer_settles _ _ _ c.requires.call _ _ _ _ c.in_ok-answered-in-Answer.ensures);
}

pub returns-in_ok-edited-in-Edits : goal.returns-in_ok-edited-in-Edits
returns-in_ok-edited-in-Edits g c = record {
  evaluated = edits_settle _ _ _ c.requires.call _ _ _ c.in-Edits.edits.items c.in-Edits.reply _ (λ o p x h. subst (IsVerdict o p x) c.in-Edits.is h) c.in_default.ensures
      c.in_ok-edited-in-Edits.ensures;
}
