use Rattle.std.proofs.Common.{Some, None, option_map, refl, sym, subst, ◌∙◌}
use Rattle.inode_tree.specs.declared.draft.EvalStop.TheVariants as stop
use Rattle.path_walk.proofs.StepLemmas.{same_error}
use Rattle.path_order.specs.Starts.{IsStartBehind, IsStartAt, NeedsOnTheWay}
use Rattle.path_order.proofs.TokenLemmas.{from_start, no_token, token_before, token_behind, token_below, names_behind}
use Rattle.path_order.proofs.token.start_at.Goals as goal

pub returns-in_default-clause-start : goal.returns-in_default-clause-start
returns-in_default-clause-start g c =
    subst (λ o. IsStartBehind (g.V.View.held c.args.view.now) (g.V.View.shown c.args.view.now) c.args.dir.now (option_map (λ t. t.now) o) c.at_start.result) (sym c.in_default.is)
    (from_start (g.V.View.held c.args.view.now) (g.V.View.shown c.args.view.now) c.args.dir.now None c.args.root c.at_start.result c.requires.root c.at_start.ensures.walk c.at_start.ensures.seen (no_token c.args.dir.now))

pub returns-in-Ok-clause-start : goal.returns-in-Ok-clause-start
returns-in-Ok-clause-start g c =
    subst (λ o. IsStartBehind (g.V.View.held c.behind.new.view) (g.V.View.shown c.behind.new.view) c.args.dir.now (option_map (λ t. t.now) o) c.in-Ok.start) (sym c.in-Some.is)
    (token_below (g.V.View.held c.behind.new.view) (g.V.View.shown c.behind.new.view) c.args.dir.now _ c.in-Some.token.now c.in-Ok.start (names_behind c.args.dir.now c.in-Some.token.now c.names-then-is_prefix_of.result.now c.names.result.now c.requires.path (sym c.is_prefix_of.ensures ∙ c.if-is_prefix_of.true) c.names-then-is_prefix_of.ensures c.names.ensures) (c.in-Ok.ensures.start c.args.dir.now c.requires.root))

pub returns-in-Err-clause-need : goal.returns-in-Err-clause-need
returns-in-Err-clause-need g c = λ n e.
    subst (λ o. NeedsOnTheWay (g.V.View.held c.behind.new.view) (g.V.View.shown c.behind.new.view) c.args.dir.now (option_map (λ t. t.now) o) n) (sym c.in-Some.is)
    (subst (λ k. NeedsOnTheWay (g.V.View.held c.behind.new.view) (g.V.View.shown c.behind.new.view) c.args.dir.now (Some k) n) (sym (names_behind c.args.dir.now c.in-Some.token.now c.names-then-is_prefix_of.result.now c.names.result.now c.requires.path (sym c.is_prefix_of.ensures ∙ c.if-is_prefix_of.true) c.names-then-is_prefix_of.ensures c.names.ensures))
    (c.in-Err.ensures.need n (same_error c.in-Err.stop (stop.Need n) e) c.args.dir.now c.requires.root))

pub returns-in-Less-clause-start : goal.returns-in-Less-clause-start
returns-in-Less-clause-start g c =
    subst (λ o. IsStartAt (g.V.View.held c.args.view.now) (g.V.View.shown c.args.view.now) c.args.dir.now (option_map (λ t. t.now) o) None) (sym c.in-Some.is)
    (token_behind (g.V.View.held c.args.view.now) (g.V.View.shown c.args.view.now) c.args.dir.now c.in-Some.token.now (sym c.is_prefix_of.ensures ∙ c.if-is_prefix_of.false) (sym c.in-Less.ensures))

pub returns-in_default-cmp : goal.returns-in_default-cmp
returns-in_default-cmp g c = record {
  on = record { held_same = refl; over_same = refl; grows = λ stripe part e. e };
  start = subst (λ o. IsStartBehind (g.V.View.held c.args.view.now) (g.V.View.shown c.args.view.now) c.args.dir.now (option_map (λ t. t.now) o) c.at_start-in_default-cmp.result) (sym c.in-Some.is)
      (from_start (g.V.View.held c.args.view.now) (g.V.View.shown c.args.view.now) c.args.dir.now (Some c.in-Some.token.now) c.args.root c.at_start-in_default-cmp.result c.requires.root c.at_start-in_default-cmp.ensures.walk
      c.at_start-in_default-cmp.ensures.seen (token_before c.args.dir.now c.in-Some.token.now (sym c.is_prefix_of.ensures ∙ c.if-is_prefix_of.false) (λ less. c.in_default-cmp.not-Less (c.cmp.ensures ∙ less))));
  need = λ n e. (cc);
}
