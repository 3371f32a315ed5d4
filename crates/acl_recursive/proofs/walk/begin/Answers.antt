use Rattle.std.proofs.Common.{None, Some, refl, sym, subst, ◌∙◌}
use Rattle.inode_tree.specs.declared.draft.EvalStop.TheVariants as stop
use Rattle.path_walk.proofs.CallLemmas.{agrees_earlier}
use Rattle.path_walk.proofs.StepLemmas.{same_error}
use Rattle.path_order.specs.Starts.{NeedsOnTheWay}
use Rattle.path_order.proofs.TokenLemmas.{names_behind}
use Rattle.path_order.proofs.WholeLemmas.{top_at}
use Rattle.acl_recursive.specs.Batched.{IsBegun, IsBeginning}
use Rattle.acl_recursive.proofs.WalkLemmas.{before_lists, none_begun, token_begun, whole_begun, whole_lists}
use Rattle.acl_recursive.proofs.walk.begin.Goals as goal

pub returns-in_default-clause-begins : goal.returns-in_default-clause-begins
returns-in_default-clause-begins g c =
    subst (λ o. IsBegun (g.V.View.held c.args.view.now) (g.V.View.shown c.args.view.now) c.args.dir.now o c.in_ok-at_top.field-0) (sym c.in_default.is)
    (whole_begun (g.V.View.held c.args.view.now) (g.V.View.shown c.args.view.now) c.args.dir.now None c.args.top.now c.in_ok-at_top.field-0 c.requires.top
    (c.in_ok-at_top.ensures.walk (g.V.View.held c.args.view.now) (g.V.View.shown c.args.view.now) c.args.dir.now c.requires.top) (λ t. c.in_ok-at_top.ensures.all t c.args.dir.now) c.in_ok-at_top.ensures.way (whole_lists c.args.dir.now))

pub behind-requires : goal.behind-requires
behind-requires g c = record { root = (c.args.dir.now, top_at (g.V.View.shown c.args.view.now) c.args.dir.now c.args.top.now _ c.in_ok-copy.ensures c.requires.top.0) }

pub returns-in-Ok-clause-begins : goal.returns-in-Ok-clause-begins
returns-in-Ok-clause-begins g c =
    subst (λ o. IsBegun (g.V.View.held c.behind.new.view) (g.V.View.shown c.behind.new.view) c.args.dir.now o (record { walk = record { first = None; cursor = c.in-Ok.start.cursor }; way = c.in-Ok.start.seen })) (sym c.in-Some.is)
    (token_begun (g.V.View.held c.behind.new.view) (g.V.View.shown c.behind.new.view) c.args.dir.now (g.V.View.shown c.args.view.now) c.in-Some.token _ c.args.top.now c.in-Ok.start _
    c.requires.top.0 (agrees_earlier c.behind.ensures.on) (sym c.is_prefix_of.ensures ∙ c.if-is_prefix_of.true)
    (names_behind c.args.dir.now c.in-Some.token c.names-then-is_prefix_of.result.now c.names.result.now c.requires.path (sym c.is_prefix_of.ensures ∙ c.if-is_prefix_of.true) c.names-then-is_prefix_of.ensures c.names.ensures)
    (c.in-Ok.ensures.start c.args.dir.now (top_at (g.V.View.shown c.args.view.now) c.args.dir.now c.args.top.now _ c.in_ok-copy.ensures c.requires.top.0)) refl refl refl)

pub returns-in-Err-clause-need : goal.returns-in-Err-clause-need
returns-in-Err-clause-need g c = λ n e.
    subst (λ o. NeedsOnTheWay (g.V.View.held c.behind.new.view) (g.V.View.shown c.behind.new.view) c.args.dir.now o n) (sym c.in-Some.is)
    (subst (λ k. NeedsOnTheWay (g.V.View.held c.behind.new.view) (g.V.View.shown c.behind.new.view) c.args.dir.now (Some k) n) (sym (names_behind c.args.dir.now c.in-Some.token c.names-then-is_prefix_of.result.now c.names.result.now c.requires.path (sym c.is_prefix_of.ensures ∙ c.if-is_prefix_of.true) c.names-then-is_prefix_of.ensures c.names.ensures))
    (c.in-Err.ensures.need n (same_error c.in-Err.stop (stop.Need n) e) c.args.dir.now (top_at (g.V.View.shown c.args.view.now) c.args.dir.now c.args.top.now _ c.in_ok-copy.ensures c.requires.top.0)))

pub returns-in-Less-clause-begins : goal.returns-in-Less-clause-begins
returns-in-Less-clause-begins g c =
    subst (λ o. IsBeginning (g.V.View.held c.args.view.now) (g.V.View.shown c.args.view.now) c.args.dir.now o None) (sym c.in-Some.is)
    (none_begun (g.V.View.held c.args.view.now) (g.V.View.shown c.args.view.now) c.args.dir.now c.in-Some.token c.args.top.now c.requires.top.0 (sym c.is_prefix_of.ensures ∙ c.if-is_prefix_of.false) (sym c.in-Less.ensures))

pub returns-in_ok-at_top-in_default-cmp : goal.returns-in_ok-at_top-in_default-cmp
returns-in_ok-at_top-in_default-cmp g c = record {
  on = record { held_same = refl; over_same = refl; grows = λ stripe part e. e };
  begins = subst (λ o. IsBegun (g.V.View.held c.args.view.now) (g.V.View.shown c.args.view.now) c.args.dir.now o c.in_ok-at_top-in_default-cmp.field-0) (sym c.in-Some.is)
      (whole_begun (g.V.View.held c.args.view.now) (g.V.View.shown c.args.view.now) c.args.dir.now (Some c.in-Some.token) c.args.top.now c.in_ok-at_top-in_default-cmp.field-0 c.requires.top
      (c.in_ok-at_top-in_default-cmp.ensures.walk (g.V.View.held c.args.view.now) (g.V.View.shown c.args.view.now) c.args.dir.now c.requires.top) (λ t. c.in_ok-at_top-in_default-cmp.ensures.all t c.args.dir.now)
      c.in_ok-at_top-in_default-cmp.ensures.way
      (before_lists c.args.dir.now c.in-Some.token (sym c.is_prefix_of.ensures ∙ c.if-is_prefix_of.false) (λ less. c.in_default-cmp.not-Less (c.cmp.ensures ∙ less))));
  need = λ n e. (cc);
}
