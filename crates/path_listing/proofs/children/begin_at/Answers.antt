use Rattle.std.proofs.Common.{None, option_map, sym, subst, ◌∙◌}
use Rattle.path_order.proofs.TokenLemmas.{names_behind}
use Rattle.path_listing.specs.declared.children.Begin.TheVariants as begin
use Rattle.path_listing.specs.Listed.{IsBegin}
use Rattle.path_listing.proofs.ChildLemmas.{no_token, begins_below, begins_before, begins_behind}
use Rattle.path_listing.proofs.children.begin_at.Goals as goal

pub returns-in_default : goal.returns-in_default
returns-in_default c = subst (λ o. IsBegin c.args.dir.now o (begin.Behind None)) (sym c.in_default.is) (no_token c.args.dir.now)

pub returns-then-is_prefix_of : goal.returns-then-is_prefix_of
returns-then-is_prefix_of c =
    subst (λ o. IsBegin c.args.dir.now o (begin.Behind c.first.result)) (sym c.in-Some.is)
    (begins_below c.args.dir.now c.in-Some.token _ (option_map (λ n. n.now) c.first.result)
    (names_behind c.args.dir.now c.in-Some.token c.names-then-is_prefix_of.result.now c.names.result.now c.requires.path (sym c.is_prefix_of.ensures ∙ c.if-is_prefix_of.true) c.names-then-is_prefix_of.ensures c.names.ensures)
    c.first.ensures.value)

pub returns-in-Less : goal.returns-in-Less
returns-in-Less c =
    subst (λ o. IsBegin c.args.dir.now o begin.AtEnd) (sym c.in-Some.is)
    (begins_behind c.args.dir.now c.in-Some.token (sym c.is_prefix_of.ensures ∙ c.if-is_prefix_of.false) (sym c.in-Less.ensures))

pub returns-in_default-cmp : goal.returns-in_default-cmp
returns-in_default-cmp c =
    subst (λ o. IsBegin c.args.dir.now o (begin.Behind None)) (sym c.in-Some.is)
    (begins_before c.args.dir.now c.in-Some.token (sym c.is_prefix_of.ensures ∙ c.if-is_prefix_of.false) (λ less. c.in_default-cmp.not-Less (c.cmp.ensures ∙ less)))
