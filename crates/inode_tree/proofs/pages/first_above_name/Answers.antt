use Rattle.std.proofs.Common.{◌≡◌, length, [], Some, IsTrue, sym, ap, subst, ◌∙◌, ◌+◌, drop, slice_get, arith}
use Rattle.std.proofs.lemmas.Bool.{eqb-false}
use Rattle.std.proofs.lemmas.List.{get_or_default}
use Rattle.std.specs.FinMap.{is_sorted}
use Rattle.inode_tree.specs.ChildLists.{name_cmp}
use Rattle.inode_tree.specs.Pages.{page_at, home, together}
use Rattle.inode_tree.proofs.PageLemmas.{page_sorted, above_in, above_next}
use Rattle.inode_tree.proofs.pages.first_above_name.Goals as goal

pub place_above-from-requires : goal.place_above-from-requires
place_above-from-requires c =
    let some = eqb-false (length c.args.pages.now) 0 (sym c.is_empty.ensures ∙ c.if-is_empty.false) in
    let page : c.links-links.result.now ≡ page_at c.args.pages.now (home c.args.name.now c.args.pages.now) =
    c.links-links.ensures ∙ c.index-pages-at.is ∙ get_or_default c.args.pages.now c.home-at.result c.index-pages-at.result [] (omega arith) ∙ ap (page_at c.args.pages.now) c.home-at.ensures.home in
    subst (λ p. IsTrue (is_sorted name_cmp p)) (sym page) (page_sorted c.args.pages.now (home c.args.name.now c.args.pages.now) c.requires)

pub returns-then-from-links : goal.returns-then-from-links
returns-then-from-links c =
    let some = eqb-false (length c.args.pages.now) 0 (sym c.is_empty.ensures ∙ c.if-is_empty.false) in
    let page : c.links-links.result.now ≡ page_at c.args.pages.now (home c.args.name.now c.args.pages.now) =
    c.links-links.ensures ∙ c.index-pages-at.is ∙ get_or_default c.args.pages.now c.home-at.result c.index-pages-at.result [] (omega arith) ∙ ap (page_at c.args.pages.now) c.home-at.ensures.home in
    ap Some c.index-links-from.is ∙ above_in c.args.name.now c.args.pages.now c.requires c.links-links.result.now page c.place_above-from.result c.place_above-from.ensures.above c.index-links-from.result (omega arith)

pub returns : goal.returns
returns c =
    let some = eqb-false (length c.args.pages.now) 0 (sym c.is_empty.ensures ∙ c.if-is_empty.false) in
    let page : c.links-links.result.now ≡ page_at c.args.pages.now (home c.args.name.now c.args.pages.now) =
    c.links-links.ensures ∙ c.index-pages-at.is ∙ get_or_default c.args.pages.now c.home-at.result c.index-pages-at.result [] (omega arith) ∙ ap (page_at c.args.pages.now) c.home-at.ensures.home in
    c.first_from.ensures ∙ ap (λ j. slice_get (together (drop (j + 1) c.args.pages.now)) 0) c.home-at.ensures.home
    ∙ above_next c.args.name.now c.args.pages.now c.requires c.links-links.result.now page c.place_above-from.result c.place_above-from.ensures.above (omega arith)
