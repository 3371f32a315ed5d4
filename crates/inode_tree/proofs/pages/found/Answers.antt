use Rattle.std.proofs.Common.{◌≡◌, length, [], IsTrue, sym, ap, subst, ◌∙◌, arith}
use Rattle.std.proofs.lemmas.Bool.{eqb-false}
use Rattle.std.proofs.lemmas.List.{get_or_default}
use Rattle.std.specs.Cmp.Lexicographic.{nat_list_cmp_total}
use Rattle.std.specs.FinMap.{find, is_sorted}
use Rattle.inode_tree.specs.ChildLists.{name_cmp}
use Rattle.inode_tree.specs.Pages.{page_at, home}
use Rattle.inode_tree.proofs.PlaceLemmas.{found_at, free_at, in_order}
use Rattle.inode_tree.proofs.PageLemmas.{page_sorted, find_home}
use Rattle.inode_tree.proofs.pages.found.Goals as goal

pub place-requires : goal.place-requires
place-requires c =
    let some = eqb-false (length c.args.pages.now) 0 (sym c.is_empty.ensures ∙ c.if-is_empty.false) in
    let page : c.links-links.result.now ≡ page_at c.args.pages.now (home c.args.name.now c.args.pages.now) =
    c.links-links.ensures ∙ c.index-pages-home.is ∙ get_or_default c.args.pages.now c.home.result c.index-pages-home.result [] (omega arith) ∙ ap (page_at c.args.pages.now) c.home.ensures.home in
    subst (λ p. IsTrue (is_sorted name_cmp p)) (sym page) (page_sorted c.args.pages.now (home c.args.name.now c.args.pages.now) c.requires)

pub returns-in-Ok : goal.returns-in-Ok
returns-in-Ok c =
    let some = eqb-false (length c.args.pages.now) 0 (sym c.is_empty.ensures ∙ c.if-is_empty.false) in
    let page : c.links-links.result.now ≡ page_at c.args.pages.now (home c.args.name.now c.args.pages.now) =
    c.links-links.ensures ∙ c.index-pages-home.is ∙ get_or_default c.args.pages.now c.home.result c.index-pages-home.result [] (omega arith) ∙ ap (page_at c.args.pages.now) c.home.ensures.home in
    let sorted : IsTrue (is_sorted name_cmp c.links-links.result.now) = subst (λ p. IsTrue (is_sorted name_cmp p)) (sym page) (page_sorted c.args.pages.now (home c.args.name.now c.args.pages.now) c.requires) in
    let place = found_at name_cmp nat_list_cmp_total c.args.name.now c.links-links.result.now c.in-Ok.at c.index-links-at.result (in_order _ sorted) c.in-Ok.ensures.0 (c.in-Ok.ensures.1 c.index-links-at.result) in
    sym place.found ∙ ap (find name_cmp c.args.name.now) page ∙ find_home c.args.name.now c.args.pages.now c.requires

pub returns-in-Err : goal.returns-in-Err
returns-in-Err c =
    let some = eqb-false (length c.args.pages.now) 0 (sym c.is_empty.ensures ∙ c.if-is_empty.false) in
    let page : c.links-links.result.now ≡ page_at c.args.pages.now (home c.args.name.now c.args.pages.now) =
    c.links-links.ensures ∙ c.index-pages-home.is ∙ get_or_default c.args.pages.now c.home.result c.index-pages-home.result [] (omega arith) ∙ ap (page_at c.args.pages.now) c.home.ensures.home in
    let place = free_at name_cmp nat_list_cmp_total c.args.name.now c.links-links.result.now c.in-Err.field-0 c.in-Err.ensures.0 c.in-Err.ensures.1 in
    sym place.missing ∙ ap (find name_cmp c.args.name.now) page ∙ find_home c.args.name.now c.args.pages.now c.requires
