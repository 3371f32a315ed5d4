use Rattle.std.proofs.Common.{◌≡◌, [], IsTrue, sym, subst, ◌∙◌, arith}
use Rattle.std.proofs.lemmas.List.{get_or_default}
use Rattle.std.specs.FinMap.{is_sorted}
use Rattle.inode_tree.specs.ChildLists.{name_cmp}
use Rattle.inode_tree.specs.Pages.{page_at}
use Rattle.inode_tree.proofs.PageLemmas.{page_sorted}
use Rattle.inode_tree.proofs.pages.links_at.Goals as goal

pub returns-clause-sorted : goal.returns-clause-sorted
returns-clause-sorted c =
    let page : c.in_ok-links.links.items ≡ page_at c.args.pages.now c.args.at =
    c.in_ok-links.ensures ∙ c.links.ensures ∙ c.index-pages-at.is ∙ get_or_default c.args.pages.now c.args.at c.index-pages-at.result [] (omega arith) in
    subst (λ p. IsTrue (is_sorted name_cmp p)) (sym page) (page_sorted c.args.pages.now c.args.at c.requires.pages)
