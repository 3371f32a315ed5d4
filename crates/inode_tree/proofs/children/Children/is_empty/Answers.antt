use Rattle.std.proofs.Common.{◌≡◌, ◌==◌, length, sym, ap, ◌∙◌}
use Rattle.inode_tree.specs.ChildLists.{ChildRecord}
use Rattle.inode_tree.specs.Pages.{together}
use Rattle.inode_tree.proofs.PageLemmas.{no_links}
use Rattle.inode_tree.proofs.children.Children.is_empty.Goals as goal

pub returns-clause-none : goal.returns-clause-none
returns-clause-none c =
    let links : together c.self.inside.pages.items ≡ c.args.self.now.links = ap (λ (r : ChildRecord). r.links) c.self.view_is in
    let tells : c.is_empty.result ≡ (length c.self.inside.pages.items == 0) = c.is_empty.ensures ∙ ap (λ l. length l == 0) c.as_slice.ensures.value in
    let none = no_links c.self.inside.pages.items c.self.invariant in
    ((λ h. sym links ∙ none.0 (sym tells ∙ h)), λ h. tells ∙ none.1 (links ∙ h))
