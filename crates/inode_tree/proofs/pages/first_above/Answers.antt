use Rattle.std.proofs.Common.{ap, sym, ◌∙◌, slice_get}
use Rattle.inode_tree.specs.Pages.{together}
use Rattle.inode_tree.proofs.ChildLemmas.{all_above}
use Rattle.inode_tree.proofs.pages.first_above.Goals as goal

pub returns-in-None : goal.returns-in-None
returns-in-None c = rw c.in-None.is (c.first_from.ensures ∙ ap (λ l. slice_get l 0) (sym (all_above (together c.args.pages.now))))
