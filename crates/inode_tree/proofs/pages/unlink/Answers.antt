use Rattle.std.proofs.Common.{◌≡◌, None}
use Rattle.std.specs.FinMap.{find}
use Rattle.inode_tree.specs.ChildLists.{name_cmp}
use Rattle.inode_tree.specs.Pages.{together}
use Rattle.inode_tree.proofs.PageEdits.{nothing_found}
use Rattle.inode_tree.proofs.pages.unlink.Goals as goal

pub returns-in-None-clause-pages : goal.returns-in-None-clause-pages
returns-in-None-clause-pages c =
    let missing : find name_cmp c.args.name.now (together c.args.pages.now.items) ≡ None =
    cc (c.found.ensures, c.in-None.is, c.as_slice.ensures.value) in
    nothing_found c.args.name.now c.args.pages.now.items c.requires missing
