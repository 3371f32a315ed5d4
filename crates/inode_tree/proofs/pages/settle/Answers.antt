use Rattle.std.proofs.Common.{◌≡◌, ◌==◌, false, length, set, ap, ◌∙◌, arith}
use Rattle.inode_tree.specs.Pages.{joins_next, joins_before}
use Rattle.inode_tree.proofs.PageEdits.{settled_alone}
use Rattle.inode_tree.proofs.pages.settle.Goals as goal

pub returns-clause-pages : goal.returns-clause-pages
returns-clause-pages c =
    let some : (length c.args.links.items == 0) ≡ false = cc (c.is_empty.ensures, c.as_slice.ensures.value, c.if-is_empty.false) in
    let apart : joins_next c.args.pages.now.items c.args.at c.args.links.items ≡ false =
    cc (c.joins_next.ensures, c.as_slice-2.ensures.value, c.as_slice-3.ensures.value, c.if-joins_next.false) in
    let alone : joins_before c.args.pages.now.items c.args.at c.args.links.items ≡ false =
    cc (c.joins_before.ensures, c.as_slice-4.ensures.value, c.as_slice-5.ensures.value, c.if-joins_before.false) in
    ap (set c.args.pages.now.items c.args.at) c.in_ok-pages.ensures ∙ settled_alone c.args.pages.now.items c.args.at c.args.links.items (omega arith) some apart alone
