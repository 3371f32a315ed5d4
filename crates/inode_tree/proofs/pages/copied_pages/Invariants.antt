use Rattle.std.proofs.Common.{◌≡◌, take}
use Rattle.std.specs.Prelude.{vec_capacity, vec_len}
use Rattle.inode_tree.proofs.pages.copied_pages.Given as goal

abbrev pub invariant-loop-page : goal.invariant-loop-page
invariant-loop-page l =
    (l.copied.items ≡ take l.page-index l.pages.items) × (vec_capacity l.copied ≡ vec_capacity l.pages) × (vec_len l.copied ≡ l.page-index)
