-- What the content of an inode says of the children of its node.
use Rattle.std.proofs.Common.{◌≡◌, ℕ, List, None, ap, sym, ◌∙◌}
use Rattle.std.specs.Cmp.Lexicographic.{nat_list_cmp_total}
use Rattle.std.specs.FinMap as fin
use Rattle.std.specs.FinMap.{find}
use Rattle.file_data.specs.FileRecord.{FileRecord}
use Rattle.inode_tree.specs.declared.inode.Content.{Content}
use Rattle.inode_tree.specs.declared.inode.Content.TheVariants as content
use Rattle.inode_tree.specs.declared.inode.Inode.{Inode}
use Rattle.inode_tree.specs.ChildLists.{ChildRecord, name_cmp}
use Rattle.inode_tree.specs.Inodes.{BareInode, bare, bare_content, numbered, links_in}
use Rattle.inode_tree.specs.Parts.{child_of}

names_of : (x : BareInode) (i : Inode) (c : Content) (k : ℕ) (n : List ℕ) → numbered k (bare i) ≡ x → i.content ≡ c → child_of x n ≡ fin.get (links_in (bare_content c)) n
names_of x i c k n e f = ap (λ (y : BareInode). child_of y n) (sym e) ∙ ap (λ (d : Content). fin.get (links_in (bare_content d)) n) f

pub child_in : (x : BareInode) (i : Inode) (children : ChildRecord) (k : ℕ) (n : List ℕ) → numbered k (bare i) ≡ x → i.content ≡ content.Directory children → find name_cmp n children.links ≡ child_of x n
child_in x i children k n e f = sym (names_of x i (content.Directory children) k n e f ∙ fin.get-from_entries nat_list_cmp_total children.links n)

pub no_child_in : (x : BareInode) (i : Inode) (bytes : FileRecord) (k : ℕ) (n : List ℕ) → numbered k (bare i) ≡ x → i.content ≡ content.File bytes → None ≡ child_of x n
no_child_in x i bytes k n e f = sym (names_of x i (content.File bytes) k n e f ∙ fin.get-empty name_cmp n)
