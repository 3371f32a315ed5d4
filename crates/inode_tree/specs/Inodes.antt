-- What a contract sees of an inode: what it is, without the room that is made for later calls.
use Rattle.std.specs.Prelude.{◌≡◌, ◌⊎◌, ℕ, List, refl}
use Rattle.std.proofs.Common.{inl, inr}
use Rattle.std.specs.Coded.{Coded, code_by, coded×, coded⊎, coded_list, coded_ℕ}
use Rattle.std.specs.FinMap as fin
use Rattle.std.specs.FinMap.{FinMap}
use Rattle.namespace_model.specs.Nodes as model
use Rattle.inode_tree.specs.declared.meta.Meta.{Meta}
use Rattle.inode_tree.specs.declared.inode.Content.{Content}
use Rattle.inode_tree.specs.declared.inode.Content.TheVariants as content
use Rattle.inode_tree.specs.declared.inode.Inode.{Inode}
use Rattle.inode_tree.specs.ChildLists.{name_cmp}

-- the children of a directory, from names to ids
abbrev pub Links : Type 0
Links = FinMap name_cmp ℕ

-- what an inode holds of its own: the children of a directory, or the bytes of a file and its staged pieces, each with its position
pub data BareContent : Type 0 where
  directory : Links → BareContent
  file : List ℕ → List (ℕ × List ℕ) → BareContent

-- an inode without its room
pub record BareInode : Type 0 where
  pub meta : Meta
  pub content : BareContent

-- a content without its room
abbrev pub bare_content : Content → BareContent
bare_content (content.Directory children) = directory (fin.from_entries children.links)
bare_content (content.File bytes) = file bytes.committed bytes.staged

abbrev pub bare : Inode → BareInode
bare x = record { meta = x.meta; content = bare_content x.content }

-- an inode with this number
abbrev pub numbered : ℕ → BareInode → BareInode
numbered number x = record x { meta = record x.meta { number = number } }

-- the children that an inode has; a file has none
abbrev pub links_in : BareContent → Links
links_in (directory links) = links
links_in (file bytes staged) = fin.empty

-- what the model sees of a content
abbrev pub node_content : BareContent → model.Content
node_content (directory links) = model.directory
node_content (file bytes staged) = model.file bytes staged

-- the node of the model that an inode is, whatever its children
abbrev pub node_of : BareInode → model.Node
node_of x = record {
  content = node_content x.content;
  owner = x.meta.owner;
  group = x.meta.group;
  acl = x.meta.acl;
  sticky = x.meta.sticky;
  number = x.meta.number;
  moment = x.meta.moment;
  props = x.meta.props;
  lease = x.meta.lease;
}

-- ---- codes

abbrev pub Shape : Type 0
Shape = Links ⊎ (List ℕ × List (ℕ × List ℕ))

abbrev pub to_shape : BareContent → Shape
to_shape (directory links) = inl links
to_shape (file bytes staged) = inr (bytes, staged)

abbrev pub of_shape : Shape → BareContent
of_shape (inl links) = directory links
of_shape (inr pair) = file pair.0 pair.1

pub same_shape : (x : BareContent) → of_shape (to_shape x) ≡ x
same_shape (directory links) = refl
same_shape (file bytes staged) = refl

abbrev pub content_code : Coded BareContent
content_code =
    code_by Shape
    (coded⊎ (fin.code (coded_list coded_ℕ) coded_ℕ) (coded× (coded_list coded_ℕ) (coded_list (coded× coded_ℕ (coded_list coded_ℕ)))))
    to_shape of_shape same_shape

abbrev pub inode_code : Coded Meta → Coded BareInode
inode_code meta_code =
    code_by (Meta × BareContent) (coded× meta_code content_code) (λ x. (x.meta, x.content)) (λ p. record { meta = p.0; content = p.1 }) (λ _. refl)
