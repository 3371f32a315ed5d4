-- A page of filesystems, by the nodes that were looked at.
use Rattle.std.specs.Prelude.{◌≡◌, ℕ, Bool, true}
use Rattle.std.specs.Prelude.{List, [], ◌∷◌, length, take, bytes_eq, Option, Some, None, option_map, IsSome}
use Rattle.std.specs.declared.cmp.Ordering.TheVariants.{Less}
use Rattle.serde_json.specs.View.{view, items_view}
use Rattle.serde_json.specs.declared.value.Value.{Value}
use Rattle.path_text.specs.Names.{is_fs_name}
use Rattle.namespace_model.specs.ListFilesystems.{filesystems, filesystem_data, filesystem_items, filesystems_body}
use Rattle.namespace_model.specs.Nodes.{Node}
use Rattle.namespace_model.specs.Pages.{Page, page_of, above}
use Rattle.namespace_model.specs.Replies.{page_fields, with_body}
use Rattle.namespace_model.specs.Trees.{Path, Tree}
use Rattle.inode_tree.specs.declared.draft.Draft.{Draft}
use Rattle.inode_tree.specs.declared.need.Need.{Need}
use Rattle.inode_tree.specs.ChildLists.{name_cmp, is_above}
use Rattle.inode_tree.specs.Footprints.{ids_of}
use Rattle.inode_tree.specs.Inodes.{BareInode}
use Rattle.inode_tree.specs.Parts.{Parts, child_of}
use Rattle.inode_tree.specs.Promises.{numbers_of}
use Rattle.inode_tree.specs.Stands.{Stands}
use Rattle.inode_tree.specs.Views.{Held, Shown, Agrees, shown_at}
use Rattle.path_walk.specs.Answers.{IsAnswered}
use Rattle.path_walk.specs.Visits.{AreLookedAt, IsHeldAndShown}
use Rattle.path_order.specs.Needs.{NeedsOneOf}
use Rattle.op_filesystem.specs.declared.page.Listed.{Listed}

-- ---- names

-- a name begins with these bytes
abbrev pub begins : List ℕ → List ℕ → Bool
begins prefix name = bytes_eq (take (length prefix) name) prefix

-- the root of the filesystem of a name, where there is one
abbrev pub root_of : Option (List ℕ) → Option Path
root_of name = option_map (λ n. n ∷ []) name

abbrev pub NamesFilesystem : Option (List ℕ) → Type 0
NamesFilesystem None = Unit {0}
NamesFilesystem (Some name) = is_fs_name name ≡ true

-- m leads to this child, begins with the prefix and is above the name, if one is given; and no other such child stands
-- before it
pub record IsFirstNamed (x : BareInode) (prefix : List ℕ) (last : Option (List ℕ)) (m : List ℕ) (id : ℕ)
    : Type 0 where
  pub leads : child_of x m ≡ Some id
  pub above : is_above last m ≡ true
  pub named : begins prefix m ≡ true
  pub first : (k : List ℕ) → is_above last k ≡ true → begins prefix k ≡ true → IsSome (child_of x k)
      → name_cmp k m ≡ Less → ⊥

-- so it is of a name with its id; or no child is above the name and begins with the prefix
abbrev pub IsNextNamed : BareInode → List ℕ → Option (List ℕ) → Option (List ℕ × ℕ) → Type 0
IsNextNamed x prefix last None =
    (k : List ℕ) → is_above last k ≡ true → begins prefix k ≡ true → child_of x k ≡ None
IsNextNamed x prefix last (Some link) = IsFirstNamed x prefix last link.0 link.1

-- ---- looks

-- the account was looked at, and this is its node
pub record IsAccount (held : Held) (shown : Shown) (x : BareInode) : Type 0 where
  pub looks : shown_at shown 0 ≡ Some x
  pub looked : IsHeldAndShown held shown 0

-- the value tells of the root of this name
abbrev pub IsTold : List ℕ → Node → Value → Type 0
IsTold name x value = view value ≡ filesystem_data (name ∷ []) x

-- ---- a page

-- the page of the filesystems whose names begin with the prefix, behind that of a name
abbrev pub page_behind : Tree → List ℕ → Option (List ℕ) → ℕ → Page
page_behind t prefix from max = page_of max (above (root_of from) (filesystems t prefix))

-- what was read are the account and the roots of the page, and each of these is told of; the last one is named where
-- more are left
pub record IsListedIn (parts : Parts) (t : Tree) (prefix : List ℕ) (from : Option (List ℕ)) (max : ℕ)
    (page : Listed) : Type 0 where
  pub paths : List Path
  pub is_page : page_behind t prefix from max
      ≡ record { paths = paths; next = root_of (option_map (λ n. n.now) page.next) }
  pub reads : numbers_of page.reads.items ≡ ids_of parts ([] ∷ paths)
  pub tells : items_view page.entries.items ≡ filesystem_items t paths

-- So it is for all parts that stand for a tree and agree with what was shown, and what was read was looked at.
pub record IsListed (held : Held) (shown : Shown) (prefix : List ℕ) (from : Option (List ℕ)) (max : ℕ)
    (page : Listed) : Type 0 where
  pub is_listed : (parts : Parts) (t : Tree) → Stands parts t → Agrees shown parts
      → IsListedIn parts t prefix from max page
  pub next : NamesFilesystem (option_map (λ n. n.now) page.next)
  pub looked : AreLookedAt held shown page.reads.items

-- a stripe that isn't held, in which a root of the page lies
abbrev pub NeedsListed : Held → Shown → List ℕ → Option (List ℕ) → ℕ → Need → Type 0
NeedsListed held shown prefix from max n = NeedsOneOf held shown (λ t. (page_behind t prefix from max).paths) n

-- ---- its reply

-- The draft of a page: the body tells of its roots, whatever tree these stand in, and what is read is what was.
pub record IsToldPage (close : Bool) (page : Listed) (d : Draft) : Type 0 where
  pub body : List ℕ
  pub is_body : (t : Tree) (paths : List Path)
      → items_view page.entries.items ≡ filesystem_items t paths → body ≡ filesystems_body t paths
  pub answers : IsAnswered close
      (with_body 200 (page_fields None (root_of (option_map (λ n. n.now) page.next))) body) page.reads.items d
