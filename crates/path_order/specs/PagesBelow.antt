-- Pages of what is below a path, as a walk gives them.
use Rattle.std.specs.Prelude.{◌≡◌, ℕ, true, false, List, [], ◌∷◌, map, take, Some, None, if◌then◌else◌}
use Rattle.namespace_model.specs.Pages.{page_of, above}
use Rattle.namespace_model.specs.Trees.{Path, Tree, at, keys_where, is_below}
use Rattle.inode_tree.specs.declared.need.Need.{Need}
use Rattle.inode_tree.specs.Inodes.{node_of}
use Rattle.inode_tree.specs.Parts.{Parts, inode_at, follow}
use Rattle.inode_tree.specs.Promises.{is_one_of}
use Rattle.inode_tree.specs.Stands.{Stands}
use Rattle.inode_tree.specs.Views.{Held, Shown, Agrees}
use Rattle.path_walk.specs.Visits.{IsHeldAndShown}
use Rattle.path_order.specs.declared.cursor.Cursor.{Cursor}
use Rattle.path_order.specs.declared.cursor.Seen.{Seen}
use Rattle.path_order.specs.declared.paging.Page.{Page}
use Rattle.path_order.specs.Cursors.{place, IsCursor}
use Rattle.path_order.specs.Needs.{NeedsOneOf}

-- what is below a path, in path order
abbrev pub below : Tree → Path → List Path
below t root = keys_where t (is_below root)

-- the node of a path, as it was looked at
pub record IsNodeOf (parts : Parts) (t : Tree) (q : Path) (s : Seen) : Type 0 where
  pub leads : follow parts 0 q ≡ Some s.id.0
  pub there : inode_at parts s.id.0 ≡ Some s.node
  pub shows : at t q ≡ Some (node_of s.node)

-- these are the nodes of these paths, one for each
abbrev pub AreNodesOf : Parts → Tree → List Path → List Seen → Type 0
AreNodesOf parts t [] [] = Unit {0}
AreNodesOf parts t [] (s ∷ seen) = ⊥
AreNodesOf parts t (q ∷ paths) [] = ⊥
AreNodesOf parts t (q ∷ paths) (s ∷ seen) = IsNodeOf parts t q s × AreNodesOf parts t paths seen

-- their ids
abbrev pub ids_in : List Seen → List ℕ
ids_in seen = map (λ (s : Seen). s.id.0) seen

-- no id comes twice
abbrev pub AreApart : List ℕ → Type 0
AreApart [] = Unit {0}
AreApart (id ∷ ids) = (is_one_of id ids ≡ false) × AreApart ids

-- the last of the paths, and the token where there is none
abbrev pub last_of : Path → List Path → Path
last_of token [] = token
last_of token (q ∷ paths) = last_of q paths

-- each of these nodes lies in a stripe that is held and was looked at
abbrev pub AreHeld : Held → Shown → List Seen → Type 0
AreHeld held shown [] = Unit {0}
AreHeld held shown (s ∷ seen) = IsHeldAndShown held shown s.id.0 × AreHeld held shown seen

-- The page behind a token of what is below a root, with its nodes, each once; the walk has come to the last of them, which is its token where more is left.
pub record IsPageBelow (held : Held) (shown : Shown) (root token : Path) (max : ℕ) (c : Cursor) (page : Page) : Type 0 where
  pub paths : List Path
  pub is_page : (parts : Parts) (t : Tree) → Stands parts t → Agrees shown parts
      → (page_of max (above (Some token) (below t root)) ≡ record { paths = paths; next = if page.more then Some (last_of token paths) else None }) × AreNodesOf parts t paths page.seen.items
  pub once : (parts : Parts) (t : Tree) → Stands parts t → Agrees shown parts → AreApart (ids_in page.seen.items)
  pub goes_on : IsCursor shown root (last_of token paths) c
  pub at_last : page.more ≡ true → last_of token paths ≡ place root c
  pub looked : AreHeld held shown page.seen.items

-- a stripe that isn't held, in which a node of the page lies
abbrev pub NeedsOfPage : Held → Shown → Path → Path → ℕ → Need → Type 0
NeedsOfPage held shown root token max n = NeedsOneOf held shown (λ t. take max (above (Some token) (below t root))) n
