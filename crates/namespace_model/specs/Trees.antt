-- The tree of the namespace: what stands at each path. The filesystem's name comes first in a path; the empty path is the account.
use Rattle.std.specs.Prelude.{ℕ, ◌+◌, ◌==◌, Bool, ◌&&◌, nat_lt, List, [], ◌∷◌, ◌++◌, length, Option, Some, None, unwrap_or, IsSome, IsTrue}
use Rattle.std.specs.FinMap as fin
use Rattle.std.specs.FinMap.{FinMap}
use Rattle.path_text.specs.Paths.{path_cmp, is_prefix}
pub use Rattle.path_text.specs.Paths.{parent}
use Rattle.path_text.specs.Texts.{KeepsLimits}
use Rattle.namespace_model.specs.Nodes.{Node, is_directory, account, blank}

abbrev pub Path : Type 0
Path = List (List ℕ)

abbrev pub Tree : Type 0
Tree = FinMap path_cmp Node

abbrev pub at : Tree → Path → Option Node
at t p = fin.get t p

-- the node of a path that is there
abbrev pub node_at : Tree → Path → Node
node_at t p = unwrap_or (at t p) blank

-- the account alone
unfoldable pub opening_tree : Tree
opening_tree = fin.insert fin.empty [] account

-- one name below d
abbrev pub is_child : Path → Path → Bool
is_child d q = is_prefix d q && (length q == length d + 1)

-- below d, at any depth
abbrev pub is_below : Path → Path → Bool
is_below d q = is_prefix d q && nat_lt (length d) (length q)

-- the paths that are there and pass a test, in path order
unfoldable pub keys_where : Tree → (Path → Bool) → List Path
keys_where t test = fin.keys (fin.retain_keys t test)

-- what stands one name below d
abbrev pub children : Tree → Path → List Path
children t d = keys_where t (is_child d)

-- nothing stands one name below d
abbrev pub is_bare : Tree → Path → Bool
is_bare t d = length (children t d) == 0

-- p and all that stands below it
abbrev pub subtree : Tree → Path → List Path
subtree t p = keys_where t (is_prefix p)

abbrev pub IsDirectory : Option Node → Type 0
IsDirectory None = ⊥
IsDirectory (Some x) = IsTrue (is_directory x)

abbrev pub IsDirectoryAt : Tree → Path → Type 0
IsDirectoryAt t p = IsDirectory (at t p)

-- what is above each path that is there is a directory that is there
abbrev pub IsLaid : Tree → Type 0
IsLaid t = (p : Path) (n : List ℕ) → IsSome (at t (p ++ n ∷ [])) → IsDirectoryAt t p

-- The account is there and is a directory, so is what is above each other path, and each path keeps the limits.
pub record IsTree (t : Tree) : Type 0 where
  pub root : IsDirectoryAt t []
  pub parents : IsLaid t
  pub limits : (p : Path) → IsSome (at t p) → KeepsLimits p
