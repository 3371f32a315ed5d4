-- A walk below a node in path order: where it is, and what comes next.
use Rattle.std.specs.Prelude.{◌≡◌, ◌≢◌, ◌⊎◌, ℕ, ◌%◌, ◌<◌, Bool, true, false, List, [], ◌∷◌, ◌++◌, map, Option, Some, None, is_some}
use Rattle.std.specs.declared.cmp.Ordering.TheVariants.{Less}
use Rattle.lock_core.specs.declared.object.LockMode.TheVariants.{Shared}
use Rattle.path_text.specs.Paths.{path_cmp}
use Rattle.namespace_model.specs.Trees.{Path, Tree, at}
use Rattle.inode_tree.specs.declared.id.NodeId.{NodeId}
use Rattle.inode_tree.specs.declared.need.Need.{Need}
use Rattle.inode_tree.specs.Inodes.{BareInode}
use Rattle.inode_tree.specs.Parts.{Parts, inode_at, follow}
use Rattle.inode_tree.specs.Stands.{Stands}
use Rattle.inode_tree.specs.Views.{Held, Shown, Agrees, covers}
use Rattle.path_walk.specs.Visits.{IsHeldAndShown}
use Rattle.path_order.specs.declared.cursor.Level.{Level}
use Rattle.path_order.specs.declared.cursor.Cursor.{Cursor}
use Rattle.path_order.specs.declared.cursor.Seen.{Seen}

-- ---- the order

abbrev pub Before : Path → Path → Type 0
Before p q = path_cmp p q ≡ Less

-- nothing of what stands below p is behind the token
abbrev pub NoneBehind : Tree → Path → Path → Type 0
NoneBehind t token p = (m : List ℕ) (s : Path) → is_some (at t (p ++ m ∷ s)) ≡ true → Before token (p ++ m ∷ s) → ⊥

-- q is the first path of the tree behind the token
pub record IsNext (t : Tree) (token q : Path) : Type 0 where
  pub there : is_some (at t q) ≡ true
  pub behind : Before token q
  pub first : (r : Path) → is_some (at t r) ≡ true → Before token r → (r ≡ q) ⊎ Before q r

-- ---- a walk

-- the path to which levels lead
abbrev pub end_of : Path → List Level → Path
end_of p [] = p
end_of p (l ∷ ls) = end_of (p ++ l.name ∷ []) ls

-- the names of levels
abbrev pub names_in : List Level → Path
names_in ls = map (λ (l : Level). l.name) ls

-- the path at which a walk below a root is, and its names below the root
abbrev pub place : Path → Cursor → Path
place root c = end_of root c.levels.items

abbrev pub names_of : Cursor → Path
names_of c = names_in c.levels.items

-- a path leads to an id, at which this inode is kept
pub record IsAt (parts : Parts) (p : Path) (id : ℕ) (x : BareInode) : Type 0 where
  pub leads : follow parts 0 p ≡ Some id
  pub there : inode_at parts id ≡ Some x

-- each level has the inode of its path
abbrev pub AreAlong : Parts → Path → List Level → Type 0
AreAlong parts p [] = Unit {0}
AreAlong parts p (l ∷ ls) = ((id : ℕ) × IsAt parts p id l.node) × AreAlong parts (p ++ l.name ∷ []) ls

-- What is left at the path to which the levels lead: all that is below it, where it is the token, and its inode is this one; else nothing.
abbrev pub IsLeft : Parts → Tree → Path → Path → Option BareInode → Type 0
IsLeft parts t token p (Some x) = (token ≡ p) × ((id : ℕ) × IsAt parts p id x)
IsLeft parts t token p None = ((rest : Path) × (token ≡ p ++ rest)) × NoneBehind t token p

-- a walk below a root that has come to a token
pub record IsCursorIn (parts : Parts) (t : Tree) (root token : Path) (c : Cursor) : Type 0 where
  pub along : AreAlong parts root c.levels.items
  pub left : IsLeft parts t token (place root c) c.ahead

-- for all parts that stand for a tree and agree with what was shown
abbrev pub IsCursor : Shown → Path → Path → Cursor → Type 0
IsCursor shown root token c = (parts : Parts) (t : Tree) → Stands parts t → Agrees shown parts → IsCursorIn parts t root token c

abbrev pub IsWalk : Shown → Cursor → Type 0
IsWalk shown c = (root token : Path) × IsCursor shown root token c

-- below a path
abbrev pub IsBelow : Path → Path → Type 0
IsBelow root q = (n : List ℕ) × ((rest : Path) × (q ≡ root ++ n ∷ rest))

-- ---- what comes next

-- the next path behind the token, below the root, and its id
pub record IsNextBelow (parts : Parts) (t : Tree) (root token q : Path) (id : ℕ) : Type 0 where
  pub next : IsNext t token q
  pub below : IsBelow root q
  pub leads : follow parts 0 q ≡ Some id

-- the levels lead to the next path; or nothing is left, and the walk stays where it is
abbrev pub IsAdvanced : Parts → Tree → Path → Path → Cursor → Option NodeId → Type 0
IsAdvanced parts t root token c None = NoneBehind t token root × IsCursorIn parts t root token c
IsAdvanced parts t root token c (Some id) = AreAlong parts root c.levels.items × IsNextBelow parts t root token (place root c) id.0

-- nothing is left; or there is a next path below the root
abbrev pub IsEnd : Tree → Path → Path → Bool → Type 0
IsEnd t root token true = NoneBehind t token root
IsEnd t root token false = (q : Path) × (IsNext t token q × IsBelow root q)

pub record IsSeenNext (parts : Parts) (t : Tree) (root token : Path) (c : Cursor) (seen : Seen) : Type 0 where
  pub is_next : IsNextBelow parts t root token (place root c) seen.id.0
  pub there : inode_at parts seen.id.0 ≡ Some seen.node
  pub goes_on : IsCursorIn parts t root (place root c) c

-- The node of the next path was looked at, and there the walk goes on; or nothing of what is below the root is behind the token.
abbrev pub IsNextSeen : Held → Shown → Path → Path → Cursor → Option Seen → Type 0
IsNextSeen held shown root token c None = (parts : Parts) (t : Tree) → Stands parts t → Agrees shown parts → NoneBehind t token root × IsCursorIn parts t root token c
IsNextSeen held shown root token c (Some seen) =
    ((parts : Parts) (t : Tree) → Stands parts t → Agrees shown parts → IsSeenNext parts t root token c seen) × IsHeldAndShown held shown seen.id.0

-- no other stripe was looked at than that of the node
abbrev pub LooksAtNext : Shown → Shown → Option Seen → Type 0
LooksAtNext old new None = new ≡ old
LooksAtNext old new (Some seen) = (stripe : ℕ) → stripe ≢ seen.id.0 % 64 → new stripe ≡ old stripe

-- the next path lies in a stripe that isn't held
pub record NeedsNext (held : Held) (shown : Shown) (root token : Path) (n : Need) : Type 0 where
  pub within : n.stripe < 64
  pub asks : n.mode ≡ Shared
  pub lacks : covers (held n.stripe) Shared ≡ false
  pub needed : (parts : Parts) (t : Tree) → Stands parts t → Agrees shown parts → (q : Path) × ((id : ℕ) × (IsNextBelow parts t root token q id × (n.stripe ≡ id % 64)))
