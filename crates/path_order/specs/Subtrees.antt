-- A node and all that is below it, node by node.
use Rattle.std.specs.Prelude.{◌≡◌, ◌∷◌}
use Rattle.namespace_model.specs.Trees.{Path, Tree, subtree}
use Rattle.inode_tree.specs.declared.need.Need.{Need}
use Rattle.inode_tree.specs.Footprints.{ids_of}
use Rattle.inode_tree.specs.Parts.{Parts}
use Rattle.inode_tree.specs.Stands.{Stands}
use Rattle.inode_tree.specs.Views.{Held, Shown, Agrees}
use Rattle.path_order.specs.declared.cursor.Seen.{Seen}
use Rattle.path_order.specs.declared.whole.Subtree.{Subtree}
use Rattle.path_order.specs.Cursors.{IsAt}
use Rattle.path_order.specs.PagesBelow.{below, ids_in, AreApart, AreNodesOf, AreHeld}
use Rattle.path_order.specs.Needs.{NeedsOneOf}

-- the node of p, for all parts that stand for a tree and agree with what was shown
abbrev pub IsTop : Shown → Path → Seen → Type 0
IsTop shown p s = (parts : Parts) (t : Tree) → Stands parts t → Agrees shown parts → IsAt parts p s.id.0 s.node

-- The nodes of p and of all that is below it, one for each path, in path order; those are
-- their ids, none twice; and what is below was looked at.
pub record IsSubtree (held : Held) (shown : Shown) (p : Path) (s : Subtree) : Type 0 where
  pub nodes : (parts : Parts) (t : Tree) → Stands parts t → Agrees shown parts → AreNodesOf parts t (subtree t p) (s.top ∷ s.below.items)
  pub ids : (parts : Parts) (t : Tree) → Stands parts t → Agrees shown parts → ids_of parts (subtree t p) ≡ ids_in (s.top ∷ s.below.items)
  pub once : (parts : Parts) (t : Tree) → Stands parts t → Agrees shown parts → AreApart (ids_in (s.top ∷ s.below.items))
  pub looked : AreHeld held shown s.below.items

-- a stripe that isn't held, in which a node below p lies
abbrev pub NeedsSubtree : Held → Shown → Path → Need → Type 0
NeedsSubtree held shown p n = NeedsOneOf held shown (λ t. below t p) n
