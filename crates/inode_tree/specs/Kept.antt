-- Parts that stand for a tree go on standing for one; and an index tells all parts that keep ids of their own stripes alone.
use Rattle.std.specs.Prelude.{◌≡◌, ℕ, Option}
use Rattle.namespace_model.specs.Trees.{Path, Tree, IsTree}
use Rattle.namespace_model.specs.Sound.{IsSound}
use Rattle.namespace_model.specs.Step.{step}
use Rattle.inode_tree.specs.declared.placed.Placed.{Placed}
use Rattle.inode_tree.specs.Parts.{Parts, follow}
use Rattle.inode_tree.specs.Stands.{AreStriped, Stands}
use Rattle.inode_tree.specs.Index.{IsIndex}
use Rattle.inode_tree.specs.After.{after}
use Rattle.inode_tree.specs.Drawing.{DrawsRightly}

-- the parts after an entry stand for the tree of its step
abbrev pub StandsAfter : Type 0
StandsAfter = (parts : Parts) (t : Tree) (e : Placed) (number : ℕ) → Stands parts t → IsSound e.entry.request → DrawsRightly parts t e
    → Stands (after parts e number) (step t e.entry number).tree

-- an index of a tree shows that parts which keep ids of their own stripes alone stand for it
abbrev pub StandsByIndex : Type 0
StandsByIndex = (parts : Parts) (t : Tree) (ids : Path → Option ℕ) → IsIndex parts t ids → AreStriped parts → IsTree t → Stands parts t

-- following names is an index where the parts stand for the tree
abbrev pub HasIndex : Type 0
HasIndex = (parts : Parts) (t : Tree) → Stands parts t → IsIndex parts t (follow parts 0)

-- two lists of parts with one index for one tree, which keep ids of their own stripes alone, are one list
abbrev pub HasOneList : Type 0
HasOneList = (xs ys : Parts) (t : Tree) (ids : Path → Option ℕ) → IsIndex xs t ids → IsIndex ys t ids → AreStriped xs → AreStriped ys → xs ≡ ys
