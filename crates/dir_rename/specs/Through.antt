-- What a look through all that moves along gives.
use Rattle.std.specs.Prelude.{◌≡◌, ◌≢◌, Bool, ◌||◌, List, [], ◌++◌}
use Rattle.std.specs.List.{list_any}
use Rattle.namespace_model.specs.Effects.{moved}
use Rattle.namespace_model.specs.Rename.{is_too_long}
use Rattle.namespace_model.specs.Trees.{Path, Tree, subtree}
use Rattle.inode_tree.specs.Footprints.{ids_of}
use Rattle.inode_tree.specs.Parts.{Parts}
use Rattle.inode_tree.specs.Promises.{numbers_of}
use Rattle.inode_tree.specs.Stands.{Stands}
use Rattle.inode_tree.specs.Views.{Held, Shown, Agrees}
use Rattle.path_walk.specs.Visits.{AreLookedAt}
use Rattle.path_order.specs.declared.cursor.Cursor.{Cursor}
use Rattle.path_order.specs.Cursors.{names_of}
use Rattle.dir_rename.specs.declared.lengths.Room.{Room}
use Rattle.dir_rename.specs.declared.through.Through.{Through}
use Rattle.dir_rename.specs.Lengths.{IsRoom}

-- one of these paths comes out too long where p is called `to`
abbrev pub is_one_too_long : Path → Path → List Path → Bool
is_one_too_long p to ps = list_any (λ q. is_too_long (moved p to q)) ps

-- it says so of what came before, or of the path to which the walk has come
abbrev pub IsOverlongToo : Bool → Room → Cursor → Bool → Type 0
IsOverlongToo before room cursor b = (to : Path) → to ≢ [] → IsRoom to room → b ≡ (before || is_too_long (to ++ names_of cursor))

-- the ids of p and of all that stands below it, in path order, each looked at; and whether one of the paths comes out too long
pub record IsThrough (held : Held) (shown : Shown) (p : Path) (room : Room) (through : Through) : Type 0 where
  pub ids : (parts : Parts) (t : Tree) → Stands parts t → Agrees shown parts → numbers_of through.ids.items ≡ ids_of parts (subtree t p)
  pub says : (to : Path) → to ≢ [] → IsRoom to room → (parts : Parts) (t : Tree) → Stands parts t → Agrees shown parts → through.too_long ≡ is_one_too_long p to (subtree t p)
  pub looked : AreLookedAt held shown through.ids.items
