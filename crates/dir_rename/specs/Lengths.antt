-- How much room a path leaves for what is below it: names, and bytes.
use Rattle.std.specs.Prelude.{◌≡◌, ◌≢◌, ℕ, suc, ◌+◌, Bool, [], ◌∷◌, ◌++◌, length}
use Rattle.namespace_model.specs.Rename.{Moving, grows, is_too_long, text_length}
use Rattle.namespace_model.specs.Trees.{Path}
use Rattle.dir_rename.specs.declared.lengths.Room.{Room}

-- the bytes of names, with a `/` before each
abbrev pub name_bytes : Path → ℕ
name_bytes [] = 0
name_bytes (name ∷ names) = suc (length name) + name_bytes names

-- what is left of the limits
pub record IsRoom (p : Path) (room : Room) : Type 0 where
  pub names : room.names + length p ≡ 60
  pub bytes : room.bytes + text_length p ≡ 1024

-- it says whether the path of these names below one that leaves this room is too long
abbrev pub IsOverlong : Room → Path → Bool → Type 0
IsOverlong room names b = (p : Path) → p ≢ [] → IsRoom p room → b ≡ is_too_long (p ++ names)

-- it says whether paths grow by the move
abbrev pub IsGrowth : Room → Room → Bool → Type 0
IsGrowth source path b = (m : Moving) → IsRoom m.source source → IsRoom m.path path → b ≡ grows m
