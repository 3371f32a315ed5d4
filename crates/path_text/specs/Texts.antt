-- The texts of paths: what a text without escapes stands for, and the first fault of one that stands for none.
use Rattle.std.specs.Prelude.{ℕ, ◌+◌, ◌-◌, ◌≤◌, ◌≡◌, ◌⊎◌, Bool, true, ◌==◌, nat_lt, List, [], ◌∷◌, ◌++◌, length, take, drop, slice_index, position, Option, Some, None, Result, Ok, Err, option_map, if◌then◌else◌}
use Rattle.std.specs.List.{slice_split, join_with_byte}
use Rattle.std.specs.Str.Lossy.{utf8_valid_len}
use Rattle.path_text.specs.Names.{are_parts, is_control, is_dots, is_fs_name, is_slash}
use Rattle.path_text.specs.declared.fault.PathFault.{PathFault}
use Rattle.path_text.specs.declared.fault.PathFault.TheVariants.{NotUtf8, EmptyName, DotName, NameTooLong, PathTooLong, TooDeep, ControlByte, BadFsName}
use Rattle.path_text.specs.declared.fault.TargetStop.{TargetStop}
use Rattle.path_text.specs.declared.fault.TargetStop.TheVariants.{Fault}

-- the text begins with `/`
abbrev pub BeginsWithSlash : List ℕ → Type 0
BeginsWithSlash text = (rest : List ℕ) × (text ≡ 47 ∷ rest)

-- `/`, then the parts with `/` between them; the account is `/`
abbrev pub path_text : List (List ℕ) → List ℕ
path_text path = 47 ∷ join_with_byte 47 path

-- the text of the path, perhaps with one `/` more at its end
abbrev pub Spells : List ℕ → List (List ℕ) → Type 0
Spells text path = (text ≡ path_text path) ⊎ (text ≡ path_text path ++ 47 ∷ [])

-- the path keeps the limits: its names, how many bytes its text has without the `/` at the front, and how many parts it has
pub record KeepsLimits (path : List (List ℕ)) : Type 0 where
  pub parts : are_parts path ≡ true
  pub length_within : length (join_with_byte 47 path) ≤ 1024
  pub depth_within : length path ≤ 60

-- what is left of a text without its first byte and one `/` at its end
abbrev pub without_end : List ℕ → List ℕ
without_end rest = if is_slash (slice_index rest (length rest - 1)) then take (length rest - 1) rest else rest

unfoldable pub inner : List ℕ → List ℕ
inner text = without_end (drop 1 text)

-- the parts between the slashes; none for the account
unfoldable pub split_parts : List ℕ → List (List ℕ)
split_parts rest = if length rest == 0 then [] else slice_split is_slash rest

-- what is wrong with the part at a place, counted from 0 with the filesystem
abbrev pub part_fault : ℕ → List ℕ → Option PathFault
part_fault place part =
    if length part == 0 then Some (EmptyName place)
    else (if place == 0 then (if is_fs_name part then None else Some BadFsName)
    else (if is_dots part then Some (DotName place)
    else (if nat_lt 255 (length part) then Some (NameTooLong place) else None)))

abbrev pub or_else : Option PathFault → Option PathFault → Option PathFault
or_else None other = other
or_else (Some fault) other = Some fault

-- the first fault of the parts, from the left
abbrev pub parts_fault : ℕ → List (List ℕ) → Option PathFault
parts_fault place [] = None
parts_fault place (part ∷ parts) = or_else (part_fault place part) (parts_fault (place + 1) parts)

-- the text is UTF-8, or where it stops being so
abbrev pub utf8_fault : List ℕ → Option PathFault
utf8_fault text = if utf8_valid_len text == length text then None else Some (NotUtf8 (utf8_valid_len text))

-- too many bytes between the ends, too many parts, or a bad part
unfoldable pub size_fault : List ℕ → Option PathFault
size_fault rest =
    if nat_lt 1024 (length rest) then Some PathTooLong
    else (if nat_lt 60 (length (split_parts rest)) then Some TooDeep else parts_fault 0 (split_parts rest))

-- the first fault of a text that isn't escaped
unfoldable pub text_fault : List ℕ → Option PathFault
text_fault text =
    if is_slash (slice_index text 0)
    then or_else (utf8_fault text) (or_else (option_map ControlByte (position is_control text)) (size_fault (inner text)))
    else Some (EmptyName 0)

-- the path of a text, or its first fault
abbrev pub path_or_fault : Option PathFault → List (List ℕ) → Result (List (List ℕ)) TargetStop
path_or_fault None path = Ok path
path_or_fault (Some fault) path = Err (Fault fault)

unfoldable pub plain_path : List ℕ → Result (List (List ℕ)) TargetStop
plain_path text = path_or_fault (text_fault text) (split_parts (inner text))
