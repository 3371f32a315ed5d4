-- Names: of filesystems, of directories and files, and the lists of them that paths are.
use Rattle.std.specs.Prelude.{ℕ, ◌+◌, ◌-◌, ◌<◌, ◌≡◌, slice_index, Bool, true, false, not, ◌&&◌, ◌||◌, ◌==◌, nat_le, nat_lt, bytes_eq, List, [], ◌∷◌, length, Option, Some, None, if◌then◌else◌}
use Rattle.std.specs.List.{list_all, slice_split}
use Rattle.std.specs.Char.{is_ascii_lowercase, is_ascii_digit}
use Rattle.std.specs.Str.{is_utf8}

abbrev pub is_hyphen : ℕ → Bool
is_hyphen b = b == 45

-- `a` to `z`, `0` to `9` and `-`
abbrev pub is_fs_byte : ℕ → Bool
is_fs_byte b = is_ascii_lowercase b || is_ascii_digit b || is_hyphen b

abbrev pub is_some_run : List ℕ → Bool
is_some_run run = nat_le 1 (length run)

-- Every hyphen stands between two letters or digits: no run between hyphens is empty.
abbrev pub has_single_hyphens : List ℕ → Bool
has_single_hyphens text = list_all is_some_run (slice_split is_hyphen text)

-- the first and the last byte is no hyphen, and behind a hyphen stands none
pub record HyphensStandBetween (text : List ℕ) : Type 0 where
  pub some : 0 < length text
  pub first : is_hyphen (slice_index text 0) ≡ false
  pub last : is_hyphen (slice_index text (length text - 1)) ≡ false
  pub apart : (k : ℕ) → k + 1 < length text → is_hyphen (slice_index text k) ≡ true → is_hyphen (slice_index text (k + 1)) ≡ false

-- 3 to 63 lower-case letters, digits and hyphens; the first and the last byte is no hyphen, and no two hyphens stand side by side
abbrev pub is_fs_name : List ℕ → Bool
is_fs_name text = nat_le 3 (length text) && nat_le (length text) 63 && list_all is_fs_byte text && has_single_hyphens text

-- the filesystem that a text names, where it names one
abbrev pub fs_name_of : List ℕ → Option (List ℕ)
fs_name_of text = if is_fs_name text then Some text else None

abbrev pub is_slash : ℕ → Bool
is_slash b = b == 47

-- a byte that no path has: below 32, and 127
abbrev pub is_control : ℕ → Bool
is_control b = nat_lt b 32 || b == 127

-- `.` and `..`
abbrev pub is_dots : List ℕ → Bool
is_dots name = bytes_eq name (46 ∷ []) || bytes_eq name (46 ∷ 46 ∷ [])

-- no `/` and no control byte
abbrev pub is_clear : List ℕ → Bool
is_clear text = list_all (λ b. not (is_slash b)) text && list_all (λ b. not (is_control b)) text

-- the name of a directory or a file: 1 to 255 bytes of UTF-8, none below 32 and none 127, no `/`, and not `.` or `..`
abbrev pub is_name : List ℕ → Bool
is_name name = nat_le 1 (length name) && nat_le (length name) 255 && not (is_dots name) && is_clear name && is_utf8 name

-- the first part names a filesystem, and the others are names
abbrev pub are_parts : List (List ℕ) → Bool
are_parts [] = true
are_parts (fs ∷ names) = is_fs_name fs && list_all is_name names
