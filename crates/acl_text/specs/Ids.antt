-- The texts that name a caller, an owner or a group.
use Rattle.std.specs.Prelude.{ℕ, Bool, ◌&&◌, ◌||◌, ◌==◌, nat_le, bytes_eq, List, length, codes, Option, Some, None, if◌then◌else◌}
use Rattle.std.specs.List.{list_all}
use Rattle.std.specs.Char.{is_ascii_alphanumeric}

-- the id that may do all
abbrev pub superuser : List ℕ
superuser = codes "$superuser"

-- a letter, a digit, `.`, `_`, `@` or `-`
abbrev pub is_id_byte : ℕ → Bool
is_id_byte b = is_ascii_alphanumeric b || b == 46 || b == 95 || b == 64 || b == 45

-- 1 to 64 of these bytes
abbrev pub is_plain_id : List ℕ → Bool
is_plain_id text = nat_le 1 (length text) && nat_le (length text) 64 && list_all is_id_byte text

abbrev pub is_id : List ℕ → Bool
is_id text = bytes_eq text superuser || is_plain_id text

-- the id that a text is, where it is one
abbrev pub id_of : List ℕ → Option (List ℕ)
id_of text = if is_id text then Some text else None
