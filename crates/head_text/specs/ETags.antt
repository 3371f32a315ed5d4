-- The texts of lists of entity tags (RFC 9110, sections 8.8.3, 13.1.1 and 13.1.2), of which those with a number count.
use Rattle.std.specs.Prelude.{codes, ℕ, Bool, ◌-◌, ◌==◌, ◌&&◌, ◌||◌, nat_le, List, [], length, take, drop, slice_index, bytes_eq, Option, Some, None, if◌then◌else◌, true, false}
use Rattle.std.specs.Char.{is_ascii_hexdigit}
use Rattle.std.specs.List.{list_all, slice_split, filter_map, prefix_len, suffix_len}
use Rattle.std.specs.Str.Parse.{digits_value}
use Rattle.head_text.specs.Tags.{Tags}

-- a space or a tab
abbrev pub is_blank : ℕ → Bool
is_blank b = b == 32 || b == 9

abbrev pub is_comma : ℕ → Bool
is_comma b = b == 44

-- the text without spaces and tabs round it
abbrev pub without_front : List ℕ → List ℕ
without_front text = drop (prefix_len is_blank text) text

abbrev pub without_back : List ℕ → List ℕ
without_back text = take (length text - suffix_len is_blank text) text

unfoldable pub trimmed : List ℕ → List ℕ
trimmed text = without_back (without_front text)

-- the text without one `W/` in front
unfoldable pub without_weak : List ℕ → List ℕ
without_weak text = if bytes_eq (take 2 text) (codes "W/") then drop 2 text else text

-- the text without the quotes round it, where both are there
abbrev pub is_quoted : List ℕ → Bool
is_quoted text = nat_le 2 (length text) && slice_index text 0 == 34 && slice_index text (length text - 1) == 34

unfoldable pub without_quotes : List ℕ → List ℕ
without_quotes text = if is_quoted text then drop 1 (take (length text - 1) text) else text

-- the number that `0x` and 16 hex digits in either case write
unfoldable pub tag_number : List ℕ → Option ℕ
tag_number text =
    if length text == 18 && bytes_eq (take 2 text) (codes "0x") && list_all is_ascii_hexdigit (drop 2 text)
    then Some (digits_value 16 (drop 2 text)) else None

-- the number of an item
abbrev pub item_number : List ℕ → Option ℕ
item_number item = tag_number (without_quotes (without_weak (trimmed item)))

-- `*` alone is any tag; else the items between commas that have a number
unfoldable pub etags_of : List ℕ → Tags
etags_of text =
    if bytes_eq (trimmed text) (codes "*") then record { any = true; numbers = [] }
    else record { any = false; numbers = filter_map item_number (slice_split is_comma text) }
