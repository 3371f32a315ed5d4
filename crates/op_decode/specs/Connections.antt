-- Whether a connection ends with the reply (RFC 9112, sections 9.3 and 9.6).
use Rattle.std.specs.Prelude.{ℕ, Bool, false, ◌||◌, ◌==◌, List, Option, None, Some, codes}
use Rattle.std.specs.List.{list_any, slice_split}
use Rattle.std.specs.Str.{str_eq_ignore_ascii_case}
use Rattle.head_text.specs.ETags.{is_comma, trimmed}
use Rattle.http_front.specs.declared.raw.Raw.{Raw}
use Rattle.op_decode.specs.Headers.{header}

-- an item that is `close` in any case, with spaces and tabs round it
abbrev pub is_close : List ℕ → Bool
is_close item = str_eq_ignore_ascii_case (trimmed item) (codes "close")

-- one of the items between the commas
unfoldable pub has_close : Option (List ℕ) → Bool
has_close None = false
has_close (Some value) = list_any is_close (slice_split is_comma value)

-- the request came by HTTP/1.0, or its Connection has the item `close`
unfoldable pub closes : Raw → Bool
closes raw = raw.minor == 0 || has_close (header (codes "connection") raw)
