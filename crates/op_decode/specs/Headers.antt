-- The headers of a request by their names, which have no case (RFC 9110, section 5.1). Of a repeated header the first counts.
use Rattle.std.specs.Prelude.{ℕ, Bool, false, not, List, Option, None, Some, is_some, bytes_eq}
use Rattle.head_text.specs.Headers.{first_header}
use Rattle.http_front.specs.declared.raw.Raw.{Raw}

-- the value of the first header of this name, in any case
abbrev pub header : List ℕ → Raw → Option (List ℕ)
header name raw = first_header name raw.headers

abbrev pub has_header : List ℕ → Raw → Bool
has_header name raw = is_some (header name raw)

-- there is a value, and it is this text byte for byte
abbrev pub is_text : List ℕ → Option (List ℕ) → Bool
is_text text None = false
is_text text (Some value) = bytes_eq value text

-- there is a value, and it is another text
abbrev pub is_other_text : List ℕ → Option (List ℕ) → Bool
is_other_text text None = false
is_other_text text (Some value) = not (bytes_eq value text)
