-- Headers as pairs of bytes. Names have no case (RFC 9110, section 5.1), and of a repeated header the first counts.
use Rattle.std.specs.Prelude.{ℕ, Bool, List, Option, Vec, option_map, find}
use Rattle.std.specs.Str.{str_eq_ignore_ascii_case}
use Rattle.std.specs.declared.alloc.Global.{Global}

-- the name and the value of a header
abbrev pub header_of : Vec ℕ Global × Vec ℕ Global → List ℕ × List ℕ
header_of pair = (pair.0.items, pair.1.items)

abbrev pub is_named : List ℕ → List ℕ × List ℕ → Bool
is_named name header = str_eq_ignore_ascii_case header.0 name

-- the value of the first header of this name, in any case
unfoldable pub first_header : List ℕ → List (List ℕ × List ℕ) → Option (List ℕ)
first_header name headers = option_map (λ (header : List ℕ × List ℕ). header.1) (find (is_named name) headers)
