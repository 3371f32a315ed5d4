-- Requests as they stand in a stream (RFC 9112, sections 2 to 6): which are complete, and how a stream parts into them.
use Rattle.std.specs.Prelude.{◌≡◌, ℕ, ◌≤◌, List, [], ◌∷◌, ◌++◌, length, map, filter, All, codes, Option, Some, None}
use Rattle.std.specs.List.{flat_map}
use Rattle.httparse.specs.Grammar.{RequestHead, IsRequestHead, print_request}
use Rattle.httparse.specs.Spans.{name_and_value}
use Rattle.head_text.specs.Decimal.{decimal_value}
use Rattle.head_text.specs.Headers.{is_named}
use Rattle.http_front.specs.declared.limits.TheConstants.{HEAD_MOST, HEADERS_MOST, BODY_MOST}
use Rattle.http_front.specs.declared.raw.Raw.{Raw}

-- a head, and the bytes of its body
pub record RequestText : Type 0 where
  pub head : RequestHead
  pub body : List ℕ

-- the bytes of a request
unfoldable pub print_text : RequestText → List ℕ
print_text t = print_request t.head ++ t.body

-- the headers of a head in their order: the name, and the value without the white space around it
abbrev pub headers_in : RequestHead → List (List ℕ × List ℕ)
headers_in head = map name_and_value head.fields

abbrev pub headers_of : RequestText → List (List ℕ × List ℕ)
headers_of t = headers_in t.head

-- the values of all headers of this name
abbrev pub values_of : List ℕ → List (List ℕ × List ℕ) → List (List ℕ)
values_of name headers = map (λ header. header.1) (filter (is_named name) headers)

-- the values of Transfer-Encoding (RFC 9112, section 6.1)
abbrev pub codings_of : List (List ℕ × List ℕ) → List (List ℕ)
codings_of headers = values_of (codes "transfer-encoding") headers

-- the values of Content-Length (RFC 9112, section 6.2)
abbrev pub lengths_of : List (List ℕ × List ℕ) → List (List ℕ)
lengths_of headers = values_of (codes "content-length") headers

-- The length of the body that the values of Content-Length tell: 0 without one. Two, or one that is no number of 1 to 19 digits, tell
-- none.
abbrev pub told_length : List (List ℕ) → Option ℕ
told_length [] = Some 0
told_length (value ∷ []) = decimal_value value
told_length (value ∷ other ∷ more) = None

-- the headers have no coding, and tell the length of a body that is taken
pub record TellsBody (headers : List (List ℕ × List ℕ)) (many : ℕ) : Type 0 where
  pub no_coding : codings_of headers ≡ []
  pub length_is : told_length (lengths_of headers) ≡ Some many
  pub within : many ≤ BODY_MOST

-- A head of the grammar within the limits on heads, and a body of the length that its headers tell.
pub record IsComplete (t : RequestText) : Type 0 where
  pub head : IsRequestHead t.head
  pub short : length (print_request t.head) ≤ HEAD_MOST
  pub few : length t.head.fields ≤ HEADERS_MOST
  pub body : TellsBody (headers_of t) (length t.body)

-- the parts of a request as the reader hands them out
unfoldable pub raw_of : RequestText → Raw
raw_of t = record {
  method = t.head.method;
  target = t.head.target;
  minor = t.head.minor;
  headers = headers_of t;
  body = t.body;
}

-- the bytes are that complete request, and then the rest
abbrev pub Begins : List ℕ → RequestText → List ℕ → Type 0
Begins bytes t rest = IsComplete t × (bytes ≡ print_text t ++ rest)

-- no complete request stands at the front of the bytes
abbrev pub BeginsWithNone : List ℕ → Type 0
BeginsWithNone bytes = (t : RequestText) (rest : List ℕ) → Begins bytes t rest → ⊥

-- The bytes are these complete requests one after the other, as many as there are, and then the rest.
pub record Splits (bytes : List ℕ) (texts : List RequestText) (rest : List ℕ) : Type 0 where
  pub whole : bytes ≡ flat_map print_text texts ++ rest
  pub each : All IsComplete texts
  pub last : BeginsWithNone rest

-- any bytes split in one way only
abbrev pub IsUnique : Type 0
IsUnique =
    (bytes : List ℕ) (ts us : List RequestText) (r q : List ℕ) → Splits bytes ts r → Splits bytes us q
    → (ts ≡ us) × (r ≡ q)
