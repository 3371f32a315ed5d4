-- What headers say of the length of a body.
use Rattle.std.specs.Prelude.{◌≡◌, ◌≢◌, ℕ, ◌<◌, ◌≤◌, List, [], ◌∷◌, ◌++◌, length, Some, None}
use Rattle.head_text.specs.Decimal.{decimal_value}
use Rattle.http_front.specs.declared.limits.TheConstants.{BODY_MOST}
use Rattle.http_front.specs.declared.framing.Framing.{Framing}
use Rattle.http_front.specs.declared.framing.Framing.TheVariants.{Body, Coded, BadLength, TooLarge}
use Rattle.http_front.specs.declared.framing.Values.{Values}
use Rattle.http_front.specs.declared.framing.Values.TheVariants.{Absent, One, Several}
use Rattle.http_front.specs.Requests.{codings_of, lengths_of, told_length, TellsBody}

-- a Transfer-Encoding is there
abbrev pub IsCoded : List (List ℕ × List ℕ) → Type 0
IsCoded headers = codings_of headers ≢ []

-- Content-Length tells no length
pub record HasBadLength (headers : List (List ℕ × List ℕ)) : Type 0 where
  pub no_coding : codings_of headers ≡ []
  pub none_told : told_length (lengths_of headers) ≡ None

-- Content-Length tells more than is taken
pub record HasLargeBody (headers : List (List ℕ × List ℕ)) : Type 0 where
  pub no_coding : codings_of headers ≡ []
  pub many : ℕ
  pub length_is : told_length (lengths_of headers) ≡ Some many
  pub too_large : BODY_MOST < many

-- what headers say of the body
abbrev pub FramingIs : List (List ℕ × List ℕ) → Framing → Type 0
FramingIs headers (Body many) = TellsBody headers many
FramingIs headers Coded = IsCoded headers
FramingIs headers BadLength = HasBadLength headers
FramingIs headers TooLarge = HasLargeBody headers

-- what one value of Content-Length tells
abbrev pub LengthIs : List ℕ → Framing → Type 0
LengthIs value (Body many) = (decimal_value value ≡ Some many) × (many ≤ BODY_MOST)
LengthIs value Coded = ⊥
LengthIs value BadLength = decimal_value value ≡ None
LengthIs value TooLarge = (many : ℕ) × (decimal_value value ≡ Some many) × (BODY_MOST < many)

-- the values, where there is one at most
abbrev pub ValuesAre : Values → List (List ℕ) → Type 0
ValuesAre Absent values = values ≡ []
ValuesAre (One value) values = values ≡ value.now ∷ []
ValuesAre Several values = 2 ≤ length values

-- the same values and one more at the end
abbrev pub AreNow : Values → List ℕ → Values → Type 0
AreNow old value new = (values : List (List ℕ)) → ValuesAre old values → ValuesAre new (values ++ value ∷ [])
