-- Continuation tokens.
use Rattle.std.specs.Prelude.{◌≡◌, ℕ, Bool, true, false, ◌&&◌, ◌==◌, List, [], ◌∷◌, ◌++◌, length, drop, bytes_eq, Option, Some, None, option_and_then, if◌then◌else◌}
use Rattle.std.specs.Result.{result_ok}
use Rattle.base64.specs.Engines.{standard}
use Rattle.base64.specs.GeneralPurpose.{decoded_of, encode_of}
use Rattle.path_text.specs.Texts.{KeepsLimits, path_text, plain_path}

-- the path begins with the filesystem; on an account page it has one part
abbrev pub is_on_page : Option (List ℕ) → List (List ℕ) → Bool
is_on_page None path = length path == 1
is_on_page (Some fs) [] = false
is_on_page (Some fs) (part ∷ names) = bytes_eq part fs

-- what a token says of a path: what is below the filesystem, or the whole path on an account page
abbrev pub said_of : Option (List ℕ) → List (List ℕ) → List (List ℕ)
said_of None path = path
said_of (Some fs) path = drop 1 path

-- the bytes of a token before they are encoded
abbrev pub token_bytes : Option (List ℕ) → List (List ℕ) → List ℕ
token_bytes fs path = path_text (said_of fs path)

-- the base64 of RFC 4648, with the standard alphabet and padding
unfoldable pub token_text : Option (List ℕ) → List (List ℕ) → List ℕ
token_text fs path = encode_of standard (token_bytes fs path)

-- the text is the token of a path of the page within the limits
pub record IsToken (fs : Option (List ℕ)) (text : List ℕ) (path : List (List ℕ)) : Type 0 where
  pub limits : KeepsLimits path
  pub page : is_on_page fs path ≡ true
  pub spelled : text ≡ token_text fs path

-- the text of a path whose token says these bytes
abbrev pub full_text : Option (List ℕ) → List ℕ → List ℕ
full_text None bytes = bytes
full_text (Some fs) bytes = (47 ∷ fs) ++ bytes

-- the path, if these bytes are what its token says
unfoldable pub path_if_said : Option (List ℕ) → List ℕ → List (List ℕ) → Option (List (List ℕ))
path_if_said fs bytes path = if is_on_page fs path && bytes_eq (token_bytes fs path) bytes then Some path else None

unfoldable pub path_said : Option (List ℕ) → List ℕ → Option (List (List ℕ))
path_said fs bytes = option_and_then (path_if_said fs bytes) (result_ok (plain_path (full_text fs bytes)))

-- the path of a token
unfoldable pub token_path : Option (List ℕ) → List ℕ → Option (List (List ℕ))
token_path fs text = option_and_then (path_said fs) (decoded_of standard text)
