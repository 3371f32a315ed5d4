-- When each fault of a path comes, on the bytes, and which goes before which.
use Rattle.std.specs.Prelude.{ℕ, ◌<◌, ◌≤◌, ◌≡◌, ◌⊎◌, Bool, true, false, not, List, [], ◌∷◌, ◌++◌, length, slice_index, Some, Result, Err}
use Rattle.std.specs.List.{list_all, join_with_byte}
use Rattle.std.specs.Str.{IsUtf8, IsValidUpTo}
use Rattle.percent_encoding.specs.Percent.{percent_decode}
use Rattle.path_text.specs.Names.{are_parts, is_control, is_dots, is_fs_name, is_slash}
use Rattle.path_text.specs.Texts.{BeginsWithSlash}
use Rattle.path_text.specs.Targets.{HasNoBadEscape, IsFirstBadEscape, SpellsTargetPath, path_piece, query_piece}
use Rattle.path_text.specs.declared.fault.PathFault.{PathFault}
use Rattle.path_text.specs.declared.fault.PathFault.TheVariants.{BadEscape, NotUtf8, EmptyName, DotName, NameTooLong, PathTooLong, TooDeep, ControlByte, BadFsName}
use Rattle.path_text.specs.declared.fault.TargetStop.{TargetStop}
use Rattle.path_text.specs.declared.fault.TargetStop.TheVariants.{Fault, BadQuery, NoMemory}

-- a result is the given answer, unless memory ran out
abbrev pub Answers : {T : Type 0} → Result T TargetStop → Result T TargetStop → Type 0
Answers result answer = (result ≡ answer) ⊎ (result ≡ Err NoMemory)

-- ---- the pieces of a text

-- the test holds at the place, and nowhere before it
pub record IsFirst (test : ℕ → Bool) (text : List ℕ) (at : ℕ) : Type 0 where
  pub within : at < length text
  pub here : test (slice_index text at) ≡ true
  pub none_before : (k : ℕ) → k < at → test (slice_index text k) ≡ false

-- these bytes stand behind the `/` at the front, up to one `/` at the end where there is one
abbrev pub IsBetween : List ℕ → List ℕ → Type 0
IsBetween text rest = (text ≡ (47 ∷ rest) ++ 47 ∷ []) ⊎ ((text ≡ 47 ∷ rest) × ((front : List ℕ) → ¬ (rest ≡ front ++ 47 ∷ [])))

-- these parts stand with `/` between them, and have none; no bytes have no parts
abbrev pub AreSplit : List ℕ → List (List ℕ) → Type 0
AreSplit rest [] = rest ≡ []
AreSplit rest (part ∷ parts) =
    (0 < length rest) × (rest ≡ join_with_byte 47 (part ∷ parts)) × (list_all (list_all (λ b. not (is_slash b))) (part ∷ parts) ≡ true)

-- ---- texts that aren't escaped

-- nothing is wrong with the bytes: a `/` at the front, UTF-8, no control byte
pub record IsPlainText (text : List ℕ) : Type 0 where
  pub slash : BeginsWithSlash text
  pub utf8 : IsUtf8 text
  pub no_control : list_all (λ b. not (is_control b)) text ≡ true

-- and the text is short enough, and has these parts
pub record IsShortText (text : List ℕ) (parts : List (List ℕ)) : Type 0 where
  pub plain : IsPlainText text
  pub rest : List ℕ
  pub between : IsBetween text rest
  pub short : length rest ≤ 1024
  pub split : AreSplit rest parts

-- what is wrong with the part at a place, counted from 0 with the filesystem: an empty part; else the first part, where it names no
-- filesystem; else `.` and `..`, and a part of over 255 bytes
abbrev pub IsPartFault : ℕ → List ℕ → PathFault → Type 0
IsPartFault place part (EmptyName at) = (at ≡ place) × (part ≡ [])
IsPartFault place part BadFsName = (place ≡ 0) × (0 < length part) × (is_fs_name part ≡ false)
IsPartFault place part (DotName at) = (at ≡ place) × (0 < place) × (is_dots part ≡ true)
IsPartFault place part (NameTooLong at) = (at ≡ place) × (0 < place) × (255 < length part)
IsPartFault place part (BadEscape at) = ⊥
IsPartFault place part (NotUtf8 at) = ⊥
IsPartFault place part (ControlByte at) = ⊥
IsPartFault place part PathTooLong = ⊥
IsPartFault place part TooDeep = ⊥

-- a part has the fault, and those before it are fine
pub record IsFirstPartFault (parts : List (List ℕ)) (fault : PathFault) : Type 0 where
  pub front : List (List ℕ)
  pub part : List ℕ
  pub back : List (List ℕ)
  pub parted : parts ≡ front ++ part ∷ back
  pub before : are_parts front ≡ true
  pub here : IsPartFault (length front) part fault

-- all that goes before a part's fault is fine
pub record IsFaultOfParts (text : List ℕ) (fault : PathFault) : Type 0 where
  pub parts : List (List ℕ)
  pub text_is : IsShortText text parts
  pub shallow : length parts ≤ 60
  pub first : IsFirstPartFault parts fault

-- the first fault of a text that isn't escaped
abbrev pub IsPathFault : List ℕ → PathFault → Type 0
IsPathFault text (BadEscape at) = ⊥
IsPathFault text (NotUtf8 at) = BeginsWithSlash text × IsValidUpTo text at
IsPathFault text (ControlByte at) = BeginsWithSlash text × IsUtf8 text × IsFirst is_control text at
IsPathFault text PathTooLong = IsPlainText text × ((rest : List ℕ) × IsBetween text rest × (1024 < length rest))
IsPathFault text TooDeep = (parts : List (List ℕ)) × IsShortText text parts × (60 < length parts)
IsPathFault text (EmptyName at) = ((at ≡ 0) × ¬ (BeginsWithSlash text)) ⊎ IsFaultOfParts text (EmptyName at)
IsPathFault text BadFsName = IsFaultOfParts text BadFsName
IsPathFault text (DotName at) = IsFaultOfParts text (DotName at)
IsPathFault text (NameTooLong at) = IsFaultOfParts text (NameTooLong at)

-- ---- targets

-- the path of a target has the fault when it is decoded
pub record IsFaultOfDecoded (target : List ℕ) (fault : PathFault) : Type 0 where
  pub slash : BeginsWithSlash target
  pub escapes : HasNoBadEscape (path_piece target)
  pub decoded : IsPathFault (percent_decode (path_piece target)) fault

-- the first fault of a target's path
abbrev pub IsTargetFault : List ℕ → PathFault → Type 0
IsTargetFault target (BadEscape at) = BeginsWithSlash target × IsFirstBadEscape (path_piece target) at
IsTargetFault target (EmptyName at) = ((at ≡ 0) × ¬ (BeginsWithSlash target)) ⊎ IsFaultOfDecoded target (EmptyName at)
IsTargetFault target (NotUtf8 at) = IsFaultOfDecoded target (NotUtf8 at)
IsTargetFault target (ControlByte at) = IsFaultOfDecoded target (ControlByte at)
IsTargetFault target PathTooLong = IsFaultOfDecoded target PathTooLong
IsTargetFault target TooDeep = IsFaultOfDecoded target TooDeep
IsTargetFault target BadFsName = IsFaultOfDecoded target BadFsName
IsTargetFault target (DotName at) = IsFaultOfDecoded target (DotName at)
IsTargetFault target (NameTooLong at) = IsFaultOfDecoded target (NameTooLong at)

-- a query is there, and has a bad escape
abbrev pub HasBadQuery : List ℕ → Type 0
HasBadQuery target = (query : List ℕ) × (query_piece target ≡ Some query) × ((at : ℕ) × IsFirstBadEscape query at)

-- why a target isn't read, where it isn't for want of memory: a fault of its path; else the query, where the path is readable
abbrev pub IsTargetRefused : List ℕ → TargetStop → Type 0
IsTargetRefused target (Fault fault) = IsTargetFault target fault
IsTargetRefused target BadQuery = ((path : List (List ℕ)) × SpellsTargetPath target path) × HasBadQuery target
IsTargetRefused target NoMemory = ⊥
