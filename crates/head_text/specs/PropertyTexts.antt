-- The texts of properties: pairs `name=value` between commas, with the value in base64 (RFC 4648, section 4), as the header
-- `x-ms-properties` of Microsoft's REST reference of Azure Data Lake Storage Gen2 has them.
use Rattle.std.specs.Prelude.{◌≡◌, ℕ, ◌+◌, ◌<◌, ◌≤◌, Bool, ◌==◌, nat_lt, IsTrue, bytes_eq, List, [], ◌∷◌, ◌++◌, map, length, take, drop, position, Option, Some, None, option_and_then, Result, Ok, Err, if◌then◌else◌}
use Rattle.std.specs.List.{list_all, list_any, slice_split, join_with_byte, AllZip, Contains}
use Rattle.std.specs.List.Sorted.{IsPermutation}
use Rattle.std.specs.FinMap.{put, is_sorted}
use Rattle.base64.specs.Engines.{standard}
use Rattle.base64.specs.GeneralPurpose.{decoded_of, encode_of}
use Rattle.head_text.specs.declared.props_fault.PropsFault.{PropsFault}
use Rattle.head_text.specs.declared.props_fault.PropsFault.TheVariants.{BadPair, BadBase64, Twice, TooMany}
use Rattle.head_text.specs.ETags.{is_comma, trimmed}
use Rattle.head_text.specs.Properties.{Property, name_cmp, is_name, is_byte, IsProperty}

-- ---- the grammar

-- `name=value`, the value in base64 with the standard alphabet and padding
abbrev pub property_text : Property → List ℕ
property_text p = p.0 ++ 61 ∷ encode_of standard p.1

-- the items of a text are what commas part; the empty text has none
abbrev pub items_of : List ℕ → List (List ℕ)
items_of text = if length text == 0 then [] else slice_split is_comma text

-- an item is a name of the grammar, `=`, and a text of whatever form, with spaces and tabs round it
abbrev pub IsPair : List ℕ → Type 0
IsPair item = (name value : List ℕ) × IsTrue (is_name name) × (trimmed item ≡ name ++ 61 ∷ value)

-- an item spells a property, with spaces and tabs round it
abbrev pub SpellsProperty : List ℕ → Property → Type 0
SpellsProperty item p = IsProperty p × (trimmed item ≡ property_text p)

-- items spell properties that have these names and values, in whatever order; no name stands twice, since they ascend here
pub record Spell (items : List (List ℕ)) (pairs : List Property) : Type 0 where
  pub listed : List Property
  pub spelled : AllZip SpellsProperty items listed
  pub rearranged : IsPermutation listed pairs
  pub in_order : IsTrue (is_sorted name_cmp pairs)

-- a text is of these properties: its items, at most 64, spell them
pub record IsPropertiesText (text : List ℕ) (pairs : List Property) : Type 0 where
  pub spelled : Spell (items_of text) pairs
  pub few : length (items_of text) ≤ 64

-- ---- what is refused

-- the item at a place has a fault, and those before it spell properties with different names
pub record IsFirstFault (HasFault : List Property → List ℕ → Type 0) (items : List (List ℕ)) (i : ℕ) : Type 0 where
  pub front : List (List ℕ)
  pub item : List ℕ
  pub back : List (List ℕ)
  pub parts : items ≡ front ++ item ∷ back
  pub place : length front ≡ i
  pub before : List Property
  pub spelled : Spell front before
  pub fault : HasFault before item

-- an item that is no pair
abbrev pub IsNoPair : List Property → List ℕ → Type 0
IsNoPair before item = ¬ (IsPair item)

-- a pair that spells no property, since its value isn't base64
abbrev pub IsNoBase64 : List Property → List ℕ → Type 0
IsNoBase64 before item = IsPair item × ¬ ((p : Property) × SpellsProperty item p)

-- a property whose name stood before
abbrev pub IsRepeat : List Property → List ℕ → Type 0
IsRepeat before item = (p : Property) × SpellsProperty item p × Contains (map (λ q. q.0) before) p.0

-- when each fault of a text comes: over 64 items; else the first item that has one of the three faults
abbrev pub IsTextFault : List ℕ → PropsFault → Type 0
IsTextFault text TooMany = 64 < length (items_of text)
IsTextFault text (BadPair i) = (length (items_of text) ≤ 64) × IsFirstFault IsNoPair (items_of text) i
IsTextFault text (BadBase64 i) = (length (items_of text) ≤ 64) × IsFirstFault IsNoBase64 (items_of text) i
IsTextFault text (Twice i) = (length (items_of text) ≤ 64) × IsFirstFault IsRepeat (items_of text) i

-- ---- what is read

abbrev pub is_equals : ℕ → Bool
is_equals b = b == 61

-- the bytes that a base64 text says
unfoldable pub value_of : List ℕ → Option (List ℕ)
value_of text = option_and_then (λ value. if list_all is_byte value then Some value else None) (decoded_of standard text)

abbrev pub value_or_bad : ℕ → List ℕ → Option (List ℕ) → Result Property PropsFault
value_or_bad i name None = Err (BadBase64 i)
value_or_bad i name (Some value) = Ok (name, value)

-- what is said on both sides of the first `=`
abbrev pub said_at : ℕ → List ℕ → Option ℕ → Result Property PropsFault
said_at i text None = Err (BadPair i)
said_at i text (Some at) =
    if is_name (take at text) then value_or_bad i (take at text) (value_of (drop (at + 1) text)) else Err (BadPair i)

-- the property that the item at a place spells
unfoldable pub property_said : ℕ → List ℕ → Result Property PropsFault
property_said i item = said_at i (trimmed item) (position is_equals (trimmed item))

abbrev pub is_named : List ℕ → List Property → Bool
is_named name pairs = list_any (λ p. bytes_eq p.0 name) pairs

-- a property at a place among those that stood before
unfoldable pub with_property : ℕ → List Property → Property → Result (List Property) PropsFault
with_property i pairs p = if is_named p.0 pairs then Err (Twice i) else Ok (put name_cmp p.0 p.1 pairs)

abbrev pub and_then : {S T : Type 0} → Result S PropsFault → (S → Result T PropsFault) → Result T PropsFault
and_then (Ok x) next = next x
and_then (Err f) next = Err f

-- the properties of the items from a place on, behind those that stood before
abbrev pub read_from : ℕ → List Property → List (List ℕ) → Result (List Property) PropsFault
read_from i pairs [] = Ok pairs
read_from i pairs (item ∷ items) =
    and_then (and_then (property_said i item) (with_property i pairs)) (λ more. read_from (i + 1) more items)

-- the properties of a text
unfoldable pub properties_of : List ℕ → Result (List Property) PropsFault
properties_of text = if nat_lt 64 (length (items_of text)) then Err TooMany else read_from 0 [] (items_of text)

-- ---- what is written

-- the pairs by ascending name, joined by commas
unfoldable pub properties_text : List Property → List ℕ
properties_text pairs = join_with_byte 44 (map property_text pairs)
