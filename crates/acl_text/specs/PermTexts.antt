-- The texts of permissions: the three letters of an entry, four octal digits, and nine letters for a file or directory.
use Rattle.std.specs.Prelude.{◌≡◌, ◌⊎◌, ℕ, ◌+◌, ◌-◌, ◌<◌, Bool, true, false, ◌==◌, ◌&&◌, bit_and, nat_le, nat_lt, List, [], ◌∷◌, ◌++◌, length, slice_index, Option, Some, None, option_and_then, Result, Ok, Err, if◌then◌else◌}
use Rattle.acl_text.specs.declared.perm.ModeBits.{ModeBits}
use Rattle.acl_text.specs.declared.acl.AclFault.{AclFault}
use Rattle.acl_text.specs.declared.acl.AclFault.TheVariants.{BadOctal, BadSymbolic}

infixl 10 ◌>>=◌
abbrev pub ◌>>=◌ : {A B : Type 0} → Option A → (A → Option B) → Option B
o >>= f = option_and_then f o

-- ---- what is printed

-- a letter where a bit is set, and else `-`
abbrev pub letter : ℕ → ℕ → ℕ → ℕ
letter c bit p = if bit_and p bit == 0 then 45 else c

-- three characters: `r` or `-`, `w` or `-`, `x` or `-`
abbrev pub perm_text : ℕ → List ℕ
perm_text p = letter 114 4 p ∷ letter 119 2 p ∷ letter 120 1 p ∷ []

-- the last letter: `x` or `-`, and with the sticky bit `t` or `T`
abbrev pub last_letter : Bool → ℕ → ℕ
last_letter true p = if bit_and p 1 == 0 then 84 else 116
last_letter false p = letter 120 1 p

-- nine characters: of the owner, of the group, and of the others with the sticky bit
abbrev pub symbolic_text : ModeBits → List ℕ
symbolic_text bits =
    perm_text bits.owner ++ perm_text bits.group ++ (letter 114 4 bits.other ∷ letter 119 2 bits.other ∷ last_letter bits.sticky bits.other ∷ [])

-- four octal digits
abbrev pub octal_text : ModeBits → List ℕ
octal_text bits = (if bits.sticky then 49 else 48) ∷ (48 + bits.owner) ∷ (48 + bits.group) ∷ (48 + bits.other) ∷ []

-- ---- the texts of permissions and of a mode

-- three characters spell permissions
abbrev pub SpellsPerm : List ℕ → ℕ → Type 0
SpellsPerm text p = (p < 8) × (text ≡ perm_text p)

-- numbers that are three bits each
pub record AreBits (bits : ModeBits) : Type 0 where
  pub owner : bits.owner < 8
  pub group : bits.group < 8
  pub other : bits.other < 8

-- a text spells a mode: four octal digits, or nine letters that a `+` may follow
abbrev pub SpellsMode : List ℕ → ModeBits → Type 0
SpellsMode text bits =
    AreBits bits × ((text ≡ octal_text bits) ⊎ ((text ≡ symbolic_text bits) ⊎ (text ≡ symbolic_text bits ++ 43 ∷ [])))

-- a text spells a umask: four octal digits, the first 0
abbrev pub SpellsUmask : List ℕ → ModeBits → Type 0
SpellsUmask text bits = AreBits bits × (bits.sticky ≡ false) × (text ≡ octal_text bits)

-- ---- what is read

-- the value of a letter, and 0 of `-`
abbrev pub flag_of : ℕ → ℕ → ℕ → Option ℕ
flag_of c value byte = if byte == c then Some value else (if byte == 45 then Some 0 else None)

unfoldable pub perm_of : ℕ → ℕ → ℕ → Option ℕ
perm_of a b c = do
  read ← flag_of 114 4 a
  write ← flag_of 119 2 b
  execute ← flag_of 120 1 c
  Some (read + write + execute)

-- the permissions that three bytes of a text spell, from a place on
abbrev pub perm_at : List ℕ → ℕ → Option ℕ
perm_at text at = perm_of (slice_index text at) (slice_index text (at + 1)) (slice_index text (at + 2))

-- the permissions that a text of three bytes spells
abbrev pub perm_in : List ℕ → Option ℕ
perm_in text = if length text == 3 then perm_at text 0 else None

-- the sticky bit and the letter without it
abbrev pub sticky_letter : ℕ → Bool × ℕ
sticky_letter byte = if byte == 116 then (true, 120) else (if byte == 84 then (true, 45) else (false, byte))

abbrev pub octal_digit : ℕ → Option ℕ
octal_digit byte = if nat_le 48 byte && nat_lt byte 56 then Some (byte - 48) else None

abbrev pub sticky_digit : ℕ → Option Bool
sticky_digit byte = if byte == 48 then Some false else (if byte == 49 then Some true else None)

unfoldable pub octal_mode : List ℕ → Option ModeBits
octal_mode text = do
  sticky ← sticky_digit (slice_index text 0)
  owner ← octal_digit (slice_index text 1)
  group ← octal_digit (slice_index text 2)
  other ← octal_digit (slice_index text 3)
  Some (record { sticky = sticky; owner = owner; group = group; other = other })

unfoldable pub symbolic_mode : List ℕ → Option ModeBits
symbolic_mode text = do
  owner ← perm_at text 0
  group ← perm_at text 3
  other ← perm_of (slice_index text 6) (slice_index text 7) (sticky_letter (slice_index text 8)).1
  Some (record { sticky = (sticky_letter (slice_index text 8)).0; owner = owner; group = group; other = other })

-- nine characters, or ten of which the last is `+`
abbrev pub has_symbolic_length : List ℕ → Bool
has_symbolic_length text = if length text == 9 then true else (length text == 10 && slice_index text 9 == 43)

abbrev pub or_fault : Option ModeBits → AclFault → Result ModeBits AclFault
or_fault (Some bits) fault = Ok bits
or_fault None fault = Err fault

abbrev pub permissions_of : List ℕ → Result ModeBits AclFault
permissions_of text =
    if length text == 4 then or_fault (octal_mode text) BadOctal
    else (if has_symbolic_length text then or_fault (symbolic_mode text) BadSymbolic else Err BadSymbolic)

abbrev pub umask_of : List ℕ → Result ModeBits AclFault
umask_of text =
    if length text == 4 then (if slice_index text 0 == 48 then or_fault (octal_mode text) BadOctal else Err BadOctal) else Err BadSymbolic

-- the fault of a text that is refused: of four bytes the octal one, of any other length the symbolic one
abbrev pub mode_fault : List ℕ → AclFault
mode_fault text = if length text == 4 then BadOctal else BadSymbolic
