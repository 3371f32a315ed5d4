-- When the conditions of a request hold, in words (RFC 9110, section 13): each of a node that is there or not, by its
-- number and its moment. A condition that isn't given holds.
use Rattle.std.specs.Prelude.{◌≡◌, ◌⊎◌, ◌<◌, ◌≤◌, ◌/◌, ℕ, true, Option, Some}
use Rattle.std.specs.List.{Contains}
use Rattle.head_text.specs.declared.conditions.Conditions.{Conditions}
use Rattle.head_text.specs.declared.conditions.Unmet.{Unmet}
use Rattle.head_text.specs.declared.conditions.Unmet.TheVariants.{Match, Unmodified, NoneMatch, Modified}
use Rattle.head_text.specs.Tags.{Tags}

-- any tag will do, or the number stands in the list
abbrev pub IsListed : Tags → ℕ → Type 0
IsListed tags number = (tags.any ≡ true) ⊎ Contains tags.numbers number

-- If-Match asks for a node, and that its number is listed
abbrev pub MatchHolds : Conditions → Option (ℕ × ℕ) → Type 0
MatchHolds c node = (tags : Tags) → c.matches ≡ Some tags → (x : ℕ × ℕ) × (node ≡ Some x) × IsListed tags x.0

-- If-Unmodified-Since asks that a node's second is at most the date's
abbrev pub UnmodifiedHolds : Conditions → Option (ℕ × ℕ) → Type 0
UnmodifiedHolds c node = (date : ℕ) (x : ℕ × ℕ) → c.unmodified ≡ Some date → node ≡ Some x → x.1 / 1000 ≤ date

-- If-None-Match asks that a node's number isn't listed
abbrev pub NoneMatchHolds : Conditions → Option (ℕ × ℕ) → Type 0
NoneMatchHolds c node = (tags : Tags) (x : ℕ × ℕ) → c.none ≡ Some tags → node ≡ Some x → ¬ IsListed tags x.0

-- If-Modified-Since asks that a node's second is above the date's
abbrev pub ModifiedHolds : Conditions → Option (ℕ × ℕ) → Type 0
ModifiedHolds c node = (date : ℕ) (x : ℕ × ℕ) → c.modified ≡ Some date → node ≡ Some x → date < x.1 / 1000

-- all four hold
pub record AllHold (c : Conditions) (node : Option (ℕ × ℕ)) : Type 0 where
  pub matches : MatchHolds c node
  pub unmodified : UnmodifiedHolds c node
  pub none : NoneMatchHolds c node
  pub modified : ModifiedHolds c node

-- a condition fails, and those before it in the order of RFC 9110, section 13.2.2, hold
abbrev pub IsFirstUnmet : Conditions → Option (ℕ × ℕ) → Unmet → Type 0
IsFirstUnmet c node Match = ¬ MatchHolds c node
IsFirstUnmet c node Unmodified = MatchHolds c node × ¬ UnmodifiedHolds c node
IsFirstUnmet c node NoneMatch = MatchHolds c node × UnmodifiedHolds c node × ¬ NoneMatchHolds c node
IsFirstUnmet c node Modified = MatchHolds c node × UnmodifiedHolds c node × NoneMatchHolds c node × ¬ ModifiedHolds c node
