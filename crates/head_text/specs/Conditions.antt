-- Conditions of a request on a node (RFC 9110, section 13), by the node's number, which its entity tag shows, and its moment.
use Rattle.std.specs.Prelude.{ℕ, ◌/◌, Bool, true, false, not, nat_le, Option, Some, None}
use Rattle.head_text.specs.declared.conditions.Conditions.{Conditions}
use Rattle.head_text.specs.Tags.{Tags, is_listed}

-- none of the four is given
abbrev pub no_conditions : Conditions
no_conditions = record { matches = None; none = None; modified = None; unmodified = None }

-- If-Match: the node is there and listed
abbrev pub match_holds : Option Tags → Option (ℕ × ℕ) → Bool
match_holds None _ = true
match_holds (Some tags) None = false
match_holds (Some tags) (Some node) = is_listed tags node.0

-- If-Unmodified-Since: the node isn't there, or its whole second is at most the date's
abbrev pub unmodified_holds : Option ℕ → Option (ℕ × ℕ) → Bool
unmodified_holds None _ = true
unmodified_holds (Some date) None = true
unmodified_holds (Some date) (Some node) = nat_le (node.1 / 1000) date

-- If-None-Match: the node isn't there, or isn't listed
abbrev pub none_match_holds : Option Tags → Option (ℕ × ℕ) → Bool
none_match_holds None _ = true
none_match_holds (Some tags) None = true
none_match_holds (Some tags) (Some node) = not (is_listed tags node.0)

-- If-Modified-Since: the node isn't there, or its whole second is above the date's
abbrev pub modified_holds : Option ℕ → Option (ℕ × ℕ) → Bool
modified_holds None _ = true
modified_holds (Some date) None = true
modified_holds (Some date) (Some node) = not (nat_le (node.1 / 1000) date)
