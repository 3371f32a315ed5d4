-- A list of entity tags (RFC 9110, section 13.1.1), by the numbers of nodes that the tags show.
use Rattle.std.specs.Prelude.{ℕ, Bool, ◌||◌, ◌==◌, List}
use Rattle.std.specs.List.{list_any}

-- what a contract sees of a list of entity tags
pub record Tags : Type 0 where
  pub any : Bool
  pub numbers : List ℕ

-- any tag will do, or the number is listed
abbrev pub is_listed : Tags → ℕ → Bool
is_listed tags number = tags.any || list_any (λ n. n == number) tags.numbers
