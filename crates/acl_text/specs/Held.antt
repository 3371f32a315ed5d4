-- What every entry keeps that a list holds.
use Rattle.std.specs.Prelude.{ℕ, ◌<◌, List, IsTrue}
use Rattle.std.specs.List.{AllByRecursion}
use Rattle.acl_text.specs.declared.scope.Scope.{Scope}
use Rattle.acl_text.specs.declared.who.Who.{Who}
use Rattle.acl_text.specs.Whos.{is_whose}

-- an entry of a list: its id is one, and its permissions are three bits
abbrev pub IsHeld : Who × ℕ → Type 0
IsHeld e = IsTrue (is_whose e.0) × (e.1 < 8)

abbrev pub AreHeld : List (Who × ℕ) → Type 0
AreHeld es = AllByRecursion IsHeld es

-- the same of an entry of a text, which can be written
abbrev pub IsWritable : Scope × Who × ℕ → Type 0
IsWritable e = IsTrue (is_whose e.1) × (e.2 < 8)

abbrev pub AreWritable : List (Scope × Who × ℕ) → Type 0
AreWritable es = AllByRecursion IsWritable es

-- and of an item to remove
abbrev pub AreWhose : List (Scope × Who) → Type 0
AreWhose es = AllByRecursion (λ (e : Scope × Who). IsTrue (is_whose e.1)) es
