-- The words of the laws on access.
use Rattle.std.specs.Prelude.{◌≡◌, ◌≢◌, ◌⊎◌, ℕ, List, [], ◌∷◌, Some, None, Ok, Err, Any, IsTrue, IsBitSet}
use Rattle.std.specs.FinMap.{find}
use Rattle.acl_text.specs.Ids.{superuser}
use Rattle.acl_text.specs.declared.who.Who.{Who}
use Rattle.acl_text.specs.declared.who.Who.TheVariants as who
use Rattle.acl_text.specs.declared.perm.ModeBits.{ModeBits}
use Rattle.acl_text.specs.Whos.{who_cmp}
use Rattle.namespace_model.specs.declared.caller.Caller.{Caller}
use Rattle.namespace_model.specs.declared.denied.Refusal.{Refusal}
use Rattle.namespace_model.specs.declared.denied.Rule.{Rule}
use Rattle.namespace_model.specs.declared.denied.Rule.TheVariants as rule
use Rattle.namespace_model.specs.Access.{access_check, is_of_group_of}

-- each permission that is wanted is given: read is bit 2, write is bit 1, execute is bit 0
abbrev pub HasAll : ℕ → ℕ → Type 0
HasAll have want = (bit : ℕ) → IsBitSet want bit → IsBitSet have bit

-- a list has an entry of this one, with these bits
abbrev pub Gives : List (Who × ℕ) → Who → ℕ → Type 0
Gives acl w bits = find who_cmp w acl ≡ Some bits

-- ---- who the caller is to a node

-- the owner, and not the superuser
pub record IsOwner (owner : List ℕ) (caller : Caller) : Type 0 where
  pub no_superuser : caller.id ≢ superuser
  pub owns : caller.id ≡ owner

-- neither the superuser nor the owner, and a user whom the list names, with these bits
pub record IsNamedUser (acl : List (Who × ℕ)) (owner : List ℕ) (caller : Caller) (bits : ℕ) : Type 0 where
  pub no_superuser : caller.id ≢ superuser
  pub no_owner : caller.id ≢ owner
  pub named : Gives acl (who.User caller.id) bits

-- neither the superuser nor the owner, nor a user whom the list names
pub record IsUnnamed (acl : List (Who × ℕ)) (owner : List ℕ) (caller : Caller) : Type 0 where
  pub no_superuser : caller.id ≢ superuser
  pub no_owner : caller.id ≢ owner
  pub unnamed : find who_cmp (who.User caller.id) acl ≡ None

-- the entry is that of the owning group or of a named group, the caller belongs to it, and it gives all that is wanted
pub record IsGiving (group : List ℕ) (caller : Caller) (want : ℕ) (e : Who × ℕ) : Type 0 where
  pub of_caller : IsTrue (is_of_group_of caller group e.0)
  pub gives : HasAll e.1 want

-- one entry does so alone
abbrev pub OneGroupGives : List (Who × ℕ) → List ℕ → Caller → ℕ → Type 0
OneGroupGives acl group caller want = Any (IsGiving group caller want) acl

-- ---- what a check answers

abbrev pub Allows : List (Who × ℕ) → List ℕ → List ℕ → Caller → ℕ → Type 0
Allows acl owner group caller want = access_check acl owner group caller want ≡ Ok tt

abbrev pub Denies : List (Who × ℕ) → List ℕ → List ℕ → Caller → ℕ → Refusal → Type 0
Denies acl owner group caller want refusal = access_check acl owner group caller want ≡ Err refusal

-- the three rules of the check
abbrev pub IsRuleOfCheck : Rule → Type 0
IsRuleOfCheck r = (r ≡ rule.Owner) ⊎ ((r ≡ rule.NamedUser) ⊎ (r ≡ rule.Other))

-- ---- what a new node takes

-- the bits of a mode and not of the umask
pub record IsOpen (mode umask bits : ℕ) : Type 0 where
  pub of_mode : (bit : ℕ) → IsBitSet bits bit → IsBitSet mode bit
  pub not_of_umask : (bit : ℕ) → IsBitSet bits bit → ¬ IsBitSet umask bit
  pub all : (bit : ℕ) → IsBitSet mode bit → ¬ IsBitSet umask bit → IsBitSet bits bit

-- a list of the three base entries, each with the bits of the mode that the umask leaves open
pub record IsBaseOf (mode umask : ModeBits) (acl : List (Who × ℕ)) : Type 0 where
  pub owner : ℕ
  pub group : ℕ
  pub other : ℕ
  pub entries : acl ≡ (who.Owner, owner) ∷ (who.OwningGroup, group) ∷ (who.Other, other) ∷ []
  pub owner_open : IsOpen mode.owner umask.owner owner
  pub group_open : IsOpen mode.group umask.group group
  pub other_open : IsOpen mode.other umask.other other

-- a mode has no bits but those of another
pub record IsWithinMode (asked bits : ModeBits) : Type 0 where
  pub owner : HasAll asked.owner bits.owner
  pub group : HasAll asked.group bits.group
  pub other : HasAll asked.other bits.other
