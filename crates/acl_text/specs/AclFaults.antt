-- When setting and modifying entries is refused.
use Rattle.std.specs.Prelude.{◌≡◌, ◌⊎◌, ℕ, ◌<◌, Any, length, List, Option, Some, None, option_map}
use Rattle.std.specs.FinMap as fin
use Rattle.acl_text.specs.declared.scope.Scope.{Scope}
use Rattle.acl_text.specs.declared.scope.Scope.TheVariants.{Access}
use Rattle.acl_text.specs.declared.who.Who.{Who}
use Rattle.acl_text.specs.declared.who.Who.TheVariants.{Owner, User, OwningGroup, Group, Mask, Other}
use Rattle.acl_text.specs.declared.acl.AclPair.{AclPair}
use Rattle.acl_text.specs.declared.acl.AclFault.{AclFault}
use Rattle.acl_text.specs.declared.acl.AclFault.TheVariants.{BadEntry, Twice, Missing, TooMany, BadOctal, BadSymbolic}
use Rattle.acl_text.specs.AclMaps.{AclMap, map_of, masked}
use Rattle.acl_text.specs.AclChanges.{gives_mask, given_in, changed_scope, changed_default}

-- a list has an entry for someone in a scope
abbrev pub GivesTo : Scope → Who → List (Scope × Who × ℕ) → Type 0
GivesTo scope who list = Any (λ (e : Scope × Who × ℕ). (e.0 ≡ scope) × (e.1 ≡ who)) list

-- the first of the owner, the owning group and the others for whom a list has no entry in the access scope
abbrev pub IsFirstMissing : List (Scope × Who × ℕ) → Who → Type 0
IsFirstMissing list Owner = ¬ GivesTo Access Owner list
IsFirstMissing list OwningGroup = GivesTo Access Owner list × (¬ GivesTo Access OwningGroup list)
IsFirstMissing list Other = GivesTo Access Owner list × GivesTo Access OwningGroup list × (¬ GivesTo Access Other list)
IsFirstMissing list (User id) = ⊥
IsFirstMissing list (Group id) = ⊥
IsFirstMissing list Mask = ⊥

-- it has one for each of the three
pub record GivesBase (list : List (Scope × Who × ℕ)) : Type 0 where
  pub owner : GivesTo Access Owner list
  pub owning_group : GivesTo Access OwningGroup list
  pub other : GivesTo Access Other list

-- over 32 entries in the access scope, or in the default one
abbrev pub IsOverfull : AclMap → Option AclMap → Type 0
IsOverfull access None = 32 < length (fin.entries access)
IsOverfull access (Some default) = (32 < length (fin.entries access)) ⊎ (32 < length (fin.entries default))

-- the scopes that modifying a pair makes
abbrev pub modified_access : AclPair → List (Scope × Who × ℕ) → AclMap
modified_access pair list = changed_scope Access list (map_of pair.access)

abbrev pub modified_default : AclPair → List (Scope × Who × ℕ) → Option AclMap
modified_default pair list = changed_default list (option_map map_of pair.default) (modified_access pair list)

-- and those that setting a list makes
abbrev pub set_access : List (Scope × Who × ℕ) → AclMap
set_access list = masked (gives_mask Access list) (given_in Access list fin.empty)

abbrev pub set_default : List (Scope × Who × ℕ) → Option AclMap
set_default list = changed_default list None (set_access list)

-- when each fault of modifying comes: where a scope of the result would have over 32 entries
abbrev pub IsModifyFault : AclPair → List (Scope × Who × ℕ) → AclFault → Type 0
IsModifyFault pair list TooMany = IsOverfull (modified_access pair list) (modified_default pair list)
IsModifyFault pair list (Missing who) = ⊥
IsModifyFault pair list (BadEntry i) = ⊥
IsModifyFault pair list (Twice i) = ⊥
IsModifyFault pair list BadOctal = ⊥
IsModifyFault pair list BadSymbolic = ⊥

-- when each fault of setting comes: for the first of the three that has no entry in the access scope; and else where a scope
-- of the result would have over 32 entries
abbrev pub IsSetFault : List (Scope × Who × ℕ) → AclFault → Type 0
IsSetFault list (Missing who) = IsFirstMissing list who
IsSetFault list TooMany = GivesBase list × IsOverfull (set_access list) (set_default list)
IsSetFault list (BadEntry i) = ⊥
IsSetFault list (Twice i) = ⊥
IsSetFault list BadOctal = ⊥
IsSetFault list BadSymbolic = ⊥
