-- What setting, changing and removing entries, and setting a mode, make of an access ACL and a default ACL.
use Rattle.std.specs.Prelude.{ℕ, Bool, false, not, ◌&&◌, ◌||◌, fold, nat_lt, length, List, [], ◌∷◌, Option, Some, None, option_map, is_some, Result, Ok, Err, if◌then◌else◌}
use Rattle.std.specs.Option.{option_map_or}
use Rattle.std.specs.Ordering.{eq_by_cmp}
use Rattle.std.specs.List.{list_any}
use Rattle.std.specs.FinMap as fin
use Rattle.acl_text.specs.declared.scope.Scope.{Scope}
use Rattle.acl_text.specs.declared.scope.Scope.TheVariants.{Access, Default}
use Rattle.acl_text.specs.declared.who.Who.{Who}
use Rattle.acl_text.specs.declared.who.Who.TheVariants.{Owner, OwningGroup, Mask, Other}
use Rattle.acl_text.specs.declared.perm.ModeBits.{ModeBits}
use Rattle.acl_text.specs.declared.acl.AclPair.{AclPair}
use Rattle.acl_text.specs.declared.acl.AclFault.{AclFault}
use Rattle.acl_text.specs.declared.acl.AclFault.TheVariants.{Missing, TooMany}
use Rattle.acl_text.specs.Scopes.{in_scope}
use Rattle.acl_text.specs.Whos.{who_cmp, is_base, is_mask}
use Rattle.acl_text.specs.AclMaps.{AclMap, map_of, masked, base_of}

-- whether a list of entries has one in a scope, and whether it has the mask there
abbrev pub names : Scope → List (Scope × Who × ℕ) → Bool
names scope list = list_any (λ e. in_scope scope e.0) list

abbrev pub gives_mask : Scope → List (Scope × Who × ℕ) → Bool
gives_mask scope list = list_any (λ e. in_scope scope e.0 && is_mask e.1) list

-- each entry of a scope in turn replaces the one of its who, or is added
abbrev pub given_in : Scope → List (Scope × Who × ℕ) → AclMap → AclMap
given_in scope list m = fold (λ m e. if in_scope scope e.0 then fin.insert m e.1 e.2 else m) m list

-- a scope after a change: as it was where the list doesn't name it
abbrev pub changed_scope : Scope → List (Scope × Who × ℕ) → AclMap → AclMap
changed_scope scope list m = if names scope list then masked (gives_mask scope list) (given_in scope list m) else m

-- what a default ACL starts from: itself, or the three base entries of the access ACL
abbrev pub default_start : Option AclMap → AclMap → AclMap
default_start (Some m) access = m
default_start None access = base_of access

abbrev pub changed_default : List (Scope × Who × ℕ) → Option AclMap → AclMap → Option AclMap
changed_default list default access =
    if names Default list then Some (changed_scope Default list (default_start default access)) else default

-- over 32 entries
abbrev pub is_over : AclMap → Bool
is_over m = nat_lt 32 (length (fin.entries m))

-- the pair of two maps, refused where a scope has over 32 entries
abbrev pub pair_of : AclMap → Option AclMap → Result AclPair AclFault
pair_of access default =
    if is_over access || option_map_or is_over default false then Err TooMany
    else Ok (record { access = fin.entries access; default = option_map fin.entries default })

-- modify: replaces or adds
abbrev pub acl_modify : AclPair → List (Scope × Who × ℕ) → Result AclPair AclFault
acl_modify pair list =
    let access = changed_scope Access list (map_of pair.access) in
    pair_of access (changed_default list (option_map map_of pair.default) access)

-- the first of the three base entries that is missing
abbrev pub missing_in : AclMap → Option Who
missing_in m =
    if is_some (fin.get m Owner)
    then (if is_some (fin.get m OwningGroup) then (if is_some (fin.get m Other) then None else Some Other) else Some OwningGroup)
    else Some Owner

abbrev pub set_where_complete : Option Who → List (Scope × Who × ℕ) → Result AclPair AclFault
set_where_complete (Some who) list = Err (Missing who)
set_where_complete None list =
    let access = masked (gives_mask Access list) (given_in Access list fin.empty) in
    pair_of access (changed_default list None access)

-- set: the entries of the list alone, which must have the three base entries in the access scope
abbrev pub acl_set : List (Scope × Who × ℕ) → Result AclPair AclFault
acl_set list = set_where_complete (missing_in (given_in Access list fin.empty)) list

-- whether a list of items to remove has one in a scope, and whether it has one for someone there
abbrev pub names_item : Scope → List (Scope × Who) → Bool
names_item scope list = list_any (λ e. in_scope scope e.0) list

abbrev pub lists : Scope → List (Scope × Who) → Who → Bool
lists scope list who = list_any (λ e. in_scope scope e.0 && eq_by_cmp who_cmp e.1 who) list

-- the base entries, and what isn't listed
abbrev pub without : Scope → List (Scope × Who) → AclMap → AclMap
without scope list m = fin.retain_keys m (λ who. is_base who || not (lists scope list who))

abbrev pub removed_scope : Scope → List (Scope × Who) → AclMap → AclMap
removed_scope scope list m = if names_item scope list then masked false (without scope list m) else m

-- a list with all three base entries of the default scope drops the default ACL
abbrev pub drops_default : List (Scope × Who) → Bool
drops_default list = lists Default list Owner && lists Default list OwningGroup && lists Default list Other

abbrev pub removed_default : List (Scope × Who) → Option AclMap → Option AclMap
removed_default list default = if drops_default list then None else option_map (removed_scope Default list) default

-- remove
abbrev pub acl_remove : AclPair → List (Scope × Who) → Result AclPair AclFault
acl_remove pair list =
    pair_of (removed_scope Access list (map_of pair.access)) (removed_default list (option_map map_of pair.default))

-- whose entry the group bits of a mode are: the mask where there is one, else the owning group
abbrev pub group_holder : AclMap → Who
group_holder m = if is_some (fin.get m Mask) then Mask else OwningGroup

abbrev pub mode_set : ModeBits → AclMap → AclMap
mode_set bits m = fin.insert (fin.insert (fin.insert m Owner bits.owner) (group_holder m) bits.group) Other bits.other

-- the pair that a mode alone gives: the three base entries, and no default ACL
abbrev pub pair_of_mode : ModeBits → AclPair
pair_of_mode bits = record {
  access = (Owner, bits.owner) ∷ (OwningGroup, bits.group) ∷ (Other, bits.other) ∷ [];
  default = None;
}

-- the same as a map
abbrev pub mode_map : ModeBits → AclMap
mode_map bits = fin.insert (fin.insert (fin.insert fin.empty Owner bits.owner) OwningGroup bits.group) Other bits.other

-- with_mode
abbrev pub acl_with_mode : AclPair → ModeBits → AclPair
acl_with_mode pair bits = record { access = fin.entries (mode_set bits (map_of pair.access)); default = pair.default }
