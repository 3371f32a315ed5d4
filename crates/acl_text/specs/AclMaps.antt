-- Access control lists as finite maps, from whom an entry is for to the permission bits.
use Rattle.std.specs.Prelude.{ℕ, Bool, not, fold, bit_or, List, filter, map, if◌then◌else◌}
use Rattle.std.specs.List.{list_any}
use Rattle.std.specs.FinMap as fin
use Rattle.std.specs.FinMap.{FinMap}
use Rattle.acl_text.specs.declared.who.Who.{Who}
use Rattle.acl_text.specs.declared.who.Who.TheVariants.{Mask}
use Rattle.acl_text.specs.Whos.{who_cmp, is_named, is_base, is_mask, is_limited}

abbrev pub AclMap : Type 0
AclMap = FinMap who_cmp ℕ

-- the map of a list in printed order
abbrev pub map_of : List (Who × ℕ) → AclMap
map_of es = fin.from_sorted es

-- whether there is an entry of a named user or group
abbrev pub has_named : AclMap → Bool
has_named m = list_any (λ e. is_named e.0) (fin.entries m)

-- what the entries that a mask limits give together
abbrev pub union_of : AclMap → ℕ
union_of m = fold bit_or 0 (map (λ e. e.1) (filter (λ e. is_limited e.0) (fin.entries m)))

-- the three base entries alone
abbrev pub base_of : AclMap → AclMap
base_of m = fin.retain_keys m is_base

abbrev pub without_mask : AclMap → AclMap
without_mask m = fin.retain_keys m (λ who. not (is_mask who))

-- The mask rule. A mask that was given stands. Else there is one where there are named entries, which gives what all
-- entries that it limits give.
abbrev pub masked : Bool → AclMap → AclMap
masked given m = if given then m else (if has_named m then fin.insert m Mask (union_of m) else without_mask m)
