-- Whom an entry of an access control list is for, and the order in which entries are printed.
use Rattle.std.specs.Prelude.{ℕ, Bool, true, false, List, []}
use Rattle.std.specs.Ordering.{nat_cmp, ordering_then}
use Rattle.std.specs.Cmp.Lexicographic.{slice_cmp}
use Rattle.std.specs.declared.cmp.Ordering.{Ordering}
use Rattle.acl_text.specs.declared.who.Who.{Who}
use Rattle.acl_text.specs.declared.who.Who.TheVariants.{Owner, User, OwningGroup, Group, Mask, Other}
use Rattle.acl_text.specs.Ids.{is_id}

-- the place of each kind in the printed order
abbrev pub rank : Who → ℕ
rank Owner = 0
rank (User id) = 1
rank OwningGroup = 2
rank (Group id) = 3
rank Mask = 4
rank Other = 5

-- the id of a named user or group
abbrev pub id_in : Who → List ℕ
id_in Owner = []
id_in (User id) = id
id_in OwningGroup = []
id_in (Group id) = id
id_in Mask = []
id_in Other = []

-- the id of a named user or group is one
abbrev pub is_whose : Who → Bool
is_whose Owner = true
is_whose (User id) = is_id id
is_whose OwningGroup = true
is_whose (Group id) = is_id id
is_whose Mask = true
is_whose Other = true

-- the printed order: by kind, and then by the bytes of the id
abbrev pub who_cmp : Who → Who → Ordering
who_cmp a b = ordering_then (nat_cmp (rank a) (rank b)) (slice_cmp nat_cmp (id_in a) (id_in b))

-- a named user or a named group
abbrev pub is_named : Who → Bool
is_named Owner = false
is_named (User id) = true
is_named OwningGroup = false
is_named (Group id) = true
is_named Mask = false
is_named Other = false

-- the owner, the owning group or the others, of whom each list has an entry
abbrev pub is_base : Who → Bool
is_base Owner = true
is_base (User id) = false
is_base OwningGroup = true
is_base (Group id) = false
is_base Mask = false
is_base Other = true

abbrev pub is_mask : Who → Bool
is_mask Owner = false
is_mask (User id) = false
is_mask OwningGroup = false
is_mask (Group id) = false
is_mask Mask = true
is_mask Other = false

-- the entries that the mask limits: those of the owning group, of named users and of named groups
abbrev pub is_limited : Who → Bool
is_limited Owner = false
is_limited (User id) = true
is_limited OwningGroup = true
is_limited (Group id) = true
is_limited Mask = false
is_limited Other = false
