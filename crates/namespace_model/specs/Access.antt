-- Who may do what, after the access control model that Microsoft documents for ADLS Gen2, with this service's own choices: the check of a node's permissions, the sticky
-- bit, who may set owners, groups and lists, and what a new node takes from its parent.
use Rattle.std.specs.Prelude.{ℕ, ◌-◌, ◌==◌, Bool, false, not, ◌&&◌, ◌||◌, bit_and, List, [], ◌∷◌, bytes_eq, Option, Some, None, is_some, unwrap_or, Result, Ok, Err, if◌then◌else◌}
use Rattle.std.specs.List.{list_any}
use Rattle.std.specs.FinMap as fin
use Rattle.std.specs.FinMap.{find}
use Rattle.acl_text.specs.Ids.{superuser}
use Rattle.acl_text.specs.declared.who.Who.{Who}
use Rattle.acl_text.specs.declared.who.Who.TheVariants as who
use Rattle.acl_text.specs.declared.perm.ModeBits.{ModeBits}
use Rattle.acl_text.specs.declared.acl.AclPair.{AclPair}
use Rattle.acl_text.specs.Whos.{who_cmp}
use Rattle.acl_text.specs.AclMaps.{AclMap, map_of}
use Rattle.acl_text.specs.AclChanges.{group_holder}
use Rattle.namespace_model.specs.declared.caller.Caller.{Caller}
use Rattle.namespace_model.specs.declared.denied.Rule.{Rule}
use Rattle.namespace_model.specs.declared.denied.Rule.TheVariants as rule
use Rattle.namespace_model.specs.declared.denied.Refusal.{Refusal}
use Rattle.namespace_model.specs.declared.op.Kind.{Kind}
use Rattle.namespace_model.specs.declared.op.Kind.TheVariants.{File, Directory}

-- ---- permissions: each set of them is a number from 0 to 7

abbrev pub execute : ℕ
execute = 1

abbrev pub write : ℕ
write = 2

abbrev pub write_execute : ℕ
write_execute = 3

abbrev pub read : ℕ
read = 4

abbrev pub read_execute : ℕ
read_execute = 5

abbrev pub read_write : ℕ
read_write = 6

abbrev pub all : ℕ
all = 7

-- what a check that compares no bits wants, and has
abbrev pub no_bits : ℕ
no_bits = 0

-- ---- the check of a node's permissions

abbrev pub is_superuser : Caller → Bool
is_superuser caller = bytes_eq caller.id superuser

abbrev pub belongs_to : Caller → List ℕ → Bool
belongs_to caller group = list_any (bytes_eq group) caller.groups

-- all the bits that are wanted are there
abbrev pub is_within : ℕ → ℕ → Bool
is_within want have = bit_and want have == want

-- what an entry gives, and nothing where there is none
abbrev pub bits_of : List (Who × ℕ) → Who → ℕ
bits_of acl w = unwrap_or (find who_cmp w acl) no_bits

-- the bits that the mask leaves; a mask that is missing takes nothing away
abbrev pub masked_by : List (Who × ℕ) → ℕ → ℕ
masked_by acl bits = bit_and bits (unwrap_or (find who_cmp who.Mask acl) all)

-- the entry is that of the owning group or of a named group, and the caller belongs to it
abbrev pub is_of_group_of : Caller → List ℕ → Who → Bool
is_of_group_of caller group who.Owner = false
is_of_group_of caller group (who.User id) = false
is_of_group_of caller group who.OwningGroup = belongs_to caller group
is_of_group_of caller group (who.Group id) = belongs_to caller id
is_of_group_of caller group who.Mask = false
is_of_group_of caller group who.Other = false

-- one of these entries, cut by the mask, gives all that is wanted
abbrev pub some_group_gives : List (Who × ℕ) → List ℕ → Caller → ℕ → Bool
some_group_gives acl group caller want =
    list_any (λ (e : Who × ℕ). is_of_group_of caller group e.0 && is_within want (masked_by acl e.1)) acl

-- allowed where the bits give all that is wanted, and else denied by the rule with these bits
abbrev pub judged : Rule → ℕ → ℕ → Result Unit Refusal
judged r want have = if is_within want have then Ok tt else Err (record { rule = r; have = have })

-- a case of the check: whether it applies, and what it says then
pub record Case : Type 0 where
  pub applies : Bool
  pub says : Result Unit Refusal

-- The superuser is allowed all. The owner is judged by its own entry, without the mask. A named user is judged by its entry and the mask.
-- A group whose entry, cut by the mask, gives all that is wanted allows it.
abbrev pub cases : List (Who × ℕ) → List ℕ → List ℕ → Caller → ℕ → List Case
cases acl owner group caller want =
    record { applies = is_superuser caller; says = Ok tt }
    ∷ record { applies = bytes_eq caller.id owner; says = judged rule.Owner want (bits_of acl who.Owner) }
    ∷ record { applies = is_some (find who_cmp (who.User caller.id) acl); says = judged rule.NamedUser want (masked_by acl (bits_of acl (who.User caller.id))) }
    ∷ record { applies = some_group_gives acl group caller want; says = Ok tt }
    ∷ []

-- the first case that applies decides, and else the last word
abbrev pub decided : List Case → Result Unit Refusal → Result Unit Refusal
decided [] last = last
decided (c ∷ cs) last = if c.applies then c.says else decided cs last

-- whoever is in none of the cases is judged by the entry of the others, without the mask
unfoldable pub access_check : List (Who × ℕ) → List ℕ → List ℕ → Caller → ℕ → Result Unit Refusal
access_check acl owner group caller want = decided (cases acl owner group caller want) (judged rule.Other want (bits_of acl who.Other))

-- ---- what is for owners and the superuser

-- in a sticky directory a child is deleted, renamed and overwritten by its owner, the directory's owner and the superuser alone
abbrev pub sticky_lets : Bool → List ℕ → List ℕ → Caller → Bool
sticky_lets sticky dir_owner child_owner caller =
    not sticky || is_superuser caller || bytes_eq caller.id child_owner || bytes_eq caller.id dir_owner

-- access control lists are set by the owner and the superuser
abbrev pub may_set_access : List ℕ → Caller → Bool
may_set_access owner caller = is_superuser caller || bytes_eq caller.id owner

-- another owner is set by the superuser alone
abbrev pub may_set_owner : List ℕ → List ℕ → Caller → Bool
may_set_owner owner new caller = is_superuser caller || bytes_eq new owner

-- another group is set by the superuser, and by an owner that belongs to it
abbrev pub may_set_group : List ℕ → List ℕ → List ℕ → Caller → Bool
may_set_group owner group new caller =
    is_superuser caller || bytes_eq new group || (bytes_eq caller.id owner && belongs_to caller new)

-- ---- what a new node takes

-- the bits of one that the other leaves open
abbrev pub open_bits : ℕ → ℕ → ℕ
open_bits bits umask = bit_and bits (all - umask)

-- 0777 for a directory and 0666 for a file
abbrev pub usual_mode : Kind → ModeBits
usual_mode Directory = record { sticky = false; owner = all; group = all; other = all }
usual_mode File = record { sticky = false; owner = read_write; group = read_write; other = read_write }

-- 0027
abbrev pub usual_umask : ModeBits
usual_umask = record { sticky = false; owner = no_bits; group = write; other = all }

-- the three entries of a mode, as far as the umask leaves it open
abbrev pub open_entries : ModeBits → ModeBits → List (Who × ℕ)
open_entries p u =
    (who.Owner, open_bits p.owner u.owner) ∷ (who.OwningGroup, open_bits p.group u.group) ∷ (who.Other, open_bits p.other u.other) ∷ []

-- an entry keeps the bits alone that are also given
abbrev pub cut_down : AclMap → Who → ℕ → AclMap
cut_down m w bits = fin.insert m w (bit_and (unwrap_or (fin.get m w) no_bits) bits)

-- a default ACL with the owner, the mask or else the owning group, and the others cut down to a mode
abbrev pub cut_to_mode : AclMap → ModeBits → AclMap
cut_to_mode m p = cut_down (cut_down (cut_down m who.Owner p.owner) (group_holder m) p.group) who.Other p.other

-- a directory takes the default ACL of its parent as its own
abbrev pub passed_on : Kind → List (Who × ℕ) → Option (List (Who × ℕ))
passed_on Directory acl = Some acl
passed_on File acl = None

abbrev pub inherited_from : Option (List (Who × ℕ)) → Kind → ModeBits → ModeBits → AclPair
inherited_from None kind p u = record { access = open_entries p u; default = None }
inherited_from (Some acl) kind p u = record { access = fin.entries (cut_to_mode (map_of acl) p); default = passed_on kind acl }

-- The lists and the sticky bit of a new node below a parent with these lists. Without a default ACL of the parent it has the three entries
-- of the mode that the umask leaves open; with one it has that one cut down to the mode, whatever the umask is.
abbrev pub acl_inherit : AclPair → Kind → Option ModeBits → Option ModeBits → AclPair × Bool
acl_inherit above kind permissions umask = (
  inherited_from above.default kind (unwrap_or permissions (usual_mode kind)) (unwrap_or umask usual_umask),
  (unwrap_or permissions (usual_mode kind)).sticky,
)
