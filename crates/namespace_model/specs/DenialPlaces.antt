-- Where a step may deny access, and what it may want there: no other place, and no other want.
use Rattle.std.specs.Prelude.{◌≡◌, ◌≢◌, ◌⊎◌, ℕ, true, false, List, [], ◌∷◌, ◌++◌, IfSome}
use Rattle.namespace_model.specs.declared.caller.Caller.{Caller}
use Rattle.namespace_model.specs.declared.denied.Denied.{Denied}
use Rattle.namespace_model.specs.declared.denied.Rule.{Rule}
use Rattle.namespace_model.specs.declared.denied.Rule.TheVariants as rule
use Rattle.namespace_model.specs.declared.op.Op.{Op}
use Rattle.namespace_model.specs.declared.op.Op.TheVariants as op
use Rattle.namespace_model.specs.declared.reply.Reply.{Reply}
use Rattle.namespace_model.specs.declared.request.Entry.{Entry}
use Rattle.namespace_model.specs.Access.{execute, write, write_execute, read, read_execute, read_write, all}
use Rattle.namespace_model.specs.Denials.{HasNoBits}
use Rattle.namespace_model.specs.ListPaths.{list_page}
use Rattle.namespace_model.specs.Locality.{Among}
use Rattle.namespace_model.specs.Pages.{on_the_way}
use Rattle.namespace_model.specs.Refusals.{caller_of}
use Rattle.namespace_model.specs.Step.{root_of}
use Rattle.namespace_model.specs.Trees.{Path, Tree, parent, is_bare, is_below, subtree, IsDirectoryAt}
use Rattle.namespace_model.specs.Ways.{base_of, way_of}

-- the paths to whose parents an operation walks
abbrev pub walks_to : Op → List Path
walks_to (op.List dir recursive token max) = dir ∷ []
walks_to (op.Create path kind permissions umask props) = path ∷ []
walks_to (op.Rename path source props) = source ∷ path ∷ []
walks_to (op.Read path range) = path ∷ []
walks_to (op.GetProperties path status) = path ∷ []
walks_to (op.GetAccess path) = path ∷ []
walks_to (op.CheckAccess path want) = path ∷ []
walks_to (op.Append path position flush retain action) = path ∷ []
walks_to (op.Flush path position retain) = path ∷ []
walks_to (op.SetProperties path props) = path ∷ []
walks_to (op.SetAccess path owner group permissions acl) = path ∷ []
walks_to (op.SetAccessRecursive path change token max force) = path ∷ []
walks_to (op.Lease path action) = path ∷ []
walks_to (op.Delete path recursive) = path ∷ []
walks_to other = []

-- a directory on the way to a path: above it, and not the account
pub record IsAboveOnTheWay (d p : Path) : Type 0 where
  pub above : is_below d p ≡ true
  pub named : d ≢ []

-- the directories in which an operation makes a node, takes one away or lets one come or go
abbrev pub changes_in : Tree → Caller → Op → List Path
changes_in t caller (op.Create path kind permissions umask props) = base_of path (way_of t caller path) ∷ []
changes_in t caller (op.Rename path source props) = parent source ∷ parent path ∷ []
changes_in t caller (op.Delete path recursive) = parent path ∷ []
changes_in t caller other = []

-- what an operation wants on the node that it names
abbrev pub IsWantedOn : Op → Path → ℕ → Type 0
IsWantedOn (op.List dir recursive token max) p want = (p ≡ dir) × (want ≡ read_execute)
IsWantedOn (op.Read path range) p want = (p ≡ path) × (want ≡ read)
IsWantedOn (op.CheckAccess path bits) p want = (p ≡ path) × (want ≡ bits)
IsWantedOn (op.Append path position flush retain action) p want = (p ≡ path) × (want ≡ read_write)
IsWantedOn (op.Flush path position retain) p want = (p ≡ path) × (want ≡ read_write)
IsWantedOn (op.SetProperties path props) p want = (p ≡ path) × (want ≡ write)
IsWantedOn (op.Lease path action) p want = (p ≡ path) × (want ≡ write)
IsWantedOn other p want = ⊥

-- what is read of a listing of all that is below a directory: its page, and what lies on the way to the token
abbrev pub listed_below_of : Tree → Path → Op → List Path
listed_below_of t dir (op.List d recursive token max) = on_the_way t (is_below dir) token ++ (list_page t dir true token max).paths
listed_below_of t dir other = []

-- a directory of a page of all that is below is to be read and gone through; one that isn't empty, of a subtree that is taken away, gives all
abbrev pub IsWantedBelow : Tree → Op → Path → ℕ → Type 0
IsWantedBelow t (op.List dir true token max) p want =
    Among p (listed_below_of t dir (op.List dir true token max)) × IsDirectoryAt t p × (want ≡ read_execute)
IsWantedBelow t (op.Delete path true) p want = Among p (subtree t path) × IsDirectoryAt t p × (is_bare t p ≡ false) × (want ≡ all)
IsWantedBelow t other p want = ⊥

-- why a check is made at a path with these bits
pub data IsWantedAt (t : Tree) (caller : Caller) (asked : Op) (p : Path) (want : ℕ) : Type 0 where
  passing : (to : Path) → Among to (walks_to asked) → IsAboveOnTheWay p to → want ≡ execute → IsWantedAt t caller asked p want
  changing : Among p (changes_in t caller asked) → want ≡ write_execute → IsWantedAt t caller asked p want
  on_node : IsWantedOn asked p want → IsWantedAt t caller asked p want
  below_node : IsWantedBelow t asked p want → IsWantedAt t caller asked p want

-- what the sticky bit of its directory may guard from an operation
abbrev pub IsGuardedFrom : Tree → Op → Path → Type 0
IsGuardedFrom t (op.Create path kind permissions umask props) p = p ≡ path
IsGuardedFrom t (op.Rename path source props) p = (p ≡ source) ⊎ (p ≡ path)
IsGuardedFrom t (op.Delete path true) p = (p ≡ path) ⊎ Among p (subtree t path)
IsGuardedFrom t (op.Delete path false) p = p ≡ path
IsGuardedFrom t other p = ⊥

-- what is set by owners and the superuser
abbrev pub IsSetBy : Op → Path → Type 0
IsSetBy (op.SetAccess path owner group permissions acl) p = p ≡ path
IsSetBy other p = ⊥

-- what is for the superuser: the account, or the root of a filesystem
abbrev pub IsForSuperuser : Op → Path → Type 0
IsForSuperuser (op.ListFilesystems prefix token max) p = p ≡ []
IsForSuperuser (op.CreateFilesystem path props) p = p ≡ root_of path
IsForSuperuser (op.GetFilesystem path) p = p ≡ root_of path
IsForSuperuser (op.SetFilesystem path props) p = p ≡ root_of path
IsForSuperuser (op.DeleteFilesystem path) p = p ≡ root_of path
IsForSuperuser other p = ⊥

-- a denial by a rule is at a place where the operation asks by this rule, and wants what it wants there
abbrev pub IsPlacedBy : Rule → Tree → Caller → Op → Denied → Type 0
IsPlacedBy rule.Owner t caller asked d = IsWantedAt t caller asked d.at d.want
IsPlacedBy rule.NamedUser t caller asked d = IsWantedAt t caller asked d.at d.want
IsPlacedBy rule.Other t caller asked d = IsWantedAt t caller asked d.at d.want
IsPlacedBy rule.Sticky t caller asked d = IsGuardedFrom t asked d.at × HasNoBits d
IsPlacedBy rule.AclOwner t caller asked d = IsSetBy asked d.at × HasNoBits d
IsPlacedBy rule.UserOwner t caller asked d = IsSetBy asked d.at × HasNoBits d
IsPlacedBy rule.GroupOwner t caller asked d = IsSetBy asked d.at × HasNoBits d
IsPlacedBy rule.SuperuserOnly t caller asked d = IsForSuperuser asked d.at × HasNoBits d

-- a denial of a reply is in place
abbrev pub DeniesInPlace : Tree → Entry → Reply → Type 0
DeniesInPlace t e reply = IfSome reply.denied (λ d. IsPlacedBy d.rule t (caller_of e) e.request.op d)
