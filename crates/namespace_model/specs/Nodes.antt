-- What stands at a path: a directory or a file.
use Rattle.std.specs.Prelude.{ℕ, Bool, true, false, not, List, [], ◌∷◌, None}
use Rattle.acl_text.specs.Ids.{superuser}
use Rattle.acl_text.specs.declared.acl.AclPair.{AclPair}
use Rattle.acl_text.specs.declared.who.Who.TheVariants.{Owner, OwningGroup, Other}
use Rattle.lease_state.specs.declared.lease.Lease.{Lease}
use Rattle.lease_state.specs.declared.lease.Lease.TheVariants.{Available}
use Rattle.namespace_model.specs.declared.op.Kind.{Kind}
use Rattle.namespace_model.specs.declared.op.Kind.TheVariants.{File, Directory}

-- what a node holds of its own: nothing where it is a directory; where it is a file its bytes, and the pieces that are staged, each
-- with its position, by ascending position
pub data Content : Type 0 where
  directory : Content
  file : List ℕ → List (ℕ × List ℕ) → Content

pub record Node : Type 0 where
  pub content : Content
  -- ids
  pub owner : List ℕ
  pub group : List ℕ
  -- the access control list, and the default one that new children take, where there is one
  pub acl : AclPair
  pub sticky : Bool
  -- the number of the entry that made the node or last stamped it, 0 before any entry
  pub number : ℕ
  -- the moment of that entry, in milliseconds since 1970
  pub moment : ℕ
  -- names with values, ascending by name
  pub props : List (List ℕ × List ℕ)
  pub lease : Lease

abbrev pub is_directory_content : Content → Bool
is_directory_content directory = true
is_directory_content (file bytes staged) = false

abbrev pub is_directory : Node → Bool
is_directory x = is_directory_content x.content

abbrev pub kind_of_content : Content → Kind
kind_of_content directory = Directory
kind_of_content (file bytes staged) = File

abbrev pub kind_of : Node → Kind
kind_of x = kind_of_content x.content

abbrev pub has_kind : Kind → Node → Bool
has_kind Directory x = is_directory x
has_kind File x = not (is_directory x)

-- the bytes of a file; a directory has none
abbrev pub bytes_in : Content → List ℕ
bytes_in directory = []
bytes_in (file bytes staged) = bytes

-- the staged pieces of a file
abbrev pub staged_in : Content → List (ℕ × List ℕ)
staged_in directory = []
staged_in (file bytes staged) = staged

-- an access control list without permissions, and without a default one
abbrev pub no_access : AclPair
no_access = record { access = (Owner, 0) ∷ (OwningGroup, 0) ∷ (Other, 0) ∷ []; default = None }

-- what stands for a node that isn't there, where a definition has to name one: an empty file of the superuser's that gives nobody anything
abbrev pub blank : Node
blank = record {
  content = file [] [];
  owner = superuser;
  group = superuser;
  acl = no_access;
  sticky = false;
  number = 0;
  moment = 0;
  props = [];
  lease = Available;
}

-- the account, which is there from the start; no rule reads more of it than that it is a directory
abbrev pub account : Node
account = record blank { content = directory }
