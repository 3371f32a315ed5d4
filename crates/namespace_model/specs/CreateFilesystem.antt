-- Make a filesystem (Filesystem - Create of the REST reference).
--
--   1  the caller is the superuser   denied (superuser-only, at the root)         is_no_superuser
--   2  the filesystem isn't there    FilesystemAlreadyExists                      refuse_if
--   3  the root is made              none; the account and the root are written   filesystem_made
use Rattle.std.specs.Prelude.{ℕ, List, [], ◌∷◌, is_some, Option, None, unwrap_or}
use Rattle.acl_text.specs.declared.who.Who.TheVariants.{Owner, OwningGroup, Other}
use Rattle.acl_text.specs.declared.acl.AclPair.{AclPair}
use Rattle.namespace_model.specs.declared.code.Code.TheVariants.{FilesystemAlreadyExists}
use Rattle.namespace_model.specs.declared.request.Entry.{Entry}
use Rattle.namespace_model.specs.Nodes.{Node, blank, directory}
use Rattle.namespace_model.specs.Trees.{Path, Tree, at}
use Rattle.namespace_model.specs.Access.{all, read_execute, no_bits}
use Rattle.namespace_model.specs.Effects.{stamp}
use Rattle.namespace_model.specs.Replies.{success, stamp_fields}
use Rattle.namespace_model.specs.Outcomes.{Outcome, reading, unless}
use Rattle.namespace_model.specs.Refusals.{caller_of, is_no_superuser, refuse_if}

-- `rwxr-x---`
abbrev pub root_access : AclPair
root_access = record { access = (Owner, all) ∷ (OwningGroup, read_execute) ∷ (Other, no_bits) ∷ []; default = None }

-- the root of a filesystem is the superuser's
abbrev pub new_root : Option (List (List ℕ × List ℕ)) → Node
new_root props = record blank { content = directory; acl = root_access; props = unwrap_or props [] }

-- the root comes to stand in the account
abbrev pub filesystem_made : Entry → Path → Option (List (List ℕ × List ℕ)) → Outcome
filesystem_made e p props = record {
  read = [];
  written = [] ∷ p ∷ [];
  fresh = p ∷ [];
  reply = success 201 (stamp_fields e.moment);
  effect = record { taken = []; puts = (p, stamp e.moment (new_root props)) ∷ []; move = None };
}

unfoldable pub create_filesystem : Tree → Entry → Path → Option (List (List ℕ × List ℕ)) → Outcome
create_filesystem t e p props =
    unless (is_no_superuser (caller_of e) p)
    (reading ([] ∷ [])
    (unless (refuse_if (is_some (at t p)) FilesystemAlreadyExists)
    (filesystem_made e p props)))
