-- Replace the properties of a filesystem (Filesystem - Set Properties of the REST reference).
--
--   1  the caller is the superuser   denied (superuser-only, at the root)   is_no_superuser
--   2  the filesystem is there       FilesystemNotFound                     noted
--   3  the root is put, stamped      none                                   filesystem_set
use Rattle.std.specs.Prelude.{ℕ, List, [], ◌∷◌}
use Rattle.namespace_model.specs.declared.code.Code.TheVariants.{FilesystemNotFound}
use Rattle.namespace_model.specs.declared.request.Entry.{Entry}
use Rattle.namespace_model.specs.Nodes.{Node}
use Rattle.namespace_model.specs.Trees.{Path, Tree, at}
use Rattle.namespace_model.specs.Effects.{stamp}
use Rattle.namespace_model.specs.Replies.{success, stamp_fields}
use Rattle.namespace_model.specs.Outcomes.{Outcome, reading, refused, unless, noted, edited}
use Rattle.namespace_model.specs.Refusals.{caller_of, is_no_superuser}

abbrev pub filesystem_set : Entry → Path → List (List ℕ × List ℕ) → Node → Outcome
filesystem_set e p props x = edited p (stamp e.moment (record x { props = props })) (success 200 (stamp_fields e.moment))

unfoldable pub set_filesystem : Tree → Entry → Path → List (List ℕ × List ℕ) → Outcome
set_filesystem t e p props =
    unless (is_no_superuser (caller_of e) p)
    (reading ([] ∷ [])
    (noted (at t p) p (refused FilesystemNotFound) (filesystem_set e p props)))
