-- The properties of a filesystem (Filesystem - Get Properties of the REST reference).
--
--   1  the caller is the superuser   denied (superuser-only, at the root)   is_no_superuser
--   2  the filesystem is there       FilesystemNotFound                     noted
use Rattle.std.specs.Prelude.{[], ◌∷◌, ◌++◌}
use Rattle.namespace_model.specs.declared.code.Code.TheVariants.{FilesystemNotFound}
use Rattle.namespace_model.specs.declared.field.Field.TheVariants.{NamespaceEnabled}
use Rattle.namespace_model.specs.declared.request.Entry.{Entry}
use Rattle.namespace_model.specs.Nodes.{Node}
use Rattle.namespace_model.specs.Trees.{Path, Tree, at}
use Rattle.namespace_model.specs.Replies.{success, node_fields, property_fields}
use Rattle.namespace_model.specs.Outcomes.{Outcome, reading, answered, refused, unless, noted}
use Rattle.namespace_model.specs.Refusals.{caller_of, is_no_superuser}

abbrev pub filesystem_shown : Node → Outcome
filesystem_shown x = answered (success 200 (node_fields x ++ property_fields x.props ++ NamespaceEnabled ∷ []))

unfoldable pub get_filesystem : Tree → Entry → Path → Outcome
get_filesystem t e p =
    unless (is_no_superuser (caller_of e) p)
    (reading ([] ∷ [])
    (noted (at t p) p (refused FilesystemNotFound) filesystem_shown))
