-- The owner, the group and the access control lists of a node (Path - Get Properties with action=getAccessControl of the REST reference).
--
--   1  the way, and the node   denied (execute), FilesystemNotFound, PathNotFound   found
--   2  the conditions          ConditionNotMet, also as 304                         is_unmet_look
use Rattle.std.specs.Prelude.{[], ◌∷◌, ◌++◌}
use Rattle.acl_text.specs.AclWriting.{acl_text}
use Rattle.namespace_model.specs.declared.field.Field.TheVariants.{Acl}
use Rattle.namespace_model.specs.declared.request.Entry.{Entry}
use Rattle.namespace_model.specs.Nodes.{Node}
use Rattle.namespace_model.specs.Trees.{Path, Tree}
use Rattle.namespace_model.specs.Replies.{success, node_fields}
use Rattle.namespace_model.specs.Outcomes.{Outcome, answered, unless}
use Rattle.namespace_model.specs.Refusals.{is_unmet_look}
use Rattle.namespace_model.specs.GetProperties.{access_fields}
use Rattle.namespace_model.specs.Looks.{found}

abbrev pub access_shown : Node → Outcome
access_shown x = answered (success 200 (node_fields x ++ (access_fields x ++ Acl (acl_text x.acl) ∷ [])))

abbrev pub access_of : Entry → Node → Outcome
access_of e x =
    unless (is_unmet_look e x)
    (access_shown x)

unfoldable pub get_access : Tree → Entry → Path → Outcome
get_access t e p = found t e p (access_of e)
