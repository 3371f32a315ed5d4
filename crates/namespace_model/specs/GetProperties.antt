-- The properties of a node (Path - Get Properties of the REST reference).
--
--   1  the way, and the node   denied (execute), FilesystemNotFound, PathNotFound   found
--   2  the conditions          ConditionNotMet, also as 304                         is_unmet_look
use Rattle.std.specs.Prelude.{Bool, true, false, List, [], ◌∷◌, ◌++◌, length}
use Rattle.acl_text.specs.AclWriting.{permissions_text}
use Rattle.namespace_model.specs.declared.field.Field.{Field}
use Rattle.namespace_model.specs.declared.field.Field.TheVariants.{ResourceType, Owner, Group, Permissions, ContentLength}
use Rattle.namespace_model.specs.declared.request.Entry.{Entry}
use Rattle.namespace_model.specs.Nodes.{Node, Content, directory, file, kind_of}
use Rattle.namespace_model.specs.Trees.{Path, Tree}
use Rattle.namespace_model.specs.Replies.{success, node_fields, property_fields, lease_fields}
use Rattle.namespace_model.specs.Outcomes.{Outcome, answered, unless}
use Rattle.namespace_model.specs.Refusals.{is_unmet_look}
use Rattle.namespace_model.specs.Looks.{found}

-- the length of a file
abbrev pub length_fields : Content → List Field
length_fields directory = []
length_fields (file bytes staged) = ContentLength (length bytes) ∷ []

-- a request for the status alone leaves the properties out
abbrev pub user_fields : Bool → Node → List Field
user_fields true x = []
user_fields false x = property_fields x.props

abbrev pub access_fields : Node → List Field
access_fields x = Owner x.owner ∷ Group x.group ∷ Permissions (permissions_text x.sticky x.acl.access) ∷ []

abbrev pub properties_shown : Entry → Bool → Node → Outcome
properties_shown e status x =
    answered (success 200 (node_fields x ++ ResourceType (kind_of x) ∷ (access_fields x ++ (user_fields status x ++ (lease_fields x.lease e.moment ++ length_fields x.content)))))

abbrev pub properties_of : Entry → Bool → Node → Outcome
properties_of e status x =
    unless (is_unmet_look e x)
    (properties_shown e status x)

unfoldable pub get_properties : Tree → Entry → Path → Bool → Outcome
get_properties t e p status = found t e p (properties_of e status)
