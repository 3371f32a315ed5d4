-- The texts of an entry's members, and the value that they make.
use Rattle.std.specs.Prelude.{◌≡◌, ℕ, List, Bool, decimal, min, codes, string_bytes}
use Rattle.serde_json.specs.Data.{Data, object, member, no_members, string}
use Rattle.acl_text.specs.AclWriting.{permissions_text}
use Rattle.lease_state.specs.declared.lease.TheConstants.{LAST_MOMENT}
use Rattle.namespace_model.specs.ListPaths.{directory_members}
use Rattle.namespace_model.specs.Replies.{date_in_body, etag_in_body}
use Rattle.body_text.specs.declared.paths.Contents.{Contents}
use Rattle.body_text.specs.declared.paths.Contents.TheVariants as contents
use Rattle.body_text.specs.declared.paths.PathEntry.{PathEntry}
use Rattle.body_text.specs.declared.paths.Texts.{Texts}

-- the length of a directory is 0
abbrev pub length_of : Contents → ℕ
length_of contents.Directory = 0
length_of (contents.File len) = len

-- these are the texts of an entry with this name
pub record AreTexts (entry : PathEntry) (called : List ℕ) (texts : Texts) : Type 0 where
  pub length : string_bytes texts.length ≡ decimal (length_of entry.contents)
  pub etag : string_bytes texts.etag ≡ etag_in_body entry.number
  pub group : string_bytes texts.group ≡ entry.group.now
  pub modified : string_bytes texts.modified ≡ date_in_body (min entry.moment LAST_MOMENT)
  pub name : string_bytes texts.name ≡ called
  pub owner : string_bytes texts.owner ≡ entry.owner.now
  pub permissions : string_bytes texts.permissions ≡ permissions_text entry.sticky entry.access.now

-- the value with these texts, of a directory or of a file
abbrev pub texts_data : Bool → Texts → Data
texts_data is_directory texts =
    object (member (codes "contentLength") (string (string_bytes texts.length))
    (member (codes "etag") (string (string_bytes texts.etag))
    (member (codes "group") (string (string_bytes texts.group))
    (directory_members is_directory
    (member (codes "lastModified") (string (string_bytes texts.modified))
    (member (codes "name") (string (string_bytes texts.name))
    (member (codes "owner") (string (string_bytes texts.owner))
    (member (codes "permissions") (string (string_bytes texts.permissions)) no_members))))))))
