-- A page of the filesystems of the account (Filesystem - List of the REST reference).
--
--   1  the caller is the superuser   denied (superuser-only, at the account)   is_no_superuser
--   2  the page of the roots         none; the account and the page are read   page_of
use Rattle.std.specs.Prelude.{ℕ, Bool, false, ◌&&◌, take, length, bytes_eq, List, [], ◌∷◌, codes, Option, None}
use Rattle.serde_json.specs.Data.{Data, object, member, no_members, string, array, Items, item, no_items}
use Rattle.serde_json.specs.Written.{compact_text}
use Rattle.namespace_model.specs.declared.request.Entry.{Entry}
use Rattle.namespace_model.specs.Nodes.{Node}
use Rattle.namespace_model.specs.Trees.{Path, Tree, node_at, keys_where, is_child}
use Rattle.namespace_model.specs.Pages.{Page, page_of, above}
use Rattle.namespace_model.specs.Replies.{with_body, page_fields, etag_in_body, date_in_body}
use Rattle.namespace_model.specs.Outcomes.{Outcome, reading, answered, unless}
use Rattle.namespace_model.specs.Refusals.{caller_of, is_no_superuser}

-- the first name begins with these bytes
abbrev pub begins_with : List ℕ → Path → Bool
begins_with prefix [] = false
begins_with prefix (fs ∷ names) = bytes_eq (take (length prefix) fs) prefix

-- the filesystems whose names begin with the prefix, by name
abbrev pub filesystems : Tree → List ℕ → List Path
filesystems t prefix = keys_where t (λ q. is_child [] q && begins_with prefix q)

abbrev pub first_name : Path → List ℕ
first_name [] = []
first_name (fs ∷ names) = fs

-- `{"etag":E,"lastModified":D,"name":F}`
abbrev pub filesystem_data : Path → Node → Data
filesystem_data p x =
    object (member (codes "etag") (string (etag_in_body x.number))
    (member (codes "lastModified") (string (date_in_body x.moment))
    (member (codes "name") (string (first_name p)) no_members)))

abbrev pub filesystem_items : Tree → List Path → Items
filesystem_items t [] = no_items
filesystem_items t (p ∷ ps) = item (filesystem_data p (node_at t p)) (filesystem_items t ps)

-- `{"filesystems":[..]}`
abbrev pub filesystems_body : Tree → List Path → List ℕ
filesystems_body t ps = compact_text (object (member (codes "filesystems") (array (filesystem_items t ps)) no_members))

abbrev pub filesystems_listed : Tree → Page → Outcome
filesystems_listed t page =
    reading page.paths (answered (with_body 200 (page_fields None page.next) (filesystems_body t page.paths)))

unfoldable pub list_filesystems : Tree → Entry → List ℕ → Option Path → ℕ → Outcome
list_filesystems t e prefix token max =
    unless (is_no_superuser (caller_of e) [])
    (reading ([] ∷ [])
    (filesystems_listed t (page_of max (above token (filesystems t prefix)))))
