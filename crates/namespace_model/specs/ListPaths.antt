-- A page of what is in a directory, or of all that is below it (Path - List of the REST reference).
--
--   1  the way to the directory                 denied (execute), FilesystemNotFound, PathNotFound   found
--   2  the directory is there                   FilesystemNotFound, PathNotFound                     found
--   3  it is a directory                        ResourceTypeMismatch                                 refuse_if
--   4  read and execute on it                   denied                                               lacks
--   5  the page, which is read                  none                                                 list_page
--   6  with recursive, read and execute below   denied, at the first directory in path order         is_closed
use Rattle.std.specs.Prelude.{ℕ, Bool, true, false, not, List, [], ◌∷◌, ◌++◌, length, slice_get, codes, decimal, Option, None, if◌then◌else◌}
use Rattle.serde_json.specs.Data.{Data, Members, object, member, no_members, string, array, Items, item, no_items}
use Rattle.serde_json.specs.Written.{compact_text}
use Rattle.acl_text.specs.AclWriting.{permissions_text}
use Rattle.namespace_model.specs.declared.caller.Caller.{Caller}
use Rattle.namespace_model.specs.declared.code.Code.TheVariants.{ResourceTypeMismatch}
use Rattle.namespace_model.specs.declared.reply.Reply.{Reply}
use Rattle.namespace_model.specs.declared.request.Entry.{Entry}
use Rattle.namespace_model.specs.Nodes.{Node, is_directory, bytes_in}
use Rattle.namespace_model.specs.Trees.{Path, Tree, node_at, keys_where, is_child, is_below}
use Rattle.namespace_model.specs.Pages.{Page, page_of, above, on_the_way}
use Rattle.namespace_model.specs.Replies.{with_body, page_fields, etag_in_body, date_in_body, name_in_body}
use Rattle.namespace_model.specs.Access.{read_execute}
use Rattle.namespace_model.specs.Outcomes.{Outcome, reading, answered, unless}
use Rattle.namespace_model.specs.Refusals.{caller_of, lacks, refuse_if, first_refusal}
use Rattle.namespace_model.specs.Looks.{found}

-- ---- the body

-- a directory says that it is one
abbrev pub directory_members : Bool → Members → Members
directory_members true ms = member (codes "isDirectory") (string (codes "true")) ms
directory_members false ms = ms

-- the length of a directory is 0
abbrev pub path_data : Path → Node → Data
path_data p x =
    object (member (codes "contentLength") (string (decimal (length (bytes_in x.content))))
    (member (codes "etag") (string (etag_in_body x.number))
    (member (codes "group") (string x.group)
    (directory_members (is_directory x)
    (member (codes "lastModified") (string (date_in_body x.moment))
    (member (codes "name") (string (name_in_body p))
    (member (codes "owner") (string x.owner)
    (member (codes "permissions") (string (permissions_text x.sticky x.acl.access)) no_members))))))))

abbrev pub path_items : Tree → List Path → Items
path_items t [] = no_items
path_items t (p ∷ ps) = item (path_data p (node_at t p)) (path_items t ps)

-- `{"paths":[..]}`
abbrev pub paths_body : Tree → List Path → List ℕ
paths_body t ps = compact_text (object (member (codes "paths") (array (path_items t ps)) no_members))

-- ---- the page

-- what is listed of a directory: its children, or all that is below it
abbrev pub is_listed : Bool → Path → Path → Bool
is_listed true dir q = is_below dir q
is_listed false dir q = is_child dir q

abbrev pub listing : Tree → Path → Bool → List Path
listing t dir recursive = keys_where t (is_listed recursive dir)

abbrev pub list_page : Tree → Path → Bool → Option Path → ℕ → Page
list_page t dir recursive token max = page_of max (above token (listing t dir recursive))

-- a directory that the caller may not read and execute
abbrev pub is_closed : Caller → Path → Node → Option Reply
is_closed caller p x = if is_directory x then lacks caller read_execute p x else None

abbrev pub listed : Tree → Path → Page → Outcome
listed t dir page = answered (with_body 200 (page_fields (slice_get dir 0) page.next) (paths_body t page.paths))

-- The nodes of the page are read. Where all that is below is listed, so is each node below the directory that is a front of the token or the
-- token itself; and each directory among all these has to be open.
abbrev pub listed_below : Tree → Entry → Path → List Path → Page → Outcome
listed_below t e dir seen page =
    reading seen
    (unless (first_refusal (is_closed (caller_of e)) t seen)
    (listed t dir page))

abbrev pub paged : Tree → Entry → Path → Bool → Option Path → Page → Outcome
paged t e dir true token page = listed_below t e dir (on_the_way t (is_below dir) token ++ page.paths) page
paged t e dir false token page = reading page.paths (listed t dir page)

abbrev pub list_node : Tree → Entry → Path → Bool → Option Path → ℕ → Node → Outcome
list_node t e dir recursive token max x =
    unless (refuse_if (not (is_directory x)) ResourceTypeMismatch)
    (unless (lacks (caller_of e) read_execute dir x)
    (paged t e dir recursive token (list_page t dir recursive token max)))

unfoldable pub list_paths : Tree → Entry → Path → Bool → Option Path → ℕ → Outcome
list_paths t e dir recursive token max = found t e dir (list_node t e dir recursive token max)
