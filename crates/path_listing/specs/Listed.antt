-- What a listing asks of its directory, the page that it reads, and the reply by that page.
use Rattle.std.specs.Prelude.{◌≡◌, ℕ, suc, ◌+◌, ◌≤◌, ◌<◌, Bool, true, false, not, List, [], ◌∷◌, ◌++◌, length, map, take, slice_get, Option, Some, None, option_map, if◌then◌else◌}
use Rattle.std.specs.Option.{unwrap_or}
use Rattle.lease_state.specs.declared.lease.TheConstants.{LAST_MOMENT}
use Rattle.namespace_model.specs.declared.caller.Caller.{Caller}
use Rattle.namespace_model.specs.declared.code.Code.TheVariants.{ResourceTypeMismatch}
use Rattle.namespace_model.specs.declared.op.Op.{Op}
use Rattle.namespace_model.specs.declared.op.Op.TheVariants as op
use Rattle.namespace_model.specs.declared.reply.Reply.{Reply}
use Rattle.namespace_model.specs.Access.{read_execute}
use Rattle.namespace_model.specs.ListPaths.{is_closed, list_page, paths_body}
use Rattle.namespace_model.specs.Nodes.{is_directory}
use Rattle.namespace_model.specs.Pages.{page_of, above, on_the_way}
use Rattle.namespace_model.specs.Refusals.{lacks, refuse_if, or_else}
use Rattle.namespace_model.specs.Replies.{with_body, page_fields}
use Rattle.namespace_model.specs.Trees.{Path, Tree, at, node_at, children, is_below}
use Rattle.namespace_model.specs.Ways.{reached, way_of}
use Rattle.inode_tree.specs.declared.id.NodeId.{NodeId}
use Rattle.inode_tree.specs.declared.need.Need.{Need}
use Rattle.inode_tree.specs.Footprints.{ids_of}
use Rattle.inode_tree.specs.Inodes.{BareInode, node_of}
use Rattle.inode_tree.specs.Parts.{Parts}
use Rattle.inode_tree.specs.Promises.{numbers_of}
use Rattle.inode_tree.specs.Stands.{Stands}
use Rattle.inode_tree.specs.Views.{Held, Shown, Agrees, shown_at}
use Rattle.path_walk.specs.declared.call.Call.{Call}
use Rattle.path_walk.specs.Finds.{read_to}
use Rattle.path_walk.specs.Visits.{AreLookedAt, IsHeldAndShown}
use Rattle.path_order.specs.declared.cursor.Seen.{Seen}
use Rattle.path_order.specs.Cursors.{IsAt}
use Rattle.path_order.specs.PagesBelow.{below, last_of, AreHeld, AreNodesOf}
use Rattle.path_order.specs.Needs.{NeedsOneOf}
use Rattle.path_order.specs.Children.{left_at}
use Rattle.path_listing.specs.declared.children.Begin.{Begin}
use Rattle.path_listing.specs.declared.children.Begin.TheVariants as begin
use Rattle.path_listing.specs.declared.eval.Directory.{Directory}
use Rattle.path_listing.specs.declared.rows.Page.{Page}
use Rattle.path_listing.specs.declared.rows.Row.{Row}
use Rattle.path_listing.specs.declared.rows.Wanted.{Wanted}

-- the operation of this evaluator
abbrev pub IsOfList : Op → Type 0
IsOfList (op.List dir recursive token max) = Unit {0}
IsOfList other = ⊥

-- the call asks for this of its path
abbrev pub IsAsked : Call → Wanted → Type 0
IsAsked call wanted = call.request.now.op ≡ op.List call.path.now wanted.recursive wanted.token.now wanted.max

-- what is asked of the node of the path: that it is a directory, and that the caller may read and execute it
abbrev pub refusal_of : Caller → Path → BareInode → Option Reply
refusal_of caller dir x = or_else (refuse_if (not (is_directory (node_of x))) ResourceTypeMismatch) (lacks caller read_execute dir (node_of x))

-- the node of the path, for these parts, and the ids of what was read to find it
pub record IsDirectoryIn (parts : Parts) (t : Tree) (caller : Caller) (path : Path) (d : Directory) : Type 0 where
  pub passes : way_of t caller path ≡ reached
  pub shows : at t path ≡ Some (node_of d.node)
  pub place : (id : ℕ) × IsAt parts path id d.node
  pub reads : numbers_of d.reads.items ≡ ids_of parts (read_to t caller path)

-- So it is for all parts that stand for a tree and agree with what was shown, and what was read was looked at.
pub record IsDirectoryOf (held : Held) (shown : Shown) (call : Call) (d : Directory) : Type 0 where
  pub is_directory : (parts : Parts) (t : Tree) → Stands parts t → Agrees shown parts → IsDirectoryIn parts t call.caller.now call.path.now d
  pub looked : AreLookedAt held shown d.reads.items

-- ---- rows

-- the path of a row of a directory
abbrev pub path_in : Path → Row → Path
path_in dir r = dir ++ r.names.items

abbrev pub paths_in : Path → List Row → List Path
paths_in dir rows = map (λ r. path_in dir r) rows

abbrev pub nodes_in : List Row → List Seen
nodes_in rows = map (λ (r : Row). r.seen) rows

-- each of them has its node in the tree
abbrev pub AreShown : Tree → Path → List Row → Type 0
AreShown t dir [] = Unit {0}
AreShown t dir (r ∷ rows) = (node_at t (path_in dir r) ≡ node_of r.seen.node) × AreShown t dir rows

-- the moment of each has a date
abbrev pub AreTimely : List Row → Type 0
AreTimely [] = Unit {0}
AreTimely (r ∷ rows) = (r.seen.node.meta.moment ≤ LAST_MOMENT) × AreTimely rows

-- ---- a page

-- the token by which a page goes on
abbrev pub next_of : Path → Page → Option Path
next_of dir page = if page.more then Some (last_of dir (paths_in dir page.rows.items)) else None

-- the first paths of a list, at most so many, are those of these rows, the token is the last of them where more is left, and these are their nodes
abbrev pub IsPageOf : Parts → Tree → Path → ℕ → List Path → Page → Type 0
IsPageOf parts t dir max list page =
    (page_of max list ≡ record { paths = paths_in dir page.rows.items; next = next_of dir page }) × AreNodesOf parts t (paths_in dir page.rows.items) (nodes_in page.rows.items)

-- what is read on the way to the token
abbrev pub way_read : Tree → Path → Bool → Option Path → List Path
way_read t dir true token = on_the_way t (is_below dir) token
way_read t dir false token = []

-- the model's page has these rows and this token, and these are the nodes on the way
pub record IsPageIn (parts : Parts) (t : Tree) (dir : Path) (recursive : Bool) (token : Option Path) (max : ℕ) (page : Page) : Type 0 where
  pub is_page : list_page t dir recursive token max ≡ record { paths = paths_in dir page.rows.items; next = next_of dir page }
  pub nodes : AreNodesOf parts t (paths_in dir page.rows.items) (nodes_in page.rows.items)
  pub way : AreNodesOf parts t (way_read t dir recursive token) page.way.items

-- So it is for all parts that stand for a tree and agree with what was shown, and each of these nodes was looked at.
pub record IsPage (held : Held) (shown : Shown) (dir : Path) (recursive : Bool) (token : Option Path) (max : ℕ) (page : Page) : Type 0 where
  pub page_in : (parts : Parts) (t : Tree) → Stands parts t → Agrees shown parts → IsPageIn parts t dir recursive token max page
  pub looked : AreHeld held shown (nodes_in page.rows.items)
  pub looked_way : AreHeld held shown page.way.items

-- one of those that a page reads
abbrev pub NeedsPage : Held → Shown → Path → Bool → Option Path → ℕ → Need → Type 0
NeedsPage held shown dir recursive token max n = NeedsOneOf held shown (λ t. way_read t dir recursive token ++ (list_page t dir recursive token max).paths) n

-- ---- all that is below a directory

-- a page of a walk that has come to a token
pub record IsPageFrom (held : Held) (shown : Shown) (dir token : Path) (max : ℕ) (page : Page) : Type 0 where
  pub page_in : (parts : Parts) (t : Tree) → Stands parts t → Agrees shown parts → IsPageOf parts t dir max (above (Some token) (below t dir)) page
  pub looked : AreHeld held shown (nodes_in page.rows.items)

-- ---- the children of a directory

-- the children behind the token are those behind this name, or none
abbrev pub IsBegin : Path → Option Path → Begin → Type 0
IsBegin dir token (begin.Behind last) = (t : Tree) → above token (children t dir) ≡ left_at t dir (option_map (λ n. n.now) last)
IsBegin dir token begin.AtEnd = (t : Tree) → above token (children t dir) ≡ []

-- a page of the children behind a name
pub record IsPageOfChildren (held : Held) (shown : Shown) (dir : Path) (last : Option (List ℕ)) (max : ℕ) (page : Page) : Type 0 where
  pub page_in : (parts : Parts) (t : Tree) → Stands parts t → Agrees shown parts → IsPageOf parts t dir max (left_at t dir last) page
  pub looked : AreHeld held shown (nodes_in page.rows.items)
  pub no_way : page.way.items ≡ []

abbrev pub NeedsChildren : Held → Shown → Path → Option (List ℕ) → ℕ → Need → Type 0
NeedsChildren held shown dir last max n = NeedsOneOf held shown (λ t. take max (left_at t dir last)) n

-- a look at the node of an id
abbrev pub IsLookOf : Held → Shown → NodeId → Seen → Type 0
IsLookOf held shown id s = (s.id ≡ id) × (shown_at shown id.0 ≡ Some s.node) × IsHeldAndShown held shown id.0

-- ---- the reply

-- what is asked of the nodes on the way to the token, each at one name more of it, and the first refusal
abbrev pub way_closed : Caller → Path → ℕ → List Seen → Option Reply
way_closed caller token names [] = None
way_closed caller token names (s ∷ way) = or_else (is_closed caller (take (suc names) token) (node_of s.node)) (way_closed caller token (suc names) way)

-- so it is of the rows
abbrev pub rows_closed : Caller → Path → List Row → Option Reply
rows_closed caller dir [] = None
rows_closed caller dir (r ∷ rows) = or_else (is_closed caller (path_in dir r) (node_of r.seen.node)) (rows_closed caller dir rows)

-- the first closed directory of a page, where all that is below is listed
abbrev pub page_closed : Caller → Path → Bool → Option Path → Page → Option Reply
page_closed caller dir false token page = None
page_closed caller dir true None page = rows_closed caller dir page.rows.items
page_closed caller dir true (Some token) page = or_else (way_closed caller token (length dir) page.way.items) (rows_closed caller dir page.rows.items)

-- what a page tells
abbrev pub page_told : Tree → Path → Page → Reply
page_told t dir page = with_body 200 (page_fields (slice_get dir 0) (next_of dir page)) (paths_body t (paths_in dir page.rows.items))

abbrev pub page_reply : Tree → Caller → Path → Wanted → Page → Reply
page_reply t caller dir wanted page = unwrap_or (page_closed caller dir wanted.recursive wanted.token.now page) (page_told t dir page)

-- the token has a name more than the directory for each node on the way to it
abbrev pub IsWayWithin : Path → Option Path → List Seen → Type 0
IsWayWithin dir None way = Unit {0}
IsWayWithin dir (Some token) way = (k : ℕ) → k < length way → length dir + suc k ≤ length token
