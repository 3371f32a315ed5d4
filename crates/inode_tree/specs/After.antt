-- What an entry makes of the parts, as a list of turns: what becomes of one id each. The list is made from the step, the ids that the written
-- paths had before, and the drawn ids, and from nothing else of the parts. A turn looks at its own id's inode alone. (A change, which the code
-- makes and applies, names what to do instead of the paths.)
use Rattle.std.specs.Prelude.{ℕ, suc, ◌%◌, ◌==◌, nat_lt, List, [], ◌∷◌, ◌++◌, map, flat_map, fold, zip, drop, length, Option, Some, None, option_map, if◌then◌else◌}
use Rattle.std.specs.Ordering.{eq_by_cmp}
use Rattle.std.specs.List.{list_any}
use Rattle.std.specs.FinMap as fin
use Rattle.std.specs.FinMap.{find}
use Rattle.path_text.specs.Paths.{path_cmp, is_prefix}
use Rattle.namespace_model.specs.Nodes as model
use Rattle.namespace_model.specs.Nodes.{Node, kind_of}
use Rattle.namespace_model.specs.Trees.{Path}
use Rattle.namespace_model.specs.Effects.{Put, put_by, Effect}
use Rattle.namespace_model.specs.Outcomes.{Outcome}
use Rattle.namespace_model.specs.Step.{outcome}
use Rattle.inode_tree.specs.declared.id.NodeId.{NodeId}
use Rattle.inode_tree.specs.declared.placed.Placed.{Placed}
use Rattle.inode_tree.specs.declared.meta.Meta.{Meta}
use Rattle.inode_tree.specs.Inodes.{Links, BareContent, directory, file, BareInode, links_in}
use Rattle.inode_tree.specs.Changes.{Part, with_node}
use Rattle.inode_tree.specs.Parts.{Parts, id_at, tree_of}

-- ---- links

-- a path, and the id to which its name leads from now on, or that it leads nowhere
abbrev pub Relink : Type 0
Relink = Path × Option ℕ

abbrev pub set_link : Links → List ℕ → Option ℕ → Links
set_link links name None = fin.remove links name
set_link links name (Some id) = fin.insert links name id

-- the links of a directory, by what a path is behind its own: one name is a child
abbrev pub relink_behind : Links → Path → Option ℕ → Links
relink_behind links [] id = links
relink_behind links (name ∷ []) id = set_link links name id
relink_behind links (name ∷ deeper ∷ names) id = links

-- the links of the directory at p, with those that are said of the paths one name below it
abbrev pub relinked : Path → List Relink → Links → Links
relinked p [] links = links
relinked p (l ∷ ls) links = relinked p ls (if is_prefix p l.0 then relink_behind links (drop (length p) l.0) l.1 else links)

-- the id of a path in a list of them
abbrev pub id_in : Path → List (Path × ℕ) → Option ℕ
id_in p ids = find path_cmp p ids

-- the source of a move goes, and its destination leads to the source's id
abbrev pub move_links : Option (Path × Path) → List (Path × ℕ) → List Relink
move_links None ids = []
move_links (Some m) ids = (m.0, None) ∷ (m.1, id_in m.0 ids) ∷ []

-- of the paths that are taken away, new, moved from and moved to, in this order
abbrev pub relinks : Effect → List (Path × ℕ) → List (Path × ℕ) → List Relink
relinks e known drawn = map (λ (p : Path). (p, None)) e.taken ++ map (λ (x : Path × ℕ). (x.0, Some x.1)) drawn ++ move_links e.move known

-- ---- turns

-- what becomes of an id: its inode goes; or it stays, with the node that is put at its path, if any, and with these links; or it is made
pub data Turn : Type 0 where
  gone : ℕ → Turn
  stays_at : ℕ → Path → Option Put → List Relink → Turn
  made : ℕ → Path → Put → List Relink → Turn

abbrev pub id_of : Turn → ℕ
id_of (gone id) = id
id_of (stays_at id p put links) = id
id_of (made id p put links) = id

-- a path that had an id
abbrev pub turn_of : Effect → List Relink → Path × ℕ → Turn
turn_of e links x = if list_any (eq_by_cmp path_cmp x.0) e.taken then gone x.1 else stays_at x.1 x.0 (find path_cmp x.0 e.puts) links

-- a new path, with its drawn id
abbrev pub making : Path × ℕ → List Relink → Option Put → List Turn
making x links None = []
making x links (Some put) = made x.1 x.0 put links ∷ []

abbrev pub making_of : Effect → List Relink → Path × ℕ → List Turn
making_of e links x = making x links (find path_cmp x.0 e.puts)

-- the turns of known and of new paths
abbrev pub turns : Effect → List Relink → List (Path × ℕ) → List (Path × ℕ) → List Turn
turns e links known drawn = map (turn_of e links) known ++ flat_map (making_of e links) drawn

-- the turns of a step, by the ids of its written paths and the drawn ids; where there are fewer of these than new paths, there are none
abbrev pub turns_by : Outcome → List (Path × ℕ) → List ℕ → List Turn
turns_by o known ids =
    if nat_lt (length ids) (length o.fresh) then []
    else turns o.effect (relinks o.effect known (zip o.fresh ids)) known (zip o.fresh ids)

-- ---- parts

abbrev pub meta_of : Node → Meta
meta_of x = record {
  kind = kind_of x;
  owner = x.owner;
  group = x.group;
  acl = x.acl;
  sticky = x.sticky;
  moment = x.moment;
  number = x.number;
  props = x.props;
  lease = x.lease;
}

-- a content of this kind; a directory has these links
abbrev pub content_with : model.Content → Links → BareContent
content_with model.directory links = directory links
content_with (model.file bytes staged) links = file bytes staged

-- the inode of a node with these links
abbrev pub inode_with : Node → Links → BareInode
inode_with x links = record { meta = meta_of x; content = content_with x.content links }

-- a content in which links are said; a file has none
abbrev pub relinked_in : Path → List Relink → BareContent → BareContent
relinked_in p ls (directory links) = directory (relinked p ls links)
relinked_in p ls (file bytes staged) = file bytes staged

abbrev pub stays : ℕ → Path → Option Put → List Relink → BareInode → BareInode
stays number p None ls x = record x { content = relinked_in p ls x.content }
stays number p (Some put) ls x = inode_with (put_by number put) (relinked p ls (links_in x.content))

-- what stands at the id after its turn, by the entry with this number; an id without an inode that isn't made stays without one
abbrev pub turned : ℕ → Turn → Option BareInode → Option BareInode
turned number (gone id) before = None
turned number (stays_at id p put ls) before = option_map (stays number p put ls) before
turned number (made id p put ls) before = Some (inode_with (put_by number put) (relinked p ls fin.empty))

abbrev pub turned_in : ℕ → Part → Turn → Part
turned_in number part turn = with_node part (id_of turn) (turned number turn (fin.get part (id_of turn)))

-- a part after the turns of its own stripe's ids, in their order
abbrev pub part_after : ℕ → ℕ → List Turn → Part → Part
part_after stripe number turns part = fold (λ before turn. if id_of turn % 64 == stripe then turned_in number before turn else before) part turns

-- the parts from this stripe on
abbrev pub parts_after : ℕ → ℕ → List Turn → Parts → Parts
parts_after stripe number turns [] = []
parts_after stripe number turns (part ∷ parts) = part_after stripe number turns part ∷ parts_after (suc stripe) number turns parts

-- ---- an entry

-- a path with its id, where it has one
abbrev pub with_id : Path → Option ℕ → List (Path × ℕ)
with_id p None = []
with_id p (Some id) = (p, id) ∷ []

-- those of the paths that have an id, with it
abbrev pub known : Parts → List Path → List (Path × ℕ)
known parts ps = flat_map (λ p. with_id p (id_at parts p)) ps

-- the ids that an entry drew
abbrev pub drawn_ids : Placed → List ℕ
drawn_ids e = map (λ (id : NodeId). id.0) e.ids

-- what comes of an entry on the tree that parts show
abbrev pub outcome_on : Parts → Placed → Outcome
outcome_on parts e = outcome (tree_of parts) e.entry

abbrev pub turns_on : Parts → Placed → List Turn
turns_on parts e = turns_by (outcome_on parts e) (known parts (outcome_on parts e).written) (drawn_ids e)

-- the parts after the entry with this number
abbrev pub after : Parts → Placed → ℕ → Parts
after parts e number = parts_after 0 number (turns_on parts e) parts
