-- The 64 parts of the namespace, and the tree that they show: names are followed along links from the account, whose id is 0.
use Rattle.std.specs.Prelude.{ℕ, zero, suc, ◌%◌, nat_le, List, [], ◌∷◌, map, flat_map, length, Option, Some, None, option_map, option_and_then, unwrap_or, slice_get, if◌then◌else◌}
use Rattle.std.specs.FinMap as fin
use Rattle.namespace_model.specs.Nodes.{Node, blank}
use Rattle.namespace_model.specs.Trees.{Path, Tree}
use Rattle.inode_tree.specs.Inodes.{BareInode, links_in, node_of}
use Rattle.inode_tree.specs.Changes.{Part}

-- the part of each stripe, in the order of the stripes
abbrev pub Parts : Type 0
Parts = List Part

-- the inode of an id, which is kept in the stripe of its remainder
abbrev pub inode_at : Parts → ℕ → Option BareInode
inode_at parts id = option_and_then (λ part. fin.get part id) (slice_get parts (id % 64))

-- where a name of a directory leads; a file has no names
abbrev pub child_of : BareInode → List ℕ → Option ℕ
child_of x name = fin.get (links_in x.content) name

-- where a name leads from an id; no name leads on from an id without an inode
abbrev pub child_at : Parts → ℕ → List ℕ → Option ℕ
child_at parts id name = option_and_then (λ x. child_of x name) (inode_at parts id)

-- the id to which names lead from an id
abbrev pub follow : Parts → ℕ → Path → Option ℕ
follow parts id [] = Some id
follow parts id (name ∷ names) = option_and_then (λ child. follow parts child names) (child_at parts id name)

-- the id of a path; one of more than 60 names has none
abbrev pub id_at : Parts → Path → Option ℕ
id_at parts p = if nat_le (length p) 60 then follow parts 0 p else None

-- what an id shows: its node, or the blank of a link that leads nowhere
abbrev pub node_at : Parts → ℕ → Node
node_at parts id = unwrap_or (option_map node_of (inode_at parts id)) blank

-- ---- the tree

-- paths with their nodes, below a name
abbrev pub under : List ℕ → List (Path × Node) → List (Path × Node)
under name entries = map (λ (e : Path × Node). (name ∷ e.0, e.1)) entries

-- the children of an id, with their ids
abbrev pub links_at : Parts → ℕ → List (List ℕ × ℕ)
links_at parts id = unwrap_or (option_map (λ x. fin.entries (links_in x.content)) (inode_at parts id)) []

-- what names lead to from an id, at most so many names deep
abbrev pub listing : Parts → ℕ → ℕ → List (Path × Node)
listing parts zero id = ([], node_at parts id) ∷ []
listing parts (suc depth) id = ([], node_at parts id) ∷ flat_map (λ (link : List ℕ × ℕ). under link.0 (listing parts depth link.1)) (links_at parts id)

-- the node of each path of at most 60 names
unfoldable pub tree_of : Parts → Tree
tree_of parts = fin.from_entries (listing parts 60 0)
