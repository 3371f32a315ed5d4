-- Worked requests on parts in which `/data` has the id 1, `/data/a` the id 66, and the file `/data/a/f` the id 131, or 196 once it was made again. What each
-- reads and writes is stated by ids, and for the stripes from 0 to 5.
use Rattle.std.specs.Prelude.{◌≡◌, ℕ, Bool, true, false, List, [], ◌∷◌, map, codes, Some, None}
use Rattle.acl_text.specs.Ids.{superuser}
use Rattle.namespace_model.specs.declared.op.Kind.TheVariants.{File}
use Rattle.namespace_model.specs.declared.op.Op.{Op}
use Rattle.namespace_model.specs.declared.op.Op.TheVariants as op
use Rattle.namespace_model.specs.Nodes.{Node, blank}
use Rattle.namespace_model.specs.Nodes as model
use Rattle.namespace_model.specs.Trees.{Path}
use Rattle.namespace_model.specs.Worked.{asked_at}
use Rattle.inode_tree.specs.declared.id.NodeId.{NodeId}
use Rattle.inode_tree.specs.declared.placed.Placed.{Placed}
use Rattle.inode_tree.specs.Parts.{Parts, id_at, node_at}
use Rattle.inode_tree.specs.Footprints.{read_ids, written_ids, reads, writes}

abbrev pub data_path : Path
data_path = codes "data" ∷ []

abbrev pub directory_path : Path
directory_path = codes "data" ∷ codes "a" ∷ []

abbrev pub file_path : Path
file_path = codes "data" ∷ codes "a" ∷ codes "f" ∷ []

-- `/data/g`, where nothing is
abbrev pub free_path : Path
free_path = codes "data" ∷ codes "g" ∷ []

abbrev pub a_directory : Node
a_directory = record blank { content = model.directory }

-- The ids, and what they show: two directories and an empty file, all of them the superuser's. Where a link leads nowhere an empty file shows too.
pub record HasWorkedFile (parts : Parts) (file : ℕ) : Type 0 where
  pub data_id : id_at parts data_path ≡ Some 1
  pub directory_id : id_at parts directory_path ≡ Some 66
  pub file_id : id_at parts file_path ≡ Some file
  pub free : id_at parts free_path ≡ None
  pub data_node : node_at parts 1 ≡ a_directory
  pub directory_node : node_at parts 66 ≡ a_directory
  pub file_node : node_at parts file ≡ blank

-- the superuser's request by the first pass
abbrev pub asked : Op → List NodeId → Placed
asked operation ids = record { entry = asked_at 0 superuser operation; pass = 0; ids = ids }

-- what an entry reads and writes in the stripes from 0 to 5
abbrev pub footprint : Parts → Placed → List (Bool × Bool)
footprint parts e = map (λ (s : ℕ). (reads parts e s, writes parts e s)) (0 ∷ 1 ∷ 2 ∷ 3 ∷ 4 ∷ 5 ∷ [])

-- a read holds the stripes of the way and of the file shared
abbrev pub looked_at : Placed
looked_at = asked (op.Read file_path None) []

pub record AReadIsOfItsWay (parts : Parts) : Type 0 where
  pub ids : read_ids parts looked_at ≡ 0 ∷ 1 ∷ 66 ∷ 131 ∷ []
  pub written : written_ids parts looked_at ≡ []
  pub stripes : footprint parts looked_at ≡ (true, false) ∷ (true, false) ∷ (true, false) ∷ (true, false) ∷ (false, false) ∷ (false, false) ∷ []

-- a create over the file holds the directory, the old and the new node exclusively
abbrev pub made_again : Placed
made_again = asked (op.Create file_path File None None None) (record { 0 = 196 } ∷ [])

pub record ACreateWritesOldAndNew (parts : Parts) : Type 0 where
  pub ids : read_ids parts made_again ≡ 0 ∷ 1 ∷ 66 ∷ 131 ∷ []
  pub written : written_ids parts made_again ≡ 66 ∷ 131 ∷ 196 ∷ []
  pub stripes : footprint parts made_again ≡ (true, false) ∷ (true, false) ∷ (true, true) ∷ (true, true) ∷ (false, true) ∷ (false, false) ∷ []

-- a rename, once the file was made again, holds both parents and the source exclusively
abbrev pub moved_up : Placed
moved_up = asked (op.Rename free_path file_path None) []

pub record ARenameWritesBothParents (parts : Parts) : Type 0 where
  pub ids : read_ids parts moved_up ≡ 0 ∷ 1 ∷ 66 ∷ 196 ∷ []
  pub written : written_ids parts moved_up ≡ 66 ∷ 1 ∷ 196 ∷ []
  pub stripes : footprint parts moved_up ≡ (true, false) ∷ (true, true) ∷ (true, true) ∷ (false, false) ∷ (true, true) ∷ (false, false) ∷ []
