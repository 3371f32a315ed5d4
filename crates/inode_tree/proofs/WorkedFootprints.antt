-- What worked requests read and write, which the checker computes.
use Rattle.std.proofs.Common.{◌≡◌, ℕ, List, [], ◌∷◌, ◌++◌, Some, None, option_map, refl, ap, ◌∙◌}
use Rattle.namespace_model.specs.Create.{create}
use Rattle.namespace_model.specs.ReadFile.{read_file}
use Rattle.namespace_model.specs.Rename.{rename}
use Rattle.namespace_model.specs.Access.{access_check}
use Rattle.namespace_model.specs.Nodes.{Node, blank}
use Rattle.namespace_model.specs.Trees.{Path, at}
use Rattle.namespace_model.specs.Step.{outcome}
use Rattle.inode_tree.specs.Parts.{Parts, id_at, node_at, tree_of}
use Rattle.inode_tree.specs.Footprints.{ids_of, read_ids, written_ids}
use Rattle.inode_tree.specs.After.{outcome_on}
use Rattle.inode_tree.specs.WorkedParts.{data_path, directory_path, file_path, free_path, a_directory, HasWorkedFile, looked_at, made_again, moved_up, AReadIsOfItsWay, ACreateWritesOldAndNew, ARenameWritesBothParents}
use Rattle.inode_tree.proofs.ShownTree.{at-tree_of}

module _ (parts : Parts) (file : ℕ) (h : HasWorkedFile parts file) where
  shown : (p : Path) (id : ℕ) (x : Node) → id_at parts p ≡ Some id → node_at parts id ≡ x → at (tree_of parts) p ≡ Some x
  shown p id x e f = at-tree_of parts p ∙ ap (option_map (node_at parts)) e ∙ ap Some f

  data_there : at (tree_of parts) data_path ≡ Some a_directory
  data_there = shown data_path 1 a_directory h.data_id h.data_node

  directory_there : at (tree_of parts) directory_path ≡ Some a_directory
  directory_there = shown directory_path 66 a_directory h.directory_id h.directory_node

  file_there : at (tree_of parts) file_path ≡ Some blank
  file_there = shown file_path file blank h.file_id h.file_node

  nothing_there : at (tree_of parts) free_path ≡ None
  nothing_there = at-tree_of parts free_path ∙ ap (option_map (node_at parts)) h.free

  way_ids : ids_of parts ([] ∷ data_path ∷ directory_path ∷ file_path ∷ []) ≡ 0 ∷ 1 ∷ 66 ∷ file ∷ []
  way_ids = rw (h.data_id, h.directory_id, h.file_id) refl

  pub read_read : (outcome_on parts looked_at).read ≡ [] ∷ data_path ∷ directory_path ∷ file_path ∷ []
  unfolding outcome read_file access_check
  read_read = rw (data_there, directory_there, file_there) refl

  pub read_written : (outcome_on parts looked_at).written ≡ []
  unfolding outcome read_file access_check
  read_written = rw (data_there, directory_there, file_there) refl

  pub made_read : (outcome_on parts made_again).read ≡ [] ∷ data_path ∷ directory_path ∷ file_path ∷ []
  unfolding outcome create access_check
  made_read = rw (data_there, directory_there, file_there) refl

  pub made_written : (outcome_on parts made_again).written ≡ directory_path ∷ file_path ∷ []
  unfolding outcome create access_check
  made_written = rw (data_there, directory_there, file_there) refl

  pub moved_read : (outcome_on parts moved_up).read ≡ [] ∷ data_path ∷ directory_path ∷ file_path ∷ []
  unfolding outcome rename access_check
  moved_read = rw (data_there, directory_there, file_there, data_there, nothing_there) refl

  pub moved_written : (outcome_on parts moved_up).written ≡ directory_path ∷ data_path ∷ file_path ∷ []
  unfolding outcome rename access_check
  moved_written = rw (data_there, directory_there, file_there, data_there, nothing_there) refl

-- the ids that these are
ids_for : (parts : Parts) (ps qs : List Path) (ids : List ℕ) → ps ≡ qs → ids_of parts qs ≡ ids → ids_of parts ps ≡ ids
ids_for parts ps qs ids e f = ap (ids_of parts) e ∙ f

pub read_of_its_way : (parts : Parts) → HasWorkedFile parts 131 → AReadIsOfItsWay parts
read_of_its_way parts h =
    let read : read_ids parts looked_at ≡ 0 ∷ 1 ∷ 66 ∷ 131 ∷ [] = ids_for parts (outcome_on parts looked_at).read _ _ (read_read parts 131 h) (way_ids parts 131 h) in
    let written : written_ids parts looked_at ≡ [] = ap (λ (ps : List Path). ids_of parts ps ++ []) (read_written parts 131 h) in
    record { ids = read; written = written; stripes = rw (read, written) refl }

pub create_writes_old_and_new : (parts : Parts) → HasWorkedFile parts 131 → ACreateWritesOldAndNew parts
create_writes_old_and_new parts h =
    let read : read_ids parts made_again ≡ 0 ∷ 1 ∷ 66 ∷ 131 ∷ [] = ids_for parts (outcome_on parts made_again).read _ _ (made_read parts 131 h) (way_ids parts 131 h) in
    let ids : ids_of parts (directory_path ∷ file_path ∷ []) ≡ 66 ∷ 131 ∷ [] = rw (h.directory_id, h.file_id) refl in
    let written : written_ids parts made_again ≡ 66 ∷ 131 ∷ 196 ∷ [] = ap (λ (ps : List Path). ids_of parts ps ++ 196 ∷ []) (made_written parts 131 h) ∙ ap (λ (is : List ℕ). is ++ 196 ∷ []) ids in
    record { ids = read; written = written; stripes = rw (read, written) refl }

pub rename_writes_both_parents : (parts : Parts) → HasWorkedFile parts 196 → ARenameWritesBothParents parts
rename_writes_both_parents parts h =
    let read : read_ids parts moved_up ≡ 0 ∷ 1 ∷ 66 ∷ 196 ∷ [] = ids_for parts (outcome_on parts moved_up).read _ _ (moved_read parts 196 h) (way_ids parts 196 h) in
    let ids : ids_of parts (directory_path ∷ data_path ∷ file_path ∷ []) ≡ 66 ∷ 1 ∷ 196 ∷ [] = rw (h.data_id, h.directory_id, h.file_id) refl in
    let written : written_ids parts moved_up ≡ 66 ∷ 1 ∷ 196 ∷ [] = ap (λ (ps : List Path). ids_of parts ps ++ []) (moved_written parts 196 h) ∙ ap (λ (is : List ℕ). is ++ []) ids in
    record { ids = read; written = written; stripes = rw (read, written) refl }
