-- The values of whole bodies, by the values in them.
use Rattle.std.specs.Prelude.{ℕ, length, count_by, codes}
use Rattle.serde_json.specs.Data.{Data, Items, object, member, no_members, array, number, unsigned}
use Rattle.namespace_model.specs.SetAccessRecursive.{Batch, is_changed_directory, is_changed_file, failure_items}

-- `{"paths":[..]}`
abbrev pub paths_data : Items → Data
paths_data entries = object (member (codes "paths") (array entries) no_members)

-- `{"filesystems":[..]}`
abbrev pub filesystems_data : Items → Data
filesystems_data entries = object (member (codes "filesystems") (array entries) no_members)

-- `{"directoriesSuccessful":D,"failedEntries":[..],"failureCount":N,"filesSuccessful":F}`
abbrev pub batch_data : ℕ → Items → ℕ → ℕ → Data
batch_data directories failed failures files =
    object (member (codes "directoriesSuccessful") (number (unsigned directories))
    (member (codes "failedEntries") (array failed)
    (member (codes "failureCount") (number (unsigned failures))
    (member (codes "filesSuccessful") (number (unsigned files)) no_members))))

-- how many directories a batch changed, and how many files
abbrev pub changed_directories : Batch → ℕ
changed_directories b = count_by is_changed_directory b.changed

abbrev pub changed_files : Batch → ℕ
changed_files b = count_by is_changed_file b.changed

abbrev pub data_of_batch : Batch → Data
data_of_batch b = batch_data (changed_directories b) (failure_items b.failed) (length b.failed) (changed_files b)
