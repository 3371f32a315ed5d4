-- The end of a service.
use Rattle.std.specs.Prelude.{◌≡◌, ℕ, List, Some, slice_get}
use Rattle.inode_tree.specs.declared.placed.Placed.{Placed}
use Rattle.striped_store.specs.Closed.{IsOfPass}
use Rattle.parted_namespace.specs.Namespace.{namespace}
use Rattle.service_workers.specs.Looks.{NamespacePass}

-- each pass has seen a beginning of the journal, and its own entries are those of the journal by it
abbrev pub AreOfPasses : {K : Type 0} → List Placed → List (NamespacePass K) → Type 0
AreOfPasses {K} journal passes = (k : ℕ) (pass : NamespacePass K) → slice_get passes k ≡ Some pass → IsOfPass namespace journal pass
