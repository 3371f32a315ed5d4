-- The stripes that the sequential engine keeps, as a list by number.
use Rattle.std.specs.Prelude.{◌≡◌, ℕ, ◌==◌, ◌<◌, cond, List, length, slice_get, Some}
use Rattle.std.specs.Int.{bit_at}
use Rattle.inode_tree.specs.declared.change.Change.{Change}
use Rattle.inode_tree.specs.Changes.{Part, applied}
use Rattle.inode_tree.specs.Parts.{Parts, tree_of}
use Rattle.inode_tree.specs.Stands.{Stands}
use Rattle.inode_tree.specs.Stripes.{StripeRecord, IsReady}
use Rattle.inode_tree.specs.Views.{HasDates}
use Rattle.parted_namespace.specs.Namespace.{parts_of}

-- each has its place as its number, and their parts stand for the tree that they show, in which each node has a date
pub record AreStripes (stripes : List StripeRecord) : Type 0 where
  pub numbered : (k : ℕ) (s : StripeRecord) → slice_get stripes k ≡ Some s → s.stripe ≡ k
  pub stands : Stands (parts_of stripes) (tree_of (parts_of stripes))
  pub dates : HasDates (tree_of (parts_of stripes))

-- in each of the stripes whose bit is set, what the changes make of it is ready to be put in
abbrev pub AreReady : ℕ → List StripeRecord → List Change → Type 0
AreReady written stripes changes = (k : ℕ) (s : StripeRecord) → bit_at written k ≡ 1 → slice_get stripes k ≡ Some s → IsReady s changes

-- the changes of the entry with this number leave the part of each stripe whose bit isn't set
abbrev pub LeaveOthers : ℕ → ℕ → List Change → Parts → Type 0
LeaveOthers written number changes parts = (k : ℕ) (part : Part) → k < 64 → bit_at written k ≡ 0 → slice_get parts k ≡ Some part → applied k number changes part ≡ part

-- the part of the stripe at a place, after the changes where its bit is set
abbrev pub applied_where : ℕ → ℕ → List Change → ℕ → ℕ → Part → Part
applied_where written number changes place stripe part = cond (bit_at written place == 1) (applied stripe number changes part) part

-- a stripe of the same number, whose part has become this of its own
pub record IsChanged (f : ℕ → Part → Part) (old new : StripeRecord) : Type 0 where
  pub stripe : new.stripe ≡ old.stripe
  pub part : new.part ≡ f old.stripe old.part

-- each stripe has become so, by its place
pub record AreChanged (f : ℕ → ℕ → Part → Part) (old new : List StripeRecord) : Type 0 where
  pub long : length new ≡ length old
  pub each : (k : ℕ) (s : StripeRecord) → slice_get old k ≡ Some s → (r : StripeRecord) × (slice_get new k ≡ Some r) × IsChanged (f k) s r

-- each part is as it was
abbrev pub AreSame : List StripeRecord → List StripeRecord → Type 0
AreSame old new = AreChanged (λ place stripe part. part) old new
