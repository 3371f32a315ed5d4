-- What every evaluator of an operation promises of its answer, for all parts that the view may be of.
use Rattle.std.specs.Prelude.{◌≡◌, ℕ, suc, ◌%◌, ◌==◌, ◌<◌, Bool, true, false, ◌||◌, List, [], ◌∷◌, map, length, IsSome, Result, Ok, Err}
use Rattle.std.specs.List.{list_any}
use Rattle.lock_core.specs.declared.object.LockMode.{LockMode}
use Rattle.lock_core.specs.declared.object.LockMode.TheVariants as mode
use Rattle.namespace_model.specs.declared.request.Request.{Request}
use Rattle.namespace_model.specs.Trees.{Tree}
use Rattle.namespace_model.specs.Step.{outcome, step, new_paths}
use Rattle.inode_tree.specs.declared.change.Change.{Change}
use Rattle.inode_tree.specs.declared.draft.Draft.{Draft}
use Rattle.inode_tree.specs.declared.draft.EvalStop.{EvalStop}
use Rattle.inode_tree.specs.declared.draft.EvalStop.TheVariants as stop
use Rattle.inode_tree.specs.declared.fresh.Fresh.{Fresh}
use Rattle.inode_tree.specs.declared.id.NodeId.{NodeId}
use Rattle.inode_tree.specs.declared.need.Need.{Need}
use Rattle.inode_tree.specs.declared.placed.Placed.{Placed}
use Rattle.inode_tree.specs.Changes.{applied}
use Rattle.inode_tree.specs.Parts.{Parts}
use Rattle.inode_tree.specs.Stands.{Stands}
use Rattle.inode_tree.specs.After.{after}
use Rattle.inode_tree.specs.Drawing.{next_ids}
use Rattle.inode_tree.specs.Footprints.{read_ids as ids_read, written_ids as ids_written, reads, writes, Does}
use Rattle.inode_tree.specs.Views.{Held, Shown, ArePossible, covers}

-- ---- the entry of a request

-- An entry of this request and moment, wherever it came from, by the pass whose ids are drawn: the next ones, one for each new path.
pub record IsEntryOf (request : Request) (moment : ℕ) (fresh : Fresh) (t : Tree) (e : Placed) : Type 0 where
  pub asks : e.entry.request ≡ request
  pub comes_at : e.entry.moment ≡ moment
  pub by : e.pass ≡ fresh.pass
  pub draws : e.ids ≡ next_ids fresh.pass fresh.used (length (new_paths t e.entry))

-- ---- a draft

-- the parts from this stripe on with the changes of each one's own stripe
abbrev pub applied_from : ℕ → ℕ → List Change → Parts → Parts
applied_from stripe number changes [] = []
applied_from stripe number changes (part ∷ parts) = applied stripe number changes part ∷ applied_from (suc stripe) number changes parts

-- the parts with changes, by the entry with this number
abbrev pub applied_all : ℕ → List Change → Parts → Parts
applied_all number changes parts = applied_from 0 number changes parts

abbrev pub numbers_of : List NodeId → List ℕ
numbers_of ids = map (λ (id : NodeId). id.0) ids

abbrev pub is_one_of : ℕ → List ℕ → Bool
is_one_of id ids = list_any (λ i. i == id) ids

-- What a draft says is what the step of the entry is: the reply, how many ids are drawn, the ids that are read and those that are written, as sets, and
-- the parts after, which stand for the tree of the step. That the changes are the entry's work, part by part, follows; it stands here for those who commit.
pub record IsOfStep (d : Draft) (parts : Parts) (t : Tree) (e : Placed) : Type 0 where
  pub reply : d.reply ≡ (outcome t e.entry).reply
  pub drawn : d.drawn ≡ length (new_paths t e.entry)
  pub read_ids : (id : ℕ) → is_one_of id (numbers_of d.reads.items) ≡ is_one_of id (ids_read parts e)
  pub written_ids : (id : ℕ) → is_one_of id (numbers_of d.writes.items) ≡ is_one_of id (ids_written parts e)
  pub parts_after : (number : ℕ) → applied_all number d.changes.items parts ≡ after parts e number
  pub stands : (number : ℕ) → Stands (applied_all number d.changes.items parts) (step t e.entry number).tree
  pub works : Does d.changes.items parts e

-- A draft for a view that holds stripes so and has shown these parts: it is that of the step for all parts that are possible and each such entry; what
-- it writes is held exclusively; what it reads is held at least shared, and was looked at.
pub record IsDraft (held : Held) (shown : Shown) (request : Request) (moment : ℕ) (fresh : Fresh) (d : Draft) : Type 0 where
  pub of_step : (parts : Parts) (t : Tree) (e : Placed) → ArePossible shown fresh.pass fresh.used parts t → IsEntryOf request moment fresh t e → IsOfStep d parts t e
  pub held_exclusively : (id : ℕ) → is_one_of id (numbers_of d.writes.items) ≡ true → held (id % 64) ≡ mode.Exclusive
  pub held_shared : (id : ℕ) → is_one_of id (numbers_of d.reads.items) ≡ true → covers (held (id % 64)) mode.Shared ≡ true
  pub looked_at : (id : ℕ) → is_one_of id (numbers_of d.reads.items) ≡ true → IsSome (shown (id % 64))

-- ---- a need

-- a stripe that has to be held so for an entry: exclusively where it writes there, and shared where it reads or writes there
abbrev pub NeedsStripe : LockMode → ℕ → Parts → Placed → Type 0
NeedsStripe mode.None stripe parts e = ⊥
NeedsStripe mode.Shared stripe parts e = (reads parts e stripe || writes parts e stripe) ≡ true
NeedsStripe mode.Exclusive stripe parts e = writes parts e stripe ≡ true

-- A stripe that isn't held so, and that has to be for each such entry, whatever parts are possible.
pub record IsNeed (held : Held) (shown : Shown) (request : Request) (moment : ℕ) (fresh : Fresh) (n : Need) : Type 0 where
  pub within : n.stripe < 64
  pub lacks : covers (held n.stripe) n.mode ≡ false
  pub needed : (parts : Parts) (t : Tree) (e : Placed) → ArePossible shown fresh.pass fresh.used parts t → IsEntryOf request moment fresh t e → NeedsStripe n.mode n.stripe parts e

-- all that an entry reads and writes is held
pub record HoldsFootprint (held : Held) (parts : Parts) (e : Placed) : Type 0 where
  pub written : (stripe : ℕ) → writes parts e stripe ≡ true → held stripe ≡ mode.Exclusive
  pub read : (stripe : ℕ) → reads parts e stripe ≡ true → covers (held stripe) mode.Shared ≡ true

-- where all of the footprint is held nothing is needed
abbrev pub NeedsNothingMore : Type 0
NeedsNothingMore = (held : Held) (shown : Shown) (request : Request) (moment : ℕ) (fresh : Fresh) (n : Need) (parts : Parts) (t : Tree) (e : Placed)
    → IsNeed held shown request moment fresh n → ArePossible shown fresh.pass fresh.used parts t → IsEntryOf request moment fresh t e → ¬ HoldsFootprint held parts e

-- where there is a draft all of the footprint is held
abbrev pub HoldsAll : Type 0
HoldsAll = (held : Held) (shown : Shown) (request : Request) (moment : ℕ) (fresh : Fresh) (d : Draft) (parts : Parts) (t : Tree) (e : Placed)
    → IsDraft held shown request moment fresh d → ArePossible shown fresh.pass fresh.used parts t → IsEntryOf request moment fresh t e → HoldsFootprint held parts e

-- ---- an answer

abbrev pub IsEvaluated : Held → Shown → Request → ℕ → Fresh → Result Draft EvalStop → Type 0
IsEvaluated held shown request moment fresh (Ok d) = IsDraft held shown request moment fresh d
IsEvaluated held shown request moment fresh (Err (stop.Need n)) = IsNeed held shown request moment fresh n
IsEvaluated held shown request moment fresh (Err stop.NoMemory) = Unit {0}
