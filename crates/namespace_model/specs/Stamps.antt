-- Which nodes a step puts, and which of them it stamps with its moment and its number.
use Rattle.std.specs.Prelude.{◌≡◌, ℕ, List, Bool, true, false, Option, Some, None}
use Rattle.namespace_model.specs.declared.op.Op.{Op}
use Rattle.namespace_model.specs.declared.op.Op.TheVariants as op
use Rattle.namespace_model.specs.declared.request.Entry.{Entry}
use Rattle.namespace_model.specs.Nodes.{Node}
use Rattle.namespace_model.specs.Trees.{Path, Tree, at}
use Rattle.namespace_model.specs.Effects.{Put, Effect, moved}
use Rattle.namespace_model.specs.Outcomes.{Outcome}
use Rattle.namespace_model.specs.Locality.{Among}
use Rattle.namespace_model.specs.Shapes.{put_at, put_paths}
use Rattle.namespace_model.specs.Step.{root_of}

-- the nodes that an operation may put: new ones, the source of a rename, the changed ones of a batch, and else the node that it names
abbrev pub IsPutBy : Op → List Path → List Path → Path → Type 0
IsPutBy (op.CreateFilesystem path props) fresh written p = Among p fresh
IsPutBy (op.SetFilesystem path props) fresh written p = p ≡ root_of path
IsPutBy (op.Create path kind permissions umask props) fresh written p = Among p fresh
IsPutBy (op.Rename path source props) fresh written p = p ≡ source
IsPutBy (op.Append path position flush retain action) fresh written p = p ≡ path
IsPutBy (op.Flush path position retain) fresh written p = p ≡ path
IsPutBy (op.SetProperties path props) fresh written p = p ≡ path
IsPutBy (op.SetAccess path owner group permissions acl) fresh written p = p ≡ path
IsPutBy (op.SetAccessRecursive path change token max force) fresh written p = Among p written
IsPutBy (op.Lease path action) fresh written p = p ≡ path
IsPutBy other fresh written p = ⊥

-- whether an operation stamps what it puts: a lease call doesn't, and an append only where it flushes
abbrev pub stamps : Op → Bool
stamps (op.Append path position flush retain action) = flush
stamps (op.Lease path action) = false
stamps other = true

-- a put with a slot for the entry's number, and the entry's moment
pub record IsStamp (e : Entry) (put : Put) : Type 0 where
  pub stamped : put.stamped ≡ true
  pub moment : put.node.moment ≡ e.moment

-- a put in place of a node, whose number and moment it keeps
pub record IsKeep (t : Tree) (p : Path) (put : Put) : Type 0 where
  pub old : Node
  pub there : at t p ≡ Some old
  pub stamped : put.stamped ≡ false
  pub number : put.node.number ≡ old.number
  pub moment : put.node.moment ≡ old.moment

abbrev pub IsRightPut : Bool → Tree → Entry → Path → Put → Type 0
IsRightPut true t e p put = IsStamp e put
IsRightPut false t e p put = IsKeep t p put

-- the nodes alone are put that the operation may put, and stamped where it stamps
pub record PutsRightly (t : Tree) (e : Entry) (asked : Op) (fresh written : List Path) (effect : Effect) : Type 0 where
  pub places : (p : Path) → Among p (put_paths effect) → IsPutBy asked fresh written p
  pub puts : (p : Path) (put : Put) → put_at p effect ≡ Some put → IsRightPut (stamps asked) t e p put

abbrev pub StampsRightly : Tree → Entry → Outcome → Type 0
StampsRightly t e o = PutsRightly t e e.request.op o.fresh o.written o.effect

-- where a path stands after a step, followed through its move
abbrev pub followed : Option (Path × Path) → Path → Path
followed None p = p
followed (Some m) p = moved m.0 m.1 p

-- the node has the entry's number and moment
pub record HasStamp (e : Entry) (number : ℕ) (y : Node) : Type 0 where
  pub number_is : y.number ≡ number
  pub moment_is : y.moment ≡ e.moment

-- the node has the number and the moment of the one before
pub record HasSameStamp (x y : Node) : Type 0 where
  pub number_is : y.number ≡ x.number
  pub moment_is : y.moment ≡ x.moment

-- A node after a step was there before, perhaps at another place, with its own number and moment; or it is one that the operation puts and
-- stamps.
pub data HasRightStamp (t : Tree) (e : Entry) (o : Outcome) (number : ℕ) (q : Path) (y : Node) : Type 0 where
  newly_stamped : (p : Path) → q ≡ followed o.effect.move p → IsPutBy e.request.op o.fresh o.written p → stamps e.request.op ≡ true → HasStamp e number y → HasRightStamp t e o number q y
  stamp_kept : (p : Path) (x : Node) → q ≡ followed o.effect.move p → at t p ≡ Some x → HasSameStamp x y → HasRightStamp t e o number q y
