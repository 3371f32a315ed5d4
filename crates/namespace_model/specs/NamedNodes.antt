-- The nodes that a step has to put where it succeeds, by its operation: at these places they stand after the step.
use Rattle.std.specs.Prelude.{◌≡◌, ◌⊎◌, ℕ, Bool, true, List, [], ◌∷◌, IsOk}
use Rattle.namespace_model.specs.declared.caller.Caller.{Caller}
use Rattle.namespace_model.specs.declared.op.BatchChange.{BatchChange}
use Rattle.namespace_model.specs.declared.op.Op.{Op}
use Rattle.namespace_model.specs.declared.op.Op.TheVariants as op
use Rattle.namespace_model.specs.declared.request.Entry.{Entry}
use Rattle.namespace_model.specs.Locality.{Among}
use Rattle.namespace_model.specs.Refusals.{caller_of}
use Rattle.namespace_model.specs.SetAccessRecursive.{batch_page, turn_of}
use Rattle.namespace_model.specs.Stamps.{HasStamp}
use Rattle.namespace_model.specs.Step.{root_of, outcome}
use Rattle.namespace_model.specs.Told.{IsAtPath}
use Rattle.namespace_model.specs.Trees.{Path, Tree, node_at}

-- The batch changes the node of a path: its turn succeeds, and no node before it ends the batch, since theirs succeed too or the batch is forced.
abbrev pub IsTurned : Tree → Caller → BatchChange → Bool → Path → List Path → Type 0
IsTurned t caller change force p [] = ⊥
IsTurned t caller change force p (q ∷ qs) =
    ((p ≡ q) × IsOk (turn_of caller change (node_at t q)))
    ⊎ (((force ≡ true) ⊎ IsOk (turn_of caller change (node_at t q))) × IsTurned t caller change force p qs)

-- the node that is named, each new one of these, or each that a batch changes
abbrev pub IsNamed : Tree → Caller → List Path → Op → Path → Type 0
IsNamed t caller fresh (op.CreateFilesystem path props) p = p ≡ root_of path
IsNamed t caller fresh (op.SetFilesystem path props) p = p ≡ root_of path
IsNamed t caller fresh (op.Create path kind permissions umask props) p = (p ≡ path) ⊎ Among p fresh
IsNamed t caller fresh (op.Rename path source props) p = p ≡ path
IsNamed t caller fresh (op.Append path position flush retain action) p = (p ≡ path) × (flush ≡ true)
IsNamed t caller fresh (op.Flush path position retain) p = p ≡ path
IsNamed t caller fresh (op.SetProperties path props) p = p ≡ path
IsNamed t caller fresh (op.SetAccess path owner group permissions acl) p = p ≡ path
IsNamed t caller fresh (op.SetAccessRecursive path change token max force) p =
    IsTurned t caller change force p (batch_page t path token max).paths
IsNamed t caller fresh other p = ⊥

-- each of these stands there after the step, with the entry's number and moment
abbrev pub PutsNamed : Tree → Entry → ℕ → Tree → Type 0
PutsNamed t e number after = (p : Path) → IsNamed t (caller_of e) (outcome t e).fresh e.request.op p → IsAtPath after p (HasStamp e number)
