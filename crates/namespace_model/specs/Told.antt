-- What a reply tells of a node is so once the step is done.
use Rattle.std.specs.Prelude.{◌≡◌, ℕ, List, [], ◌∷◌, Option, Some, None}
use Rattle.namespace_model.specs.declared.field.Field.{Field}
use Rattle.namespace_model.specs.declared.field.Field.TheVariants as field
use Rattle.namespace_model.specs.declared.op.Op.{Op}
use Rattle.namespace_model.specs.declared.op.Op.TheVariants as op
use Rattle.namespace_model.specs.Nodes.{Node}
use Rattle.namespace_model.specs.Step.{root_of}
use Rattle.namespace_model.specs.Trees.{Path, Tree, at}

-- the node whose ETag and moment an operation answers, where it stands after the step
abbrev pub told_of : Op → Option Path
told_of (op.CreateFilesystem path props) = Some (root_of path)
told_of (op.GetFilesystem path) = Some (root_of path)
told_of (op.SetFilesystem path props) = Some (root_of path)
told_of (op.Create path kind permissions umask props) = Some path
told_of (op.Rename path source props) = Some path
told_of (op.Read path range) = Some path
told_of (op.GetProperties path status) = Some path
told_of (op.GetAccess path) = Some path
told_of (op.Append path position flush retain action) = Some path
told_of (op.Flush path position retain) = Some path
told_of (op.SetProperties path props) = Some path
told_of (op.SetAccess path owner group permissions acl) = Some path
told_of (op.Lease path action) = Some path
told_of other = None

-- a node stands at the path, and has this
pub record IsAtPath (t : Tree) (p : Path) (P : Node → Type 0) : Type 0 where
  pub node : Node
  pub there : at t p ≡ Some node
  pub has : P node

-- a node of an operation that answers one
abbrev pub IsOfNode : Tree → Option Path → (Node → Type 0) → Type 0
IsOfNode t None P = ⊥
IsOfNode t (Some p) P = IsAtPath t p P

-- The number of an ETag is the node's, and where it is open the entry's own is; the moment is the node's. Other lines say nothing here.
abbrev pub IsTold : Tree → ℕ → Option Path → Field → Type 0
IsTold t number p (field.ETag None) = IsOfNode t p (λ x. x.number ≡ number)
IsTold t number p (field.ETag (Some told)) = IsOfNode t p (λ x. x.number ≡ told)
IsTold t number p (field.LastModified told) = IsOfNode t p (λ x. x.moment ≡ told)
IsTold t number p other = Unit {0}

-- each line of a reply
abbrev pub AreTold : Tree → ℕ → Option Path → List Field → Type 0
AreTold t number p [] = Unit {0}
AreTold t number p (f ∷ fs) = IsTold t number p f × AreTold t number p fs
