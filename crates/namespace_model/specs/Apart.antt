-- Filesystems are apart: what a request on one filesystem sees, and what it changes.
use Rattle.std.specs.Prelude.{◌≡◌, ℕ, Bool, true, false, List, [], ◌∷◌, map, Some, option_map, if◌then◌else◌}
use Rattle.head_text.specs.declared.conditions.Conditions.{Conditions}
use Rattle.head_text.specs.ConditionsOf.{conditions_of}
use Rattle.namespace_model.specs.declared.field.Field.{Field}
use Rattle.namespace_model.specs.declared.field.Field.TheVariants.{ETag}
use Rattle.namespace_model.specs.declared.op.Op.{Op}
use Rattle.namespace_model.specs.declared.op.Op.TheVariants as op
use Rattle.namespace_model.specs.declared.reply.Reply.{Reply}
use Rattle.namespace_model.specs.Nodes.{Node}
use Rattle.namespace_model.specs.Trees.{Path, Tree, at}

-- ---- on which filesystem a request is

-- the path is the root of the filesystem, or below it
abbrev pub IsIn : List ℕ → Path → Type 0
IsIn fs [] = ⊥
IsIn fs (name ∷ names) = name ≡ fs

-- Each path that the operation names is in the filesystem. A refused request names none, and is on every one; a listing of filesystems is on none.
abbrev pub IsOn : List ℕ → Op → Type 0
IsOn fs (op.ListFilesystems prefix token max) = ⊥
IsOn fs (op.CreateFilesystem path props) = IsIn fs path
IsOn fs (op.GetFilesystem path) = IsIn fs path
IsOn fs (op.SetFilesystem path props) = IsIn fs path
IsOn fs (op.DeleteFilesystem path) = IsIn fs path
IsOn fs (op.List dir recursive token max) = IsIn fs dir
IsOn fs (op.Create path kind permissions umask props) = IsIn fs path
IsOn fs (op.Rename path source props) = IsIn fs path × IsIn fs source
IsOn fs (op.Read path range) = IsIn fs path
IsOn fs (op.GetProperties path status) = IsIn fs path
IsOn fs (op.GetAccess path) = IsIn fs path
IsOn fs (op.CheckAccess path want) = IsIn fs path
IsOn fs (op.Append path position flush retain action) = IsIn fs path
IsOn fs (op.Flush path position retain) = IsIn fs path
IsOn fs (op.SetProperties path props) = IsIn fs path
IsOn fs (op.SetAccess path owner group permissions acl) = IsIn fs path
IsOn fs (op.SetAccessRecursive path change token max force) = IsIn fs path
IsOn fs (op.Lease path action) = IsIn fs path
IsOn fs (op.Delete path recursive) = IsIn fs path
IsOn fs (op.Refused code) = Unit {0}

-- ---- what it sees

-- two trees have the same account, and the same node at each path in the filesystem
pub record AgreeOn (fs : List ℕ) (s t : Tree) : Type 0 where
  pub account : at s [] ≡ at t []
  pub inside : (p : Path) → at s (fs ∷ p) ≡ at t (fs ∷ p)

-- ---- what it sees but for numbers

-- with the number 0
abbrev pub unnumbered : Node → Node
unnumbered x = record x { number = 0 }

-- the same as `AgreeOn`, but for the numbers of nodes
pub record AlikeOn (fs : List ℕ) (s t : Tree) : Type 0 where
  pub account : option_map unnumbered (at s []) ≡ option_map unnumbered (at t [])
  pub inside : (p : Path) → option_map unnumbered (at s (fs ∷ p)) ≡ option_map unnumbered (at t (fs ∷ p))

-- conditions that hold of a node whatever its number is, as where none is given
abbrev pub AskNoNumber : Conditions → Type 0
AskNoNumber c = (n m moment : ℕ) → conditions_of c (Some (n, moment)) ≡ conditions_of c (Some (m, moment))

-- an ETag of a node without the node's number; an ETag with the number of the answered entry stays
abbrev pub unnumbered_field : Field → Field
unnumbered_field (ETag number) = ETag (option_map (λ n. 0) number)
unnumbered_field other = other

-- a page of paths, whose body has the numbers of its nodes
abbrev pub is_listing : Op → Bool
is_listing (op.List dir recursive token max) = true
is_listing other = false

-- the body of a reply, but none where it has numbers
abbrev pub unnumbered_body : Op → List ℕ → List ℕ
unnumbered_body o body = if is_listing o then [] else body

-- two replies are the same but for the numbers of nodes
pub record SameButNumbers (o : Op) (r q : Reply) : Type 0 where
  pub status : r.status ≡ q.status
  pub code : r.code ≡ q.code
  pub denied : r.denied ≡ q.denied
  pub fields : map unnumbered_field r.fields ≡ map unnumbered_field q.fields
  pub body : unnumbered_body o r.body ≡ unnumbered_body o q.body
