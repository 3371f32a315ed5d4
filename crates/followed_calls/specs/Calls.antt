-- Calls that an evaluator has answered, and what they ask for.
use Rattle.std.specs.Prelude.{◌≡◌, ◌⊎◌, ℕ, Bool, true, List, [], slice_get, Option, None, Ok}
use Rattle.namespace_model.specs.declared.op.BatchChange.{BatchChange}
use Rattle.namespace_model.specs.declared.op.Op.{Op}
use Rattle.namespace_model.specs.declared.op.Op.TheVariants as op
use Rattle.namespace_model.specs.declared.request.Request.{Request}
use Rattle.namespace_model.specs.Outcomes.{Outcome}
use Rattle.namespace_model.specs.PageRuns.{Course, of_filesystems, of_directory, of_batch}
use Rattle.namespace_model.specs.SetAccessRecursive.{batch_of, batch_page}
use Rattle.namespace_model.specs.Sound.{IsSound}
use Rattle.namespace_model.specs.Step.{outcome}
use Rattle.namespace_model.specs.Trees.{Path, Tree}
use Rattle.inode_tree.specs.declared.draft.Draft.{Draft}
use Rattle.inode_tree.specs.declared.fresh.Fresh.{Fresh}
use Rattle.inode_tree.specs.declared.placed.Placed.{Placed}
use Rattle.inode_tree.specs.Parts.{Parts}
use Rattle.inode_tree.specs.Promises.{IsEvaluated, IsEntryOf}
use Rattle.inode_tree.specs.Views.{Held, Shown, ArePossible}

-- ---- a call

-- A call of an evaluator with its answer: how the view held the stripes and what it had shown, the request and its moment, the ids that could be
-- drawn; parts that the view may be of, with their tree; the entry that the request becomes; and the draft.
pub record AnsweredCall : Type 0 where
  pub held : Held
  pub shown : Shown
  pub request : Request
  pub moment : ℕ
  pub fresh : Fresh
  pub parts : Parts
  pub tree : Tree
  pub entry : Placed
  pub draft : Draft

-- The request is sound, and the answer keeps what each evaluator promises; parts and entry are any of those for which it promises it.
pub record KeepsPromise (c : AnsweredCall) : Type 0 where
  pub sound : IsSound c.request
  pub evaluated : IsEvaluated c.held c.shown c.request c.moment c.fresh (Ok c.draft)
  pub possible : ArePossible c.shown c.fresh.pass c.fresh.used c.parts c.tree
  pub entered : IsEntryOf c.request c.moment c.fresh c.tree c.entry

-- what comes of it on its tree
abbrev pub outcome_of : AnsweredCall → Outcome
outcome_of c = outcome c.tree c.entry.entry

-- ---- what it asks for

-- at most so many paths of a course, those behind a token where one is given
abbrev pub AsksFor : Course → ℕ → Option Path → Op → Type 0
AsksFor (of_filesystems prefix) max token asked = asked ≡ op.ListFilesystems prefix token max
AsksFor (of_directory dir recursive) max token asked = asked ≡ op.List dir recursive token max
AsksFor (of_batch p) max token asked =
    (change : BatchChange) × ((force : Bool) × (asked ≡ op.SetAccessRecursive p change token max force))

-- A batch is forced, or none of its nodes fails. A listing isn't stopped by a node.
abbrev pub IsNotStopped : AnsweredCall → Op → Type 0
IsNotStopped c (op.SetAccessRecursive p change token max force) =
    (force ≡ true) ⊎ ((batch_of c.tree c.entry.entry change force (batch_page c.tree p token max).paths).failed ≡ [])
IsNotStopped c other = Unit {0}

-- the filesystem that the tokens of a course leave out; on a page of the account there is none
abbrev pub filesystem_in : Course → Option (List ℕ)
filesystem_in (of_filesystems prefix) = None
filesystem_in (of_directory dir recursive) = slice_get dir 0
filesystem_in (of_batch p) = slice_get p 0
