-- What an answer tells: the paths of a page, those that a batch handled, and the token by which the next call goes on.
use Rattle.std.specs.Prelude.{◌≡◌, ◌⊎◌, ℕ, List, [], ◌∷◌, map, Option, Some, None}
use Rattle.namespace_model.specs.declared.field.Field.{Field}
use Rattle.namespace_model.specs.declared.field.Field.TheVariants.{Continuation}
use Rattle.namespace_model.specs.Effects.{Put}
use Rattle.namespace_model.specs.ListFilesystems.{filesystems_body}
use Rattle.namespace_model.specs.ListPaths.{paths_body}
use Rattle.namespace_model.specs.PageRuns.{Course, of_filesystems, of_directory, of_batch}
use Rattle.namespace_model.specs.SetAccessRecursive.{Batch, batch_body}
use Rattle.namespace_model.specs.Trees.{Path}
use Rattle.followed_calls.specs.Calls.{AnsweredCall, outcome_of}

-- ---- paths

-- Each of the paths in turn is the next that was changed, or the next that failed; and no other path was changed or failed.
abbrev pub AreHandled : List Path → List Path → List Path → Type 0
AreHandled [] changed failed = (changed ≡ []) × (failed ≡ [])
AreHandled (p ∷ ps) changed failed =
    ((more : List Path) × ((changed ≡ p ∷ more) × AreHandled ps more failed))
    ⊎ ((more : List Path) × ((failed ≡ p ∷ more) × AreHandled ps changed more))

abbrev pub changed_paths : Batch → List Path
changed_paths b = map (λ (x : Path × Put). x.0) b.changed

abbrev pub failed_paths : Batch → List Path
failed_paths b = map (λ f. f.path) b.failed

-- A batch handled these paths: the reply has its counts and its failures, what is put on the tree is what it changed, and each path in turn was changed
-- or failed.
pub record Handles (c : AnsweredCall) (paths : List Path) : Type 0 where
  pub batch : Batch
  pub told : c.draft.reply.body ≡ batch_body batch
  pub put : (outcome_of c).effect.puts ≡ batch.changed
  pub handled : AreHandled paths (changed_paths batch) (failed_paths batch)

-- The answer tells these paths, in this order: the body of a listing has a member for each, with its node on the call's tree; a batch handled them.
abbrev pub Tells : Course → AnsweredCall → List Path → Type 0
Tells (of_filesystems prefix) c paths = c.draft.reply.body ≡ filesystems_body c.tree paths
Tells (of_directory dir recursive) c paths = c.draft.reply.body ≡ paths_body c.tree paths
Tells (of_batch p) c paths = Handles c paths

-- ---- the token

-- the text in the first line that has a token
abbrev pub token_line : List Field → Option (List ℕ)
token_line [] = None
token_line (Continuation text ∷ fields) = Some text
token_line (other ∷ fields) = token_line fields
