-- Pages and batches followed by their tokens.
use Rattle.std.specs.Prelude.{◌≡◌, ℕ, Bool, List, [], ◌∷◌, ◌++◌, is_some, Option, Some, None}
use Rattle.namespace_model.specs.Trees.{Path, Tree, at, subtree}
use Rattle.namespace_model.specs.Pages.{Page, page_of, above}
use Rattle.namespace_model.specs.ListFilesystems.{filesystems}
use Rattle.namespace_model.specs.ListPaths.{listing}

-- what is gone through: filesystems by a prefix, a directory or all below it, or a node and all below it
pub data Course : Type 0 where
  of_filesystems : List ℕ → Course
  of_directory : Path → Bool → Course
  of_batch : Path → Course

-- all the paths that a course goes through, in path order
abbrev pub course_of : Course → Tree → List Path
course_of (of_filesystems prefix) t = filesystems t prefix
course_of (of_directory dir recursive) t = listing t dir recursive
course_of (of_batch p) t = subtree t p

-- the page of a course behind a token: of a list call its page, of a batch the nodes that it handles where no failure ends it
abbrev pub page_at : Course → ℕ → Option Path → Tree → Page
page_at course max token t = page_of max (above token (course_of course t))

-- no path comes or goes
abbrev pub HaveSamePaths : Tree → Tree → Type 0
HaveSamePaths t u = (q : Path) → is_some (at t q) ≡ is_some (at u q)

-- Calls on one tree after the other, each with the token of the one before, up to one that gives no token. Between them no path comes or goes.
abbrev pub IsFollowed : Course → ℕ → Option Path → List Tree → Type 0
IsFollowed course max token [] = ⊥
IsFollowed course max token (t ∷ []) = (page_at course max token t).next ≡ None
IsFollowed course max token (t ∷ u ∷ ts) =
    (next : Path) × ((page_at course max token t).next ≡ Some next) × HaveSamePaths t u × IsFollowed course max (Some next) (u ∷ ts)

-- the token by which the next call goes on
abbrev pub token_after : Option Path → Option Path → Option Path
token_after given None = given
token_after given (Some next) = Some next

-- the paths of the pages, one page after the other
abbrev pub followed_paths : Course → ℕ → Option Path → List Tree → List Path
followed_paths course max token [] = []
followed_paths course max token (t ∷ ts) =
    (page_at course max token t).paths ++ followed_paths course max (token_after token (page_at course max token t).next) ts
