-- What is told by calls that follow one another, and by each by itself.
use Rattle.std.specs.Prelude.{◌≡◌, ℕ, true, List, [], ◌∷◌, ◌++◌, Option, Some}
use Rattle.std.specs.declared.cmp.Ordering.TheVariants.{Less}
use Rattle.path_text.specs.Paths.{path_cmp}
use Rattle.namespace_model.specs.Locality.{Among}
use Rattle.namespace_model.specs.PageRuns.{Course, course_of}
use Rattle.namespace_model.specs.Pages.{above}
use Rattle.namespace_model.specs.Trees.{Path}
use Rattle.inode_tree.specs.Parts.{id_at}
use Rattle.inode_tree.specs.Promises.{is_one_of, numbers_of}
use Rattle.followed_calls.specs.Calls.{AnsweredCall}
use Rattle.followed_calls.specs.Told.{Tells}

-- ---- together

-- the answers, one behind the other, tell these paths
abbrev pub TellTogether : Course → List AnsweredCall → List Path → Type 0
TellTogether course [] paths = paths ≡ []
TellTogether course (c ∷ more) paths =
    (page : List Path) × ((left : List Path) × ((paths ≡ page ++ left) × (Tells course c page × TellTogether course more left)))

-- each path stands before all that come behind it, so that none comes twice
abbrev pub IsInOrder : List Path → Type 0
IsInOrder [] = Unit {0}
IsInOrder (p ∷ ps) = ((q : Path) → Among q ps → path_cmp p q ≡ Less) × IsInOrder ps

-- all that is behind the first token on the first tree, the whole course where there is no token, and each path of it once
pub record CoverTheirCourse (course : Course) (token : Option Path) (first : AnsweredCall) (more : List AnsweredCall) : Type 0 where
  pub all : TellTogether course (first ∷ more) (above token (course_of course first.tree))
  pub once : IsInOrder (above token (course_of course first.tree))

-- ---- each by itself, on any tree

-- It tells paths of its course, each behind the token. (Paths before it, and the nodes on the way to it, may be read.)
pub record TellsBehind (course : Course) (token : Path) (c : AnsweredCall) : Type 0 where
  pub paths : List Path
  pub told : Tells course c paths
  pub of_course : (q : Path) → Among q paths → Among q (course_of course c.tree)
  pub behind : (q : Path) → Among q paths → path_cmp token q ≡ Less

-- each node that is written is that of a path behind the token
abbrev pub WritesBehind : Path → AnsweredCall → Type 0
WritesBehind token c = (id : ℕ) → is_one_of id (numbers_of c.draft.writes.items) ≡ true
    → (q : Path) × ((id_at c.parts q ≡ Some id) × (path_cmp token q ≡ Less))
