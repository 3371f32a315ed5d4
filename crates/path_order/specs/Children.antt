-- The children of a directory behind a name.
use Rattle.std.specs.Prelude.{ℕ, List, [], ◌∷◌, ◌++◌, Option, Some, None}
use Rattle.namespace_model.specs.Pages.{above}
use Rattle.namespace_model.specs.Trees.{Path, Tree, children}

-- the place to which the last name leads, and the directory's own where there is none
abbrev pub reached_at : Path → Option (List ℕ) → Path
reached_at p None = p
reached_at p (Some n) = p ++ n ∷ []

-- the children behind it
abbrev pub left_at : Tree → Path → Option (List ℕ) → List Path
left_at t p last = above (Some (reached_at p last)) (children t p)
