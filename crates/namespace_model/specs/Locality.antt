-- What is read and written decides all that comes of a step.
use Rattle.std.specs.Prelude.{◌≡◌, ◌⊎◌, ℕ, List, [], ◌∷◌, ◌++◌, is_some}
use Rattle.namespace_model.specs.Trees.{Path, Tree, at, IsLaid}
use Rattle.namespace_model.specs.Outcomes.{Outcome, touched}

-- the path is one of the list
abbrev pub Among : Path → List Path → Type 0
Among p [] = ⊥
Among p (q ∷ qs) = (p ≡ q) ⊎ Among p qs

-- the two have the same node at a path, and the same names directly below it
pub record Alike (s t : Tree) (p : Path) : Type 0 where
  pub node : at s p ≡ at t p
  pub names : (n : List ℕ) → is_some (at s (p ++ n ∷ [])) ≡ is_some (at t (p ++ n ∷ []))

-- Two maps that are alike at each path that is touched on the first one give the same outcome. Of a tree nothing more is asked than that
-- what is above each path is a directory that is there.
abbrev pub IsLocal : (Tree → Outcome) → Type 0
IsLocal step = (s t : Tree) → IsLaid s → IsLaid t → ((p : Path) → Among p (touched (step s)) → Alike s t p) → step s ≡ step t

-- what is above a touched path is touched too
abbrev pub IsClosed : (Tree → Outcome) → Type 0
IsClosed step = (t : Tree) → IsLaid t → (p q : Path) → Among (p ++ q) (touched (step t)) → Among p (touched (step t))
