-- Listings that follow one another, each by the token of the one before.
use Rattle.std.specs.Prelude.{◌≡◌, ◌≤◌, ℕ, List, [], ◌∷◌, ◌++◌, Option, Some, None}
use Rattle.namespace_model.specs.Locality.{Among}
use Rattle.namespace_model.specs.PageRuns.{HaveSamePaths}
use Rattle.namespace_model.specs.Pages.{above}
use Rattle.namespace_model.specs.Trees.{Path, Tree}
use Rattle.inode_tree.specs.Parts.{Parts}
use Rattle.inode_tree.specs.Stands.{Stands}
use Rattle.inode_tree.specs.Views.{Held, Shown, Agrees}
use Rattle.path_order.specs.declared.listing.Listing.{Listing}
use Rattle.path_order.specs.Cursors.{Before}
use Rattle.path_order.specs.Listings.{items_of, IsListing}
use Rattle.path_order.specs.PagesBelow.{below, AreNodesOf}

-- an answer, the holds and what was shown when it came, and parts with their tree
pub record Answer : Type 0 where
  pub held : Held
  pub shown : Shown
  pub parts : Parts
  pub tree : Tree
  pub listing : Listing

-- the answer to a call for a page of dir behind a token; its parts stand for its tree and agree with what was shown
pub record IsAnswer (dir : Path) (token : Option Path) (max : ℕ) (a : Answer) : Type 0 where
  pub stands : Stands a.parts a.tree
  pub agrees : Agrees a.shown a.parts
  pub is_listing : IsListing a.held a.shown dir token max a.listing

-- Calls one after the other, each with the token of the one before, up to one that gives none. Between them no path comes or goes.
abbrev pub AreAnswers : Path → ℕ → Option Path → List Answer → Type 0
AreAnswers dir max token [] = ⊥
AreAnswers dir max token (a ∷ []) = IsAnswer dir token max a × (a.listing.next ≡ None)
AreAnswers dir max token (a ∷ b ∷ more) =
    IsAnswer dir token max a × ((names : Path) × ((items_of a.listing.next ≡ Some names) × (HaveSamePaths a.tree b.tree × AreAnswers dir max (Some (dir ++ names)) (b ∷ more))))

-- the nodes of these answers are those of these paths, one answer behind the other
abbrev pub AreNodesOfAll : List Path → List Answer → Type 0
AreNodesOfAll paths [] = paths ≡ []
AreNodesOfAll paths (a ∷ more) =
    (page : List Path) × ((left : List Path) × ((paths ≡ page ++ left) × (AreNodesOf a.parts a.tree page a.listing.seen.items × AreNodesOfAll left more)))

-- each path stands before all that come behind it in the list, so that none comes twice
abbrev pub IsInOrder : List Path → Type 0
IsInOrder [] = Unit {0}
IsInOrder (p ∷ ps) = ((q : Path) → Among q ps → Before p q) × IsInOrder ps

-- Together they are the nodes of all that is below dir behind the first token, each path once, in path order.
pub record CoverTheirList (dir : Path) (token : Option Path) (first : Answer) (more : List Answer) : Type 0 where
  pub all : AreNodesOfAll (above token (below first.tree dir)) (first ∷ more)
  pub once : IsInOrder (above token (below first.tree dir))

-- so it is of all such answers
abbrev pub PagesCover : Type 0
PagesCover = (dir : Path) (max : ℕ) (token : Option Path) (first : Answer) (more : List Answer) → 1 ≤ max → AreAnswers dir max token (first ∷ more) → CoverTheirList dir token first more
