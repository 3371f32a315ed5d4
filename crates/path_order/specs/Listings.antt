-- A page of all that is below a directory, by the model's definitions.
use Rattle.std.specs.Prelude.{◌≡◌, ℕ, true, List, ◌++◌, Vec, Option, Some, option_map}
use Rattle.inode_tree.specs.declared.need.Need.{Need}
use Rattle.namespace_model.specs.ListPaths.{list_page}
use Rattle.namespace_model.specs.Pages.{page_of, above, on_the_way}
use Rattle.namespace_model.specs.Trees.{Path, Tree, is_below}
use Rattle.inode_tree.specs.Parts.{Parts}
use Rattle.inode_tree.specs.Stands.{Stands}
use Rattle.inode_tree.specs.Views.{Held, Shown, Agrees}
use Rattle.path_order.specs.declared.listing.Listing.{Listing}
use Rattle.path_order.specs.PagesBelow.{below, ids_in, AreApart, AreNodesOf, AreHeld}
use Rattle.path_order.specs.Needs.{NeedsOneOf}

abbrev pub items_of : {A B : Type 0} → Option (Vec A B) → Option (List A)
items_of o = option_map (λ v. v.items) o

-- a page behind a token: its nodes, and the names below dir of its own token
pub record IsListedFrom (held : Held) (shown : Shown) (dir token : Path) (max : ℕ) (l : Listing) : Type 0 where
  pub paths : List Path
  pub is_page : (parts : Parts) (t : Tree) → Stands parts t → Agrees shown parts
      → (page_of max (above (Some token) (below t dir)) ≡ record { paths = paths; next = option_map (λ names. dir ++ names) (items_of l.next) }) × AreNodesOf parts t paths l.seen.items
  pub looked : AreHeld held shown l.seen.items

-- The model's page of all that is below dir behind the token: its nodes, its token, and the nodes on the way to the token that was given. No node comes
-- twice among all these.
pub record IsListing (held : Held) (shown : Shown) (dir : Path) (token : Option Path) (max : ℕ) (l : Listing) : Type 0 where
  pub paths : List Path
  pub is_page : (parts : Parts) (t : Tree) → Stands parts t → Agrees shown parts
      → (list_page t dir true token max ≡ record { paths = paths; next = option_map (λ names. dir ++ names) (items_of l.next) }) × AreNodesOf parts t paths l.seen.items
  pub way : (parts : Parts) (t : Tree) → Stands parts t → Agrees shown parts → AreNodesOf parts t (on_the_way t (is_below dir) token) l.way.items
  pub once : (parts : Parts) (t : Tree) → Stands parts t → Agrees shown parts → AreApart (ids_in (l.way.items ++ l.seen.items))
  pub looked : AreHeld held shown l.seen.items
  pub looked_way : AreHeld held shown l.way.items

-- a stripe that isn't held, in which a node lies that the listing reads
abbrev pub NeedsListing : Held → Shown → Path → Option Path → ℕ → Need → Type 0
NeedsListing held shown dir token max n = NeedsOneOf held shown (λ t. on_the_way t (is_below dir) token ++ (list_page t dir true token max).paths) n
