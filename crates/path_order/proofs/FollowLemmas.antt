-- Pages that follow one another are the pages of the model, and so they cover their list.
use Rattle.std.proofs.Common.{◌≡◌, ℕ, ◌-◌, ◌≤◌, suc, true, List, [], ◌∷◌, ◌++◌, Option, Some, None, option_map, refl, sym, ap, subst, ◌∙◌, append-nil, arith}
use Rattle.namespace_model.specs.PageRuns.{of_directory, IsFollowed, followed_paths, token_after}
use Rattle.namespace_model.specs.Pages.{Page, page_of, above}
use Rattle.namespace_model.specs.Trees.{Path, Tree, is_below}
use Rattle.namespace_model.proofs.PageLaws.{above_ascends, followed_covers}
use Rattle.namespace_model.proofs.PageOrder.{Ascends, keys_ascend}
use Rattle.path_order.specs.Followed.{Answer, IsAnswer, AreAnswers, AreNodesOfAll, IsInOrder, PagesCover}
use Rattle.path_order.specs.Listings.{items_of}
use Rattle.path_order.specs.PagesBelow.{below, AreNodesOf}

abbrev pub trees : List Answer → List Tree
trees [] = []
trees (a ∷ more) = a.tree ∷ trees more

-- a page without a token has all that is left
pub last_has_all : (max : ℕ) (dir : Path) (token : Option Path) (t : Tree) (paths : List Path) → 1 ≤ max
    → page_of max (above token (below t dir)) ≡ record { paths = paths; next = None } → paths ≡ above token (below t dir)
last_has_all max dir token t paths some is = by_size max (max - 1) (omega arith) is
  where
    by_size : (k m : ℕ) → k ≡ suc m → page_of k (above token (below t dir)) ≡ record { paths = paths; next = None } → paths ≡ above token (below t dir)
    by_size k m e page =
        let here = subst (λ j. page_of j (above token (below t dir)) ≡ record { paths = paths; next = None }) e page in
        sym (ap (λ (p : Page). p.paths) here) ∙ sym (append-nil (page_of (suc m) (above token (below t dir))).paths)
        ∙ followed_covers (of_directory dir true) m token t [] (ap (λ (p : Page). p.next) here)

page_is : (dir : Path) (token : Option Path) (max : ℕ) (a : Answer) (is : IsAnswer dir token max a)
    → (page_of max (above token (below a.tree dir)) ≡ record { paths = is.is_listing.paths; next = option_map (λ names. dir ++ names) (items_of a.listing.next) })
    × AreNodesOf a.parts a.tree is.is_listing.paths a.listing.seen.items
page_is dir token max a is = is.is_listing.is_page a.parts a.tree is.stands is.agrees

-- they are followed as the model has it
followed : (dir : Path) (max : ℕ) (token : Option Path) (a : Answer) (more : List Answer) → AreAnswers dir max token (a ∷ more) → IsFollowed (of_directory dir true) max token (a.tree ∷ trees more)
followed dir max token a [] are = ap (λ (p : Page). p.next) (page_is dir token max a are.0).0 ∙ ap (λ o. option_map (λ names. dir ++ names) (items_of o)) are.1
followed dir max token a (b ∷ more) are = (
  dir ++ are.1.0,
  ap (λ (p : Page). p.next) (page_is dir token max a are.0).0 ∙ ap (option_map (λ names. dir ++ names)) are.1.1.0,
  are.1.1.1.0,
  followed dir max (Some (dir ++ are.1.0)) b more are.1.1.1.1,
)

-- and their nodes are those of the followed paths
nodes_followed : (dir : Path) (max : ℕ) (token : Option Path) (a : Answer) (more : List Answer) → AreAnswers dir max token (a ∷ more)
    → AreNodesOfAll (followed_paths (of_directory dir true) max token (a.tree ∷ trees more)) (a ∷ more)
nodes_followed dir max token a [] are =
    let page = page_is dir token max a are.0 in
    (are.0.is_listing.paths, ([], (ap (λ (p : Page). p.paths ++ []) page.0, (page.1, refl))))
nodes_followed dir max token a (b ∷ more) are =
    let page = page_is dir token max a are.0 in
    let next : (page_of max (above token (below a.tree dir))).next ≡ Some (dir ++ are.1.0) = ap (λ (p : Page). p.next) page.0 ∙ ap (option_map (λ names. dir ++ names)) are.1.1.0 in (
      are.0.is_listing.paths,
      (
        followed_paths (of_directory dir true) max (Some (dir ++ are.1.0)) (b.tree ∷ trees more),
        (
          ap (λ (p : Page). p.paths ++ followed_paths (of_directory dir true) max (token_after token (page_of max (above token (below a.tree dir))).next) (b.tree ∷ trees more)) page.0
              ∙ ap (λ o. are.0.is_listing.paths ++ followed_paths (of_directory dir true) max (token_after token o) (b.tree ∷ trees more)) next,
          (page.1, nodes_followed dir max (Some (dir ++ are.1.0)) b more are.1.1.1.1),
        ),
      ),
    )

in_order : (ps : List Path) → Ascends ps → IsInOrder ps
in_order [] up = tt
in_order (p ∷ ps) up = (up.0, in_order ps up.1)

pub pages_cover : PagesCover
pages_cover dir max token first more some are = record {
  all = subst (λ ps. AreNodesOfAll ps (first ∷ more)) (by_size max (max - 1) (omega arith) (followed dir max token first more are)) (nodes_followed dir max token first more are);
  once = in_order (above token (below first.tree dir)) (above_ascends token (below first.tree dir) (keys_ascend first.tree (is_below dir)));
}
  where
    by_size : (k m : ℕ) → k ≡ suc m → IsFollowed (of_directory dir true) k token (first.tree ∷ trees more)
        → followed_paths (of_directory dir true) k token (first.tree ∷ trees more) ≡ above token (below first.tree dir)
    by_size k m e h =
        ap (λ j. followed_paths (of_directory dir true) j token (first.tree ∷ trees more)) e
        ∙ followed_covers (of_directory dir true) m token first.tree (trees more) (subst (λ j. IsFollowed (of_directory dir true) j token (first.tree ∷ trees more)) e h)
