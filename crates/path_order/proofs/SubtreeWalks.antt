-- A walk through all that is below a path, over the paths so far.
use Rattle.std.proofs.Common.{◌≡◌, true, List, ◌∷◌, ◌++◌, Some, is_some, ap, ◌∙◌, append-nil}
use Rattle.namespace_model.specs.Pages.{above}
use Rattle.namespace_model.specs.Trees.{Path, Tree, at, is_below, subtree}
use Rattle.namespace_model.proofs.Lookups.{among_keys}
use Rattle.inode_tree.specs.declared.need.Need.{Need}
use Rattle.inode_tree.specs.Views.{Held, Shown, Grows}
use Rattle.path_walk.proofs.TrailLemmas.{agrees_before}
use Rattle.path_order.specs.declared.cursor.Cursor.{Cursor}
use Rattle.path_order.specs.Cursors.{NoneBehind, IsCursor, NeedsNext}
use Rattle.path_order.specs.PagesBelow.{below, last_of}
use Rattle.path_order.specs.Subtrees.{NeedsSubtree}
use Rattle.path_order.proofs.PageLemmas.{below_of, nothing_is}
use Rattle.path_order.proofs.SubtreeLists.{subtree_is}

-- where none is behind the last of them, the path and these are all
pub whole_came : (t : Tree) (p : Path) (done : List Path) → is_some (at t p) ≡ true → below t p ≡ done ++ above (Some (last_of p done)) (below t p) → NoneBehind t (last_of p done) p → subtree t p ≡ p ∷ done
whole_came t p done there left none =
    let all : below t p ≡ done = left ∙ ap (λ l. done ++ l) (nothing_is t p (last_of p done) none) ∙ append-nil done in
    subtree_is t p there ∙ ap (λ (l : List Path). p ∷ l) all

-- what the next path needs is needed for what is below
pub next_lacks : (held : Held) (old new : Shown) (p token : Path) (c : Cursor) → Grows old new → IsCursor old p token c → (n : Need) → ((r k : Path) → IsCursor old r k c → NeedsNext held old r k n) → NeedsSubtree held new p n
next_lacks held old new p token c grows goes_on n step =
    let needs = step p token goes_on in
    record {
      within = needs.within;
      asks = needs.asks;
      lacks = needs.lacks;
      needed = λ parts t stands agrees.
          let one = needs.needed parts t stands (agrees_before old new parts grows agrees) in
          let next = one.1.1.0 in
          (one.0, (one.1.0, (among_keys t (is_below p) one.0 next.next.there (below_of p one.0 next.below), (next.leads, one.1.1.1))));
    }
