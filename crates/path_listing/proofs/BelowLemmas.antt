-- The page of a walk, row by row.
use Rattle.std.proofs.Common.{◌≡◌, ℕ, ◌+◌, ◌<◌, ◌≤◌, Bool, true, false, not, List, [], ◌∷◌, ◌++◌, length, take, Option, Some, None, Result, Ok, Err, IfOk, refl, sym, ap, subst, ◌∙◌, append_assoc, append-nil, length-append, arith}
use Rattle.std.proofs.lemmas.Option.{same_Some}
use Rattle.namespace_model.specs.ListPaths.{listing}
use Rattle.namespace_model.specs.Locality.{Among}
use Rattle.namespace_model.specs.Pages.{page_of, above, on_the_way}
use Rattle.namespace_model.specs.Trees.{Path, Tree, is_below}
use Rattle.inode_tree.specs.declared.need.Need.{Need}
use Rattle.inode_tree.specs.Inodes.{BareInode, node_of}
use Rattle.inode_tree.specs.Parts.{Parts}
use Rattle.inode_tree.specs.Stands.{Stands}
use Rattle.inode_tree.specs.Views.{Held, Shown, Agrees, Grows}
use Rattle.inode_tree.proofs.IndexLemmas.{index_from_stands}
use Rattle.path_walk.proofs.TrailLemmas.{agrees_before}
use Rattle.path_order.specs.declared.begin.Start.{Start}
use Rattle.path_order.specs.declared.cursor.Cursor.{Cursor}
use Rattle.path_order.specs.declared.cursor.Seen.{Seen}
use Rattle.path_order.specs.Cursors.{end_of, names_of, IsCursor, IsCursorIn, IsEnd, IsNextSeen, NeedsNext}
use Rattle.path_order.specs.Listings.{NeedsListing}
use Rattle.path_order.specs.PagesBelow.{below, AreHeld, AreNodesOf, NeedsOfPage, last_of}
use Rattle.path_order.specs.Starts.{IsStartBehind, NeedsOnTheWay}
use Rattle.path_order.proofs.CursorLemmas.{end_is}
use Rattle.path_order.proofs.ListingLemmas.{way_needs, page_needed}
use Rattle.path_order.proofs.PageLemmas.{next_is, nothing_is, nodes_more, held_more, held_grows, in_front, last_more}
use Rattle.path_listing.specs.declared.rows.Page.{Page}
use Rattle.path_listing.specs.declared.rows.Row.{Row}
use Rattle.path_listing.specs.Listed.{paths_in, nodes_in, way_read, IsPage, IsPageOf, IsPageFrom, NeedsPage}
use Rattle.path_listing.proofs.RowLemmas.{paths_more, rows_nodes_more, last_rows, more_rows}

-- the nodes so far and their paths: the rest comes behind them
pub record AreSoFar (held : Held) (shown : Shown) (dir token : Path) (count : ℕ) (c : Cursor) (done : List Path) (nodes : List Seen) : Type 0 where
  pub long : length done ≡ count
  pub so_far : (parts : Parts) (t : Tree) → Stands parts t → Agrees shown parts
      → (above (Some token) (below t dir) ≡ done ++ above (Some (last_of token done)) (below t dir)) × AreNodesOf parts t done nodes
  pub goes_on : IsCursor shown dir (last_of token done) c
  pub looked : AreHeld held shown nodes

abbrev pub AreRows : Held → Shown → Path → Path → ℕ → Cursor → List Row → Type 0
AreRows held shown dir token count c rows = AreSoFar held shown dir token count c (paths_in dir rows) (nodes_in rows)

pub no_rows : (held : Held) (shown : Shown) (dir token : Path) (c : Cursor) (rows : List Row) → rows ≡ [] → IsCursor shown dir token c → AreRows held shown dir token 0 c rows
no_rows held shown dir token c rows none is =
    subst (λ (l : List Row). AreRows held shown dir token 0 c l) (sym none) (record { long = refl; so_far = λ parts t stands agrees. (refl, tt); goes_on = is; looked = tt })

pub rows_as : {held later : Held} {shown : Shown} {dir token : Path} {count : ℕ} {c : Cursor} (rows : List Row) → later ≡ held → AreRows held shown dir token count c rows → AreRows later shown dir token count c rows
rows_as {shown} {dir} {token} {count} {c} rows same is = subst (λ h. AreRows h shown dir token count c rows) (sym same) is

module _ (held : Held) (old new : Shown) (dir token : Path) (count : ℕ) (before after : Cursor) (rows : List Row) (grows : Grows old new) (is : AreRows held old dir token count before rows) where
  abbrev done : List Path
  done = paths_in dir rows

  -- the walk came to a node
  came : (s : Seen) → ((d k : Path) → IsCursor old d k before → IsNextSeen held new d k after (Some s))
      → AreSoFar held new dir token (count + 1) after (done ++ end_of dir after.levels.items ∷ []) (nodes_in rows ++ s ∷ [])
  came s step =
      let last = last_of token done in
      let q = end_of dir after.levels.items in
      let seen = step dir last is.goes_on in
      record {
        long = length-append done (q ∷ []) ∙ ap (λ k. k + 1) is.long;
        so_far = λ parts t stands agrees.
            let before = is.so_far parts t stands (agrees_before old new parts grows agrees) in
            let one = seen.0 parts t stands agrees in
            let place = (index_from_stands parts t stands).places q s.id.0 one.is_next.leads in (
              before.0 ∙ ap (λ l. done ++ l) (next_is t dir last q one.is_next.next one.is_next.below)
                  ∙ sym (append_assoc done (q ∷ []) (above (Some q) (below t dir)))
                  ∙ ap (λ k. (done ++ q ∷ []) ++ above (Some k) (below t dir)) (sym (last_more token done q)),
              nodes_more parts t done (nodes_in rows) q s before.1 (record {
                leads = one.is_next.leads;
                there = one.there;
                shows = place.shows ∙ ap (λ (x : BareInode). Some (node_of x)) (same_Some place.inode s.node (sym place.found ∙ one.there));
              }),
            );
        goes_on = subst (λ k. IsCursor new dir k after) (sym (last_more token done q)) (λ parts t stands agrees. (seen.0 parts t stands agrees).goes_on);
        looked = held_more held new (nodes_in rows) s (held_grows held old new (nodes_in rows) grows is.looked) seen.1;
      }

  pub one_row : (s : Seen) (r : Row) (more : List Row) → ((d k : Path) → IsCursor old d k before → IsNextSeen held new d k after (Some s)) → r.seen ≡ s → r.names.items ≡ names_of after
      → more ≡ rows ++ r ∷ [] → AreRows held new dir token (count + 1) after more
  one_row s r more step seen named is_more =
      let paths : done ++ end_of dir after.levels.items ∷ [] ≡ paths_in dir more =
      ap (λ q. done ++ q ∷ []) (end_is dir after.levels.items ∙ ap (λ l. dir ++ l) (sym named)) ∙ sym (paths_more dir rows r) ∙ ap (λ (l : List Row). paths_in dir l) (sym is_more) in
      let nodes : nodes_in rows ++ s ∷ [] ≡ nodes_in more =
      ap (λ x. nodes_in rows ++ x ∷ []) (sym seen) ∙ sym (rows_nodes_more rows r) ∙ ap (λ (l : List Row). nodes_in l) (sym is_more) in
      subst (λ l. AreSoFar held new dir token (count + 1) after l (nodes_in more)) paths
      (subst (λ l. AreSoFar held new dir token (count + 1) after (done ++ end_of dir after.levels.items ∷ []) l) nodes (came s step))

  -- or it is at its end
  pub rows_ended : (max : ℕ) (p : Page) → count ≤ max → ((d k : Path) → IsCursor old d k before → IsNextSeen held new d k after None) → p.rows.items ≡ rows → p.more ≡ false → IsPageFrom held new dir token max p
  rows_ended max p within step same no_more = record {
    page_in = λ parts t stands agrees.
        let before = is.so_far parts t stands (agrees_before old new parts grows agrees) in
        let none = step dir (last_of token done) is.goes_on parts t stands agrees in
        last_rows parts t dir max (above (Some token) (below t dir)) done rows p refl same no_more
        (before.0 ∙ ap (λ l. done ++ l) (nothing_is t dir (last_of token done) none.0) ∙ append-nil done)
        (let e = is.long in let h : length done ≤ max = omega arith in h) before.1;
    looked = subst (λ (l : List Row). AreHeld held new (nodes_in l)) (sym same) (held_grows held old new (nodes_in rows) grows is.looked);
  }

  -- or its node lies in a stripe that isn't held
  pub rows_lack : (max : ℕ) (n : Need) → count < max → ((d k : Path) → IsCursor old d k before → NeedsNext held old d k n) → NeedsOfPage held new dir token max n
  rows_lack max n more step =
      let needs = step dir (last_of token done) is.goes_on in
      record {
        within = needs.within;
        asks = needs.asks;
        lacks = needs.lacks;
        needed = λ parts t stands agrees.
            let was = agrees_before old new parts grows agrees in
            let before = is.so_far parts t stands was in
            let one = needs.needed parts t stands was in
            let next = one.1.1.0 in (
              one.0,
              (
                one.1.0,
                (
                  subst (λ l. Among one.0 (take max l)) (sym (before.0 ∙ ap (λ l. done ++ l) (next_is t dir (last_of token done) one.0 next.next next.below)))
                      (in_front max done one.0 (above (Some one.0) (below t dir)) (let e = is.long in let h : length done < max = omega arith in h)),
                  (next.leads, one.1.1.1),
                ),
              ),
            );
      }

-- the page is full
pub rows_full : (held : Held) (shown : Shown) (dir token : Path) (count max : ℕ) (c : Cursor) (rows : List Row) (p : Page) (ended : Bool) → 1 ≤ max → count ≡ max → AreRows held shown dir token count c rows
    → ((parts : Parts) (t : Tree) (d k : Path) → Stands parts t → IsCursorIn parts t d k c → IsEnd t d k ended) → p.rows.items ≡ rows → p.more ≡ not ended → IsPageFrom held shown dir token max p
rows_full held shown dir token count max c rows p ended some full is ends same is_more = record {
  page_in = λ parts t stands agrees.
      let before = is.so_far parts t stands agrees in
      by_end parts t ended is_more before.0 before.1 (ends parts t dir (last_of token (paths_in dir rows)) stands (is.goes_on parts t stands agrees));
  looked = subst (λ (l : List Row). AreHeld held shown (nodes_in l)) (sym same) is.looked;
}
  where
    by_end : (parts : Parts) (t : Tree) (b : Bool) → p.more ≡ not b → above (Some token) (below t dir) ≡ paths_in dir rows ++ above (Some (last_of token (paths_in dir rows))) (below t dir)
        → AreNodesOf parts t (paths_in dir rows) (nodes_in rows) → IsEnd t dir (last_of token (paths_in dir rows)) b → IsPageOf parts t dir max (above (Some token) (below t dir)) p
    by_end parts t true more so_far are none =
        last_rows parts t dir max (above (Some token) (below t dir)) (paths_in dir rows) rows p refl same more
        (so_far ∙ ap (λ l. paths_in dir rows ++ l) (nothing_is t dir (last_of token (paths_in dir rows)) none) ∙ append-nil (paths_in dir rows))
        (let e = is.long in let h : length (paths_in dir rows) ≤ max = omega arith in h) are
    by_end parts t false more so_far are next =
        more_rows parts t dir max (above (Some token) (below t dir)) (paths_in dir rows) rows p next.0 (above (Some next.0) (below t dir)) some refl same more
        (so_far ∙ ap (λ l. paths_in dir rows ++ l) (next_is t dir (last_of token (paths_in dir rows)) next.0 next.1.0 next.1.1)) (is.long ∙ full) are

-- ---- a page by a token

-- a page of a walk that began by a token
pub page_read : (held : Held) (old shown : Shown) (dir : Path) (token : Option Path) (max : ℕ) (s : Start) (p : Page) → Grows old shown → IsStartBehind held old dir token s → p.way.items ≡ s.seen.items
    → ((d k : Path) → IsCursor old d k s.cursor → IsPageFrom held shown d k max p) → IsPage held shown dir true token max p
page_read held old shown dir token max s p grows start way from =
    let page = from dir start.from start.walk in
    record {
      page_in = λ parts t stands agrees.
          let is = page.page_in parts t stands agrees in
          record {
            is_page = ap (page_of max) (sym (start.same t)) ∙ is.0;
            nodes = is.1;
            way = subst (λ k. AreNodesOf parts t (on_the_way t (is_below dir) token) k) (sym way) (start.way parts t stands (agrees_before old shown parts grows agrees));
          };
      looked = page.looked;
      looked_way = subst (λ k. AreHeld held shown k) (sym way) (held_grows held old shown s.seen.items grows start.looked);
    }

-- a token behind all
pub nothing_read : (held : Held) (shown : Shown) (dir : Path) (recursive : Bool) (token : Option Path) (max : ℕ) (p : Page)
    → ((t : Tree) → (above token (listing t dir recursive) ≡ []) × (way_read t dir recursive token ≡ [])) → p.way.items ≡ [] → p.rows.items ≡ [] → p.more ≡ false
    → IsPage held shown dir recursive token max p
nothing_read held shown dir recursive token max p none way rows no_more = record {
  page_in = λ parts t stands agrees.
      let is = last_rows parts t dir max (above token (listing t dir recursive)) [] [] p refl rows no_more (none t).0 (omega arith) tt in
      record {
        is_page = is.0;
        nodes = is.1;
        way = subst (λ k. AreNodesOf parts t (way_read t dir recursive token) k) (sym way) (subst (λ ps. AreNodesOf parts t ps []) (sym (none t).1) tt);
      };
  looked = subst (λ (l : List Row). AreHeld held shown (nodes_in l)) (sym rows) tt;
  looked_way = subst (λ l. AreHeld held shown l) (sym way) tt;
}

-- what a listing needs its page needs
listing_lacks : (held : Held) (shown : Shown) (dir : Path) (token : Option Path) (max : ℕ) (n : Need) → NeedsListing held shown dir token max n → NeedsPage held shown dir true token max n
listing_lacks held shown dir token max n needs = record { within = needs.within; asks = needs.asks; lacks = needs.lacks; needed = needs.needed }

pub way_lacks : (held : Held) (shown : Shown) (dir : Path) (token : Option Path) (max : ℕ) (n : Need) → NeedsOnTheWay held shown dir token n → NeedsPage held shown dir true token max n
way_lacks held shown dir token max n needs = listing_lacks held shown dir token max n (way_needs held shown dir token max n needs)

pub walk_lacks : (held : Held) (old shown : Shown) (dir : Path) (token : Option Path) (max : ℕ) (s : Start) (n : Need) → IsStartBehind held old dir token s
    → ((d k : Path) → IsCursor old d k s.cursor → NeedsOfPage held shown d k max n) → NeedsPage held shown dir true token max n
walk_lacks held old shown dir token max s n start from = listing_lacks held shown dir token max n (page_needed held old shown dir token max s n start from)

-- two facts of an answer give a third
pub ok_both : {A E : Type 0} (r : Result A E) (P Q R : A → Type 0) → IfOk r P → IfOk r Q → ((x : A) → P x → Q x → R x) → IfOk r R
ok_both (Ok x) P Q R p q to = to x p q
ok_both (Err e) P Q R p q to = tt
