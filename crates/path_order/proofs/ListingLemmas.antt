-- A page by a token.
use Rattle.std.proofs.Common.{◌≡◌, inl, inr, ℕ, suc, ◌+◌, ◌<◌, Bool, true, false, cond, List, [], ◌∷◌, ◌++◌, length, take, Option, Some, None, option_map, refl, sym, ap, subst, ◌∙◌, arith}
use Rattle.std.proofs.Math.Seq.{take-suc}
use Rattle.std.specs.Prelude.{slice_index_or}
use Rattle.namespace_model.specs.Locality.{Among}
use Rattle.namespace_model.specs.ListPaths.{list_page}
use Rattle.inode_tree.specs.declared.need.Need.{Need}
use Rattle.namespace_model.specs.Pages.{page_of, above, on_the_way}
use Rattle.namespace_model.specs.Pages as model
use Rattle.namespace_model.specs.Trees.{Path, is_below}
use Rattle.inode_tree.specs.Views.{Held, Shown, Grows}
use Rattle.path_walk.proofs.TrailLemmas.{agrees_before}
use Rattle.path_order.specs.declared.begin.Start.{Start}
use Rattle.path_order.specs.declared.cursor.Level.{Level}
use Rattle.path_order.specs.declared.cursor.Cursor.{Cursor}
use Rattle.path_order.specs.declared.listing.Listing.{Listing}
use Rattle.path_order.specs.declared.paging.Page.{Page}
use Rattle.path_order.specs.Cursors.{names_in, end_of, IsCursor, IsWalk}
use Rattle.path_order.specs.PagesBelow.{below, ids_in, AreApart, AreNodesOf, last_of, AreHeld, IsPageBelow, NeedsOfPage}
use Rattle.path_order.specs.Starts.{IsStartBehind, IsStartAt, NeedsOnTheWay}
use Rattle.path_order.specs.Listings.{items_of, IsListedFrom, IsListing, NeedsListing}
use Rattle.path_order.proofs.ApartLemmas.{listing_apart}
use Rattle.path_order.proofs.CursorLemmas.{end_is, take_whole}
use Rattle.path_order.proofs.PageLemmas.{held_grows, last_page}
use Rattle.path_order.proofs.WayLemmas.{names_more}

pub names_next : (ls : List Level) (i : ℕ) (l : Level) (names after : Path) (name : List ℕ) → i < length ls → l ≡ slice_index_or ls i l → names ≡ names_in (take i ls) → name ≡ l.name → after ≡ names ++ name ∷ [] → after ≡ names_in (take (i + 1) ls)
names_next ls i l names after name within item so_far copied is =
    is ∙ ap (λ n. names ++ n ∷ []) copied ∙ ap (λ ns. ns ++ l.name ∷ []) so_far ∙ sym (names_more (take i ls) l)
    ∙ ap names_in (ap (λ x. take i ls ++ x ∷ []) item ∙ sym (take-suc ls i l within) ∙ ap (λ k. take k ls) (let h : suc i ≡ i + 1 = omega arith in h))

pub names_all : (ls : List Level) (i : ℕ) (names : Path) → i ≡ length ls → names ≡ names_in (take i ls) → names ≡ names_in ls
names_all ls i names all is = is ∙ ap names_in (take_whole ls i all)

-- a page with the names of its token
pub listed_from : (held : Held) (shown : Shown) (dir token : Path) (max : ℕ) (c : Cursor) (p : Page) (l : Listing) → IsPageBelow held shown dir token max c p → l.seen.items ≡ p.seen.items
    → items_of l.next ≡ cond p.more (Some (names_in c.levels.items)) None → IsListedFrom held shown dir token max l
listed_from held shown dir token max c p l page is_seen is_next = record {
  paths = page.paths;
  is_page = λ parts t stands agrees.
      let is = page.is_page parts t stands agrees in (
        is.0 ∙ ap (λ o. record { paths = page.paths; next = o }) (by_more p.more page.at_last ∙ sym (ap (option_map (λ names. dir ++ names)) is_next)),
        subst (λ s. AreNodesOf parts t page.paths s) (sym is_seen) is.1,
      );
  looked = subst (λ s. AreHeld held shown s) (sym is_seen) page.looked;
}
  where
    by_more : (b : Bool) → (b ≡ true → last_of token page.paths ≡ end_of dir c.levels.items) → cond b (Some (last_of token page.paths)) None ≡ option_map (λ names. dir ++ names) (cond b (Some (names_in c.levels.items)) None)
    by_more true at_last = ap Some (at_last refl ∙ end_is dir c.levels.items)
    by_more false at_last = refl

-- a page of a walk that began by a token
pub listed : (held : Held) (old shown : Shown) (dir : Path) (token : Option Path) (max : ℕ) (s : Start) (l : Listing) → Grows old shown → IsStartBehind held old dir token s
    → (l.way.items ≡ s.seen.items) × ((d k : Path) → IsCursor old d k s.cursor → IsListedFrom held shown d k max l) → IsListing held shown dir token max l
listed held old shown dir token max s l grows start from =
    let page = from.1 dir start.from start.walk in
    record {
      paths = page.paths;
      is_page = λ parts t stands agrees. let is = page.is_page parts t stands agrees in (ap (page_of max) (sym (start.same t)) ∙ is.0, is.1);
      way = λ parts t stands agrees. subst (λ k. AreNodesOf parts t (on_the_way t (is_below dir) token) k) (sym from.0) (start.way parts t stands (agrees_before old shown parts grows agrees));
      once = λ parts t stands agrees.
          let is = page.is_page parts t stands agrees in
          listing_apart parts t stands dir token max page.paths l.way.items l.seen.items
          (ap (λ (q : model.Page). q.paths) (sym is.0 ∙ ap (page_of max) (start.same t)))
          (subst (λ k. AreNodesOf parts t (on_the_way t (is_below dir) token) k) (sym from.0) (start.way parts t stands (agrees_before old shown parts grows agrees))) is.1;
      looked = page.looked;
      looked_way = subst (λ k. AreHeld held shown k) (sym from.0) (held_grows held old shown s.seen.items grows start.looked);
    }

-- a token behind all
pub listed_none : (held : Held) (shown : Shown) (dir : Path) (token : Option Path) (max : ℕ) (l : Listing) → IsStartAt held shown dir token None → l.way.items ≡ [] → l.seen.items ≡ [] → items_of l.next ≡ None → IsListing held shown dir token max l
listed_none held shown dir token max l none way seen next = record {
  paths = [];
  is_page = λ parts t stands agrees. (
    last_page max dir (above token (below t dir)) [] (none t).0 (omega arith) ∙ ap (λ o. record { paths = []; next = option_map (λ names. dir ++ names) o }) (sym next),
    subst (λ s. AreNodesOf parts t [] s) (sym seen) tt,
  );
  way = λ parts t stands agrees. subst (λ k. AreNodesOf parts t (on_the_way t (is_below dir) token) k) (sym way) (subst (λ ps. AreNodesOf parts t ps []) (sym (none t).1) tt);
  once = λ parts t stands agrees. subst (λ w. AreApart (ids_in (w ++ l.seen.items))) (sym way) (subst (λ s. AreApart (ids_in s)) (sym seen) tt);
  looked = subst (λ s. AreHeld held shown s) (sym seen) tt;
  looked_way = subst (λ s. AreHeld held shown s) (sym way) tt;
}

pub start_as : {held later : Held} {shown : Shown} {dir : Path} {token : Option Path} {s : Start} → later ≡ held → IsStartBehind held shown dir token s → IsStartBehind later shown dir token s
start_as {shown} {dir} {token} {s} same is = subst (λ h. IsStartBehind h shown dir token s) (sym same) is

pub walk_of : (held : Held) (shown : Shown) (dir : Path) (token : Option Path) (s : Start) → IsStartBehind held shown dir token s → IsWalk shown s.cursor
walk_of held shown dir token s start = (dir, start.from, start.walk)

among_left : (q : Path) (xs ys : List Path) → Among q xs → Among q (xs ++ ys)
among_left q [] ys h = absurd h
among_left q (x ∷ xs) ys (inl e) = inl e
among_left q (x ∷ xs) ys (inr h) = inr (among_left q xs ys h)

among_right : (q : Path) (xs ys : List Path) → Among q ys → Among q (xs ++ ys)
among_right q [] ys h = h
among_right q (x ∷ xs) ys h = inr (among_right q xs ys h)

-- what is needed on the way to the token is needed for the listing
pub way_needs : (held : Held) (shown : Shown) (dir : Path) (token : Option Path) (max : ℕ) (n : Need) → NeedsOnTheWay held shown dir token n → NeedsListing held shown dir token max n
way_needs held shown dir token max n needs = record {
  within = needs.within;
  asks = needs.asks;
  lacks = needs.lacks;
  needed = λ parts t stands agrees.
      let one = needs.needed parts t stands agrees in
      (one.0, (one.1.0, (among_left one.0 (on_the_way t (is_below dir) token) (list_page t dir true token max).paths one.1.1.0, one.1.1.1)));
}

-- and so is what is needed for its page
pub page_needed : (held : Held) (old shown : Shown) (dir : Path) (token : Option Path) (max : ℕ) (s : Start) (n : Need) → IsStartBehind held old dir token s
    → ((d k : Path) → IsCursor old d k s.cursor → NeedsOfPage held shown d k max n) → NeedsListing held shown dir token max n
page_needed held old shown dir token max s n start from =
    let needs = from dir start.from start.walk in
    record {
      within = needs.within;
      asks = needs.asks;
      lacks = needs.lacks;
      needed = λ parts t stands agrees.
          let one = needs.needed parts t stands agrees in
          (one.0, (one.1.0, (among_right one.0 (on_the_way t (is_below dir) token) (list_page t dir true token max).paths (subst (λ l. Among one.0 (take max l)) (start.same t) one.1.1.0), one.1.1.1)));
    }
