-- The page of a directory's children, row by row.
use Rattle.std.proofs.Common.{◌≡◌, inl, inr, ℕ, ◌+◌, ◌<◌, ◌≤◌, false, cond, List, [], ◌∷◌, ◌++◌, length, take, slice_get, Option, Some, None, is_some, option_map, refl, sym, ap, subst, ◌∙◌, append_assoc, append-nil, length-append, arith}
use Rattle.std.proofs.lemmas.Bool.{false≢true, cases_Bool}
use Rattle.std.proofs.lemmas.Option.{same_Some}
use Rattle.std.proofs.Math.Nat.{mod-lt}
use Rattle.std.proofs.Math.Dec.{lit<}
use Rattle.std.specs.List.{filter}
use Rattle.std.specs.declared.cmp.Ordering.TheVariants.{Less, Greater}
use Rattle.lock_core.specs.declared.object.LockMode.TheVariants.{Shared}
use Rattle.path_text.specs.Paths.{path_cmp, is_prefix}
use Rattle.namespace_model.specs.Locality.{Among}
use Rattle.namespace_model.specs.Pages.{is_above, above, page_of}
use Rattle.namespace_model.specs.Trees.{Path, Tree, at, is_child, children}
use Rattle.namespace_model.proofs.Lookups.{keys_among}
use Rattle.namespace_model.proofs.PageLaws.{above_before, before_above}
use Rattle.namespace_model.proofs.PageOrder.{before_itself, before_trans, before_both, before_tells}
use Rattle.namespace_model.proofs.Prefixes.{child_name, front_of_itself}
use Rattle.inode_tree.specs.declared.id.NodeId.{NodeId}
use Rattle.inode_tree.specs.declared.need.Need.{Need}
use Rattle.inode_tree.specs.FirstChild.{IsFirstChild, IsChildAbove}
use Rattle.inode_tree.specs.Inodes.{BareInode, node_of}
use Rattle.inode_tree.specs.Parts.{Parts, follow}
use Rattle.inode_tree.specs.Stands.{Stands}
use Rattle.inode_tree.specs.Views.{Held, Shown, Agrees, Grows, IsKnown, covers, shown_at}
use Rattle.inode_tree.proofs.IndexLemmas.{index_from_stands}
use Rattle.path_walk.specs.Visits.{IsHeldAndShown}
use Rattle.path_walk.proofs.TrailLemmas.{agreed, agrees_before}
use Rattle.path_order.specs.declared.cursor.Seen.{Seen}
use Rattle.path_order.specs.Cursors.{Before}
use Rattle.path_order.specs.PagesBelow.{IsNodeOf, AreNodesOf, AreHeld}
use Rattle.path_order.specs.Starts.{IsAtFor}
use Rattle.path_order.proofs.CursorLemmas.{names_lead}
use Rattle.path_order.proofs.NextPath.{less_no_greater, apart_same, front_first, names_tell, by_names, none_of}
use Rattle.path_order.proofs.PageLemmas.{nodes_more, held_more, held_grows, in_front}
use Rattle.path_order.proofs.TokenLemmas.{all_behind}
use Rattle.path_order.specs.Needs.{NeedsNode}
use Rattle.path_order.specs.Children.{left_at}
use Rattle.path_order.proofs.ChildOrder.{all_left, one_left, none_left}
use Rattle.path_listing.specs.declared.rows.Page.{Page}
use Rattle.path_listing.specs.declared.rows.Row.{Row}
use Rattle.path_listing.specs.Listed.{paths_in, nodes_in, IsLookOf, IsPage, IsPageOfChildren, NeedsChildren, NeedsPage}
use Rattle.path_listing.proofs.RowLemmas.{paths_more, rows_nodes_more, last_rows, more_rows, paths_long}

-- ---- the children in path order

child_behind : (t : Tree) (p q : Path) → Among q (children t p) → (n : List ℕ) × (q ≡ p ++ n ∷ [])
child_behind t p q h = child_name p q (keys_among t (is_child p) q h).0

-- ---- by a token

above_as : (a b : Path) (xs : List Path) → ((q : Path) → Among q xs → is_above a q ≡ is_above b q) → above (Some a) xs ≡ above (Some b) xs
above_as a b [] same = refl
above_as a b (x ∷ xs) same =
    ap (λ c. cond c (x ∷ filter (is_above a) xs) (filter (is_above a) xs)) (same x (inl refl))
    ∙ ap (λ l. cond (is_above b x) (x ∷ l) l) (above_as a b xs (λ q h. same q (inr h)))

pub no_token : (dir : Path) (t : Tree) → above None (children t dir) ≡ left_at t dir None
no_token dir t = sym (all_left t dir)

-- what is behind a path below a child is behind the child
behind_both : (dir : Path) (n m : List ℕ) (rest : Path) → is_above (dir ++ n ∷ rest) (dir ++ m ∷ []) ≡ is_above (dir ++ n ∷ []) (dir ++ m ∷ [])
behind_both dir n m rest = elim (names_tell n m) [
  | inl less ↦ before_above (dir ++ n ∷ rest) (dir ++ m ∷ []) (by_names dir n rest m [] Less less) ∙ sym (before_above (dir ++ n ∷ []) (dir ++ m ∷ []) (by_names dir n [] m [] Less less))
  | inr other ↦ elim other [
    | inl same ↦ subst (λ k. is_above (dir ++ n ∷ rest) (dir ++ k ∷ []) ≡ is_above (dir ++ n ∷ []) (dir ++ k ∷ [])) same (not_above (dir ++ n ∷ rest) (dir ++ n ∷ []) (own rest) ∙ sym (not_above (dir ++ n ∷ []) (dir ++ n ∷ []) (before_itself (dir ++ n ∷ []))))
    | inr more ↦ not_above (dir ++ n ∷ rest) (dir ++ m ∷ []) (λ h. less_no_greater (sym h ∙ by_names dir n rest m [] Greater more)) ∙ sym (not_above (dir ++ n ∷ []) (dir ++ m ∷ []) (λ h. less_no_greater (sym h ∙ by_names dir n [] m [] Greater more)))
  ]
]
  where
    not_above : (p q : Path) → (Before p q → ⊥) → is_above p q ≡ false
    not_above p q not = elim (cases_Bool (is_above p q)) [ inl e ↦ absurd (not (above_before p q e)) | inr e ↦ e ]

    own : (rest : Path) → Before (dir ++ n ∷ rest) (dir ++ n ∷ []) → ⊥
    own [] h = before_itself (dir ++ n ∷ []) h
    own (k ∷ rest) h = before_both (dir ++ n ∷ []) (dir ++ n ∷ k ∷ rest) (subst (λ q. Before (dir ++ n ∷ []) q) (append_assoc dir (n ∷ []) (k ∷ rest)) (front_first (dir ++ n ∷ []) k rest)) h

-- a token that is the directory or below it
pub begins_below : (dir token names : Path) (last : Option (List ℕ)) → token ≡ dir ++ names → last ≡ slice_get names 0 → (t : Tree) → above (Some token) (children t dir) ≡ left_at t dir last
begins_below dir token [] last is at t = ap (λ k. above (Some k) (children t dir)) (is ∙ append-nil dir) ∙ ap (left_at t dir) (sym at)
begins_below dir token (n ∷ rest) last is at t =
    ap (λ k. above (Some k) (children t dir)) is
    ∙ above_as (dir ++ n ∷ rest) (dir ++ n ∷ []) (children t dir) (λ q h. let name = child_behind t dir q h in
    subst (λ r. is_above (dir ++ n ∷ rest) r ≡ is_above (dir ++ n ∷ []) r) (sym name.1) (behind_both dir n name.0 rest))
    ∙ ap (left_at t dir) (sym at)

-- a token before the directory
pub begins_before : (dir token : Path) → is_prefix dir token ≡ false → (path_cmp dir token ≡ Less → ⊥) → (t : Tree) → above (Some token) (children t dir) ≡ left_at t dir None
begins_before dir token apart not_less t =
    all_behind token (children t dir) (λ q h. let name = child_behind t dir q h in
    before_trans token dir q (elim (before_tells dir token) [
      | inl less ↦ absurd (not_less less)
      | inr other ↦ elim other [
        | inl same ↦ absurd (false≢true (sym apart ∙ ap (is_prefix dir) (sym same) ∙ front_of_itself dir))
        | inr more ↦ more
      ]
    ]) (subst (λ r. Before dir r) (sym name.1) (front_first dir name.0 [])))
    ∙ sym (all_left t dir)

-- a token behind it
pub begins_behind : (dir token : Path) → is_prefix dir token ≡ false → path_cmp dir token ≡ Less → (t : Tree) → above (Some token) (children t dir) ≡ []
begins_behind dir token apart less t = none_of token (children t dir) (λ q h before.
    let name = child_behind t dir q h in
    let ahead : Before (dir ++ name.0 ∷ []) token = apart_same dir [] (name.0 ∷ []) token apart (subst (λ r. Before r token) (sym (append-nil dir)) less) in
    before_both token q before (subst (λ r. Before r token) (sym name.1) ahead))

-- ---- the rows so far

pub record AreChildren (held : Held) (shown : Shown) (dir : Path) (first : Option (List ℕ)) (count : ℕ) (last : Option (List ℕ)) (rows : List Row) : Type 0 where
  pub long : length rows ≡ count
  pub so_far : (parts : Parts) (t : Tree) → Stands parts t → Agrees shown parts
      → (left_at t dir first ≡ paths_in dir rows ++ left_at t dir last) × AreNodesOf parts t (paths_in dir rows) (nodes_in rows)
  pub looked : AreHeld held shown (nodes_in rows)

pub no_children : (held : Held) (shown : Shown) (dir : Path) (first : Option (List ℕ)) (rows : List Row) → rows ≡ [] → AreChildren held shown dir first 0 first rows
no_children held shown dir first rows none =
    subst (λ l. AreChildren held shown dir first 0 first l) (sym none) (record { long = refl; so_far = λ parts t stands agrees. (refl, tt); looked = tt })

pub children_as : {held later : Held} {shown : Shown} {dir : Path} {first : Option (List ℕ)} {count : ℕ} {last : Option (List ℕ)} {rows : List Row} → later ≡ held
    → AreChildren held shown dir first count last rows → AreChildren later shown dir first count last rows
children_as {shown} {dir} {first} {count} {last} {rows} same is = subst (λ h. AreChildren h shown dir first count last rows) (sym same) is

module _ (held : Held) (old new : Shown) (dir : Path) (first : Option (List ℕ)) (count : ℕ) (last : Option (List ℕ)) (rows : List Row) (grows : Grows old new)
    (is : AreChildren held old dir first count last rows) (x : BareInode) (root : IsAtFor old dir x) where
  -- a child behind the last name
  module _ (m : List ℕ) (c : NodeId) (child : IsFirstChild x last m c.0) where
    leads_there : (parts : Parts) (t : Tree) → Stands parts t → Agrees old parts → follow parts 0 (dir ++ m ∷ []) ≡ Some c.0
    leads_there parts t stands agrees = let here = root parts t stands agrees in sym (names_lead parts t stands dir here.0 x here.1 m) ∙ child.leads

    pub child_known : IsKnown old c.0
    child_known parts t stands agrees = stands.found (dir ++ m ∷ []) c.0 (leads_there parts t stands agrees)

    pub one_child : (s : Seen) (r : Row) (more : List Row) → IsLookOf held new c s → r.seen ≡ s → r.names.items ≡ m ∷ [] → more ≡ rows ++ r ∷ [] → AreChildren held new dir first (count + 1) (Some m) more
    one_child s r more look seen named is_more =
        subst (λ l. AreChildren held new dir first (count + 1) (Some m) l) (sym is_more) (record {
          long = length-append rows (r ∷ []) ∙ ap (λ k. k + 1) is.long;
          so_far = λ parts t stands agrees.
              let was = agrees_before old new parts grows agrees in
              let before = is.so_far parts t stands was in
              let here = root parts t stands was in
              let path : dir ++ m ∷ [] ≡ dir ++ r.names.items = ap (λ l. dir ++ l) (sym named) in (
                before.0 ∙ ap (λ l. paths_in dir rows ++ l) (one_left parts t stands dir here.0 x here.1 last m c.0 child ∙ ap (λ q. q ∷ left_at t dir (Some m)) path)
                    ∙ sym (append_assoc (paths_in dir rows) ((dir ++ r.names.items) ∷ []) (left_at t dir (Some m)))
                    ∙ ap (λ l. l ++ left_at t dir (Some m)) (sym (paths_more dir rows r)),
                subst (λ l. AreNodesOf parts t l (nodes_in (rows ++ r ∷ []))) (sym (paths_more dir rows r))
                    (subst (λ l. AreNodesOf parts t (paths_in dir rows ++ (dir ++ r.names.items) ∷ []) l) (sym (rows_nodes_more rows r))
                    (nodes_more parts t (paths_in dir rows) (nodes_in rows) (dir ++ r.names.items) r.seen before.1
                    (subst (λ q. IsNodeOf parts t q r.seen) path (subst (λ y. IsNodeOf parts t (dir ++ m ∷ []) y) (sym seen) (node parts t stands agrees))))),
              );
          looked = subst (λ l. AreHeld held new l) (sym (rows_nodes_more rows r))
              (held_more held new (nodes_in rows) r.seen (held_grows held old new (nodes_in rows) grows is.looked)
              (subst (λ (i : NodeId). IsHeldAndShown held new i.0) (sym look.0 ∙ ap (λ (y : Seen). y.id) (sym seen)) look.2));
        })
      where
        node : (parts : Parts) (t : Tree) → Stands parts t → Agrees new parts → IsNodeOf parts t (dir ++ m ∷ []) s
        node parts t stands agrees =
            let leads = leads_there parts t stands (agrees_before old new parts grows agrees) ∙ ap (λ (i : NodeId). Some i.0) (sym look.0) in
            let there = agreed new parts s.id.0 s.node agrees (ap (λ (i : NodeId). shown_at new i.0) look.0 ∙ look.1) in
            let place = (index_from_stands parts t stands).places (dir ++ m ∷ []) s.id.0 leads in
            record { leads = leads; there = there; shows = place.shows ∙ ap (λ (y : BareInode). Some (node_of y)) (same_Some place.inode s.node (sym place.found ∙ there)) }

    -- it lies in a stripe that isn't held
    pub child_lacks : (max : ℕ) (n : Need) → count < max → NeedsNode held c.0 n → NeedsChildren held new dir first max n
    child_lacks max n more needs = record {
      within = subst (λ s. s < 64) (sym needs.stripe) (mod-lt c.0 (lit< tt));
      asks = needs.asks;
      lacks = ap (λ s. covers (held s) Shared) needs.stripe ∙ needs.lacks;
      needed = λ parts t stands agrees.
          let was = agrees_before old new parts grows agrees in
          let before = is.so_far parts t stands was in
          let here = root parts t stands was in (
            dir ++ m ∷ [],
            (
              c.0,
              (
                subst (λ l. Among (dir ++ m ∷ []) (take max l)) (sym (before.0 ∙ ap (λ l. paths_in dir rows ++ l) (one_left parts t stands dir here.0 x here.1 last m c.0 child)))
                    (in_front max (paths_in dir rows) (dir ++ m ∷ []) (left_at t dir (Some m)) (let a = paths_long dir rows in let b = is.long in let h : length (paths_in dir rows) < max = omega arith in h)),
                (leads_there parts t stands was, needs.stripe),
              ),
            ),
          );
    }

-- none is left behind the last name
module _ (held : Held) (shown : Shown) (dir : Path) (first : Option (List ℕ)) (count : ℕ) (last : Option (List ℕ)) (rows : List Row)
    (is : AreChildren held shown dir first count last rows) (x : BareInode) (root : IsAtFor shown dir x) where
  short : (max : ℕ) → count ≤ max → length (paths_in dir rows) ≤ max
  short max within = let a = paths_long dir rows in let b = is.long in omega arith

  pub children_ended : (max : ℕ) (p : Page) → count ≤ max → IsChildAbove x last None → p.way.items ≡ [] → p.rows.items ≡ rows → p.more ≡ false → IsPageOfChildren held shown dir first max p
  children_ended max p within none way same no_more = record {
    page_in = λ parts t stands agrees.
        let before = is.so_far parts t stands agrees in
        let here = root parts t stands agrees in
        last_rows parts t dir max (left_at t dir first) (paths_in dir rows) rows p refl same no_more
        (before.0 ∙ ap (λ l. paths_in dir rows ++ l) (none_left parts t stands dir here.0 x here.1 last none) ∙ append-nil (paths_in dir rows)) (short max within) before.1;
    looked = subst (λ (l : List Row). AreHeld held shown (nodes_in l)) (sym same) is.looked;
    no_way = way;
  }

  -- the page is full
  pub children_full : (max : ℕ) (p : Page) (above_last : Option (List ℕ × ℕ)) → 1 ≤ max → count ≡ max → IsChildAbove x last above_last → p.way.items ≡ [] → p.rows.items ≡ rows → p.more ≡ is_some above_last
      → IsPageOfChildren held shown dir first max p
  children_full max p None some full none way same more = children_ended max p (omega arith) none way same more
  children_full max p (Some link) some full child way same more = record {
    page_in = λ parts t stands agrees.
        let before = is.so_far parts t stands agrees in
        let here = root parts t stands agrees in
        more_rows parts t dir max (left_at t dir first) (paths_in dir rows) rows p (dir ++ link.0 ∷ []) (left_at t dir (Some link.0)) some refl same more
        (before.0 ∙ ap (λ l. paths_in dir rows ++ l) (one_left parts t stands dir here.0 x here.1 last link.0 link.1 child)) (paths_long dir rows ∙ is.long ∙ full) before.1;
    looked = subst (λ (l : List Row). AreHeld held shown (nodes_in l)) (sym same) is.looked;
    no_way = way;
  }

-- ---- the page behind a token

pub children_read : (held : Held) (shown : Shown) (dir : Path) (token : Option Path) (first : Option (List ℕ)) (max : ℕ) (p : Page) → ((t : Tree) → above token (children t dir) ≡ left_at t dir first)
    → IsPageOfChildren held shown dir first max p → IsPage held shown dir false token max p
children_read held shown dir token first max p begins page = record {
  page_in = λ parts t stands agrees.
      let is = page.page_in parts t stands agrees in
      record {
        is_page = ap (page_of max) (begins t) ∙ is.0;
        nodes = is.1;
        way = subst (λ l. AreNodesOf parts t [] l) (sym page.no_way) tt;
      };
  looked = page.looked;
  looked_way = subst (λ l. AreHeld held shown l) (sym page.no_way) tt;
}

pub children_need : (held : Held) (shown : Shown) (dir : Path) (token : Option Path) (first : Option (List ℕ)) (max : ℕ) (n : Need) → ((t : Tree) → above token (children t dir) ≡ left_at t dir first)
    → NeedsChildren held shown dir first max n → NeedsPage held shown dir false token max n
children_need held shown dir token first max n begins needs = record {
  within = needs.within;
  asks = needs.asks;
  lacks = needs.lacks;
  needed = λ parts t stands agrees.
      let one = needs.needed parts t stands agrees in
      (one.0, (one.1.0, (subst (λ l. Among one.0 (take max l)) (sym (begins t)) one.1.1.0, one.1.1.1)));
}

-- a path and its inode at a later view
pub root_later : (old new : Shown) (dir : Path) (x : BareInode) → Grows old new → IsAtFor old dir x → IsAtFor new dir x
root_later old new dir x grows is parts t stands agrees = is parts t stands (agrees_before old new parts grows agrees)

-- an option of a link is there as the look at it is
pub some_as : {A B : Type 0} (f : A → B) (o : Option A) → is_some o ≡ is_some (option_map f o)
some_as f None = refl
some_as f (Some x) = refl
