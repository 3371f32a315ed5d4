-- The nodes at a path and below it, behind a token: where the walk begins, what comes next, and its end.
use Rattle.std.proofs.Common.{◌≡◌, inl, inr, Bool, true, false, cond, [], ◌∷◌, ◌++◌, Option, Some, None, is_some, refl, sym, ap, subst, ◌∙◌, append-nil}
use Rattle.std.proofs.lemmas.Bool.{false≢true}
use Rattle.std.proofs.lemmas.Option.{same_Some}
use Rattle.std.specs.List.{filter}
use Rattle.std.specs.Ordering.{is_gt}
use Rattle.std.specs.declared.cmp.Ordering.TheVariants.{Less}
use Rattle.path_text.specs.Paths.{path_cmp, is_prefix}
use Rattle.namespace_model.specs.Pages.{is_above, above, on_the_way}
use Rattle.namespace_model.specs.Trees.{Path, Tree, at, is_below}
use Rattle.namespace_model.proofs.PageLaws.{before_above}
use Rattle.namespace_model.proofs.PageOrder.{before_tells}
use Rattle.namespace_model.proofs.Prefixes.{front_of_itself}
use Rattle.inode_tree.specs.declared.id.NodeId.{NodeId}
use Rattle.inode_tree.specs.declared.need.Need.{Need}
use Rattle.inode_tree.specs.Inodes.{BareInode, node_of}
use Rattle.inode_tree.specs.Parts.{Parts}
use Rattle.inode_tree.specs.Stands.{Stands}
use Rattle.inode_tree.specs.Views.{Held, Shown, Agrees, Grows}
use Rattle.inode_tree.proofs.IndexLemmas.{index_from_stands}
use Rattle.path_walk.specs.Visits.{IsHeldAndShown}
use Rattle.path_order.specs.declared.begin.Start.{Start}
use Rattle.path_order.specs.declared.cursor.Cursor.{Cursor}
use Rattle.path_order.specs.declared.cursor.Seen.{Seen}
use Rattle.path_order.specs.Cursors.{end_of, names_of, Before, IsAt, IsCursor, IsEnd, IsNextSeen, NeedsNext}
use Rattle.path_order.specs.PagesBelow.{below, AreNodesOf, AreHeld, IsNodeOf}
use Rattle.path_order.specs.Starts.{IsAtFor, IsStart}
use Rattle.path_order.specs.Subtrees.{IsTop}
use Rattle.path_order.proofs.CursorLemmas.{end_is}
use Rattle.path_order.proofs.PageLemmas.{next_is, nothing_is}
use Rattle.path_order.proofs.SubtreeLists.{subtree_is, subtree_behind}
use Rattle.path_order.proofs.TokenLemmas.{no_token, token_before, token_behind, token_below}
use Rattle.path_order.proofs.WholeLemmas.{top_at}
use Rattle.acl_recursive.specs.declared.walk.Beginning.{Beginning}
use Rattle.acl_recursive.specs.declared.walk.Step.{Step}
use Rattle.acl_recursive.specs.declared.walk.Walk.{Walk}
use Rattle.acl_recursive.specs.Batched.{path_in, first_left, left_at, nodes_behind, IsAhead, IsBeginning, IsBegun, IsEndOf, IsFirst, IsStep, IsTopOf, NeedsLeft}

-- the node at a path, as the tree has it
pub node_there : (parts : Parts) (t : Tree) → Stands parts t → (p : Path) (s : Seen) → IsAt parts p s.id.0 s.node → IsNodeOf parts t p s
node_there parts t stands p s is =
    let place = (index_from_stands parts t stands).places p s.id.0 is.leads in
    record {
      leads = is.leads;
      there = is.there;
      shows = place.shows ∙ ap (λ (x : BareInode). Some (node_of x)) (same_inode place.inode s.node (sym place.found ∙ is.there));
    }
  where
    same_inode : (x y : BareInode) → ◌≡◌ {A = Option BareInode} (Some x) (Some y) → x ≡ y
    same_inode x y e = same_Some x y e

-- ---- the list behind a token

-- all of it
pub list_whole : (t : Tree) (dir : Path) → is_some (at t dir) ≡ true → nodes_behind t dir None ≡ dir ∷ below t dir
list_whole t dir there = subtree_is t dir there

-- a token before the path
pub list_before : (t : Tree) (dir token : Path) → is_some (at t dir) ≡ true → is_prefix dir token ≡ false → (path_cmp dir token ≡ Less → ⊥) → nodes_behind t dir (Some token) ≡ dir ∷ below t dir
list_before t dir token there apart not_less =
    ap (above (Some token)) (subtree_is t dir there)
    ∙ ap (λ b. cond b (dir ∷ filter (is_above token) (below t dir)) (filter (is_above token) (below t dir))) (before_above token dir ahead)
    ∙ ap (λ l. dir ∷ l) (token_before dir token apart not_less t).0
  where
    ahead : Before token dir
    ahead = elim (before_tells dir token) [
      | inl less ↦ absurd (not_less less)
      | inr other ↦ elim other [
        | inl same ↦ absurd (false≢true (sym apart ∙ ap (is_prefix dir) (sym same) ∙ front_of_itself dir))
        | inr more ↦ more
      ]
    ]

-- a token behind all of them
pub list_none : (t : Tree) (dir token : Path) (held : Held) (shown : Shown) → is_some (at t dir) ≡ true → is_prefix dir token ≡ false → path_cmp dir token ≡ Less → nodes_behind t dir (Some token) ≡ []
list_none t dir token held shown there apart less =
    ap (above (Some token)) (subtree_is t dir there)
    ∙ ap (λ o. cond (is_gt o) (dir ∷ filter (is_above token) (below t dir)) (filter (is_above token) (below t dir))) less
    ∙ (token_behind held shown dir token apart less t).0

-- ---- where it begins

-- a node with an id
abbrev pub seen_of : NodeId → BareInode → Seen
seen_of id x = record { id = id; node = x }

-- at the node of the path
pub top_ahead : (held : Held) (shown : Shown) (p : Path) (top s : Seen) (x : BareInode) (w : Walk) → w.first ≡ Some s → s ≡ top → x ≡ top.node → ((sh : Shown) (q : Path) → IsAtFor sh q x → IsCursor sh q q w.cursor)
    → IsTopOf held shown p top → IsAhead held shown p p w
top_ahead held shown p top s x w first same node starts is = record {
  first = subst (IsFirst held shown p p) (sym first) (refl, subst (IsTopOf held shown p) (sym same) is);
  cursor = starts shown p (top_at shown p top x node is.0);
}

module _ (held : Held) (shown : Shown) (dir : Path) where
  -- the walk that comes to all
  pub whole_begun : (token : Option Path) (top : Seen) (b : Beginning) → IsTopOf held shown dir top → IsAhead held shown dir dir b.walk → ((t : Tree) → left_at t dir dir b.walk ≡ dir ∷ below t dir)
      → b.way.items ≡ [] → ((t : Tree) → is_some (at t dir) ≡ true → (nodes_behind t dir token ≡ dir ∷ below t dir) × (on_the_way t (is_below dir) token ≡ [])) → IsBegun held shown dir token b
  whole_begun token top b is ahead all way lists = record {
    from = dir;
    ahead = ahead;
    left = λ parts t stands agrees. (lists t (there parts t stands agrees)).0 ∙ sym (all t);
    way = λ parts t stands agrees.
        subst (λ l. AreNodesOf parts t (on_the_way t (is_below dir) token) l) (sym way) (subst (λ l. AreNodesOf parts t l []) (sym (lists t (there parts t stands agrees)).1) tt);
    looked = subst (λ l. AreHeld held shown l) (sym way) tt;
  }
    where
      there : (parts : Parts) (t : Tree) → Stands parts t → Agrees shown parts → is_some (at t dir) ≡ true
      there parts t stands agrees = ap is_some (node_there parts t stands dir top (is.0 parts t stands agrees)).shows

  -- the walk from a token at the path or below it
  pub token_begun : (old : Shown) (token names : Path) (top : Seen) (s : Start) (b : Beginning) → IsTop old dir top → ((parts : Parts) → Agrees shown parts → Agrees old parts) → is_prefix dir token ≡ true → token ≡ dir ++ names
      → IsStart held shown dir names s → b.walk.first ≡ None → b.walk.cursor ≡ s.cursor → b.way.items ≡ s.seen.items → IsBegun held shown dir (Some token) b
  token_begun old token names top s b is earlier front same start none cursor way =
      let begun = token_below held shown dir names token s same start in
      record {
        from = begun.from;
        ahead = record {
          first = subst (IsFirst held shown dir begun.from) (sym none) tt;
          cursor = subst (λ c. IsCursor shown dir begun.from c) (sym cursor) begun.walk;
        };
        left = λ parts t stands agrees.
            subtree_behind t dir token (ap is_some (node_there parts t stands dir top (is parts t stands (earlier parts agrees))).shows) front
            ∙ sym (begun.same t) ∙ ap (λ o. first_left dir o ++ above (Some begun.from) (below t dir)) (sym none);
        way = λ parts t stands agrees. subst (λ v. AreNodesOf parts t (on_the_way t (is_below dir) (Some token)) v) (sym way) (begun.way parts t stands agrees);
        looked = subst (λ v. AreHeld held shown v) (sym way) begun.looked;
      }

-- ---- what comes next

-- the path itself
pub first_step : (held : Held) (shown : Shown) (dir from : Path) (before after : Walk) (s : Seen) (r : Step) → before.first ≡ Some s → after.first ≡ None → after.cursor ≡ before.cursor → r.seen ≡ s → r.names.items ≡ []
    → IsAhead held shown dir from before → IsStep held shown dir from before after r
first_step held shown dir from before after s r is_first gone same seen named ahead =
    let top = subst (IsFirst held shown dir from) is_first ahead.first in
    let path : path_in dir r ≡ dir = ap (λ l. dir ++ l) named ∙ append-nil dir in
    let passed : from ≡ path_in dir r = top.0 ∙ sym path in
    record {
      goes_on = record {
        first = subst (IsFirst held shown dir (path_in dir r)) (sym gone) tt;
        cursor = subst (λ c. IsCursor shown dir (path_in dir r) c) (sym same) (subst (λ q. IsCursor shown dir q before.cursor) passed ahead.cursor);
      };
      left = λ parts t stands agrees.
          ap (λ o. first_left dir o ++ above (Some from) (below t dir)) is_first
          ∙ ap (λ q. q ∷ above (Some from) (below t dir)) (sym path)
          ∙ ap (λ q. path_in dir r ∷ above (Some q) (below t dir)) passed
          ∙ ap (λ o. path_in dir r ∷ (first_left dir o ++ above (Some (path_in dir r)) (below t dir))) (sym gone);
      node = λ parts t stands agrees.
          subst (λ q. IsNodeOf parts t q r.seen) (sym path) (subst (λ (x : Seen). IsNodeOf parts t dir x) (sym seen) (node_there parts t stands dir s (top.1.0 parts t stands agrees)));
      looked = subst (λ (x : Seen). IsHeldAndShown held shown x.id.0) (sym seen) top.1.1;
    }

module _ (held : Held) (old new : Shown) (dir from : Path) (before : Walk) (grows : Grows old new) (passed : before.first ≡ None) (ahead : IsAhead held old dir from before) where
  below_left : (t : Tree) → left_at t dir from before ≡ above (Some from) (below t dir)
  below_left t = ap (λ o. first_left dir o ++ above (Some from) (below t dir)) passed

  -- a node below it
  pub next_step : (after : Walk) (s : Seen) (r : Step) → after.first ≡ None → ((d k : Path) → IsCursor old d k before.cursor → IsNextSeen held new d k after.cursor (Some s)) → r.seen ≡ s → r.names.items ≡ names_of after.cursor
      → IsStep held new dir from before after r
  next_step after s r gone step seen named =
      let one = step dir from ahead.cursor in
      let path : end_of dir after.cursor.levels.items ≡ path_in dir r = end_is dir after.cursor.levels.items ∙ ap (λ l. dir ++ l) (sym named) in
      record {
        goes_on = record {
          first = subst (IsFirst held new dir (path_in dir r)) (sym gone) tt;
          cursor = subst (λ q. IsCursor new dir q after.cursor) path (λ parts t stands agrees. (one.0 parts t stands agrees).goes_on);
        };
        left = λ parts t stands agrees.
            let here = one.0 parts t stands agrees in
            below_left t ∙ next_is t dir from (end_of dir after.cursor.levels.items) here.is_next.next here.is_next.below
            ∙ ap (λ q. q ∷ above (Some q) (below t dir)) path
            ∙ ap (λ o. path_in dir r ∷ (first_left dir o ++ above (Some (path_in dir r)) (below t dir))) (sym gone);
        node = λ parts t stands agrees.
            let here = one.0 parts t stands agrees in
            subst (λ q. IsNodeOf parts t q r.seen) path (subst (λ (x : Seen). IsNodeOf parts t (end_of dir after.cursor.levels.items) x) (sym seen)
            (node_there parts t stands (end_of dir after.cursor.levels.items) s (record { leads = here.is_next.leads; there = here.there })));
        looked = subst (λ (x : Seen). IsHeldAndShown held new x.id.0) (sym seen) one.1;
      }

  -- nothing
  pub next_none : (after : Cursor) → ((d k : Path) → IsCursor old d k before.cursor → IsNextSeen held new d k after None) → (parts : Parts) (t : Tree) → Stands parts t → Agrees new parts → left_at t dir from before ≡ []
  next_none after step parts t stands agrees = below_left t ∙ nothing_is t dir from (step dir from ahead.cursor parts t stands agrees).0

  -- a stripe that isn't held
  pub next_needs : (n : Need) → ((d k : Path) → IsCursor old d k before.cursor → NeedsNext held old d k n) → NeedsLeft held old dir from before n
  next_needs n step =
      let needs = step dir from ahead.cursor in
      record {
        within = needs.within;
        asks = needs.asks;
        lacks = needs.lacks;
        needed = λ parts t stands agrees.
            let one = needs.needed parts t stands agrees in
            let next = one.1.1.0 in
            (one.0, (above (Some one.0) (below t dir), (one.1.0, (below_left t ∙ next_is t dir from one.0 next.next next.below, (next.leads, one.1.1.1)))));
      }

-- ---- its end

pub first_ends : (t : Tree) (dir from : Path) (w : Walk) (s : Seen) → w.first ≡ Some s → IsEndOf (left_at t dir from w) false
first_ends t dir from w s is = (dir, (above (Some from) (below t dir), ap (λ o. first_left dir o ++ above (Some from) (below t dir)) is))

pub below_ends : (t : Tree) (dir from : Path) (w : Walk) (b : Bool) → w.first ≡ None → IsEnd t dir from b → IsEndOf (left_at t dir from w) b
below_ends t dir from w true none is = ap (λ o. first_left dir o ++ above (Some from) (below t dir)) none ∙ nothing_is t dir from is
below_ends t dir from w false none is =
    (is.0, (above (Some is.0) (below t dir), ap (λ o. first_left dir o ++ above (Some from) (below t dir)) none ∙ next_is t dir from is.0 is.1.0 is.1.1))

-- ---- lists by a token

pub whole_lists : (dir : Path) (t : Tree) → is_some (at t dir) ≡ true → (nodes_behind t dir None ≡ dir ∷ below t dir) × (on_the_way t (is_below dir) None ≡ [])
whole_lists dir t there = (list_whole t dir there, (no_token dir t).1)

pub before_lists : (dir token : Path) → is_prefix dir token ≡ false → (path_cmp dir token ≡ Less → ⊥) → (t : Tree) → is_some (at t dir) ≡ true
    → (nodes_behind t dir (Some token) ≡ dir ∷ below t dir) × (on_the_way t (is_below dir) (Some token) ≡ [])
before_lists dir token apart not_less t there = (list_before t dir token there apart not_less, (token_before dir token apart not_less t).1)

pub none_begun : (held : Held) (shown : Shown) (dir token : Path) (top : Seen) → IsTop shown dir top → is_prefix dir token ≡ false → path_cmp dir token ≡ Less → IsBeginning held shown dir (Some token) None
none_begun held shown dir token top is apart less parts t stands agrees = (
  list_none t dir token held shown (ap is_some (node_there parts t stands dir top (is parts t stands agrees)).shows) apart less,
  (token_behind held shown dir token apart less t).1,
)

pub some_ends : (t : Tree) (dir from : Path) (w : Walk) → is_some w.first ≡ true → IsEndOf (left_at t dir from w) false
some_ends t dir from w some = by_first w.first refl
  where
    by_first : (o : Option Seen) → w.first ≡ o → IsEndOf (left_at t dir from w) false
    by_first None e = absurd (false≢true (sym (ap is_some e) ∙ some))
    by_first (Some s) e = first_ends t dir from w s e

pub none_first : (o : Option Seen) → is_some o ≡ false → o ≡ None
none_first None e = refl
none_first (Some s) e = absurd (false≢true (sym e))

-- what is held may be said by another name
pub ahead_as : {held later : Held} {shown : Shown} {d f : Path} {w : Walk} → later ≡ held → IsAhead held shown d f w → IsAhead later shown d f w
ahead_as {shown} {d} {f} {w} same is = subst (λ h. IsAhead h shown d f w) (sym same) is
