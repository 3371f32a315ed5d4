-- A whole subtree is one page of all that is below its node.
use Rattle.std.proofs.Common.{◌≡◌, ℕ, suc, ◌+◌, ◌<◌, ◌≤◌, ◌==◌, Bool, true, false, ◌||◌, cond, List, [], ◌∷◌, ◌++◌, take, length, Option, Some, None, is_some, refl, sym, ap, subst, ◌∙◌, arith}
use Rattle.std.proofs.Math.Seq.{take-suc}
use Rattle.std.specs.Prelude.{slice_index_or}
use Rattle.std.proofs.lemmas.Bool.{false≢true}
use Rattle.std.proofs.lemmas.Option.{same_Some}
use Rattle.std.specs.Cmp.{unsigned_Decides}
use Rattle.path_text.specs.Paths.{is_prefix}
use Rattle.namespace_model.specs.Locality.{Among}
use Rattle.namespace_model.specs.Pages.{above}
use Rattle.namespace_model.specs.Trees.{Path, Tree, subtree}
use Rattle.namespace_model.proofs.PageOrder.{among_take, keys_ascend}
use Rattle.inode_tree.specs.declared.id.NodeId.{NodeId}
use Rattle.inode_tree.specs.declared.need.Need.{Need}
use Rattle.inode_tree.specs.Inodes.{BareInode, node_of}
use Rattle.inode_tree.specs.Parts.{Parts}
use Rattle.inode_tree.specs.Promises.{numbers_of, is_one_of}
use Rattle.inode_tree.specs.Stands.{Stands}
use Rattle.inode_tree.specs.Views.{Held, Shown, Agrees, Grows}
use Rattle.inode_tree.proofs.IndexLemmas.{index_from_stands}
use Rattle.path_walk.specs.Visits.{IsHeldAndShown}
use Rattle.path_walk.proofs.TrailLemmas.{agrees_before}
use Rattle.path_order.specs.declared.cursor.Cursor.{Cursor}
use Rattle.path_order.specs.declared.cursor.Seen.{Seen}
use Rattle.path_order.specs.declared.paging.Page.{Page}
use Rattle.path_order.specs.declared.whole.Subtree.{Subtree}
use Rattle.path_order.specs.Cursors.{IsAt}
use Rattle.path_order.specs.PagesBelow.{below, ids_in, last_of, AreHeld, AreNodesOf, IsNodeOf, IsPageBelow, NeedsOfPage}
use Rattle.path_order.specs.Starts.{IsAtFor}
use Rattle.path_order.specs.Subtrees.{IsTop, IsSubtree, NeedsSubtree}
use Rattle.path_order.proofs.ApartLemmas.{nodes_apart}
use Rattle.path_order.proofs.FollowLemmas.{last_has_all}
use Rattle.path_order.proofs.NodeIds.{nodes_ids}
use Rattle.path_order.proofs.SubtreeLists.{subtree_is}
use Rattle.path_order.proofs.TokenLemmas.{all_behind, below_behind}

pub top_at : (shown : Shown) (p : Path) (top : Seen) (x : BareInode) → x ≡ top.node → IsTop shown p top → IsAtFor shown p x
top_at shown p top x same is parts t stands agrees = (top.id.0, subst (λ y. IsAt parts p top.id.0 y) (sym same) (is parts t stands agrees))

top_node : (parts : Parts) (t : Tree) → Stands parts t → (p : Path) (s : Seen) → IsAt parts p s.id.0 s.node → IsNodeOf parts t p s
top_node parts t stands p s is =
    let place = (index_from_stands parts t stands).places p s.id.0 is.leads in
    record {
      leads = is.leads;
      there = is.there;
      shows = place.shows ∙ ap (λ (x : BareInode). Some (node_of x)) (same_inode place.inode s.node (sym place.found ∙ is.there));
    }
  where
    same_inode : (x y : BareInode) → ◌≡◌ {A = Option BareInode} (Some x) (Some y) → x ≡ y
    same_inode x y e = same_Some x y e

pub subtree_nodes : (parts : Parts) (t : Tree) → Stands parts t → (p : Path) (top : Seen) (paths : List Path) (seen : List Seen) → IsAt parts p top.id.0 top.node
    → paths ≡ below t p → AreNodesOf parts t paths seen → AreNodesOf parts t (subtree t p) (top ∷ seen)
subtree_nodes parts t stands p top paths seen is all are =
    let node = top_node parts t stands p top is in
    subst (λ ps. AreNodesOf parts t ps (top ∷ seen)) (sym (subtree_is t p (ap is_some node.shows))) (node, subst (λ ps. AreNodesOf parts t ps seen) all are)

pub all_below : (t : Tree) (p : Path) → above (Some p) (below t p) ≡ below t p
all_below t p = all_behind p (below t p) (below_behind t p)

pub whole : (held : Held) (old shown : Shown) (p : Path) (max : ℕ) (c : Cursor) (page : Page) (s : Subtree) → 1 ≤ max → Grows old shown → IsTop old p s.top → page.more ≡ false
    → s.below.items ≡ page.seen.items → IsPageBelow held shown p p max c page → IsSubtree held shown p s
whole held old shown p max c page s some grows top no_more same is = record {
  nodes = nodes;
  ids = λ parts t stands agrees. nodes_ids parts t stands (subtree t p) (s.top ∷ s.below.items) (nodes parts t stands agrees);
  once = λ parts t stands agrees. nodes_apart parts t stands (subtree t p) (s.top ∷ s.below.items) (keys_ascend t (is_prefix p)) (nodes parts t stands agrees);
  looked = subst (λ l. AreHeld held shown l) (sym same) is.looked;
}
  where
    nodes : (parts : Parts) (t : Tree) → Stands parts t → Agrees shown parts → AreNodesOf parts t (subtree t p) (s.top ∷ s.below.items)
    nodes parts t stands agrees =
        let here = is.is_page parts t stands agrees in
        let all = last_has_all max p (Some p) t is.paths some (here.0 ∙ ap (λ b. record { paths = is.paths; next = cond b (Some (last_of p is.paths)) None }) no_more) in
        subtree_nodes parts t stands p s.top is.paths s.below.items (top parts t stands (agrees_before old shown parts grows agrees)) (all ∙ all_below t p)
        (subst (λ l. AreNodesOf parts t is.paths l) (sym same) here.1)

-- what is needed for the page is needed for the subtree
pub whole_needs : (held : Held) (shown : Shown) (p : Path) (max : ℕ) (n : Need) → NeedsOfPage held shown p p max n → NeedsSubtree held shown p n
whole_needs held shown p max n needs = record {
  within = needs.within;
  asks = needs.asks;
  lacks = needs.lacks;
  needed = λ parts t stands agrees.
      let one = needs.needed parts t stands agrees in
      (one.0, (one.1.0, (subst (λ l. Among one.0 l) (all_below t p) (among_take max one.0 (above (Some p) (below t p)) one.1.1.0), one.1.1.1)));
}

-- ---- ids

-- the node of an id that is one of theirs lies in a stripe that is held and was looked at
pub looked_ids : (held : Held) (shown : Shown) (seen : List Seen) → AreHeld held shown seen → (id : ℕ) → is_one_of id (ids_in seen) ≡ true → IsHeldAndShown held shown id
looked_ids held shown [] are id h = absurd (false≢true h)
looked_ids held shown (s ∷ seen) are id h = by_test (s.id.0 == id) refl h (looked_ids held shown seen are.1 id)
  where
    by_test : (b : Bool) → (s.id.0 == id) ≡ b → (b || is_one_of id (ids_in seen)) ≡ true → (is_one_of id (ids_in seen) ≡ true → IsHeldAndShown held shown id) → IsHeldAndShown held shown id
    by_test true e k more = subst (λ i. IsHeldAndShown held shown i) ((unsigned_Decides s.id.0 id).0 e) are.0
    by_test false e k more = more k

pub ids_next : (seen : List Seen) (i : ℕ) (s : Seen) (top : Seen) (ids after : List NodeId) → i < length seen → s ≡ slice_index_or seen i s → numbers_of ids ≡ ids_in (top ∷ take i seen)
    → after ≡ ids ++ s.id ∷ [] → numbers_of after ≡ ids_in (top ∷ take (i + 1) seen)
ids_next seen i s top ids after within item so_far is =
    ap numbers_of is ∙ numbers_more ids s.id ∙ ap (λ l. l ++ s.id.0 ∷ []) so_far
    ∙ ap (λ l. top.id.0 ∷ l) (sym (ids_more (take i seen) s))
    ∙ ap (λ l. ids_in (top ∷ l)) (ap (λ x. take i seen ++ x ∷ []) item ∙ sym (take-suc seen i s within) ∙ ap (λ k. take k seen) (let h : suc i ≡ i + 1 = omega arith in h))
  where
    numbers_more : (ids : List NodeId) (id : NodeId) → numbers_of (ids ++ id ∷ []) ≡ numbers_of ids ++ id.0 ∷ []
    numbers_more [] id = refl
    numbers_more (x ∷ ids) id = ap (λ l. x.0 ∷ l) (numbers_more ids id)

    ids_more : (seen : List Seen) (s : Seen) → ids_in (seen ++ s ∷ []) ≡ ids_in seen ++ s.id.0 ∷ []
    ids_more [] s = refl
    ids_more (x ∷ seen) s = ap (λ l. x.id.0 ∷ l) (ids_more seen s)
