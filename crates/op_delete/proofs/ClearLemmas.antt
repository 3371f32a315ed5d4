-- What a recursive delete asks, child by child and node by node.
use Rattle.std.proofs.Common.{◌≡◌, ℕ, ◌<◌, true, false, cond, List, [], ◌∷◌, ◌++◌, Option, Some, None, unwrap_or, is_some, refl, sym, ap, subst, ◌∙◌, append_assoc}
use Rattle.std.proofs.lemmas.Bool.{false≢true}
use Rattle.std.proofs.lemmas.Option.{same_Some}
use Rattle.std.proofs.Math.Nat.{mod-lt}
use Rattle.std.proofs.Math.Dec.{lit<}
use Rattle.lock_core.specs.declared.object.LockMode.TheVariants.{Shared}
use Rattle.namespace_model.specs.declared.caller.Caller.{Caller}
use Rattle.namespace_model.specs.declared.reply.Reply.{Reply}
use Rattle.namespace_model.specs.declared.denied.Rule.TheVariants as rule
use Rattle.namespace_model.specs.Access.{sticky_lets}
use Rattle.namespace_model.specs.Delete.{not_clearable}
use Rattle.namespace_model.specs.Nodes.{Node, blank}
use Rattle.namespace_model.specs.Pages.{above}
use Rattle.namespace_model.specs.Refusals.{lacks, is_guarded, deny_unless, or_else, first_refusal}
use Rattle.namespace_model.specs.Trees.{Path, Tree, at, node_at, is_below, children, subtree}
use Rattle.namespace_model.proofs.Lookups.{among_keys, keys_among}
use Rattle.namespace_model.proofs.Prefixes.{below_names}
use Rattle.inode_tree.specs.declared.id.NodeId.{NodeId}
use Rattle.inode_tree.specs.declared.need.Need.{Need}
use Rattle.inode_tree.specs.FirstChild.{IsFirstChild, IsChildAbove}
use Rattle.inode_tree.specs.Footprints.{ids_of}
use Rattle.inode_tree.specs.Inodes.{BareInode, node_of}
use Rattle.inode_tree.specs.Parts.{Parts}
use Rattle.inode_tree.specs.Promises.{numbers_of}
use Rattle.inode_tree.specs.Stands.{Stands}
use Rattle.inode_tree.specs.Views.{Held, Shown, Agrees, Grows, IsKnown, covers, shown_at}
use Rattle.inode_tree.proofs.IndexLemmas.{index_from_stands}
use Rattle.path_walk.specs.Visits.{AreLookedAt, IsHeldAndShown}
use Rattle.path_walk.specs.Calls.{GoesOn}
use Rattle.path_walk.proofs.CallLemmas.{looked_later}
use Rattle.path_walk.proofs.FindLemmas.{ids_of_append}
use Rattle.path_walk.proofs.ReadLemmas.{it_is_one}
use Rattle.path_walk.proofs.TrailLemmas.{agreed, agrees_before, looked_grows, looked_more, numbers-append}
use Rattle.path_order.specs.declared.cursor.Cursor.{Cursor}
use Rattle.path_order.specs.declared.cursor.Seen.{Seen}
use Rattle.path_order.specs.Cursors.{names_of, end_of, IsAt, IsCursor, IsNextSeen, NeedsNext}
use Rattle.path_order.specs.PagesBelow.{below, last_of}
use Rattle.path_order.specs.Starts.{IsAtFor}
use Rattle.path_order.specs.Subtrees.{IsTop, NeedsSubtree}
use Rattle.path_order.proofs.CursorLemmas.{end_is, is_there, names_lead}
use Rattle.path_order.proofs.PageLemmas.{is_below_names, next_is, last_more}
use Rattle.path_order.proofs.WholeLemmas.{all_below}
use Rattle.path_order.specs.Needs.{NeedsNode}
use Rattle.path_order.specs.Children.{left_at}
use Rattle.path_order.proofs.ChildOrder.{all_left, one_left, none_left}
use Rattle.path_order.proofs.SubtreeWalks as walks
use Rattle.path_order.proofs.SubtreeWalks.{whole_came}
use Rattle.op_delete.specs.declared.clear.Cleared.{Cleared}
use Rattle.path_walk.specs.Children.{has_children}
use Rattle.op_delete.specs.Deletes.{AsksNode, AsksChildren, IsCleared}
use Rattle.op_delete.proofs.SubtreeLemmas.{children_there, one_id}

-- a path and its inode at a later view
pub at_later : (old new : Shown) (p : Path) (x : BareInode) → Grows old new → IsAtFor old p x → IsAtFor new p x
at_later old new p x grows is parts t stands agrees = is parts t stands (agrees_before old new parts grows agrees)

node_there : (parts : Parts) (t : Tree) → Stands parts t → (p : Path) (id : ℕ) (x : BareInode) → IsAt parts p id x → node_at t p ≡ node_of x
node_there parts t stands p id x is =
    let place = (index_from_stands parts t stands).places p id is.leads in
    ap (λ (o : Option Node). unwrap_or o blank) place.shows ∙ ap (λ (y : BareInode). node_of y) (same_inode place.inode x (sym place.found ∙ is.there))
  where
    same_inode : (x y : BareInode) → ◌≡◌ {A = Option BareInode} (Some x) (Some y) → x ≡ y
    same_inode x y e = same_Some x y e

-- ---- what a question says of more paths

or_both : (a b c : Option Reply) → or_else (or_else a b) c ≡ or_else a (or_else b c)
or_both None b c = refl
or_both (Some r) b c = refl

or_none : (a : Option Reply) → or_else a None ≡ a
or_none None = refl
or_none (Some r) = refl

first_more : (asks : Path → Node → Option Reply) (t : Tree) (ps : List Path) (q : Path) → first_refusal asks t (ps ++ q ∷ []) ≡ or_else (first_refusal asks t ps) (asks q (node_at t q))
first_more asks t [] q = or_none (asks q (node_at t q))
first_more asks t (p ∷ ps) q = ap (or_else (asks p (node_at t p))) (first_more asks t ps q) ∙ sym (or_both (asks p (node_at t p)) (first_refusal asks t ps) (asks q (node_at t q)))

-- ---- the children of a directory

-- the sticky bit isn't set
unstuck : (caller : Caller) (x : Node) (t : Tree) → x.sticky ≡ false → (ps : List Path) → first_refusal (is_guarded caller x) t ps ≡ None
unstuck caller x t e [] = refl
unstuck caller x t e (p ∷ ps) =
    ap (λ b. or_else (deny_unless (sticky_lets b x.owner (node_at t p).owner caller) rule.Sticky p) (first_refusal (is_guarded caller x) t ps)) e ∙ unstuck caller x t e ps

-- a node without children is asked nothing
pub empty_asks : (shown : Shown) (caller : Caller) (p : Path) (x : BareInode) → IsAtFor shown p x → has_children x ≡ false → AsksNode shown caller p x None
empty_asks shown caller p x is h parts t stands agrees =
    let here = is parts t stands agrees in
    sym (ap (λ b. cond b (or_else (lacks caller 7 p (node_of x)) (first_refusal (is_guarded caller (node_of x)) t (children t p))) None) (children_there parts t stands p here.0 x here.1 false h))

-- one with children is asked for rights, and then for its children
pub filled_asks : (shown : Shown) (caller : Caller) (p : Path) (x : BareInode) (r : Option Reply) → IsAtFor shown p x → has_children x ≡ true → lacks caller 7 p (node_of x) ≡ None → AsksChildren shown caller p x r
    → AsksNode shown caller p x r
filled_asks shown caller p x r is h lets rest parts t stands agrees =
    let here = is parts t stands agrees in
    rest parts t stands agrees
    ∙ sym (ap (λ b. cond b (or_else (lacks caller 7 p (node_of x)) (first_refusal (is_guarded caller (node_of x)) t (children t p))) None) (children_there parts t stands p here.0 x here.1 true h)
    ∙ ap (λ o. or_else o (first_refusal (is_guarded caller (node_of x)) t (children t p))) lets)

pub denied_asks : (shown : Shown) (caller : Caller) (p : Path) (x : BareInode) (reply : Reply) → IsAtFor shown p x → has_children x ≡ true → lacks caller 7 p (node_of x) ≡ Some reply → AsksNode shown caller p x (Some reply)
denied_asks shown caller p x reply is h denies parts t stands agrees =
    let here = is parts t stands agrees in
    sym (ap (λ b. cond b (or_else (lacks caller 7 p (node_of x)) (first_refusal (is_guarded caller (node_of x)) t (children t p))) None) (children_there parts t stands p here.0 x here.1 true h)
    ∙ ap (λ o. or_else o (first_refusal (is_guarded caller (node_of x)) t (children t p))) denies)

pub unstuck_asks : (shown : Shown) (caller : Caller) (p : Path) (x : BareInode) → (node_of x).sticky ≡ false → AsksChildren shown caller p x None
unstuck_asks shown caller p x e parts t stands agrees = sym (unstuck caller (node_of x) t e (children t p))

-- the children up to a name let the caller through
abbrev pub IsPassed : Shown → Caller → Path → BareInode → Option (List ℕ) → Type 0
IsPassed shown caller p x last =
    (parts : Parts) (t : Tree) → Stands parts t → Agrees shown parts
    → first_refusal (is_guarded caller (node_of x)) t (children t p) ≡ first_refusal (is_guarded caller (node_of x)) t (left_at t p last)

pub none_passed : (shown : Shown) (caller : Caller) (p : Path) (x : BareInode) → IsPassed shown caller p x None
none_passed shown caller p x parts t stands agrees = ap (first_refusal (is_guarded caller (node_of x)) t) (sym (all_left t p))

pub all_passed : (shown : Shown) (caller : Caller) (p : Path) (x : BareInode) (last : Option (List ℕ)) → IsAtFor shown p x → IsPassed shown caller p x last → IsChildAbove x last None → AsksChildren shown caller p x None
all_passed shown caller p x last is passed none parts t stands agrees =
    let here = is parts t stands agrees in
    sym (passed parts t stands agrees ∙ ap (first_refusal (is_guarded caller (node_of x)) t) (none_left parts t stands p here.0 x here.1 last none))

module _ (old new : Shown) (grows : Grows old new) (caller : Caller) (p : Path) (x : BareInode) (is : IsAtFor old p x) (last : Option (List ℕ)) (m : List ℕ) (c : NodeId)
    (child : IsFirstChild x last m c.0) where
  pub child_is_known : IsKnown old c.0
  child_is_known parts t stands agrees =
      let here = is parts t stands agrees in
      stands.found (p ++ m ∷ []) c.0 (sym (names_lead parts t stands p here.0 x here.1 m) ∙ child.leads)

  module _ (y : BareInode) (shows : shown_at new c.0 ≡ Some y) (passed : IsPassed old caller p x last) where
    next_asks : (parts : Parts) (t : Tree) → Stands parts t → Agrees new parts → first_refusal (is_guarded caller (node_of x)) t (children t p)
        ≡ or_else (is_guarded caller (node_of x) (p ++ m ∷ []) (node_of y)) (first_refusal (is_guarded caller (node_of x)) t (left_at t p (Some m)))
    next_asks parts t stands agrees =
        let was = agrees_before old new parts grows agrees in
        let here = is parts t stands was in
        let it : IsAt parts (p ++ m ∷ []) c.0 y = record { leads = sym (names_lead parts t stands p here.0 x here.1 m) ∙ child.leads; there = agreed new parts c.0 y agrees shows } in
        passed parts t stands was ∙ ap (first_refusal (is_guarded caller (node_of x)) t) (one_left parts t stands p here.0 x here.1 last m c.0 child)
        ∙ ap (λ z. or_else (is_guarded caller (node_of x) (p ++ m ∷ []) z) (first_refusal (is_guarded caller (node_of x)) t (left_at t p (Some m)))) (node_there parts t stands (p ++ m ∷ []) c.0 y it)

    pub one_refused : (reply : Reply) → is_guarded caller (node_of x) (p ++ m ∷ []) (node_of y) ≡ Some reply → AsksChildren new caller p x (Some reply)
    one_refused reply denies parts t stands agrees =
        sym (next_asks parts t stands agrees ∙ ap (λ o. or_else o (first_refusal (is_guarded caller (node_of x)) t (left_at t p (Some m)))) denies)

    pub one_passed : is_guarded caller (node_of x) (p ++ m ∷ []) (node_of y) ≡ None → IsPassed new caller p x (Some m)
    one_passed lets parts t stands agrees =
        next_asks parts t stands agrees ∙ ap (λ o. or_else o (first_refusal (is_guarded caller (node_of x)) t (left_at t p (Some m)))) lets

  -- the child lies in a stripe that isn't held
  pub child_lacks : (held : Held) (n : Need) → NeedsNode held c.0 n → NeedsSubtree held new p n
  child_lacks held n needs = record {
    within = subst (λ s. s < 64) (sym needs.stripe) (mod-lt c.0 (lit< tt));
    asks = needs.asks;
    lacks = ap (λ s. covers (held s) Shared) needs.stripe ∙ needs.lacks;
    needed = λ parts t stands agrees.
        let here = is parts t stands (agrees_before old new parts grows agrees) in
        let leads = sym (names_lead parts t stands p here.0 x here.1 m) ∙ child.leads in
        (p ++ m ∷ [], (c.0, (among_keys t (is_below p) (p ++ m ∷ []) (is_there parts t stands (p ++ m ∷ []) c.0 leads) (is_below_names p m []), (leads, needs.stripe))));
  }

-- ---- what is needed below a path is needed below those above it

pub needs_above : (held : Held) (shown : Shown) (p names : Path) (n : Need) → NeedsSubtree held shown (p ++ names) n → NeedsSubtree held shown p n
needs_above held shown p names n needs = record {
  within = needs.within;
  asks = needs.asks;
  lacks = needs.lacks;
  needed = λ parts t stands agrees.
      let one = needs.needed parts t stands agrees in
      let key = keys_among t (is_below (p ++ names)) one.0 one.1.1.0 in
      (one.0, (one.1.0, (among_keys t (is_below p) one.0 key.1 (higher one.0 (below_names (p ++ names) one.0 key.0)), one.1.1.1)));
}
  where
    higher : (q : Path) → (n : List ℕ) × (r : Path) × (q ≡ (p ++ names) ++ n ∷ r) → is_below p q ≡ true
    higher q it = ap (is_below p) (it.2 ∙ append_assoc p names (it.0 ∷ it.1)) ∙ by_names names it.0 it.1
      where
        by_names : (names : Path) (n : List ℕ) (r : Path) → is_below p (p ++ (names ++ n ∷ r)) ≡ true
        by_names [] n r = is_below_names p n r
        by_names (m ∷ names) n r = is_below_names p m (names ++ n ∷ r)

pub needs_grow : (held : Held) (old new : Shown) (p : Path) (n : Need) → Grows old new → NeedsSubtree held old p n → NeedsSubtree held new p n
needs_grow held old new p n grows needs = record {
  within = needs.within;
  asks = needs.asks;
  lacks = needs.lacks;
  needed = λ parts t stands agrees. needs.needed parts t stands (agrees_before old new parts grows agrees);
}

-- ---- the walk

-- the paths so far: the rest comes behind them, these are their ids, and this is the first refusal of p and of them
pub record AreAsked (parts : Parts) (t : Tree) (caller : Caller) (p : Path) (done : List Path) (ids : List NodeId) (refused : Option Reply) : Type 0 where
  pub there : is_some (at t p) ≡ true
  pub left : below t p ≡ done ++ above (Some (last_of p done)) (below t p)
  pub are : numbers_of ids ≡ ids_of parts (p ∷ done)
  pub says : refused ≡ first_refusal (not_clearable t caller) t (p ∷ done)

pub record IsClearing (held : Held) (shown : Shown) (caller : Caller) (p : Path) (c : Cursor) (ids : List NodeId) (refused : Option Reply) : Type 0 where
  pub done : List Path
  pub so_far : (parts : Parts) (t : Tree) → Stands parts t → Agrees shown parts → AreAsked parts t caller p done ids refused
  pub goes_on : IsCursor shown p (last_of p done) c
  pub looked : AreLookedAt held shown ids

-- at the node itself
pub begins_so : (held : Held) (old new : Shown) (caller : Caller) (p : Path) (top : Seen) (c : Cursor) (ids : List NodeId) (refused : Option Reply) → Grows old new → IsTop old p top → IsHeldAndShown held new top.id.0
    → ids ≡ top.id ∷ [] → AsksNode new caller p top.node refused → IsCursor new p p c → IsClearing held new caller p c ids refused
begins_so held old new caller p top c ids refused grows is looked these asks from = record {
  done = [];
  so_far = λ parts t stands agrees.
      let here = is parts t stands (agrees_before old new parts grows agrees) in
      record {
        there = is_there parts t stands p top.id.0 here.leads;
        left = sym (all_below t p);
        are = ap (λ (l : List NodeId). numbers_of l) these ∙ sym (one_id parts t stands p top.id.0 top.node here);
        says = asks parts t stands agrees ∙ ap (not_clearable t caller p) (sym (node_there parts t stands p top.id.0 top.node here)) ∙ sym (or_none (not_clearable t caller p (node_at t p)));
      };
  goes_on = from;
  looked = subst (λ (l : List NodeId). AreLookedAt held new l) (sym these) (looked_more held new [] top.id (λ id h. absurd (false≢true h)) looked);
}

-- the walk came to a node
module _ (held : Held) (old new : Shown) (caller : Caller) (p : Path) (before after : Cursor) (ids : List NodeId) (refused : Option Reply) (grows : Grows old new)
    (is : IsClearing held old caller p before ids refused) where
  pub ended : ((r k : Path) → IsCursor old r k before → IsNextSeen held new r k after None) → (c : Cleared) → c.taken.items ≡ ids → c.refused ≡ refused → IsCleared held new caller p c
  ended step c taken same = record {
    ids = λ parts t stands agrees.
        let so_far = is.so_far parts t stands (agrees_before old new parts grows agrees) in
        ap (λ (l : List NodeId). numbers_of l) taken ∙ so_far.are ∙ ap (ids_of parts) (sym (whole parts t stands agrees));
    says = λ parts t stands agrees.
        let so_far = is.so_far parts t stands (agrees_before old new parts grows agrees) in
        same ∙ so_far.says ∙ ap (first_refusal (not_clearable t caller) t) (sym (whole parts t stands agrees));
    looked = subst (λ (l : List NodeId). AreLookedAt held new l) (sym taken) (looked_grows held old new ids grows is.looked);
  }
    where
      whole : (parts : Parts) (t : Tree) → Stands parts t → Agrees new parts → subtree t p ≡ p ∷ is.done
      whole parts t stands agrees =
          let so_far = is.so_far parts t stands (agrees_before old new parts grows agrees) in
          whole_came t p is.done so_far.there so_far.left (step p (last_of p is.done) is.goes_on parts t stands agrees).0

  pub next_lacks : (n : Need) → ((r k : Path) → IsCursor old r k before → NeedsNext held old r k n) → NeedsSubtree held new p n
  next_lacks = walks.next_lacks held old new p (last_of p is.done) before grows is.goes_on

  module _ (seen : Seen) (step : (r k : Path) → IsCursor old r k before → IsNextSeen held new r k after (Some seen)) where
    abbrev seen_next : IsNextSeen held new p (last_of p is.done) after (Some seen)
    seen_next = step p (last_of p is.done) is.goes_on

    it_is : (parts : Parts) (t : Tree) → Stands parts t → Agrees new parts → IsAt parts (end_of p after.levels.items) seen.id.0 seen.node
    it_is parts t stands agrees =
        let one = (step p (last_of p is.done) is.goes_on).0 parts t stands agrees in
        record { leads = one.is_next.leads; there = one.there }

    pub next_at : IsAtFor new (p ++ names_of after) seen.node
    next_at parts t stands agrees =
        let it = it_is parts t stands agrees in
        (seen.id.0, subst (λ z. IsAt parts z seen.id.0 seen.node) (end_is p after.levels.items) it)

    more : (later : Shown) → Grows new later → (ids_after : List NodeId) → ids_after ≡ ids ++ seen.id ∷ [] → (first : Option Reply)
        → ((parts : Parts) (t : Tree) → Stands parts t → Agrees later parts → first ≡ or_else refused (not_clearable t caller (end_of p after.levels.items) (node_of seen.node)))
        → IsClearing held later caller p after ids_after first
    more later grows_later ids_after ids_are first comes = record {
      done = is.done ++ end_of p after.levels.items ∷ [];
      so_far = λ parts t stands agrees.
          let then = agrees_before new later parts grows_later agrees in
          let so_far = is.so_far parts t stands (agrees_before old new parts grows then) in
          let one = seen_next.0 parts t stands then in
          let it = it_is parts t stands then in
          record {
            there = so_far.there;
            left = so_far.left ∙ ap (λ l. is.done ++ l) (next_is t p (last_of p is.done) (end_of p after.levels.items) one.is_next.next one.is_next.below)
                ∙ sym (append_assoc is.done (end_of p after.levels.items ∷ []) (above (Some (end_of p after.levels.items)) (below t p)))
                ∙ ap (λ k. (is.done ++ end_of p after.levels.items ∷ []) ++ above (Some k) (below t p)) (sym (last_more p is.done (end_of p after.levels.items)));
            are = ap (λ (l : List NodeId). numbers_of l) ids_are ∙ numbers-append ids (seen.id ∷ [])
                ∙ ap (λ (l : List ℕ). l ++ seen.id.0 ∷ []) so_far.are
                ∙ ap (λ (l : List ℕ). ids_of parts (p ∷ is.done) ++ l) (sym (one_id parts t stands (end_of p after.levels.items) seen.id.0 seen.node it))
                ∙ sym (ids_of_append parts (p ∷ is.done) (end_of p after.levels.items ∷ []));
            says = comes parts t stands agrees
                ∙ ap (λ o. or_else o (not_clearable t caller (end_of p after.levels.items) (node_of seen.node))) so_far.says
                ∙ ap (λ y. or_else (first_refusal (not_clearable t caller) t (p ∷ is.done)) (not_clearable t caller (end_of p after.levels.items) y))
                (sym (node_there parts t stands (end_of p after.levels.items) seen.id.0 seen.node it))
                ∙ sym (first_more (not_clearable t caller) t (p ∷ is.done) (end_of p after.levels.items));
          };
      goes_on = subst (λ k. IsCursor later p k after) (sym (last_more p is.done (end_of p after.levels.items))) (λ parts t stands agrees.
          (seen_next.0 parts t stands (agrees_before new later parts grows_later agrees)).goes_on);
      looked = subst (λ (l : List NodeId). AreLookedAt held later l) (sym ids_are)
          (looked_grows held new later (ids ++ seen.id ∷ []) grows_later (looked_more held new ids seen.id (looked_grows held old new ids grows is.looked) seen_next.1));
    }

    -- what is asked of it comes behind what was asked
    pub one_asked : (later : Shown) → Grows new later → (ids_after : List NodeId) → ids_after ≡ ids ++ seen.id ∷ [] → (reply first : Option Reply)
        → AsksNode later caller (p ++ names_of after) seen.node reply → first ≡ or_else refused reply → IsClearing held later caller p after ids_after first
    one_asked later grows_later ids_after ids_are reply first asks first_is =
        more later grows_later ids_after ids_are first (λ parts t stands agrees.
        first_is ∙ ap (or_else refused) (subst (λ z. AsksNode later caller z seen.node reply) (sym (end_is p after.levels.items)) asks parts t stands agrees))

-- under the same holds
pub clearing_as : {held later : Held} {shown : Shown} {caller : Caller} {p : Path} {c : Cursor} {ids : List NodeId} {refused : Option Reply} → later ≡ held → IsClearing held shown caller p c ids refused
    → IsClearing later shown caller p c ids refused
clearing_as {shown} {caller} {p} {c} {ids} {refused} same is = subst (λ h. IsClearing h shown caller p c ids refused) (sym same) is

none_looked : (held : Held) (shown : Shown) → AreLookedAt held shown []
none_looked held shown id h = absurd (false≢true h)

-- a node that was looked at stays so
pub top_later : {O : Type 0} {held later : Held} {over over_later : O} {shown shown_later : Shown} → GoesOn held later over over_later shown shown_later → (id : NodeId) → IsHeldAndShown held shown id.0
    → IsHeldAndShown later shown_later id.0
top_later {held} {shown} on id is = looked_later on (id ∷ []) (looked_more held shown [] id (none_looked held shown) is) id.0 (it_is_one id)
