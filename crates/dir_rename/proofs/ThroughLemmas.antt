-- A look through all that moves along, node by node.
use Rattle.std.proofs.Common.{◌≡◌, ◌≢◌, ℕ, Bool, true, false, ◌||◌, List, [], ◌∷◌, ◌++◌, map, Option, Some, None, is_some, refl, sym, ap, subst, ◌∙◌, append_assoc, append-nil}
use Rattle.std.proofs.lemmas.Bool.{false≢true}
use Rattle.std.specs.List.{list_any}
use Rattle.namespace_model.specs.Effects.{moved}
use Rattle.namespace_model.specs.Pages.{above}
use Rattle.namespace_model.specs.Rename.{is_too_long}
use Rattle.namespace_model.specs.Trees.{Path, Tree, at, subtree}
use Rattle.namespace_model.proofs.Effected.{moved_below}
use Rattle.inode_tree.specs.declared.id.NodeId.{NodeId}
use Rattle.inode_tree.specs.declared.need.Need.{Need}
use Rattle.inode_tree.specs.Footprints.{ids_of}
use Rattle.inode_tree.specs.After.{with_id}
use Rattle.inode_tree.specs.Parts.{Parts, follow}
use Rattle.inode_tree.specs.Promises.{numbers_of}
use Rattle.inode_tree.specs.Stands.{Stands}
use Rattle.inode_tree.specs.Views.{Held, Shown, Agrees, Grows}
use Rattle.inode_tree.proofs.FrameLemmas.{short_id}
use Rattle.inode_tree.proofs.IndexLemmas.{reached_short}
use Rattle.path_walk.specs.Visits.{AreLookedAt, IsHeldAndShown}
use Rattle.path_walk.proofs.FindLemmas.{ids_of_append}
use Rattle.path_walk.proofs.TrailLemmas.{agrees_before, looked_grows, looked_more, numbers-append}
use Rattle.path_order.specs.declared.cursor.Cursor.{Cursor}
use Rattle.path_order.specs.declared.cursor.Seen.{Seen}
use Rattle.path_order.specs.Cursors.{end_of, names_of, IsCursor, IsNextSeen, NeedsNext}
use Rattle.path_order.specs.PagesBelow.{below, last_of}
use Rattle.path_order.specs.Starts.{IsAtFor}
use Rattle.path_order.specs.Subtrees.{IsTop, NeedsSubtree}
use Rattle.path_order.proofs.CursorLemmas.{end_is, is_there}
use Rattle.path_order.proofs.PageLemmas.{next_is, last_more}
use Rattle.path_order.proofs.WholeLemmas.{all_below}
use Rattle.path_order.proofs.SubtreeWalks as walks
use Rattle.path_order.proofs.SubtreeWalks.{whole_came}
use Rattle.dir_rename.specs.declared.lengths.Room.{Room}
use Rattle.dir_rename.specs.declared.through.Through.{Through}
use Rattle.dir_rename.specs.Lengths.{IsRoom, IsOverlong}
use Rattle.dir_rename.specs.Through.{is_one_too_long, IsOverlongToo, IsThrough}

-- the node at which a walk begins
pub top_at : (shown : Shown) (p : Path) (top : Seen) → IsTop shown p top → IsAtFor shown p top.node
top_at shown p top is parts t stands agrees = (top.id.0, is parts t stands agrees)

-- the id of one path
one_id : (parts : Parts) (t : Tree) → Stands parts t → (p : Path) (id : ℕ) → follow parts 0 p ≡ Some id → ids_of parts (p ∷ []) ≡ id ∷ []
one_id parts t stands p id leads = ap (λ (o : Option ℕ). map (λ (z : Path × ℕ). z.1) (with_id p o ++ [])) (short_id parts p (reached_short parts t stands p id leads) ∙ leads)

any_more : (test : Path → Bool) (ps : List Path) (q : Path) → list_any test (ps ++ q ∷ []) ≡ (list_any test ps || test q)
any_more test [] q = or_false (test q)
  where
    or_false : (b : Bool) → (b || false) ≡ b
    or_false true = refl
    or_false false = refl
any_more test (p ∷ ps) q = ap (λ b. test p || b) (any_more test ps q) ∙ sym (or_both (test p) (list_any test ps) (test q))
  where
    or_both : (a b c : Bool) → ((a || b) || c) ≡ (a || (b || c))
    or_both true b c = refl
    or_both false b c = refl

-- ---- the walk

-- the paths so far: the rest comes behind them, and these are their ids
pub record ArePassed (parts : Parts) (t : Tree) (p : Path) (done : List Path) (ids : List NodeId) : Type 0 where
  pub there : is_some (at t p) ≡ true
  pub left : below t p ≡ done ++ above (Some (last_of p done)) (below t p)
  pub are : numbers_of ids ≡ ids_of parts (p ∷ done)

pub record IsPassing (held : Held) (shown : Shown) (p : Path) (room : Room) (c : Cursor) (ids : List NodeId) (too_long : Bool) : Type 0 where
  pub done : List Path
  pub so_far : (parts : Parts) (t : Tree) → Stands parts t → Agrees shown parts → ArePassed parts t p done ids
  pub says : (to : Path) → to ≢ [] → IsRoom to room → too_long ≡ is_one_too_long p to (p ∷ done)
  pub goes_on : IsCursor shown p (last_of p done) c
  pub looked : AreLookedAt held shown ids

-- at the node itself
pub begins_so : (held : Held) (shown : Shown) (p : Path) (room : Room) (top : Seen) (c : Cursor) (ids : List NodeId) (too_long : Bool) → IsTop shown p top → IsHeldAndShown held shown top.id.0
    → ids ≡ top.id ∷ [] → IsOverlong room [] too_long → IsCursor shown p p c → IsPassing held shown p room c ids too_long
begins_so held shown p room top c ids too_long is looked these long from = record {
  done = [];
  so_far = λ parts t stands agrees.
      let here = is parts t stands agrees in
      record {
        there = is_there parts t stands p top.id.0 here.leads;
        left = sym (all_below t p);
        are = ap (λ (l : List NodeId). numbers_of l) these ∙ sym (one_id parts t stands p top.id.0 here.leads);
      };
  says = λ to some is_room.
      long to some is_room ∙ ap is_too_long (sym (ap (moved p to) (sym (append-nil p)) ∙ moved_below p to []))
      ∙ or_false (is_too_long (moved p to p));
  goes_on = from;
  looked = subst (λ (l : List NodeId). AreLookedAt held shown l) (sym these) (looked_more held shown [] top.id (λ id h. absurd (false≢true h)) looked);
}
  where
    or_false : (b : Bool) → b ≡ (b || false)
    or_false true = refl
    or_false false = refl

-- the walk came to a node
module _ (held : Held) (old new : Shown) (p : Path) (room : Room) (before after : Cursor) (ids : List NodeId) (too_long : Bool) (grows : Grows old new)
    (is : IsPassing held old p room before ids too_long) where
  pub ended : ((r k : Path) → IsCursor old r k before → IsNextSeen held new r k after None) → (through : Through) → through.ids.items ≡ ids → through.too_long ≡ too_long → IsThrough held new p room through
  ended step through taken same = record {
    ids = λ parts t stands agrees.
        let so_far = is.so_far parts t stands (agrees_before old new parts grows agrees) in
        ap (λ (l : List NodeId). numbers_of l) taken ∙ so_far.are ∙ ap (ids_of parts) (sym (whole parts t stands agrees));
    says = λ to some is_room parts t stands agrees. same ∙ is.says to some is_room ∙ ap (is_one_too_long p to) (sym (whole parts t stands agrees));
    looked = subst (λ (l : List NodeId). AreLookedAt held new l) (sym taken) (looked_grows held old new ids grows is.looked);
  }
    where
      whole : (parts : Parts) (t : Tree) → Stands parts t → Agrees new parts → subtree t p ≡ p ∷ is.done
      whole parts t stands agrees =
          let so_far = is.so_far parts t stands (agrees_before old new parts grows agrees) in
          whole_came t p is.done so_far.there so_far.left (step p (last_of p is.done) is.goes_on parts t stands agrees).0

  pub next_lacks : (n : Need) → ((r k : Path) → IsCursor old r k before → NeedsNext held old r k n) → NeedsSubtree held new p n
  next_lacks = walks.next_lacks held old new p (last_of p is.done) before grows is.goes_on

  module _ (seen : Seen) (step : (r k : Path) → IsCursor old r k before → IsNextSeen held new r k after (Some seen)) where
    abbrev seen_next : IsNextSeen held new p (last_of p is.done) after (Some seen)
    seen_next = step p (last_of p is.done) is.goes_on

    -- it is one of the paths from now on
    pub one_passed : (ids_after : List NodeId) → ids_after ≡ ids ++ seen.id ∷ [] → (longer : Bool) → IsOverlongToo too_long room after longer → IsPassing held new p room after ids_after longer
    one_passed ids_after ids_are longer comes = record {
      done = is.done ++ end_of p after.levels.items ∷ [];
      so_far = λ parts t stands agrees.
          let so_far = is.so_far parts t stands (agrees_before old new parts grows agrees) in
          let one = seen_next.0 parts t stands agrees in
          record {
            there = so_far.there;
            left = so_far.left ∙ ap (λ l. is.done ++ l) (next_is t p (last_of p is.done) (end_of p after.levels.items) one.is_next.next one.is_next.below)
                ∙ sym (append_assoc is.done (end_of p after.levels.items ∷ []) (above (Some (end_of p after.levels.items)) (below t p)))
                ∙ ap (λ k. (is.done ++ end_of p after.levels.items ∷ []) ++ above (Some k) (below t p)) (sym (last_more p is.done (end_of p after.levels.items)));
            are = ap (λ (l : List NodeId). numbers_of l) ids_are ∙ numbers-append ids (seen.id ∷ [])
                ∙ ap (λ (l : List ℕ). l ++ seen.id.0 ∷ []) so_far.are
                ∙ ap (λ (l : List ℕ). ids_of parts (p ∷ is.done) ++ l) (sym (one_id parts t stands (end_of p after.levels.items) seen.id.0 one.is_next.leads))
                ∙ sym (ids_of_append parts (p ∷ is.done) (end_of p after.levels.items ∷ []));
          };
      says = λ to some is_room.
          comes to some is_room
          ∙ ap (λ b. b || is_too_long (to ++ names_of after)) (is.says to some is_room)
          ∙ ap (λ q. is_one_too_long p to (p ∷ is.done) || is_too_long q) (sym (ap (moved p to) (end_is p after.levels.items) ∙ moved_below p to (names_of after)))
          ∙ sym (any_more (λ q. is_too_long (moved p to q)) (p ∷ is.done) (end_of p after.levels.items));
      goes_on = subst (λ k. IsCursor new p k after) (sym (last_more p is.done (end_of p after.levels.items))) (λ parts t stands agrees. (seen_next.0 parts t stands agrees).goes_on);
      looked = subst (λ (l : List NodeId). AreLookedAt held new l) (sym ids_are) (looked_more held new ids seen.id (looked_grows held old new ids grows is.looked) seen_next.1);
    }

-- under the same holds
pub passing_as : {held later : Held} {shown : Shown} {p : Path} {room : Room} {c : Cursor} {ids : List NodeId} {too_long : Bool} → later ≡ held → IsPassing held shown p room c ids too_long
    → IsPassing later shown p room c ids too_long
passing_as {shown} {p} {room} {c} {ids} {too_long} same is = subst (λ h. IsPassing h shown p room c ids too_long) (sym same) is
