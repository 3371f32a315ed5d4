-- What a look at one end of a rename gives.
use Rattle.std.proofs.Common.{◌≡◌, ℕ, List, [], ◌∷◌, ◌++◌, Option, Some, None, unwrap_or, refl, ap, sym, subst, ◌∙◌, append-nil}
use Rattle.std.proofs.lemmas.Option.{same_Some}
use Rattle.namespace_model.specs.declared.caller.Caller.{Caller}
use Rattle.namespace_model.specs.declared.code.Code.{Code}
use Rattle.namespace_model.specs.declared.reply.Reply.{Reply}
use Rattle.namespace_model.specs.Nodes.{Node, blank}
use Rattle.namespace_model.specs.Outcomes.{Outcome, answered, reading, unless, noted}
use Rattle.namespace_model.specs.Refusals.{lacks}
use Rattle.namespace_model.specs.Trees.{Path, Tree, at, parent}
use Rattle.namespace_model.specs.Walks.{missing_below, ended, hand_on}
use Rattle.namespace_model.specs.Ways.{Way, reached, way_of, read_on}
use Rattle.namespace_model.proofs.WayLemmas.{reading_both}
use Rattle.inode_tree.specs.declared.id.NodeId.{NodeId}
use Rattle.inode_tree.specs.declared.need.Need.{Need}
use Rattle.inode_tree.specs.Inodes.{BareInode, node_of}
use Rattle.inode_tree.specs.Parts.{Parts, inode_at, follow}
use Rattle.inode_tree.specs.Promises.{numbers_of}
use Rattle.inode_tree.specs.Stands.{Stands}
use Rattle.inode_tree.specs.Views.{Held, Shown, Agrees}
use Rattle.inode_tree.proofs.IndexLemmas.{index_from_stands}
use Rattle.path_walk.specs.declared.find.Find.{Find}
use Rattle.path_walk.specs.declared.find.Found.{Found}
use Rattle.path_walk.specs.declared.find.Found.TheVariants as found
use Rattle.path_walk.specs.declared.parent.Parent.{Parent}
use Rattle.path_walk.specs.declared.stop.End.{End}
use Rattle.path_walk.specs.Answers.{stop_reply}
use Rattle.path_walk.specs.Finds.{last_read, read_to, IsNeedOfFind, IsLook, IsLookAs}
use Rattle.path_walk.specs.Parents.{IsParent, IsStop}
use Rattle.path_walk.specs.Visits.{AreLookedAt, IsOnTheWay}
use Rattle.path_walk.proofs.AnswerLemmas.{stop_is}
use Rattle.path_walk.proofs.FindLemmas.{look_finds, node_found, leads_to}
use Rattle.path_order.specs.declared.cursor.Seen.{Seen}
use Rattle.dir_rename.specs.declared.ends.Spot.{Spot}
use Rattle.dir_rename.specs.Ends.{end_step, comes_then, seen_in, IsThere, IsSeenHeld, Reads, IsSpotIn, IsSpot, NeedsLook}

-- a path that leads to an inode has its node
pub node_there : (parts : Parts) (t : Tree) → Stands parts t → (p : Path) (id : ℕ) (y : BareInode) → follow parts 0 p ≡ Some id → inode_at parts id ≡ Some y → at t p ≡ Some (node_of y)
node_there parts t stands p id y leads there =
    let place = (index_from_stands parts t stands).places p id leads in
    place.shows ∙ ap (λ (z : BareInode). Some (node_of z)) (same_Some place.inode y (sym place.found ∙ there))

-- one that leads nowhere has none
pub none_there : (parts : Parts) (t : Tree) → Stands parts t → (p : Path) → follow parts 0 p ≡ None → at t p ≡ None
none_there parts t stands p none = (index_from_stands parts t stands).nothing p none

-- ---- the step

module _ (t : Tree) (caller : Caller) (code : Code) (p : Path) (none : Node → Outcome) (some : Node → Node → Outcome) where
  abbrev next : Node → Outcome
  next dir = unless (lacks caller 3 (parent p) dir) (noted (at t p) p (none dir) (some dir))

  abbrev by_end : Way → Outcome
  by_end w = reading (read_on t caller p) (ended (missing_below code) code (hand_on t (parent p) next) w)

  by_way : end_step t caller code p none some ≡ by_end (way_of t caller p)
  by_way = refl

  stops : (e : End) → ended (missing_below code) code (hand_on t (parent p) next) (way_of t caller p) ≡ answered (stop_reply code e) → end_step t caller code p none some ≡ reading (read_on t caller p) (answered (stop_reply code e))
  stops e same = ap (reading (read_on t caller p)) same

  abbrev in_parent : Option Reply → Option Node → Node → Outcome
  in_parent r o dir = unless r (noted o p (none dir) (some dir))

  in_it : (dir : Node) → way_of t caller p ≡ reached → at t (parent p) ≡ Some dir → end_step t caller code p none some ≡ reading (read_on t caller p) (in_parent (lacks caller 3 (parent p) dir) (at t p) dir)
  in_it dir same there = ap by_end same ∙ ap (λ (o : Option Node). reading (read_on t caller p) (next (unwrap_or o blank))) there

  denies : (dir : Node) (reply : Reply) → way_of t caller p ≡ reached → at t (parent p) ≡ Some dir → lacks caller 3 (parent p) dir ≡ Some reply → end_step t caller code p none some ≡ reading (read_on t caller p) (answered reply)
  denies dir reply same there is = in_it dir same there ∙ ap (λ r. reading (read_on t caller p) (in_parent r (at t p) dir)) is

  lets_in : (dir : Node) (o : Option Node) → way_of t caller p ≡ reached → at t (parent p) ≡ Some dir → lacks caller 3 (parent p) dir ≡ None → at t p ≡ o
      → end_step t caller code p none some ≡ reading (read_on t caller p) (in_parent None o dir)
  lets_in dir o same there lets is =
      in_it dir same there ∙ ap (λ r. reading (read_on t caller p) (in_parent r (at t p) dir)) lets ∙ ap (λ x. reading (read_on t caller p) (in_parent None x dir)) is

  read_is : (o : Option Node) → way_of t caller p ≡ reached → at t p ≡ o → read_to t caller p ≡ read_on t caller p ++ last_read reached p o
  read_is o same is = ap (λ w. read_on t caller p ++ last_read w p (at t p)) same ∙ ap (λ x. read_on t caller p ++ last_read reached p x) is

  missing : (dir : Node) → way_of t caller p ≡ reached → at t (parent p) ≡ Some dir → lacks caller 3 (parent p) dir ≡ None → at t p ≡ None → end_step t caller code p none some ≡ reading (read_to t caller p) (none dir)
  missing dir same there lets nothing =
      lets_in dir None same there lets nothing ∙ sym (ap (λ l. reading l (none dir)) (read_is None same nothing ∙ append-nil (read_on t caller p)))

  present : (dir x : Node) → way_of t caller p ≡ reached → at t (parent p) ≡ Some dir → lacks caller 3 (parent p) dir ≡ None → at t p ≡ Some x → end_step t caller code p none some ≡ reading (read_to t caller p) (some dir x)
  present dir x same there lets here =
      lets_in dir (Some x) same there lets here
      ∙ reading_both (read_on t caller p) (p ∷ []) (some dir x)
      ∙ sym (ap (λ l. reading l (some dir x)) (read_is (Some x) same here))

-- ---- the way

-- a way that ends before the directory
pub stopped_looked : (held : Held) (shown : Shown) (caller : Caller) (code : Code) (p : Path) (ids : List NodeId) (e : End) → IsStop held shown caller p ids e
    → ((parts : Parts) (t : Tree) → Stands parts t → Agrees shown parts → Reads parts ids (end_step t caller code p) (λ none some. answered (stop_reply code e))) × AreLookedAt held shown ids
stopped_looked held shown caller code p ids e is = (
  λ parts t stands agrees.
      let way = is.is_stop parts t stands agrees in
      record {
        paths = read_on t caller p;
        are = way.read;
        goes = λ none some. stops t caller code p none some e (stop_is code (hand_on t (parent p) (next t caller code p none some)) (way_of t caller p) e way.ends way.stops);
      },
  is.looked,
)

-- a stripe of it
pub way_needs : (held : Held) (shown : Shown) (caller : Caller) (code : Code) (p : Path) (n : Need) → IsOnTheWay held shown caller p n → NeedsLook held shown caller code p n
way_needs held shown caller code p n on = record {
  within = on.within;
  asks = on.asks;
  lacks = on.lacks;
  needed = λ parts t stands agrees. (
    read_on t caller p,
    (on.needed parts t stands agrees, λ none some. (ended (missing_below code) code (hand_on t (parent p) (next t caller code p none some)) (way_of t caller p), refl)),
  );
}

-- ---- in the directory

module _ (held : Held) (shown : Shown) (caller : Caller) (code : Code) (p : Path) (it : Parent) (is : IsParent held shown caller p it) where
  dir_there : (parts : Parts) (t : Tree) → Stands parts t → Agrees shown parts → at t (parent p) ≡ Some (node_of it.node)
  dir_there parts t stands agrees =
      let here = is.is_parent parts t stands agrees in node_there parts t stands (parent p) it.id.0 it.node here.leads here.there

  -- it doesn't let the caller change it
  pub denied_looked : (reply : Reply) → lacks caller 3 (parent p) (node_of it.node) ≡ Some reply
      → ((parts : Parts) (t : Tree) → Stands parts t → Agrees shown parts → Reads parts it.reads.items (end_step t caller code p) (λ none some. answered reply)) × AreLookedAt held shown it.reads.items
  denied_looked reply is_so = (
    λ parts t stands agrees.
        let here = is.is_parent parts t stands agrees in
        record {
          paths = read_on t caller p;
          are = here.read;
          goes = λ none some. denies t caller code p none some (node_of it.node) reply here.passes (dir_there parts t stands agrees) is_so;
        },
    is.looked,
  )

  module _ (lets : lacks caller 3 (parent p) (node_of it.node) ≡ None) where
    goes_on : (parts : Parts) (t : Tree) → Stands parts t → Agrees shown parts → (none : Node → Outcome) (some : Node → Node → Outcome) (o : Option Node) → at t p ≡ o
        → (after : Outcome) × (end_step t caller code p none some ≡ reading (read_to t caller p) after)
    goes_on parts t stands agrees none some None nothing =
        (none (node_of it.node), missing t caller code p none some (node_of it.node) (is.is_parent parts t stands agrees).passes (dir_there parts t stands agrees) lets nothing)
    goes_on parts t stands agrees none some (Some x) there =
        (some (node_of it.node) x, present t caller code p none some (node_of it.node) x (is.is_parent parts t stands agrees).passes (dir_there parts t stands agrees) lets there)

    -- the node lies in a stripe that isn't held
    pub node_needs : (n : Need) → IsNeedOfFind held shown caller p n → NeedsLook held shown caller code p n
    node_needs n before = record {
      within = before.within;
      asks = before.asks;
      lacks = before.lacks;
      needed = λ parts t stands agrees. (read_to t caller p, (before.needed parts t stands agrees, λ none some. goes_on parts t stands agrees none some (at t p) refl));
    }

    -- it was looked at
    module _ (f : Find) (look : IsLook held shown it.reads.items it.node it.name.now f) where
      spot_in : (e : Found) → f.found ≡ e → (s : Spot) → s.reads.items ≡ f.ids.items → s.base.id ≡ it.id → s.base.node ≡ it.node → s.found ≡ seen_in e
          → (parts : Parts) (t : Tree) → Stands parts t → Agrees shown parts → IsSpotIn parts t caller code p s
      spot_in e same s reads base_id base_node seen parts t stands agrees =
          let here = is.is_parent parts t stands agrees in
          let find = (look_finds held shown caller p it is f look).0 parts t stands agrees in
          record {
            reads = record {
              paths = read_to t caller p;
              are = ap (λ (l : List NodeId). numbers_of l) reads ∙ find.read;
              goes = λ none some. by_found e same none some ∙ ap (λ (y : BareInode). reading (read_to t caller p) (comes_then y (seen_in e) none some)) (sym base_node)
                  ∙ ap (λ (o : Option Seen). reading (read_to t caller p) (comes_then s.base.node o none some)) (sym seen);
            };
            is_in = record {
              leads = here.leads ∙ ap (λ (i : NodeId). Some i.0) (sym base_id);
              there = ap (λ (i : NodeId). inode_at parts i.0) base_id ∙ here.there ∙ ap Some (sym base_node);
            };
            is_there = subst (λ (o : Option Seen). IsThere parts p o) (sym seen) (found_there e same);
          }
        where
          passes : way_of t caller p ≡ reached
          passes = (is.is_parent parts t stands agrees).passes

          seen_as : (e : Found) → f.found ≡ e → IsLookAs held shown it.reads.items it.node it.name.now f.ids.items e
          seen_as e same = subst (λ (o : Found). IsLookAs held shown it.reads.items it.node it.name.now f.ids.items o) same look

          nowhere : f.found ≡ found.Nothing → follow parts 0 p ≡ None
          nowhere same =
              let here = is.is_parent parts t stands agrees in
              leads_to parts t stands caller p it.id.0 it.node it.name.now here.leads here.there is.named None (seen_as found.Nothing same).0

          by_found : (e : Found) → f.found ≡ e → (none : Node → Outcome) (some : Node → Node → Outcome)
              → end_step t caller code p none some ≡ reading (read_to t caller p) (comes_then it.node (seen_in e) none some)
          by_found found.Nothing same none some = missing t caller code p none some (node_of it.node) passes (dir_there parts t stands agrees) lets (none_there parts t stands p (nowhere same))
          by_found (found.Node id y) same none some =
              let node = node_found parts t caller p f id y ((look_finds held shown caller p it is f look).0 parts t stands agrees) same in
              present t caller code p none some (node_of it.node) (node_of y) passes (dir_there parts t stands agrees) lets node.1
          by_found (found.Stopped e) same none some = absurd (seen_as (found.Stopped e) same)

          found_there : (e : Found) → f.found ≡ e → IsThere parts p (seen_in e)
          found_there found.Nothing same = nowhere same
          found_there (found.Node id y) same =
              let node = node_found parts t caller p f id y ((look_finds held shown caller p it is f look).0 parts t stands agrees) same in
              record { leads = node.2.leads; there = node.2.there }
          found_there (found.Stopped e) same = absurd (seen_as (found.Stopped e) same)

      found_so : (e : Found) → IsLookAs held shown it.reads.items it.node it.name.now f.ids.items e → IsSeenHeld held shown (seen_in e)
      found_so found.Nothing l = tt
      found_so (found.Node id y) l = l.2
      found_so (found.Stopped e) l = absurd l

      pub spot_looked : (s : Spot) → s.reads.items ≡ f.ids.items → s.base.id ≡ it.id → s.base.node ≡ it.node → s.name.now ≡ it.name.now → s.found ≡ seen_in f.found → IsSpot held shown caller code p s
      spot_looked s reads base_id base_node name seen = record {
        named = is.named ∙ ap (λ n. parent p ++ n ∷ []) (sym name);
        is_spot = λ parts t stands agrees. spot_in f.found refl s reads base_id base_node seen parts t stands agrees;
        looked = subst (λ (l : List NodeId). AreLookedAt held shown l) (sym reads) (look_finds held shown caller p it is f look).1;
        found_held = subst (λ (o : Option Seen). IsSeenHeld held shown o) (sym seen) (found_so f.found look);
      }
