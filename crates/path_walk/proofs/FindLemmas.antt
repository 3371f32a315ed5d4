-- A look at the node of a path, behind its parent.
use Rattle.std.proofs.Common.{◌≡◌, ◌≢◌, ℕ, ◌%◌, ◌==◌, ◌<◌, Bool, true, false, ◌||◌, List, [], ◌∷◌, ◌++◌, map, Option, Some, None, IsSome, Result, Ok, Err, IfOk, refl, ap, sym, subst, ◌∙◌, append-nil}
use Rattle.std.proofs.lemmas.Bool.{false≢true}
use Rattle.std.proofs.lemmas.Option.{same_Some}
use Rattle.std.proofs.Math.Nat.{mod-lt}
use Rattle.std.proofs.lemmas.List.{map-append}
use Rattle.std.proofs.lemmas.Grind.{flat_map-append}
use Rattle.std.proofs.Math.Dec.{lit<}
use Rattle.std.specs.Cmp.{unsigned_Decides}
use Rattle.lock_core.specs.declared.object.LockMode.TheVariants.{Shared}
use Rattle.namespace_model.specs.declared.caller.Caller.{Caller}
use Rattle.namespace_model.specs.Nodes.{Node}
use Rattle.namespace_model.specs.Trees.{Path, Tree, at as at_path, parent}
use Rattle.namespace_model.proofs.Alikeness.{among_left}
use Rattle.inode_tree.specs.declared.id.NodeId.{NodeId}
use Rattle.inode_tree.specs.declared.need.Need.{Need}
use Rattle.inode_tree.specs.Inodes.{BareInode, node_of}
use Rattle.inode_tree.specs.After.{with_id, known}
use Rattle.inode_tree.specs.Footprints.{ids_of, lies_in}
use Rattle.inode_tree.specs.Index.{IsIndex}
use Rattle.inode_tree.specs.Parts.{Parts, inode_at, child_of, follow, id_at}
use Rattle.inode_tree.specs.Promises.{numbers_of}
use Rattle.inode_tree.specs.Stands.{Stands}
use Rattle.inode_tree.specs.Views.{Held, Shown, Agrees, IsKnown, covers}
use Rattle.inode_tree.proofs.FrameLemmas.{short_id}
use Rattle.inode_tree.proofs.IndexLemmas.{index_from_stands, reached_short}
use Rattle.path_walk.specs.declared.parent.Parent.{Parent}
use Rattle.path_walk.specs.declared.find.Find.{Find}
use Rattle.path_walk.specs.declared.find.Found.{Found}
use Rattle.path_walk.specs.declared.find.Found.TheVariants as found
use Rattle.path_walk.specs.declared.stop.End.{End}
use Rattle.path_walk.specs.declared.stop.End.TheVariants as end
use Rattle.path_walk.specs.declared.stop.Visit.{Visit}
use Rattle.path_walk.specs.Calls.{GoesOn}
use Rattle.path_walk.specs.Parents.{IsParentIn, IsParent, IsStop}
use Rattle.path_walk.specs.Finds.{last_read, read_to, IsFound, IsPlaced, IsPlacedAt, IsFind, IsFindFor, IsNeedOfFind, IsLook, IsLookAs}
use Rattle.path_walk.specs.Visits.{end_of, IsVisitFor, AreLookedAt, IsOnTheWay, NeedsChild}
use Rattle.namespace_model.specs.Ways.{Way, reached, missing, blocked, closed, base_of, way_of, read_on}
use Rattle.path_walk.proofs.CallLemmas.{agrees_earlier, looked_later}
use Rattle.path_walk.proofs.SetLemmas.{lies_more}
use Rattle.path_walk.proofs.StepLemmas.{reached_way}
use Rattle.path_walk.proofs.TrailLemmas.{agreed, looked_more, numbers-append}

-- ---- a look

module _ (parts : Parts) (t : Tree) (stands : Stands parts t) (caller : Caller) (path : Path) (i : ℕ) (x : BareInode) (n : List ℕ)
    (leads : follow parts 0 (parent path) ≡ Some i) (there : inode_at parts i ≡ Some x) (named : path ≡ parent path ++ n ∷ []) where
  index : IsIndex parts t (follow parts 0)
  index = index_from_stands parts t stands

  pub leads_to : (child : Option ℕ) → child_of x n ≡ child → follow parts 0 path ≡ child
  leads_to child e =
      let place = index.places (parent path) i leads in
      ap (follow parts 0) named ∙ sym (place.links n) ∙ ap (λ (y : BareInode). child_of y n) (same_Some place.inode x (sym place.found ∙ there)) ∙ e

  pub child_there : (c : ℕ) → child_of x n ≡ Some c → IsSome (inode_at parts c)
  child_there c e = stands.found path c (leads_to (Some c) e)

  pub no_node : child_of x n ≡ None → at_path t path ≡ None
  no_node e = index.nothing path (leads_to None e)

  pub node_there : (c : ℕ) (y : BareInode) → child_of x n ≡ Some c → inode_at parts c ≡ Some y → at_path t path ≡ Some (node_of y)
  node_there c y e here =
      let place = index.places path c (leads_to (Some c) e) in
      place.shows ∙ ap (λ (z : BareInode). Some (node_of z)) (same_Some place.inode y (sym place.found ∙ here))

  pub path_id : (c : ℕ) → child_of x n ≡ Some c → id_at parts path ≡ Some c
  path_id c e = let way = leads_to (Some c) e in short_id parts path (reached_short parts t stands path c way) ∙ way

pub ids_of_append : (parts : Parts) (ps qs : List Path) → ids_of parts (ps ++ qs) ≡ ids_of parts ps ++ ids_of parts qs
ids_of_append parts ps qs =
    ap (map (λ (z : Path × ℕ). z.1)) (flat_map-append (λ (p : Path). with_id p (id_at parts p)) ps qs) ∙ map-append (λ (z : Path × ℕ). z.1) (known parts ps) (known parts qs)

-- what was found behind a parent
module _ (held : Held) (shown : Shown) (caller : Caller) (path : Path) (at : Parent) (is : IsParent held shown caller path at) where
  here : (parts : Parts) (t : Tree) → Stands parts t → Agrees shown parts → IsParentIn parts t caller path at
  here = is.is_parent

  pub child_known : (child : ℕ) → child_of at.node at.name.now ≡ Some child → IsKnown shown child
  child_known child e parts t stands agrees =
      let p = here parts t stands agrees in child_there parts t stands caller path at.id.0 at.node at.name.now p.leads p.there is.named child e

  read_there : (parts : Parts) (t : Tree) → Stands parts t → Agrees shown parts → (o : Option Node) → at_path t path ≡ o
      → ids_of parts (read_to t caller path) ≡ numbers_of at.reads.items ++ ids_of parts (last_read reached path o)
  read_there parts t stands agrees o e =
      let p = here parts t stands agrees in
      ap (λ w. ids_of parts (read_on t caller path ++ last_read w path (at_path t path))) p.passes
      ∙ ap (λ u. ids_of parts (read_on t caller path ++ last_read reached path u)) e
      ∙ ids_of_append parts (read_on t caller path) (last_read reached path o)
      ∙ ap (λ (l : List ℕ). l ++ ids_of parts (last_read reached path o)) (sym p.read)

  -- what the look shows is what stands at the path
  pub look_finds : (f : Find) → IsLook held shown at.reads.items at.node at.name.now f → IsFindFor shown caller path f × AreLookedAt held shown f.ids.items
  look_finds f look = by_found f.found refl look
    where
      by_found : (e : Found) → f.found ≡ e → IsLookAs held shown at.reads.items at.node at.name.now f.ids.items e → IsFindFor shown caller path f × AreLookedAt held shown f.ids.items
      by_found found.Nothing same l = (
        λ parts t stands agrees.
            let p = here parts t stands agrees in
            let none : at_path t path ≡ None = no_node parts t stands caller path at.id.0 at.node at.name.now p.leads p.there is.named l.0 in
            record {
              found_is = subst (λ (e : Found). IsFound t caller path e) (sym same) (p.passes, none);
              placed = subst (λ (e : Found). IsPlaced parts path e) (sym same) tt;
              read = ap (λ (k : List NodeId). numbers_of k) l.1 ∙ sym (read_there parts t stands agrees None none ∙ append-nil (numbers_of at.reads.items));
            },
        subst (λ (k : List NodeId). AreLookedAt held shown k) (sym l.1) is.looked,
      )
      by_found (found.Node c y) same l = (
        λ parts t stands agrees.
            let p = here parts t stands agrees in
            let there : inode_at parts c.0 ≡ Some y = agreed shown parts c.0 y agrees l.1 in
            let node : at_path t path ≡ Some (node_of y) = node_there parts t stands caller path at.id.0 at.node at.name.now p.leads p.there is.named c.0 y l.0 there in
            let id : id_at parts path ≡ Some c.0 = path_id parts t stands caller path at.id.0 at.node at.name.now p.leads p.there is.named c.0 l.0 in
            record {
              found_is = subst (λ (e : Found). IsFound t caller path e) (sym same) (p.passes, node);
              placed = subst (λ (e : Found). IsPlaced parts path e) (sym same)
                  (record { leads = leads_to parts t stands caller path at.id.0 at.node at.name.now p.leads p.there is.named (Some c.0) l.0; there = there });
              read = ap (λ (k : List NodeId). numbers_of k) l.3 ∙ numbers-append at.reads.items (c ∷ [])
                  ∙ sym (read_there parts t stands agrees (Some (node_of y)) node
                  ∙ ap (λ (o : Option ℕ). numbers_of at.reads.items ++ map (λ (z : Path × ℕ). z.1) (with_id path o ++ [])) id);
            },
        subst (λ (k : List NodeId). AreLookedAt held shown k) (sym l.3) (looked_more held shown at.reads.items c is.looked l.2),
      )
      by_found (found.Stopped e) same l = absurd l

  -- a child whose stripe isn't held
  pub child_needs : (m : Need) → NeedsChild held at.node at.name.now m → IsNeedOfFind held shown caller path m
  child_needs m lacks = record {
    within = subst (λ s. s < 64) (sym lacks.stripe) (mod-lt lacks.child (lit< tt));
    asks = lacks.asks;
    lacks = ap (λ s. covers (held s) Shared) lacks.stripe ∙ lacks.lacks;
    needed = λ parts t stands agrees. by_node parts t stands agrees (inode_at parts lacks.child) refl (child_known lacks.child lacks.leads parts t stands agrees);
  }
    where
      lies_behind : (s : ℕ) (xs : List ℕ) (i : ℕ) → (i % 64 == s) ≡ true → lies_in s (xs ++ i ∷ []) ≡ true
      lies_behind s [] i h = ap (λ b. b || false) h
      lies_behind s (z ∷ zs) i h = ap (λ b. (z % 64 == s) || b) (lies_behind s zs i h) ∙ or_true (z % 64 == s)
        where
          or_true : (b : Bool) → (b || true) ≡ true
          or_true true = refl
          or_true false = refl

      by_node : (parts : Parts) (t : Tree) → Stands parts t → Agrees shown parts → (o : Option BareInode) → inode_at parts lacks.child ≡ o → IsSome o
          → lies_in m.stripe (ids_of parts (read_to t caller path)) ≡ true
      by_node parts t stands agrees None e h = absurd (false≢true h)
      by_node parts t stands agrees (Some y) e h =
          let p = here parts t stands agrees in
          let node : at_path t path ≡ Some (node_of y) = node_there parts t stands caller path at.id.0 at.node at.name.now p.leads p.there is.named lacks.child y lacks.leads e in
          let id : id_at parts path ≡ Some lacks.child = path_id parts t stands caller path at.id.0 at.node at.name.now p.leads p.there is.named lacks.child lacks.leads in
          ap (lies_in m.stripe) (read_there parts t stands agrees (Some (node_of y)) node ∙ ap (λ (o : Option ℕ). numbers_of at.reads.items ++ map (λ (z : Path × ℕ). z.1) (with_id path o ++ [])) id)
          ∙ lies_behind m.stripe (numbers_of at.reads.items) lacks.child ((unsigned_Decides (lacks.child % 64) m.stripe).1 (sym lacks.stripe))

-- a parent is one at a later view too
pub parent_later : {O : Type 0} {held later : Held} {over over_later : O} {shown shown_later : Shown} {caller : Caller} {path : Path}
    → GoesOn held later over over_later shown shown_later → (at : Parent) → IsParent held shown caller path at → IsParent later shown_later caller path at
parent_later on at is = record {
  named = is.named;
  is_parent = λ parts t stands agrees. is.is_parent parts t stands (agrees_earlier on parts agrees);
  looked = looked_later on at.reads.items is.looked;
}

-- what was found is so at a later view too
pub find_later : {O : Type 0} {held later : Held} {over over_later : O} {shown shown_later : Shown}
    → GoesOn held later over over_later shown shown_later → (caller : Caller) (path : Path) (f : Find) → IsFindFor shown caller path f → IsFindFor shown_later caller path f
find_later on caller path f is parts t stands agrees = is parts t stands (agrees_earlier on parts agrees)

-- a node that was found stands at the path, under its id
pub node_found : (parts : Parts) (t : Tree) (caller : Caller) (path : Path) (f : Find) (id : NodeId) (y : BareInode) → IsFind parts t caller path f → f.found ≡ found.Node id y
    → (way_of t caller path ≡ reached) × (at_path t path ≡ Some (node_of y)) × IsPlacedAt parts path id.0 y
node_found parts t caller path f id y is same =
    let here = subst (λ (e : Found). IsFound t caller path e) same is.found_is in
    (here.0, here.1, subst (λ (e : Found). IsPlaced parts path e) same is.placed)

-- a look that finds no node finds nothing
pub nothing_found : (held : Held) (shown : Shown) (ids : List NodeId) (x : BareInode) (name : List ℕ) (f : Find) → IsLook held shown ids x name f
    → ((id : NodeId) (y : BareInode) → f.found ≡ found.Node id y → ⊥) → f.found ≡ found.Nothing
nothing_found held shown ids x name f look other = by_found f.found refl look
  where
    by_found : (e : Found) → f.found ≡ e → IsLookAs held shown ids x name f.ids.items e → f.found ≡ found.Nothing
    by_found found.Nothing is l = is
    by_found (found.Node id y) is l = absurd (other id y is)
    by_found (found.Stopped e) is l = absurd l

-- ---- where a visit ends

-- a visit that reached the parent stands there
pub visit_parent : (held : Held) (shown : Shown) (caller : Caller) (path : Path) (v : Visit) (at : Parent) → IsVisitFor shown caller path v → AreLookedAt held shown v.ids → v.end ≡ end.Reached
    → at.reads.items ≡ v.ids → at.id ≡ v.base.id → at.node ≡ v.base.node → path ≡ parent path ++ at.name.now ∷ [] → IsParent held shown caller path at
visit_parent held shown caller path v at visited looked is reads id node named = record {
  named = named;
  is_parent = λ parts t stands agrees.
      let visit = visited parts t stands agrees in
      let passes : way_of t caller path ≡ reached = reached_way (way_of t caller path) (sym is ∙ visit.ends) in
      record {
        passes = passes;
        read = ap (λ (l : List NodeId). numbers_of l) reads ∙ visit.read;
        leads = ap (λ w. follow parts 0 (base_of path w)) (sym passes) ∙ visit.leads ∙ ap (λ (i : NodeId). Some i.0) (sym id);
        there = ap (λ (i : NodeId). inode_at parts i.0) id ∙ visit.there ∙ ap Some (sym node);
      };
  looked = subst (λ (l : List NodeId). AreLookedAt held shown l) (sym reads) looked;
}

-- one that did not ends before it
pub visit_stop : (held : Held) (shown : Shown) (caller : Caller) (path : Path) (v : Visit) (e : End) (ids : List NodeId) → IsVisitFor shown caller path v → AreLookedAt held shown v.ids → v.end ≡ e
    → e ≢ end.Reached → ids ≡ v.ids → IsStop held shown caller path ids e
visit_stop held shown caller path v e ids visited looked is other reads = record {
  is_stop = λ parts t stands agrees.
      let visit = visited parts t stands agrees in
      let ends : e ≡ end_of (way_of t caller path) = sym is ∙ visit.ends in
      record { stops = λ h. other (ends ∙ ap end_of h); ends = ends; read = ap (λ (l : List NodeId). numbers_of l) reads ∙ visit.read };
  looked = subst (λ (l : List NodeId). AreLookedAt held shown l) (sym reads) looked;
}

-- where the way ends before the parent that is what is found
pub stopped_finds : (held : Held) (shown : Shown) (caller : Caller) (path : Path) (e : End) (f : Find) → IsStop held shown caller path f.ids.items e → f.found ≡ found.Stopped e
    → IsFindFor shown caller path f
stopped_finds held shown caller path e f is same parts t stands agrees =
    let stop = is.is_stop parts t stands agrees in
    record {
      found_is = subst (λ (x : Found). IsFound t caller path x) (sym same) (stop.stops, stop.ends);
      placed = subst (λ (x : Found). IsPlaced parts path x) (sym same) tt;
      read = stop.read ∙ sym (ap (ids_of parts) (nothing_more (way_of t caller path) (at_path t path) (read_on t caller path) stop.stops));
    }
  where
    nothing_more : (w : Way) (o : Option Node) (ps : List Path) → w ≢ reached → ps ++ last_read w path o ≡ ps
    nothing_more reached o ps un = absurd (un refl)
    nothing_more (missing d) o ps un = append-nil ps
    nothing_more (blocked p) o ps un = append-nil ps
    nothing_more (closed p r) o ps un = append-nil ps

-- a need on the way is one before the node
pub before_way : (held : Held) (shown : Shown) (caller : Caller) (path : Path) (n : Need) → IsOnTheWay held shown caller path n → IsNeedOfFind held shown caller path n
before_way held shown caller path n on = record {
  within = on.within;
  asks = on.asks;
  lacks = on.lacks;
  needed = λ parts t stands agrees.
      lies_more parts n.stripe (read_on t caller path) (read_to t caller path) (λ p h. among_left p (read_on t caller path) (last_read (way_of t caller path) path (at_path t path)) h)
      (on.needed parts t stands agrees);
}

-- what holds of an answer holds of it in other words
pub ok_then : {A E : Type 0} (r : Result A E) (P Q : A → Type 0) → IfOk r P → ((x : A) → P x → Q x) → IfOk r Q
ok_then (Ok x) P Q h to = to x h
ok_then (Err e) P Q h to = tt
