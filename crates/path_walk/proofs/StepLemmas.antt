-- What a step of a visit, and the visit as a whole, owe.
use Rattle.std.proofs.Common.{◌≡◌, ◌≢◌, ℕ, zero, suc, ◌+◌, ◌-◌, ◌<◌, ◌≤◌, Bool, true, false, List, [], ◌∷◌, ◌++◌, length, take, slice_get, Some, is_some, Result, Ok, Err, refl, ap, sym, subst, ◌∙◌, arith}
use Rattle.std.proofs.lemmas.Bool.{false≢true}
use Rattle.std.proofs.Math.Nat.{mod-lt}
use Rattle.std.proofs.Math.Dec.{lit<}
use Rattle.lock_core.specs.declared.object.LockMode.TheVariants.{Shared}
use Rattle.namespace_model.specs.declared.caller.Caller.{Caller}
use Rattle.namespace_model.specs.Trees.{Path, Tree, parent}
use Rattle.namespace_model.proofs.Prefixes.{parent_of_child}
use Rattle.inode_tree.specs.declared.id.NodeId.{NodeId}
use Rattle.inode_tree.specs.declared.need.Need.{Need}
use Rattle.inode_tree.specs.Footprints.{ids_of, lies_in}
use Rattle.inode_tree.specs.Parts.{Parts, inode_at, follow, child_of}
use Rattle.inode_tree.specs.Promises.{numbers_of, is_one_of}
use Rattle.inode_tree.specs.Stands.{Stands}
use Rattle.inode_tree.specs.Views.{Held, Shown, Agrees, IsKnown, covers}
use Rattle.path_walk.specs.declared.stop.Base.{Base}
use Rattle.path_walk.specs.declared.stop.End.{End}
use Rattle.path_walk.specs.declared.stop.End.TheVariants as end
use Rattle.path_walk.specs.declared.stop.Visit.{Visit}
use Rattle.path_walk.specs.declared.way.Met.{Met}
use Rattle.path_walk.specs.declared.way.Met.TheVariants as met
use Rattle.path_walk.specs.declared.way.Step.{Step}
use Rattle.path_walk.specs.declared.way.Step.TheVariants as step
use Rattle.path_walk.specs.declared.way.Trail.{Trail}
use Rattle.namespace_model.specs.Ways.{Way, reached, missing, blocked, closed, base_of, way_of, read_on}
use Rattle.path_walk.specs.Visits.{end_of, IsVisitFor, AreLookedAt, IsOnTheWay, IsMet, IsMetUnderHold, NeedsChild, EndsAs}
use Rattle.path_walk.specs.Calls.{GoesOn}
use Rattle.path_walk.specs.Trails.{IsAt, IsTrail, IsStepped, IsTaken, IsEndedAt}
use Rattle.path_walk.proofs.CallLemmas.{agrees_earlier, looked_later}
use Rattle.path_walk.proofs.TrailLemmas.{agreed, looked_more, take_at, child_found, child_lies, missing_way, missing_ends, missing_read, blocked_way, blocked_ends, blocked_read, closed_way, closed_ends, closed_read, passed_on, reached_ends}

-- ---- the names of a parent are the first of the path

parent_cons : (n : List ℕ) (path : Path) (k : ℕ) (m : List ℕ) → slice_get (parent (n ∷ path)) k ≡ Some m → (suc k ≤ length path) × (take (suc k) (parent (n ∷ path)) ≡ take (suc k) (n ∷ path))
parent_cons n [] k m e = absurd (false≢true (ap is_some e))
parent_cons n (o ∷ path) zero m e = ((let h : 1 ≤ suc (length path) = omega arith in h), refl)
parent_cons n (o ∷ path) (suc k) m e =
    let rest = parent_cons o path k m e in
    ((let h = rest.0 in let g : suc (suc k) ≤ suc (length path) = omega arith in g), ap (λ l. n ∷ l) rest.1)

pub parent_front : (path : Path) (k : ℕ) (m : List ℕ) → slice_get (parent path) k ≡ Some m → (suc k ≤ length path) × (take (suc k) (parent path) ≡ take (suc k) path)
parent_front [] k m e = absurd (false≢true (ap is_some e))
parent_front (n ∷ path) k m e =
    let h = parent_cons n path k m e in
    ((let a = h.0 in let g : suc k ≤ suc (length path) = omega arith in g), h.1)

-- a name of a path that isn't its last is one of the parent
pub name_above : (path : Path) (k : ℕ) (m : List ℕ) → suc k < length path → slice_get path k ≡ Some m → slice_get (parent path) k ≡ Some m
name_above [] k m h e = absurd (false≢true (ap is_some e))
name_above (n ∷ []) k m h e = absurd (let j : suc k < 1 = h in omega arith)
name_above (n ∷ o ∷ path) zero m h e = e
name_above (n ∷ o ∷ path) (suc k) m h e = name_above (o ∷ path) k m (let j : suc (suc k) < suc (suc (length path)) = h in omega arith) e

pub length_above : (path : Path) → path ≢ [] → length path ≡ length (parent path) + 1
length_above [] some = absurd (some refl)
length_above (n ∷ path) some = by_names n path
  where
    by_names : (n : List ℕ) (path : Path) → length (n ∷ path) ≡ length (parent (n ∷ path)) + 1
    by_names n [] = refl
    by_names n (o ∷ path) =
        let h = by_names o path in
        let k : length (n ∷ o ∷ path) ≡ suc (length (o ∷ path)) = refl in
        let l : length (parent (n ∷ o ∷ path)) ≡ suc (length (parent (o ∷ path))) = refl in
        omega arith

pub one_less : (depth : ℕ) → 1 ≤ depth → depth ≡ (depth - 1) + 1
one_less depth h = omega arith

-- ---- a step

-- a trail is one at a later view too
pub trail_later : {O : Type 0} {held later : Held} {over over_later : O} {shown shown_later : Shown} {caller : Caller} {names : Path} {k : ℕ}
    → GoesOn held later over over_later shown shown_later → (trail : Trail) → IsTrail held shown caller names k trail → IsTrail later shown_later caller names k trail
trail_later on trail is = record {
  is_at = λ parts t stands agrees. is.is_at parts t stands (agrees_earlier on parts agrees);
  looked = looked_later on trail.ids.items is.looked;
}

module _ (held : Held) (new : Shown) (caller : Caller) (path : Path) (place depth : ℕ) (trail : Trail) (name : List ℕ)
    (is : IsTrail held new caller (parent path) place trail) (next : depth ≡ place + 1) (named : slice_get (parent path) place ≡ Some name) where
  at_parts : (parts : Parts) (t : Tree) → Stands parts t → Agrees new parts → IsAt parts t caller (parent path) place trail.ids.items trail.base.id.0 trail.base.node
  at_parts = is.is_at

  looked_now : AreLookedAt held new trail.ids.items
  looked_now = is.looked

  visit_of : (v : Visit) (ids : List NodeId) (e : End) → IsEndedAt trail ids e v
      → ((parts : Parts) (t : Tree) → Stands parts t → Agrees new parts
      → (e ≡ end_of (way_of t caller path)) × (numbers_of ids ≡ ids_of parts (read_on t caller path)) × (base_of path (way_of t caller path) ≡ take place (parent path)))
      → IsVisitFor new caller path v
  visit_of v ids e ended says parts t stands agrees =
      let said = says parts t stands agrees in
      let here = at_parts parts t stands agrees in
      record {
        ends = ended.ends ∙ said.0;
        read = ap (λ (l : List NodeId). numbers_of l) ended.ids_are ∙ said.1;
        leads = ap (follow parts 0) said.2 ∙ here.leads ∙ ap (λ (b : Base). Some b.id.0) (sym ended.base_is);
        there = ap (λ (b : Base). inode_at parts b.id.0) ended.base_is ∙ here.there ∙ ap (λ (b : Base). Some b.node) (sym ended.base_is);
      }

  depth_end : (f : ℕ → End) → f depth ≡ f (place + 1)
  depth_end f = ap f next

  above : (w : Way) → w ≡ blocked (take place (parent path) ++ name ∷ []) → base_of path w ≡ take place (parent path)
  above w e = ap (base_of path) e ∙ parent_of_child (take place (parent path)) name

  pub stepped : (m : Met) (s : Step) → IsMet new caller trail.base.node name m → IsMetUnderHold held new m → IsTaken trail path depth m s → IsStepped held new caller path depth s
  stepped met.Missing (step.On after) is_met under taken = absurd taken
  stepped met.Missing (step.Ended v) is_met under taken = (
    visit_of v trail.ids.items (end.NotFound depth) taken (λ parts t stands agrees.
        let here = at_parts parts t stands agrees in (
          depth_end end.NotFound ∙ missing_ends parts t stands caller (parent path) place trail.ids.items trail.base.id.0 trail.base.node name here named is_met,
          missing_read parts t stands caller (parent path) place trail.ids.items trail.base.id.0 trail.base.node name here named is_met,
          ap (base_of path) (missing_way parts t stands caller (parent path) place trail.ids.items trail.base.id.0 trail.base.node name here named is_met),
        )),
    subst (λ (l : List NodeId). AreLookedAt held new l) (sym taken.ids_are) looked_now,
  )
  stepped (met.Blocked id) (step.On after) is_met under taken = absurd taken
  stepped (met.Blocked id) (step.Ended v) is_met under taken = (
    visit_of v (trail.ids.items ++ id ∷ []) (end.NotDirectory depth) taken (λ parts t stands agrees.
        let here = at_parts parts t stands agrees in
        let there : inode_at parts id.0 ≡ Some is_met.0 = agreed new parts id.0 is_met.0 agrees is_met.2 in (
          depth_end end.NotDirectory ∙ blocked_ends parts t stands caller (parent path) place trail.ids.items trail.base.id.0 trail.base.node name here named id is_met.1 is_met.0 there is_met.3,
          blocked_read parts t stands caller (parent path) place trail.ids.items trail.base.id.0 trail.base.node name here named id is_met.1 is_met.0 there is_met.3,
          above (way_of t caller path) (blocked_way parts t stands caller (parent path) place trail.ids.items trail.base.id.0 trail.base.node name here named id is_met.1 is_met.0 there is_met.3),
        )),
    subst (λ (l : List NodeId). AreLookedAt held new l) (sym taken.ids_are) (looked_more held new trail.ids.items id looked_now under),
  )
  stepped (met.Closed id refusal) (step.On after) is_met under taken = absurd taken
  stepped (met.Closed id refusal) (step.Ended v) is_met under taken = (
    visit_of v (trail.ids.items ++ id ∷ []) (end.Denied (record { rule = refusal.rule; at = take depth path; want = 1; have = refusal.have })) taken (λ parts t stands agrees.
        let here = at_parts parts t stands agrees in
        let there : inode_at parts id.0 ≡ Some is_met.0 = agreed new parts id.0 is_met.0 agrees is_met.2 in
        let front : take depth path ≡ take place (parent path) ++ name ∷ [] =
        ap (λ k. take k path) (next ∙ (let h : place + 1 ≡ suc place = omega arith in h)) ∙ sym (parent_front path place name named).1 ∙ take_at (parent path) place name named in (
          ap (λ (p : Path). end.Denied (record { rule = refusal.rule; at = p; want = 1; have = refusal.have })) front
              ∙ closed_ends parts t stands caller (parent path) place trail.ids.items trail.base.id.0 trail.base.node name here named id is_met.1 is_met.0 there refusal is_met.3 is_met.4,
          closed_read parts t stands caller (parent path) place trail.ids.items trail.base.id.0 trail.base.node name here named id is_met.1 is_met.0 there refusal is_met.3 is_met.4,
          ap (base_of path) (closed_way parts t stands caller (parent path) place trail.ids.items trail.base.id.0 trail.base.node name here named id is_met.1 is_met.0 there refusal is_met.3 is_met.4)
              ∙ parent_of_child (take place (parent path)) name,
        )),
    subst (λ (l : List NodeId). AreLookedAt held new l) (sym taken.ids_are) (looked_more held new trail.ids.items id looked_now under),
  )
  stepped (met.Passed base) (step.Ended v) is_met under taken = absurd taken
  stepped (met.Passed base) (step.On after) is_met under taken = record {
    is_at = λ parts t stands agrees.
        let here = at_parts parts t stands agrees in
        let there : inode_at parts base.id.0 ≡ Some base.node = agreed new parts base.id.0 base.node agrees is_met.1 in
        subst (λ (k : ℕ). IsAt parts t caller (parent path) k after.ids.items after.base.id.0 after.base.node) (sym next)
        (subst (λ (b : Base). IsAt parts t caller (parent path) (place + 1) after.ids.items b.id.0 b.node) (sym taken.1)
        (subst (λ (l : List NodeId). IsAt parts t caller (parent path) (place + 1) l base.id.0 base.node) (sym taken.0)
        (passed_on parts t stands caller (parent path) place trail.ids.items trail.base.id.0 trail.base.node name here named base.id is_met.0 base.node there is_met.2 is_met.3)));
    looked = subst (λ (l : List NodeId). AreLookedAt held new l) (sym taken.0) (looked_more held new trail.ids.items base.id looked_now under);
  }

  -- a child whose stripe isn't held
  pub needs : (n : Need) → NeedsChild held trail.base.node name n → IsOnTheWay held new caller path n
  needs n lacks = record {
    within = subst (λ s. s < 64) (sym lacks.stripe) (mod-lt lacks.child (lit< tt));
    asks = lacks.asks;
    lacks = ap (λ s. covers (held s) Shared) lacks.stripe ∙ lacks.lacks;
    needed = λ parts t stands agrees.
        ap (λ s. lies_in s (ids_of parts (read_on t caller path))) lacks.stripe
        ∙ child_lies parts t stands caller (parent path) place trail.ids.items trail.base.id.0 trail.base.node name (at_parts parts t stands agrees) named lacks.child lacks.leads;
  }

-- the child of a name that is met is there, in all parts
pub child_known : (held : Held) (shown : Shown) (caller : Caller) (path : Path) (place : ℕ) (trail : Trail) (name : List ℕ) → IsTrail held shown caller (parent path) place trail
    → slice_get (parent path) place ≡ Some name → (child : ℕ) → child_of trail.base.node name ≡ Some child → IsKnown shown child
child_known held shown caller path place trail name is named child leads parts t stands agrees =
    child_found parts t stands caller (parent path) place trail.ids.items trail.base.id.0 trail.base.node name (is.is_at parts t stands agrees) named child leads

-- ---- the whole way

pub whole : (held : Held) (shown : Shown) (caller : Caller) (path : Path) (i : ℕ) (trail : Trail) (v : Visit) → IsTrail held shown caller (parent path) i trail → i ≡ length (parent path)
    → IsEndedAt trail trail.ids.items end.Reached v → IsVisitFor shown caller path v × AreLookedAt held shown v.ids
whole held shown caller path i trail v is done ended = (
  λ parts t stands agrees.
      let here : IsAt parts t caller (parent path) (length (parent path)) trail.ids.items trail.base.id.0 trail.base.node =
      subst (λ k. IsAt parts t caller (parent path) k trail.ids.items trail.base.id.0 trail.base.node) done (is.is_at parts t stands agrees) in
      let gone = reached_ends parts t caller (parent path) trail.ids.items trail.base.id.0 trail.base.node here in
      record {
        ends = ended.ends ∙ ap end_of gone.0;
        read = ap (λ (l : List NodeId). numbers_of l) ended.ids_are ∙ gone.1;
        leads = ap (λ (w : Way). follow parts 0 (base_of path w)) (sym gone.0) ∙ gone.2 ∙ ap (λ (b : Base). Some b.id.0) (sym ended.base_is);
        there = ap (λ (b : Base). inode_at parts b.id.0) ended.base_is ∙ here.there ∙ ap (λ (b : Base). Some b.node) (sym ended.base_is);
      },
  subst (λ (l : List NodeId). AreLookedAt held shown l) (sym ended.ids_are) is.looked,
)

-- ---- the end of a way

abbrev is_reached : End → Bool
is_reached end.Reached = true
is_reached (end.NotFound names) = false
is_reached (end.NotDirectory names) = false
is_reached (end.Denied denied) = false

pub reached_way : (w : Way) → end.Reached ≡ end_of w → w ≡ reached
reached_way reached e = refl
reached_way (missing d) e = absurd (false≢true (sym (ap is_reached e)))
reached_way (blocked p) e = absurd (false≢true (sym (ap is_reached e)))
reached_way (closed p r) e = absurd (false≢true (sym (ap is_reached e)))

-- ---- answers

error_in : {A E : Type 0} → E → Result A E → E
error_in d (Ok x) = d
error_in d (Err e) = e

-- the same error at another type
pub same_error : {A B E : Type 0} (x y : E) → ◌≡◌ {A = Result A E} (Err x) (Err y) → ◌≡◌ {A = Result B E} (Err x) (Err y)
unfolding error_in
same_error x y e = ap Err (ap (error_in x) e)

-- a visit under holds is how the way ends, under holds
pub ends_held : {held : Held} {shown : Shown} {caller : Caller} {path : Path} {v : Visit} {e : End} → IsVisitFor shown caller path v → AreLookedAt held shown v.ids → v.end ≡ e
    → EndsAs held shown caller path e
ends_held visited looked is = λ parts t stands agrees.
    let v = visited parts t stands agrees in
    record {
      ends = sym (sym is ∙ v.ends);
      way_held = λ id read. looked id (ap (is_one_of id) v.read ∙ read);
    }
