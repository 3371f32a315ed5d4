-- What an evaluator owes of a draft, and what follows from it.
use Rattle.std.proofs.Common.{◌≡◌, ◌≢◌, ◌⊎◌, inl, inr, ℕ, zero, suc, ◌+◌, ◌%◌, ◌==◌, ◌≤◌, Bool, true, false, cond, ◌||◌, List, [], ◌∷◌, map, length, slice_get, Option, Some, None, option_map, option_and_then, is_some, refl, ap, sym, subst, ◌∙◌, arith}
use Rattle.std.proofs.lemmas.Bool.{false≢true}
use Rattle.std.proofs.lemmas.Option.{same_Some}
use Rattle.std.specs.Cmp.{nat_cmp_total, unsigned_Decides}
use Rattle.std.specs.FinMap as fin
use Rattle.std.specs.FinMap.{nat_cmp-IsAntisymmetric}
use Rattle.std.specs.Ordering.{nat_cmp, eq_by_cmp}
use Rattle.lock_core.specs.declared.object.LockMode.{LockMode}
use Rattle.lock_core.specs.declared.object.LockMode.TheVariants as mode
use Rattle.namespace_model.specs.declared.request.Request.{Request}
use Rattle.namespace_model.specs.Trees.{Tree}
use Rattle.namespace_model.specs.Sound.{IsSound}
use Rattle.namespace_model.specs.Step.{outcome, step, new_paths}
use Rattle.inode_tree.specs.declared.change.Change.{Change}
use Rattle.inode_tree.specs.declared.draft.Draft.{Draft}
use Rattle.inode_tree.specs.declared.id.NodeId.{NodeId}
use Rattle.inode_tree.specs.declared.fresh.Fresh.{Fresh}
use Rattle.inode_tree.specs.declared.placed.Placed.{Placed}
use Rattle.inode_tree.specs.Changes.{Part, id_of, is_own, node_after, changed, applied}
use Rattle.inode_tree.specs.Inodes.{BareInode}
use Rattle.inode_tree.specs.Rows.{fresh_id}
use Rattle.inode_tree.specs.Parts.{Parts, inode_at}
use Rattle.inode_tree.specs.Stands.{Stands}
use Rattle.inode_tree.specs.After.{drawn_ids, outcome_on, turns_on, part_after, after}
use Rattle.inode_tree.specs.Drawing.{next_ids, DrawsRightly}
use Rattle.inode_tree.specs.Footprints.{read_ids as ids_read, written_ids as ids_written, lies_in, reads, writes, Does}
use Rattle.inode_tree.specs.Views.{Held, Shown, ArePossible, covers}
use Rattle.inode_tree.specs.Promises.{IsEntryOf, applied_from, applied_all, numbers_of, is_one_of, IsOfStep, NeedsStripe, HoldsFootprint, HoldsAll, NeedsNothingMore}
use Rattle.inode_tree.proofs.AfterStands.{after_stands}
use Rattle.inode_tree.proofs.DraftLemmas.{get-with_node}
use Rattle.inode_tree.proofs.FrameLemmas.{at-after}
use Rattle.inode_tree.proofs.IdleLemmas.{stripes_are_apart}
use Rattle.inode_tree.proofs.LinkLemmas.{key_same, key_differs}
use Rattle.inode_tree.proofs.SameParts.{same_lists}
use Rattle.inode_tree.proofs.TurnLemmas.{turned_by, number_tells, number_same, get-part_after, get-part_other, length-after}

-- ---- a need

held_so : (held : Held) (parts : Parts) (e : Placed) (stripe : ℕ) (m : LockMode) → HoldsFootprint held parts e → NeedsStripe m stripe parts e → covers (held stripe) m ≡ true
held_so held parts e stripe mode.None h n = absurd n
held_so held parts e stripe mode.Exclusive h n = ap (λ x. covers x mode.Exclusive) (h.written stripe n)
held_so held parts e stripe mode.Shared h n = by_read (reads parts e stripe) refl n
  where
    by_read : (b : Bool) → reads parts e stripe ≡ b → (b || writes parts e stripe) ≡ true → covers (held stripe) mode.Shared ≡ true
    by_read true r k = h.read stripe r
    by_read false r k = ap (λ x. covers x mode.Shared) (h.written stripe k)

pub needs_nothing_more : NeedsNothingMore
needs_nothing_more held shown request moment fresh n parts t e need possible of h =
    false≢true (sym need.lacks ∙ held_so held parts e n.stripe n.mode h (need.needed parts t e possible of))

-- ---- a draft holds its footprint

-- an id of the list lies in the stripe
abbrev Lies : ℕ → List ℕ → Type 0
Lies stripe ids = (id : ℕ) × (is_one_of id ids ≡ true) × (id % 64 ≡ stripe)

or_right : (b c : Bool) → c ≡ true → (b || c) ≡ true
or_right true c e = refl
or_right false c e = e

first_or : (s i : ℕ) (is : List ℕ) → (i % 64 ≡ s) ⊎ ((i % 64 == s) ≡ false) → (lies_in s is ≡ true → Lies s is) → lies_in s (i ∷ is) ≡ true → Lies s (i ∷ is)
first_or s i is (inl same) rest e = (i, ap (λ b. b || is_one_of i is) (number_same i), same)
first_or s i is (inr other) rest e =
    let r = rest (sym (ap (λ b. b || lies_in s is) other) ∙ e) in (r.0, or_right (i == r.0) (is_one_of r.0 is) r.1, r.2)

-- an id that lies in a stripe in which one of the list lies
pub lies_one : (s : ℕ) (ids : List ℕ) → lies_in s ids ≡ true → (id : ℕ) × (is_one_of id ids ≡ true) × (id % 64 ≡ s)
lies_one s [] e = absurd (false≢true e)
lies_one s (i ∷ is) e = first_or s i is (number_tells (i % 64) s) (lies_one s is) e

pub holds_all : HoldsAll
holds_all held shown request moment fresh d parts t e draft possible of =
    let step_is = draft.of_step parts t e possible of in
    record {
      written = λ stripe w.
          let l = lies_one stripe (ids_written parts e) w in
          subst (λ s. held s ≡ mode.Exclusive) l.2 (draft.held_exclusively l.0 (step_is.written_ids l.0 ∙ l.1));
      read = λ stripe r.
          let l = lies_one stripe (ids_read parts e) r in
          subst (λ s. covers (held s) mode.Shared ≡ true) l.2 (draft.held_shared l.0 (step_is.read_ids l.0 ∙ l.1));
    }

-- ---- what changes leave at an id

-- what the changes that name an id leave there
abbrev pub changed_by : ℕ → ℕ → List Change → Option BareInode → Option BareInode
changed_by number id [] before = before
changed_by number id (c ∷ cs) before = changed_by number id cs (cond (id_of c == id) (node_after number c before) before)

one_changed : (s number id : ℕ) (c : Change) (part : Part) → id % 64 ≡ s
    → fin.get (cond (is_own s c) (changed number part c) part) id ≡ cond (id_of c == id) (node_after number c (fin.get part id)) (fin.get part id)
one_changed s number id c part own = elim (number_tells (id_of c) id) [
  | inl e ↦
      ap (λ b. fin.get (cond b (changed number part c) part) id) (ap (λ i. i % 64 == s) e ∙ ap (λ r. r == s) own ∙ number_same s)
      ∙ get-with_node part (id_of c) id (node_after number c (fin.get part (id_of c)))
      ∙ ap (λ b. cond b (node_after number c (fin.get part (id_of c))) (fin.get part id)) (ap (λ i. eq_by_cmp nat_cmp i (id_of c)) (sym e) ∙ key_same nat_cmp nat_cmp_total nat_cmp-IsAntisymmetric (id_of c))
      ∙ ap (λ i. node_after number c (fin.get part i)) e
      ∙ sym (ap (λ b. cond b (node_after number c (fin.get part id)) (fin.get part id)) (ap (λ i. i == id) e ∙ number_same id))
  | inr other ↦ elsewhere other (is_own s c) ∙ sym (ap (λ b. cond b (node_after number c (fin.get part id)) (fin.get part id)) other)
]
  where
    not_it : (id_of c == id) ≡ false → id ≢ id_of c
    not_it other e = false≢true (sym other ∙ ap (λ i. i == id) (sym e) ∙ number_same id)

    elsewhere : (id_of c == id) ≡ false → (b : Bool) → fin.get (cond b (changed number part c) part) id ≡ fin.get part id
    elsewhere other false = refl
    elsewhere other true =
        get-with_node part (id_of c) id (node_after number c (fin.get part (id_of c)))
        ∙ ap (λ b. cond b (node_after number c (fin.get part (id_of c))) (fin.get part id)) (key_differs nat_cmp nat_cmp_total nat_cmp-IsAntisymmetric id (id_of c) (not_it other))

-- an id of the stripe has what its changes leave
get-applied : (s number id : ℕ) (cs : List Change) (part : Part) → id % 64 ≡ s → fin.get (applied s number cs part) id ≡ changed_by number id cs (fin.get part id)
get-applied s number id [] part own = refl
get-applied s number id (c ∷ cs) part own =
    get-applied s number id cs (cond (is_own s c) (changed number part c) part) own ∙ ap (changed_by number id cs) (one_changed s number id c part own)

at-applied_from : (from number : ℕ) (cs : List Change) (parts : Parts) (i : ℕ) → slice_get (applied_from from number cs parts) i ≡ option_map (applied (from + i) number cs) (slice_get parts i)
at-applied_from from number cs [] i = refl
at-applied_from from number cs (x ∷ xs) zero = ap (λ s. Some (applied s number cs x)) (let k : from ≡ from + 0 = omega arith in k)
at-applied_from from number cs (x ∷ xs) (suc i) =
    at-applied_from (suc from) number cs xs i ∙ ap (λ s. option_map (applied s number cs) (slice_get xs i)) (let k : suc from + i ≡ from + suc i = omega arith in k)

-- the part of each stripe with its changes
pub at-applied_all : (number : ℕ) (cs : List Change) (parts : Parts) (i : ℕ) → slice_get (applied_all number cs parts) i ≡ option_map (applied i number cs) (slice_get parts i)
at-applied_all number cs parts i = at-applied_from 0 number cs parts i ∙ ap (λ s. option_map (applied s number cs) (slice_get parts i)) (let k : 0 + i ≡ i = omega arith in k)

length-applied_from : (from number : ℕ) (cs : List Change) (parts : Parts) → length (applied_from from number cs parts) ≡ length parts
length-applied_from from number cs [] = refl
length-applied_from from number cs (x ∷ xs) = ap suc (length-applied_from (suc from) number cs xs)

-- ---- the parts after

some_of : {A B : Type 0} (f : A → B) (o : Option A) (y : B) → option_map f o ≡ Some y → (x : A) × (o ≡ Some x) × (f x ≡ y)
some_of f None y e = absurd (false≢true (ap is_some e))
some_of f (Some x) y e = (x, refl, same_Some (f x) y e)

-- Changes that leave at each id what the turns of the entry leave there give the parts after it.
pub changes_give_after : (parts : Parts) (e : Placed) (number : ℕ) (cs : List Change)
    → ((id : ℕ) → changed_by number id cs (inode_at parts id) ≡ turned_by number id (turns_on parts e) (inode_at parts id)) → applied_all number cs parts ≡ after parts e number
changes_give_after parts e number cs same =
    same_lists (applied_all number cs parts) (after parts e number)
    (length-applied_from 0 number cs parts ∙ sym (length-after number (turns_on parts e) parts))
    (λ i x y a b. one_part i x y (some_of (applied i number cs) (slice_get parts i) x (sym (at-applied_all number cs parts i) ∙ a)) (some_of (part_after i number (turns_on parts e)) (slice_get parts i) y (sym (at-after number (turns_on parts e) parts i) ∙ b)))
  where
    inside : (i id : ℕ) (p : Part) → slice_get parts i ≡ Some p → id % 64 ≡ i → inode_at parts id ≡ fin.get p id
    inside i id p e own = ap (λ o. option_and_then (λ (q : Part). fin.get q id) o) (ap (slice_get parts) own ∙ e)

    at_id : (i : ℕ) (p : Part) → slice_get parts i ≡ Some p → (id : ℕ) → (id % 64 ≡ i) ⊎ ((id % 64 == i) ≡ false)
        → fin.get (applied i number cs p) id ≡ fin.get (part_after i number (turns_on parts e) p) id
    at_id i p there id (inl own) =
        get-applied i number id cs p own ∙ ap (changed_by number id cs) (sym (inside i id p there own)) ∙ same id
        ∙ ap (turned_by number id (turns_on parts e)) (inside i id p there own) ∙ sym (get-part_after i number id (turns_on parts e) p own)
    at_id i p there id (inr other) =
        let differs : id % 64 ≢ i = λ k. false≢true (sym other ∙ (unsigned_Decides (id % 64) i).1 k) in
        stripes_are_apart i number id cs p differs ∙ sym (get-part_other i number id (turns_on parts e) p differs)

    one_part : (i : ℕ) (x y : Part) → ((p : Part) × (slice_get parts i ≡ Some p) × (applied i number cs p ≡ x)) → ((q : Part) × (slice_get parts i ≡ Some q) × (part_after i number (turns_on parts e) q ≡ y)) → x ≡ y
    one_part i x y p q =
        let one : p.0 ≡ q.0 = same_Some p.0 q.0 (sym p.1 ∙ q.1) in
        sym p.2
        ∙ fin.same_map nat_cmp_total nat_cmp-IsAntisymmetric (applied i number cs p.0) (part_after i number (turns_on parts e) p.0) (λ id. at_id i p.0 p.1 id (number_tells (id % 64) i))
        ∙ ap (part_after i number (turns_on parts e)) one ∙ q.2

-- such changes are the entry's work
pub after_is_work : (parts : Parts) (e : Placed) (cs : List Change) → ((number : ℕ) → applied_all number cs parts ≡ after parts e number) → Does cs parts e
after_is_work parts e cs gives stripe number part written there =
    ap (λ (ps : Parts). slice_get ps stripe) (sym (gives number)) ∙ at-applied_all number cs parts stripe ∙ ap (option_map (applied stripe number cs)) there

-- ---- ids that are drawn

next_at : (pass used many k id : ℕ) → slice_get (map (λ (i : NodeId). i.0) (next_ids pass used many)) k ≡ Some id → id ≡ fresh_id pass (used + k)
next_at pass used zero k id e = absurd (false≢true (ap is_some e))
next_at pass used (suc many) zero id e = sym (same_Some (fresh_id pass used) id e) ∙ ap (fresh_id pass) (let h : used ≡ used + 0 = omega arith in h)
next_at pass used (suc many) (suc k) id e = next_at pass (suc used) many k id e ∙ ap (fresh_id pass) (let h : suc used + k ≡ used + suc k = omega arith in h)

length-next_ids : (pass used many : ℕ) → length (next_ids pass used many) ≡ many
length-next_ids pass used zero = refl
length-next_ids pass used (suc many) = ap suc (length-next_ids pass (suc used) many)

row_rises : (pass used j k : ℕ) → fresh_id pass (used + j) ≡ fresh_id pass (used + k) → j ≡ k
row_rises pass used j k e = omega arith

-- ---- a draft

module _ (shown : Shown) (request : Request) (moment : ℕ) (fresh : Fresh) (parts : Parts) (t : Tree) (e : Placed)
    (possible : ArePossible shown fresh.pass fresh.used parts t) (of : IsEntryOf request moment fresh t e) where
  ids_drawn : drawn_ids e ≡ map (λ (i : NodeId). i.0) (next_ids fresh.pass fresh.used (length (new_paths t e.entry)))
  ids_drawn = ap (λ (ids : List NodeId). map (λ (i : NodeId). i.0) ids) of.draws

  drawn_at : (k id : ℕ) → slice_get (drawn_ids e) k ≡ Some id → id ≡ fresh_id fresh.pass (fresh.used + k)
  drawn_at k id h = next_at fresh.pass fresh.used (length (new_paths t e.entry)) k id (ap (λ (ids : List ℕ). slice_get ids k) (sym ids_drawn) ∙ h)

  -- an entry of the request draws ids that are free
  pub draws_rightly : DrawsRightly parts t e
  draws_rightly = record {
    as_many = ap (λ (ids : List NodeId). length ids) of.draws ∙ length-next_ids fresh.pass fresh.used (length (new_paths t e.entry));
    once = λ j k id a b. row_rises fresh.pass fresh.used j k (sym (drawn_at j id a) ∙ drawn_at k id b);
    free = λ k id h. ap (inode_at parts) (drawn_at k id h) ∙ possible.free (fresh.used + k) (let m : fresh.used ≤ fresh.used + k = omega arith in m);
  }

  -- what the entry does on the parts is what it does on the tree
  pub outcome_there : outcome_on parts e ≡ outcome t e.entry
  outcome_there = ap (λ (u : Tree). outcome u e.entry) possible.stands.shown

  -- What a draft owes: the reply, how many ids, the ids read and written, and at each id what the entry leaves there.
  pub of_step : (d : Draft) → IsSound request → d.reply ≡ (outcome t e.entry).reply → d.drawn ≡ length (new_paths t e.entry)
      → ((id : ℕ) → is_one_of id (numbers_of d.reads.items) ≡ is_one_of id (ids_read parts e)) → ((id : ℕ) → is_one_of id (numbers_of d.writes.items) ≡ is_one_of id (ids_written parts e))
      → ((number id : ℕ) → changed_by number id d.changes.items (inode_at parts id) ≡ turned_by number id (turns_on parts e) (inode_at parts id)) → IsOfStep d parts t e
  of_step d sound reply drawn read written leaves =
      let gives : (number : ℕ) → applied_all number d.changes.items parts ≡ after parts e number = λ number. changes_give_after parts e number d.changes.items (leaves number) in
      record {
        reply = reply;
        drawn = drawn;
        read_ids = read;
        written_ids = written;
        parts_after = gives;
        stands = λ number. subst (λ (ps : Parts). Stands ps (step t e.entry number).tree) (sym (gives number)) (after_stands parts t e number possible.stands (subst IsSound (sym of.asks) sound) draws_rightly);
        works = after_is_work parts e d.changes.items gives;
      }
