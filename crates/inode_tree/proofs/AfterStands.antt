-- The parts after an entry stand for the tree of its step.
use Rattle.std.proofs.Common.{◌≡◌, ◌≢◌, ◌⊎◌, inl, inr, ℕ, ◌+◌, ◌%◌, ◌==◌, true, false, cond, bytes_eq, List, [], ◌∷◌, ◌++◌, length, drop, zip, nat_lt, slice_get, Option, Some, None, option_map, IfSome, is_some, IsSome, refl, ap, sym, subst, ◌∙◌, append_assoc, append-nil, arith}
use Rattle.std.proofs.lemmas.Bool.{false≢true, cases_Bool}
use Rattle.std.proofs.lemmas.Option.{same_Some}
use Rattle.std.proofs.lemmas.Slice.Eq.{bytes_eq-Decides}
use Rattle.std.proofs.lemmas.Bool.Decides.{nat_tests}
use Rattle.std.proofs.lemmas.List.{length-map}
use Rattle.std.specs.Ordering.{eq_by_cmp}
use Rattle.std.specs.Cmp.{unsigned_Decides}
use Rattle.std.specs.FinMap as fin
use Rattle.path_text.specs.Paths.{path_cmp, is_prefix}
use Rattle.namespace_model.specs.Trees.{Path, Tree, at, IsDirectory, IsLaid, IsTree}
use Rattle.namespace_model.specs.Effects.{moved_by, renamed, effected}
use Rattle.namespace_model.specs.Outcomes.{Outcome}
use Rattle.namespace_model.specs.Shapes.{IsShaped, CanMove, WritesMove}
use Rattle.namespace_model.specs.Sound.{IsSound}
use Rattle.namespace_model.specs.Step.{outcome, step, acts}
use Rattle.namespace_model.proofs.Alikeness.{nothing_below}
use Rattle.namespace_model.proofs.Prefixes.{both, together, length_append, behind_front, front_of_append, front_of_itself}
use Rattle.namespace_model.proofs.Effected.{drop_front, same_behind, at-renamed_to, at-renamed_from, at-renamed_other}
use Rattle.namespace_model.proofs.TreeKept.{middle, middle_is_tree, destination_free, apart_below}
use Rattle.namespace_model.proofs.StepShapes.{outcome_shaped, step_is_tree}
use Rattle.namespace_model.proofs.Lookups.{path_tells, same_path}
use Rattle.inode_tree.specs.declared.placed.Placed.{Placed}
use Rattle.inode_tree.specs.declared.id.NodeId.{NodeId}
use Rattle.inode_tree.specs.Changes.{Part}
use Rattle.inode_tree.specs.Parts.{Parts, inode_at}
use Rattle.inode_tree.specs.Stands.{AreStriped, Stands}
use Rattle.inode_tree.specs.Index.{Places, IsIndex}
use Rattle.inode_tree.specs.After.{Turn, move_links, relinks, turns, turns_by, part_after, parts_after, known, drawn_ids, outcome_on, after}
use Rattle.inode_tree.specs.Drawing.{DrawsRightly}
use Rattle.inode_tree.proofs.FrameLemmas.{at-after}
use Rattle.inode_tree.proofs.IndexLemmas.{stands_from_index}
use Rattle.inode_tree.proofs.LinkLemmas.{last_link, path_differs}
use Rattle.inode_tree.proofs.TurnLemmas.{length-after, get-part_other, number_tells}
use Rattle.inode_tree.proofs.PairLemmas.{IsOnce, once_is_once}
use Rattle.inode_tree.proofs.FreshOnce.{fresh_once}
use Rattle.inode_tree.proofs.MiddleParts.{IsMiddle, mid, mid_source, is_middle}

none_some : {A : Type 0} (x : A) → ◌≡◌ {A = Option A} None (Some x) → ⊥
none_some x e = false≢true (ap is_some e)

-- ---- each part keeps ids of its own stripe

pub after_striped : (number : ℕ) (ts : List Turn) (parts : Parts) → AreStriped parts → AreStriped (parts_after 0 number ts parts)
after_striped number ts parts striped = record {
  long = length-after number ts parts ∙ striped.long;
  own = λ stripe id part e h. by_part stripe id part h (slice_get parts stripe) refl (sym (at-after number ts parts stripe) ∙ e);
}
  where
    elsewhere : (stripe id : ℕ) (before : Part) → slice_get parts stripe ≡ Some before → (id % 64 ≡ stripe) ⊎ ((id % 64 == stripe) ≡ false)
        → IsSome (fin.get (part_after stripe number ts before) id) → id % 64 ≡ stripe
    elsewhere stripe id before e (inl own) h = own
    elsewhere stripe id before e (inr other) h =
        striped.own stripe id before e
        (ap is_some (sym (get-part_other stripe number id ts before (λ same. false≢true (sym other ∙ (unsigned_Decides (id % 64) stripe).1 same)))) ∙ h)

    by_part : (stripe id : ℕ) (part : Part) → IsSome (fin.get part id) → (before : Option Part) → slice_get parts stripe ≡ before → option_map (part_after stripe number ts) before ≡ Some part → id % 64 ≡ stripe
    by_part stripe id part h None e f = absurd (none_some part f)
    by_part stripe id part h (Some before) e f =
        elsewhere stripe id before e (number_tells (id % 64) stripe) (subst (λ (x : Part). IsSome (fin.get x id)) (sym (same_Some (part_after stripe number ts before) part f)) h)

-- ---- nothing is below what isn't there

laid_below : (new : Parts) (t : Tree) (ids : Path → Option ℕ) → IsLaid t → ((p : Path) (id : ℕ) → ids p ≡ Some id → Places new t ids p id) → ((p : Path) → ids p ≡ None → at t p ≡ None)
    → (p : Path) (n : List ℕ) → ids p ≡ None → ids (p ++ n ∷ []) ≡ None
laid_below new t ids laid places nothing p n e = by_id (ids (p ++ n ∷ [])) refl
  where
    by_id : (i : Option ℕ) → ids (p ++ n ∷ []) ≡ i → ids (p ++ n ∷ []) ≡ None
    by_id None f = f
    by_id (Some id) f = absurd (subst IsDirectory (nothing p e) (laid p n (ap is_some (places (p ++ n ∷ []) id f).shows)))

-- ---- without a move

still_index : (new : Parts) (t : Tree) (ids : Path → Option ℕ) → IsMiddle new t ids [] → IsLaid t → IsIndex new t ids
still_index new t ids m laid = record {
  account = m.account;
  places = places;
  nothing = m.nothing;
  below_nothing = laid_below new t ids laid places m.nothing;
  once = m.once;
  kept = m.kept;
}
  where
    places : (p : Path) (id : ℕ) → ids p ≡ Some id → Places new t ids p id
    places p id e =
        let seat = m.places p id e in
        record { inode = seat.inode; found = seat.found; kind = seat.kind; shows = seat.shows; links = seat.names }

-- ---- with a move

-- a path without its last name has the same front, unless it ends with it
end_or_front : (b q : Path) (n : List ℕ) → is_prefix b (q ++ n ∷ []) ≡ true → (q ++ n ∷ [] ≡ b) ⊎ (is_prefix b q ≡ true)
end_or_front [] q n e = inr refl
end_or_front (m ∷ []) [] n e = inl (ap (λ k. k ∷ []) (sym ((bytes_eq-Decides m n).0 (both _ _ e).0)))
end_or_front (m ∷ k ∷ b) [] n e = absurd (false≢true (both (bytes_eq m n) false e).1)
end_or_front (m ∷ b) (k ∷ q) n e =
    let parts = both (bytes_eq m k) (is_prefix b (q ++ n ∷ [])) e in
    elim (end_or_front b q n parts.1) [
      | inl h ↦ inl (ap (λ z. z ∷ (q ++ n ∷ [])) (sym ((bytes_eq-Decides m k).0 parts.0)) ∙ ap (λ p. m ∷ p) h)
      | inr h ↦ inr (together parts.0 h)
    ]

longer_than : (a r : Path) (n : List ℕ) → (a ++ r) ++ n ∷ [] ≢ a
longer_than a r n e =
    let long : length a ≡ length (a ++ r) + 1 = sym (ap (λ (p : Path). length p) e) ∙ length_append (a ++ r) (n ∷ []) in
    let front : length (a ++ r) ≡ length a + length r = length_append a r in
    absurd (omega arith)

module _ (new : Parts) (u : Tree) (is : IsTree u) (ids : Path → Option ℕ) (a b : Path) (source : ℕ) (m : IsMiddle new u ids ((a, None) ∷ (b, Some source) ∷ []))
    (at_source : ids a ≡ Some source) (source_apart : is_prefix a b ≡ false) (destination_apart : is_prefix b a ≡ false) (free : at u b ≡ None) (laid : IsLaid (renamed u a b)) where
  -- the ids after the move
  abbrev ids_moved : Path → Option ℕ
  ids_moved q = cond (is_prefix b q) (ids (a ++ drop (length b) q)) (cond (is_prefix a q) None (ids q))

  moved_to : (r : Path) → ids_moved (b ++ r) ≡ ids (a ++ r)
  moved_to r =
      ap (λ t. cond t (ids (a ++ drop (length b) (b ++ r))) (cond (is_prefix a (b ++ r)) None (ids (b ++ r)))) (front_of_append b r)
      ∙ ap (λ s. ids (a ++ s)) (drop_front b r)

  moved_from : (q : Path) → is_prefix b q ≡ false → is_prefix a q ≡ true → ids_moved q ≡ None
  moved_from q out under =
      ap (λ t. cond t (ids (a ++ drop (length b) q)) (cond (is_prefix a q) None (ids q))) out ∙ ap (λ t. cond t None (ids q)) under

  moved_other : (q : Path) → is_prefix b q ≡ false → is_prefix a q ≡ false → ids_moved q ≡ ids q
  moved_other q out other =
      ap (λ t. cond t (ids (a ++ drop (length b) q)) (cond (is_prefix a q) None (ids q))) out ∙ ap (λ t. cond t None (ids q)) other

  -- where a path stands before the move
  data Stood (q : Path) : Type 0 where
    below : (r : Path) → q ≡ b ++ r → Stood q
    gone : is_prefix b q ≡ false → is_prefix a q ≡ true → Stood q
    outside : is_prefix b q ≡ false → is_prefix a q ≡ false → Stood q

  stood : (q : Path) → Stood q
  stood q = elim (cases_Bool (is_prefix b q)) [
    | inl under ↦ let rest = behind_front b q under in below rest.0 rest.1
    | inr out ↦ elim (cases_Bool (is_prefix a q)) [ inl under ↦ gone out under | inr other ↦ outside out other ]
  ]

  apart : (r : Path) → is_prefix b (a ++ r) ≡ false
  apart r = apart_below a b r source_apart destination_apart

  not_destination : (p : Path) → is_prefix a p ≡ true → p ≢ b
  not_destination p under e = false≢true (sym source_apart ∙ ap (is_prefix a) (sym e) ∙ under)

  -- of what is neither the source nor the destination nothing is said
  unsaid : (q : Path) (before : Option ℕ) → q ≢ a → q ≢ b → last_link ((a, None) ∷ (b, Some source) ∷ []) q before ≡ before
  unsaid q before not_a not_b =
      ap (λ t. cond (eq_by_cmp path_cmp q b) (Some source) (cond t None before)) (path_differs q a not_a) ∙ ap (λ t. cond t (Some source) before) (path_differs q b not_b)

  names_below : (r : Path) (n : List ℕ) → last_link ((a, None) ∷ (b, Some source) ∷ []) ((a ++ r) ++ n ∷ []) (ids ((a ++ r) ++ n ∷ [])) ≡ ids_moved ((b ++ r) ++ n ∷ [])
  names_below r n =
      unsaid ((a ++ r) ++ n ∷ []) (ids ((a ++ r) ++ n ∷ [])) (longer_than a r n)
      (not_destination ((a ++ r) ++ n ∷ []) (subst (λ p. is_prefix a p ≡ true) (sym (append_assoc a r (n ∷ []))) (front_of_append a (r ++ n ∷ []))))
      ∙ ap ids (append_assoc a r (n ∷ [])) ∙ sym (moved_to (r ++ n ∷ [])) ∙ ap ids_moved (sym (append_assoc b r (n ∷ [])))

  at_destination : ids_moved b ≡ Some source
  at_destination = ap ids_moved (sym (append-nil b)) ∙ moved_to [] ∙ ap ids (append-nil a) ∙ at_source

  names_outside : (q : Path) (n : List ℕ) → is_prefix b q ≡ false → is_prefix a q ≡ false
      → last_link ((a, None) ∷ (b, Some source) ∷ []) (q ++ n ∷ []) (ids (q ++ n ∷ [])) ≡ ids_moved (q ++ n ∷ [])
  names_outside q n out other = by_destination (path_tells (q ++ n ∷ []) b) (path_tells (q ++ n ∷ []) a)
    where
      differs : (x : Path) → eq_by_cmp path_cmp (q ++ n ∷ []) x ≡ false → q ++ n ∷ [] ≢ x
      differs x h e = false≢true (sym h ∙ ap (λ y. eq_by_cmp path_cmp (q ++ n ∷ []) y) (sym e) ∙ same_path (q ++ n ∷ []))

      still_out : (x : Path) → is_prefix x q ≡ false → eq_by_cmp path_cmp (q ++ n ∷ []) x ≡ false → is_prefix x (q ++ n ∷ []) ≡ false
      still_out x away h = elim (cases_Bool (is_prefix x (q ++ n ∷ []))) [
        | inl under ↦ elim (end_or_front x q n under) [ inl e ↦ absurd (differs x h e) | inr k ↦ absurd (false≢true (sym away ∙ k)) ]
        | inr k ↦ k
      ]

      by_destination : (q ++ n ∷ [] ≡ b) ⊎ (eq_by_cmp path_cmp (q ++ n ∷ []) b ≡ false) → (q ++ n ∷ [] ≡ a) ⊎ (eq_by_cmp path_cmp (q ++ n ∷ []) a ≡ false)
          → last_link ((a, None) ∷ (b, Some source) ∷ []) (q ++ n ∷ []) (ids (q ++ n ∷ [])) ≡ ids_moved (q ++ n ∷ [])
      by_destination (inl e) any =
          ap (λ t. cond t (Some source) (cond (eq_by_cmp path_cmp (q ++ n ∷ []) a) None (ids (q ++ n ∷ [])))) (ap (λ x. eq_by_cmp path_cmp (q ++ n ∷ []) x) (sym e) ∙ same_path (q ++ n ∷ []))
          ∙ sym (ap ids_moved e ∙ at_destination)
      by_destination (inr h) (inl e) =
          ap (λ t. cond t (Some source) (cond (eq_by_cmp path_cmp (q ++ n ∷ []) a) None (ids (q ++ n ∷ [])))) h
          ∙ ap (λ t. cond t None (ids (q ++ n ∷ []))) (ap (λ x. eq_by_cmp path_cmp (q ++ n ∷ []) x) (sym e) ∙ same_path (q ++ n ∷ []))
          ∙ sym (ap ids_moved e ∙ moved_from a destination_apart (front_of_itself a))
      by_destination (inr h) (inr k) =
          unsaid (q ++ n ∷ []) (ids (q ++ n ∷ [])) (differs a k) (differs b h)
          ∙ sym (moved_other (q ++ n ∷ []) (still_out b out h) (still_out a other k))

  moved_places : (q : Path) (id : ℕ) → ids_moved q ≡ Some id → Places new (renamed u a b) ids_moved q id
  moved_places q id e = by_stood (stood q)
    where
      by_stood : Stood q → Places new (renamed u a b) ids_moved q id
      by_stood (below r is_q) =
          let seat = m.places (a ++ r) id (sym (moved_to r) ∙ ap ids_moved (sym is_q) ∙ e) in
          record {
            inode = seat.inode;
            found = seat.found;
            kind = seat.kind;
            shows = ap (at (renamed u a b)) is_q ∙ at-renamed_to u a b r (apart r) ∙ seat.shows;
            links = λ n. seat.names n ∙ names_below r n ∙ ap (λ p. ids_moved (p ++ n ∷ [])) (sym is_q);
          }
      by_stood (gone out under) = absurd (none_some id (sym (moved_from q out under) ∙ e))
      by_stood (outside out other) =
          let seat = m.places q id (sym (moved_other q out other) ∙ e) in
          record {
            inode = seat.inode;
            found = seat.found;
            kind = seat.kind;
            shows = at-renamed_other u a b q out other ∙ seat.shows;
            links = λ n. seat.names n ∙ names_outside q n out other;
          }

  moved_nothing : (q : Path) → ids_moved q ≡ None → at (renamed u a b) q ≡ None
  moved_nothing q e = by_stood (stood q)
    where
      by_stood : Stood q → at (renamed u a b) q ≡ None
      by_stood (below r is_q) =
          ap (at (renamed u a b)) is_q ∙ at-renamed_to u a b r (apart r) ∙ m.nothing (a ++ r) (sym (moved_to r) ∙ ap ids_moved (sym is_q) ∙ e)
      by_stood (gone out under) = at-renamed_from u a b q out under
      by_stood (outside out other) = at-renamed_other u a b q out other ∙ m.nothing q (sym (moved_other q out other) ∙ e)

  moved_once : (p q : Path) (id : ℕ) → ids_moved p ≡ Some id → ids_moved q ≡ Some id → p ≡ q
  moved_once p q id e f = by_stood (stood p) (stood q)
    where
      by_stood : Stood p → Stood q → p ≡ q
      by_stood (gone out under) any = absurd (none_some id (sym (moved_from p out under) ∙ e))
      by_stood (below r is_p) (gone out under) = absurd (none_some id (sym (moved_from q out under) ∙ f))
      by_stood (outside out other) (gone off under) = absurd (none_some id (sym (moved_from q off under) ∙ f))
      by_stood (below r is_p) (below s is_q) =
          is_p ∙ ap (λ x. b ++ x) (same_behind a r s (m.once (a ++ r) (a ++ s) id (sym (moved_to r) ∙ ap ids_moved (sym is_p) ∙ e) (sym (moved_to s) ∙ ap ids_moved (sym is_q) ∙ f))) ∙ sym is_q
      by_stood (below r is_p) (outside out other) =
          absurd (false≢true (sym other ∙ ap (is_prefix a) (sym (m.once (a ++ r) q id (sym (moved_to r) ∙ ap ids_moved (sym is_p) ∙ e) (sym (moved_other q out other) ∙ f))) ∙ front_of_append a r))
      by_stood (outside out other) (below r is_q) =
          absurd (false≢true (sym other ∙ ap (is_prefix a) (sym (m.once (a ++ r) p id (sym (moved_to r) ∙ ap ids_moved (sym is_q) ∙ f) (sym (moved_other p out other) ∙ e))) ∙ front_of_append a r))
      by_stood (outside out other) (outside off others) = m.once p q id (sym (moved_other p out other) ∙ e) (sym (moved_other q off others) ∙ f)

  -- nothing was at the destination nor below it
  none_below : (r : Path) (id : ℕ) → ids (b ++ r) ≡ Some id → ⊥
  none_below r id e = by_rest r (ap is_some (m.places (b ++ r) id e).shows)
    where
      by_rest : (r : Path) → is_some (at u (b ++ r)) ≡ true → ⊥
      by_rest [] h = false≢true (sym (ap is_some free) ∙ ap (λ p. is_some (at u p)) (sym (append-nil b)) ∙ h)
      by_rest (n ∷ r) h = false≢true (sym (nothing_below u is.parents b n r (ap is_some free)) ∙ h)

  moved_kept : (id : ℕ) → IsSome (inode_at new id) → (p : Path) × (ids_moved p ≡ Some id)
  moved_kept id h =
      let reached = m.kept id h in
      elim (cases_Bool (is_prefix a reached.0)) [
        | inl under ↦
            let rest = behind_front a reached.0 under in
            (b ++ rest.0, moved_to rest.0 ∙ ap ids (sym rest.1) ∙ reached.1)
        | inr other ↦ elim (cases_Bool (is_prefix b reached.0)) [
          | inl under ↦ let rest = behind_front b reached.0 under in absurd (none_below rest.0 id (ap ids (sym rest.1) ∙ reached.1))
          | inr out ↦ (reached.0, moved_other reached.0 out other ∙ reached.1)
        ]
      ]

  moved_account : ids_moved [] ≡ Some 0
  moved_account = moved_other [] (no_root b a destination_apart) (no_root a b source_apart) ∙ m.account
    where
      no_root : (x y : Path) → is_prefix x y ≡ false → is_prefix x [] ≡ false
      no_root [] y e = absurd (false≢true (sym e))
      no_root (n ∷ x) y e = refl

  moved_index : IsIndex new (renamed u a b) ids_moved
  moved_index = record {
    account = moved_account;
    places = moved_places;
    nothing = moved_nothing;
    below_nothing = laid_below new (renamed u a b) ids_moved laid moved_places moved_nothing;
    once = moved_once;
    kept = moved_kept;
  }

-- ---- an effect

module _ (parts : Parts) (t : Tree) (stands : Stands parts t) (number : ℕ) (o : Outcome) (shape : IsShaped t o) (written_once : IsOnce o.written) (fresh_once : IsOnce o.fresh)
    (ids : List ℕ) (as_many : length ids ≡ length o.fresh) (ids_once : (j k id : ℕ) → slice_get ids j ≡ Some id → slice_get ids k ≡ Some id → j ≡ k)
    (free : (k id : ℕ) → slice_get ids k ≡ Some id → inode_at parts id ≡ None) (final : IsTree (effected number o.effect t)) where
  abbrev new : Parts
  new = parts_after 0 number (turns o.effect (relinks o.effect (known parts o.written) (zip o.fresh ids)) (known parts o.written) (zip o.fresh ids)) parts

  abbrev before_move : Path → Option ℕ
  before_move = mid parts t stands number o shape written_once fresh_once ids as_many ids_once free

  abbrev tree : Tree
  tree = middle t stands.tree number o shape

  -- an index of the parts after the effect for the tree after it
  pub effect_index : (ids : Path → Option ℕ) × IsIndex new (effected number o.effect t) ids
  effect_index = by_move o.effect.move shape.growth.moved shape.writes.moved (is_middle parts t stands number o shape written_once fresh_once ids as_many ids_once free stands.tree) final.parents
    where
      by_move : (move : Option (Path × Path)) → IfSome move (CanMove t o.fresh o.effect) → IfSome move (WritesMove o.written) → IsMiddle new tree before_move (move_links move (known parts o.written)) → IsLaid (moved_by move tree)
          → (ids : Path → Option ℕ) × IsIndex new (moved_by move tree) ids
      by_move None can w m laid = (before_move, still_index new tree before_move m laid)
      by_move (Some s) can w m laid =
          let source = mid_source parts t stands number o shape written_once fresh_once ids as_many ids_once free stands.tree s can w in (
            ids_moved new tree (middle_is_tree t stands.tree number o shape) before_move s.0 s.1 source.0 (subst (λ i. IsMiddle new tree before_move ((s.0, None) ∷ (s.1, i) ∷ [])) source.1 m) source.2 can.source_apart can.destination_apart (destination_free t stands.tree number o shape s can) laid,
            moved_index new tree (middle_is_tree t stands.tree number o shape) before_move s.0 s.1 source.0 (subst (λ i. IsMiddle new tree before_move ((s.0, None) ∷ (s.1, i) ∷ [])) source.1 m) source.2 can.source_apart can.destination_apart (destination_free t stands.tree number o shape s can) laid,
          )

  pub effect_stands : Stands new (effected number o.effect t)
  effect_stands = let index = effect_index in stands_from_index new (effected number o.effect t) index.0 index.1 (after_striped number _ parts stands.striped) final

-- ---- an entry

outcome_written_once : (t : Tree) (e : Placed) → IsOnce (outcome t e.entry).written
unfolding outcome
outcome_written_once t e = once_is_once (acts t e.entry e.entry.request.op).written

-- where the entry draws as many ids as it makes nodes, the parts after it are those with the turns of its effect
after_by_turns : (parts : Parts) (e : Placed) (number : ℕ) (o : Outcome) → outcome_on parts e ≡ o → length (drawn_ids e) ≡ length o.fresh
    → after parts e number ≡ parts_after 0 number (turns o.effect (relinks o.effect (known parts o.written) (zip o.fresh (drawn_ids e))) (known parts o.written) (zip o.fresh (drawn_ids e))) parts
after_by_turns parts e number o same many =
    ap (λ (x : Outcome). parts_after 0 number (turns_by x (known parts x.written) (drawn_ids e)) parts) same
    ∙ ap (λ b. parts_after 0 number (cond b [] (turns o.effect (relinks o.effect (known parts o.written) (zip o.fresh (drawn_ids e))) (known parts o.written) (zip o.fresh (drawn_ids e)))) parts) (not_fewer (length (drawn_ids e)) (length o.fresh) many)
  where
    not_fewer : (a b : ℕ) → a ≡ b → nat_lt a b ≡ false
    not_fewer a b e = grind (arith, nat_tests)

pub after_stands : (parts : Parts) (t : Tree) (e : Placed) (number : ℕ) → Stands parts t → IsSound e.entry.request → DrawsRightly parts t e → Stands (after parts e number) (step t e.entry number).tree
after_stands parts t e number stands sound draws =
    let o : Outcome = outcome t e.entry in
    let same : outcome_on parts e ≡ o = ap (λ (u : Tree). outcome u e.entry) stands.shown in
    let many : length (drawn_ids e) ≡ length o.fresh = length-map e.ids (λ (id : NodeId). id.0) ∙ draws.as_many in
    subst (λ (ps : Parts). Stands ps (step t e.entry number).tree) (sym (after_by_turns parts e number o same many))
    (effect_stands parts t stands number o (outcome_shaped t stands.tree e.entry sound) (outcome_written_once t e) (fresh_once t stands.tree e.entry) (drawn_ids e) many draws.once draws.free
    (step_is_tree t stands.tree e.entry sound number))
