-- The stamps of nodes after a step, what a step leaves alone, and what a rename makes of the tree.
use Rattle.std.proofs.Common.{◌≡◌, ◌⊎◌, inl, inr, ℕ, Bool, true, false, cond, List, [], ◌++◌, Option, Some, None, IfSome, refl, ap, sym, subst, ◌∙◌}
use Rattle.std.proofs.lemmas.Bool.{cases_Bool}
use Rattle.std.proofs.lemmas.Option.{same_Some}
use Rattle.path_text.specs.Paths.{is_prefix}
use Rattle.namespace_model.specs.declared.op.Op.{Op}
use Rattle.namespace_model.specs.declared.op.Op.TheVariants as op
use Rattle.namespace_model.specs.declared.request.Entry.{Entry}
use Rattle.namespace_model.specs.Nodes.{Node}
use Rattle.namespace_model.specs.Trees.{Path, Tree, at, IsTree, IsDirectoryAt}
use Rattle.namespace_model.specs.Effects.{Put, put_by, moved_by, renamed}
use Rattle.namespace_model.specs.Outcomes.{Outcome, once}
use Rattle.namespace_model.specs.Locality.{Among}
use Rattle.namespace_model.specs.Shapes.{put_at, put_paths, IsShaped, CanMove, KeepsOthers, IsOutside}
use Rattle.namespace_model.specs.Stamps.{IsPutBy, IsRightPut, StampsRightly, HasRightStamp, HasStamp, HasSameStamp, newly_stamped, stamp_kept, followed, stamps}
use Rattle.namespace_model.specs.Sound.{IsSound}
use Rattle.namespace_model.specs.Step.{acts, outcome, step}
use Rattle.namespace_model.proofs.Prefixes.{behind_front}
use Rattle.namespace_model.proofs.StepLocality.{among_once}
use Rattle.namespace_model.proofs.Effected.{is_in, in_tells, put_or, moved_below, moved_other, at-renamed_to, at-renamed_from, at-renamed_other}
use Rattle.namespace_model.proofs.TreeKept.{put_found, middle, at-middle, apart_below}
use Rattle.namespace_model.proofs.StepShapes.{outcome_shaped}
use Rattle.namespace_model.proofs.ShapedEdits.{none_some}
use Rattle.namespace_model.proofs.StampedSteps.{StampsOf, create_filesystem_stamps, get_filesystem_stamps, set_filesystem_stamps, delete_filesystem_stamps, list_filesystems_stamps, list_paths_stamps, create_stamps, delete_stamps, rename_stamps, read_file_stamps, get_properties_stamps, get_access_stamps, check_access_stamps, append_stamps, flush_stamps, set_properties_stamps, set_access_stamps, set_access_recursive_stamps, act_on_lease_stamps}

acts_stamps : (t : Tree) → IsDirectoryAt t [] → (e : Entry) (asked : Op) → StampsOf t e asked (acts t e asked)
acts_stamps t root e (op.ListFilesystems prefix token max) = list_filesystems_stamps t root e prefix token max
acts_stamps t root e (op.CreateFilesystem path props) = create_filesystem_stamps t root e path props
acts_stamps t root e (op.GetFilesystem path) = get_filesystem_stamps t root e path
acts_stamps t root e (op.SetFilesystem path props) = set_filesystem_stamps t root e path props
acts_stamps t root e (op.DeleteFilesystem path) = delete_filesystem_stamps t root e path
acts_stamps t root e (op.List dir recursive token max) = list_paths_stamps t root e dir recursive token max
acts_stamps t root e (op.Create path kind permissions umask props) = create_stamps t root e path kind permissions umask props
acts_stamps t root e (op.Rename path source props) = rename_stamps t root e path source props
acts_stamps t root e (op.Read path range) = read_file_stamps t root e path range
acts_stamps t root e (op.GetProperties path status) = get_properties_stamps t root e path status
acts_stamps t root e (op.GetAccess path) = get_access_stamps t root e path
acts_stamps t root e (op.CheckAccess path want) = check_access_stamps t root e path want
acts_stamps t root e (op.Append path position flush retain action) = append_stamps t root e path position flush retain action
acts_stamps t root e (op.Flush path position retain) = flush_stamps t root e path position retain
acts_stamps t root e (op.SetProperties path props) = set_properties_stamps t root e path props
acts_stamps t root e (op.SetAccess path owner group permissions acl) = set_access_stamps t root e path owner group permissions acl
acts_stamps t root e (op.SetAccessRecursive path change token max force) = set_access_recursive_stamps t root e path change token max force
acts_stamps t root e (op.Lease path action) = act_on_lease_stamps t root e path action
acts_stamps t root e (op.Delete path recursive) = delete_stamps t root e path recursive
acts_stamps t root e (op.Refused code) = record { places = λ p h. absurd h; puts = λ p put found. absurd (none_some put found) }

place_once : (asked : Op) (fresh written : List Path) (p : Path) → IsPutBy asked fresh written p → IsPutBy asked fresh (once written) p
place_once (op.ListFilesystems prefix token max) fresh written p h = h
place_once (op.CreateFilesystem path props) fresh written p h = h
place_once (op.GetFilesystem path) fresh written p h = h
place_once (op.SetFilesystem path props) fresh written p h = h
place_once (op.DeleteFilesystem path) fresh written p h = h
place_once (op.List dir recursive token max) fresh written p h = h
place_once (op.Create path kind permissions umask props) fresh written p h = h
place_once (op.Rename path source props) fresh written p h = h
place_once (op.Read path range) fresh written p h = h
place_once (op.GetProperties path status) fresh written p h = h
place_once (op.GetAccess path) fresh written p h = h
place_once (op.CheckAccess path want) fresh written p h = h
place_once (op.Append path position flush retain action) fresh written p h = h
place_once (op.Flush path position retain) fresh written p h = h
place_once (op.SetProperties path props) fresh written p h = h
place_once (op.SetAccess path owner group permissions acl) fresh written p h = h
place_once (op.SetAccessRecursive path change token max force) fresh written p h = among_once p written h
place_once (op.Lease path action) fresh written p h = h
place_once (op.Delete path recursive) fresh written p h = h
place_once (op.Refused code) fresh written p h = h

pub outcome_stamps : (t : Tree) → IsDirectoryAt t [] → (e : Entry) → StampsRightly t e (outcome t e)
unfolding outcome
outcome_stamps t root e =
    let h = acts_stamps t root e e.request.op in
    record { places = λ p k. place_once e.request.op _ (acts t e e.request.op).written p (h.places p k); puts = h.puts }

-- ---- nodes after a step

module _ (t : Tree) (is : IsTree t) (e : Entry) (sound : IsSound e.request) (k : ℕ) where
  o : Outcome
  o = outcome t e

  shape : IsShaped t (outcome t e)
  shape = outcome_shaped t is e sound

  -- where a node of before the move comes from
  data Origin (p : Path) (y : Node) : Type 0 where
    put_here : IsPutBy e.request.op (outcome t e).fresh (outcome t e).written p → stamps e.request.op ≡ true → HasStamp e k y → Origin p y
    was_here : (x : Node) → at t p ≡ Some x → HasSameStamp x y → Origin p y

  stamp_number : (put : Put) → put.stamped ≡ true → (put_by k put).number ≡ k
  stamp_number put same = ap (λ b. (cond b (record put.node { number = k }) put.node).number) same

  stamp_moment : (put : Put) → (put_by k put).moment ≡ put.node.moment
  stamp_moment put = by_stamp put.stamped
    where
      by_stamp : (b : Bool) → (cond b (record put.node { number = k }) put.node).moment ≡ put.node.moment
      by_stamp true = refl
      by_stamp false = refl

  keep_number : (put : Put) → put.stamped ≡ false → (put_by k put).number ≡ put.node.number
  keep_number put same = ap (λ b. (cond b (record put.node { number = k }) put.node).number) same

  right_put : (p : Path) (put : Put) (b : Bool) → stamps e.request.op ≡ b → Among p (put_paths (outcome t e).effect) → IsRightPut b t e p put → Origin p (put_by k put)
  right_put p put true same there h =
      put_here ((outcome_stamps t is.root e).places p there) same (record { number_is = stamp_number put h.stamped; moment_is = stamp_moment put ∙ h.moment })
  right_put p put false same there h =
      was_here h.old h.there (record { number_is = keep_number put h.stamped ∙ h.number; moment_is = stamp_moment put ∙ h.moment })

  origin_if : (p : Path) (y : Node) (found : Option Put) → put_at p (outcome t e).effect ≡ found → put_or k found (cond (is_in p (outcome t e).effect.taken) None (at t p)) ≡ Some y → Origin p y
  origin_if p y (Some put) found there =
      subst (λ z. Origin p z) (same_Some (put_by k put) y there)
      (right_put p put (stamps e.request.op) refl (put_found p (outcome t e).effect.puts put found) ((outcome_stamps t is.root e).puts p put found))
  origin_if p y None found there = by_taken (is_in p (outcome t e).effect.taken) there
    where
      by_taken : (b : Bool) → ◌≡◌ {A = Option Node} (cond b None (at t p)) (Some y) → Origin p y
      by_taken true h = absurd (none_some y h)
      by_taken false h = was_here y h (record { number_is = refl; moment_is = refl })

  origin : (p : Path) (y : Node) → at (middle t is k (outcome t e) shape) p ≡ Some y → Origin p y
  origin p y there = origin_if p y (put_at p (outcome t e).effect) refl (sym (at-middle t is k (outcome t e) shape p) ∙ there)

  stamp_of : (p q : Path) (y : Node) → q ≡ followed (outcome t e).effect.move p → Origin p y → HasRightStamp t e (outcome t e) k q y
  stamp_of p q y place (put_here by stamping has) = newly_stamped p place by stamping has
  stamp_of p q y place (was_here x there has) = stamp_kept p x place there has

  right_if : (move : Option (Path × Path)) → (outcome t e).effect.move ≡ move → IfSome move (CanMove t (outcome t e).fresh (outcome t e).effect)
      → (q : Path) (y : Node) → at (moved_by move (middle t is k (outcome t e) shape)) q ≡ Some y → HasRightStamp t e (outcome t e) k q y
  right_if None move can q y there = stamp_of q q y (sym (ap (λ m. followed m q) move)) (origin q y there)
  right_if (Some m) move can q y there = by_place (cases_Bool (is_prefix m.1 q))
    where
      by_place : (is_prefix m.1 q ≡ true) ⊎ (is_prefix m.1 q ≡ false) → HasRightStamp t e (outcome t e) k q y
      by_place (inl under) =
          let rest = behind_front m.1 q under in
          stamp_of (m.0 ++ rest.0) q y (rest.1 ∙ sym (moved_below m.0 m.1 rest.0) ∙ sym (ap (λ x. followed x (m.0 ++ rest.0)) move))
          (origin (m.0 ++ rest.0) y (sym (ap (at (renamed (middle t is k (outcome t e) shape) m.0 m.1)) rest.1 ∙ at-renamed_to (middle t is k (outcome t e) shape) m.0 m.1 rest.0 (apart_below m.0 m.1 rest.0 can.source_apart can.destination_apart)) ∙ there))
      by_place (inr out) = by_source (cases_Bool (is_prefix m.0 q))
        where
          by_source : (is_prefix m.0 q ≡ true) ⊎ (is_prefix m.0 q ≡ false) → HasRightStamp t e (outcome t e) k q y
          by_source (inl under) = absurd (none_some y (sym (at-renamed_from (middle t is k (outcome t e) shape) m.0 m.1 q out under) ∙ there))
          by_source (inr apart) =
              stamp_of q q y (sym (moved_other m.0 m.1 q apart) ∙ sym (ap (λ x. followed x q) move)) (origin q y (sym (at-renamed_other (middle t is k (outcome t e) shape) m.0 m.1 q out apart) ∙ there))

  pub stamps_after : (q : Path) (y : Node) → at (step t e k).tree q ≡ Some y → HasRightStamp t e (outcome t e) k q y
  stamps_after = right_if (outcome t e).effect.move refl shape.growth.moved

  -- ---- what stays

  not_put : (q : Path) (found : Option Put) → put_at q (outcome t e).effect ≡ found → (Among q (outcome t e).written → ⊥) → put_at q (outcome t e).effect ≡ None
  not_put q None found out = found
  not_put q (Some put) found out = absurd (out (shape.writes.put_too q (put_found q (outcome t e).effect.puts put found)))

  not_taken : (q : Path) → (Among q (outcome t e).written → ⊥) → is_in q (outcome t e).effect.taken ≡ false
  not_taken q out = elim (in_tells q (outcome t e).effect.taken) [ inl h ↦ absurd (out (shape.writes.taken_too q h)) | inr h ↦ h ]

  middle_keeps : (q : Path) → (Among q (outcome t e).written → ⊥) → at (middle t is k (outcome t e) shape) q ≡ at t q
  middle_keeps q out =
      at-middle t is k (outcome t e) shape q
      ∙ ap (λ found. put_or k found (cond (is_in q (outcome t e).effect.taken) None (at t q))) (not_put q (put_at q (outcome t e).effect) refl out)
      ∙ ap (λ b. cond b None (at t q)) (not_taken q out)

  others_if : (move : Option (Path × Path)) (q : Path) → (Among q (outcome t e).written → ⊥) → IsOutside move q → at (moved_by move (middle t is k (outcome t e) shape)) q ≡ at t q
  others_if None q out apart = middle_keeps q out
  others_if (Some m) q out apart = at-renamed_other (middle t is k (outcome t e) shape) m.0 m.1 q apart.1 apart.0 ∙ middle_keeps q out

  pub others_stay : KeepsOthers t (outcome t e) (step t e k).tree
  others_stay q out new apart = others_if (outcome t e).effect.move q out apart
