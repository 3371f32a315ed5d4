-- A rename moves its source, and leaves every other path as it was.
use Rattle.std.proofs.Common.{◌≡◌, ◌⊎◌, inl, inr, ℕ, Bool, true, false, cond, not, ◌&&◌, List, [], ◌∷◌, ◌++◌, length, suc, ◌+◌, Option, Some, None, is_some, IfSome, unwrap_or, Result, Ok, Err, refl, ap, sym, subst, ◌∙◌, arith}
use Rattle.std.proofs.lemmas.Bool.{false≢true}
use Rattle.std.proofs.lemmas.List.{append-nil}
use Rattle.std.specs.Ordering.{eq_by_cmp}
use Rattle.path_text.specs.Paths.{path_cmp, is_prefix}
use Rattle.namespace_model.specs.declared.code.Code.{Code}
use Rattle.namespace_model.specs.declared.code.Code.TheVariants as code
use Rattle.namespace_model.specs.declared.op.Op.TheVariants as op
use Rattle.namespace_model.specs.declared.reply.Reply.{Reply}
use Rattle.namespace_model.specs.declared.denied.Refusal.{Refusal}
use Rattle.namespace_model.specs.declared.denied.Rule.{Rule}
use Rattle.head_text.specs.declared.conditions.Unmet.{Unmet}
use Rattle.lease_state.specs.declared.lease.LeaseFault.{LeaseFault}
use Rattle.namespace_model.specs.declared.request.Entry.{Entry}
use Rattle.namespace_model.specs.Nodes.{Node, is_directory, kind_of, has_kind}
use Rattle.namespace_model.specs.Trees.{Path, Tree, at, node_at, parent, subtree, is_bare, IsTree}
use Rattle.namespace_model.specs.Effects.{Effect, stamp, renamed, effected, put_all, take_all}
use Rattle.namespace_model.specs.Outcomes.{Outcome, reading, refused, unless, noted}
use Rattle.namespace_model.specs.Refusals.{caller_of, lacks, is_guarded, exists_already, is_unmet, is_unmet_without, lease_refuses, refuse_if, denied_by, deny_unless, unmet_for_change, refused_by_lease}
use Rattle.namespace_model.specs.Walks.{walk, ended, missing_below, missing_code}
use Rattle.namespace_model.specs.Ways.{Way, reached, missing, blocked, closed, way_of, read_on}
use Rattle.namespace_model.specs.Locality.{Among}
use Rattle.namespace_model.specs.Rename.{Moving, rename, rename_out, rename_node, rename_into, rename_over, rename_new, fitted, shifted, grows, some_too_long}
use Rattle.namespace_model.specs.Renames.{IsRenamed, renamed_node}
use Rattle.namespace_model.specs.Sound.{IsSound, IsOperation, CanBeMoved, IsBelowRoot}
use Rattle.namespace_model.specs.Shapes.{CanMove}
use Rattle.namespace_model.specs.Step.{outcome, step, acts, closing}
use Rattle.namespace_model.proofs.Lookups.{path_tells, same_path}
use Rattle.namespace_model.proofs.Prefixes.{front_of_append, front_of_itself, length_append}
use Rattle.namespace_model.proofs.Effected.{is_in, in_tells, put_or, at-take_all, at-put_all, at-renamed_to, at-renamed_from, at-renamed_other}
use Rattle.namespace_model.proofs.TreeKept.{apart_below}
use Rattle.namespace_model.proofs.StepShapes.{outcome_shaped}

-- a rename that is not refused shifts its source, and takes away its destination alone
record IsShift (t : Tree) (e : Entry) (m : Moving) (o : Outcome) : Type 0 where
  node : Node
  replaced : List Path
  there : at t m.source ≡ Some node
  only : (p : Path) → Among p replaced → p ≡ m.path
  effect : o.effect ≡ (shifted e m node replaced).effect

-- ---- each refusal has a code

abbrev HasCode : Option Reply → Type 0
HasCode x = IfSome x (λ reply. is_some reply.code ≡ true)

lacks_coded : (p : Path) (want : ℕ) (r : Result Unit Refusal) → HasCode (denied_by p want r)
lacks_coded p want (Ok allowed) = tt
lacks_coded p want (Err r) = refl

deny_coded : (b : Bool) (r : Rule) (p : Path) → HasCode (deny_unless b r p)
deny_coded true r p = tt
deny_coded false r p = refl

refuse_coded : (b : Bool) (c : Code) → HasCode (refuse_if b c)
refuse_coded true c = refl
refuse_coded false c = tt

unmet_coded : (r : Result Unit Unmet) → HasCode (unmet_for_change r)
unmet_coded (Ok met) = tt
unmet_coded (Err part) = refl

lease_coded : (r : Result Unit LeaseFault) → HasCode (refused_by_lease r)
lease_coded (Ok allowed) = tt
lease_coded (Err f) = refl

module _ (t : Tree) (e : Entry) (m : Moving) where
  -- it is refused, or it shifts
  P : Outcome → Type 0
  P o = (is_some o.reply.code ≡ true) ⊎ IsShift t e m o

  read : (ps : List Path) (o : Outcome) → P o → P (reading ps o)
  unfolding P
  read ps o (inl h) = inl h
  read ps o (inr s) = inr (record { node = s.node; replaced = s.replaced; there = s.there; only = s.only; effect = s.effect })

  off : (c : Code) → P (refused c)
  unfolding P
  off c = inl refl

  go : (x : Option Reply) (o : Outcome) → HasCode x → P o → P (unless x o)
  unfolding P
  go None o coded h = h
  go (Some reply) o coded h = inl coded

  noted_at : (u : Option Node) (p : Path) (none : Outcome) (some : Node → Outcome) → P none → ((x : Node) → u ≡ Some x → P (some x)) → P (noted u p none some)
  noted_at None p none some h k = h
  noted_at (Some x) p none some h k = read (p ∷ []) (some x) (k x refl)

  lost : (c : Code) (d : Path) → P (missing_below c d)
  lost c [] = off code.FilesystemNotFound
  lost c (fs ∷ names) = off c

  ended_at : (c : Code) (a : Outcome) → P a → (w : Way) → P (ended (missing_below c) c a w)
  unfolding P
  ended_at c a h reached = h
  ended_at c a h (missing d) = lost c d
  ended_at c a h (blocked p) = off c
  ended_at c a h (closed p r) = inl refl

  walk_at : (c : Code) (p : Path) (next : Node → Outcome) → ((dir : Node) → P (next dir)) → P (walk t (caller_of e) c p next)
  walk_at c p next h = read (read_on t (caller_of e) p) _ (ended_at c (next (node_at t (parent p))) (h (node_at t (parent p))) (way_of t (caller_of e) p))

  module _ (x : Node) (there : at t m.source ≡ Some x) where
    shifted_is : (replaced : List Path) → ((p : Path) → Among p replaced → p ≡ m.path) → P (shifted e m x replaced)
    unfolding P
    shifted_is replaced only = inr (record { node = x; replaced = replaced; there = there; only = only; effect = refl })

    fitted_is : (replaced : List Path) → ((p : Path) → Among p replaced → p ≡ m.path) → P (fitted t e m x replaced)
    fitted_is replaced only = by_test (is_directory x && grows m)
      where
        by_test : (b : Bool) → P (cond b (reading (subtree t m.source) (unless (refuse_if (some_too_long m (subtree t m.source)) code.RenameTooLong) (shifted e m x replaced))) (shifted e m x replaced))
        by_test true = read (subtree t m.source) _ (go (refuse_if (some_too_long m (subtree t m.source)) code.RenameTooLong) (shifted e m x replaced) (refuse_coded _ code.RenameTooLong) (shifted_is replaced only))
        by_test false = shifted_is replaced only

    into_is : (dir : Node) → P (rename_into t e m x dir)
    into_is dir =
        go (lacks (caller_of e) 3 (parent m.path) dir) _ (lacks_coded (parent m.path) 3 _) (noted_at (at t m.path) m.path (rename_new t e m x) (rename_over t e m x dir)
        (go (is_unmet_without e) _ (unmet_coded _) (go (lease_refuses e e.request.source_lease x) (fitted t e m x []) (lease_coded _) (fitted_is [] (λ p h. absurd h))))
        (λ y h. go (is_guarded (caller_of e) dir m.path y) _ (deny_coded _ _ m.path) (go (exists_already e) _ (refuse_coded _ code.PathAlreadyExists) (go (is_unmet e y) _ (unmet_coded _) (go (lease_refuses e e.request.source_lease x) _ (lease_coded _)
        (go (refuse_if (not (has_kind (kind_of x) y)) code.ResourceTypeMismatch) _ (refuse_coded _ code.ResourceTypeMismatch) (go (refuse_if (is_directory y && not (is_bare t m.path)) code.DirectoryNotEmpty) (fitted t e m x (m.path ∷ [])) (refuse_coded _ code.DirectoryNotEmpty)
        (fitted_is (m.path ∷ []) (λ p k. elim k [ inl same ↦ same | inr nothing ↦ absurd nothing ])))))))))

  rename_is : P (rename t e m)
  unfolding rename
  rename_is =
      walk_at code.SourcePathNotFound m.source (rename_out t e m) (λ out.
      go (lacks (caller_of e) 3 (parent m.source) out) _ (lacks_coded (parent m.source) 3 _) (noted_at (at t m.source) m.source (refused (missing_code m.source code.SourcePathNotFound)) (rename_node t e m out) (off (missing_code m.source code.SourcePathNotFound)) (λ x there.
      go (is_guarded (caller_of e) out m.source x) _ (deny_coded _ _ m.source) (walk_at code.RenameDestinationParentPathNotFound m.path (rename_into t e m x) (λ into. into_is x there into)))))

-- ---- the tree afterwards

module _ (t : Tree) (e : Entry) (number : ℕ) (m : Moving) (x : Node) (replaced : List Path) (there : at t m.source ≡ Some x) (only : (p : Path) → Among p replaced → p ≡ m.path)
    (one : is_prefix m.source m.path ≡ false) (two : is_prefix m.path m.source ≡ false) where
  abbrev before_move : Tree
  before_move = put_all number ((m.source, stamp e.moment (record x { props = unwrap_or m.props x.props })) ∷ []) (take_all replaced t)

  looked : (q : Path) → at before_move q ≡ put_or number (cond (eq_by_cmp path_cmp q m.source) (Some (stamp e.moment (record x { props = unwrap_or m.props x.props }))) None) (cond (is_in q replaced) None (at t q))
  looked q = at-put_all number ((m.source, stamp e.moment (record x { props = unwrap_or m.props x.props })) ∷ []) (take_all replaced t) q ∙ ap (put_or number (cond (eq_by_cmp path_cmp q m.source) (Some (stamp e.moment (record x { props = unwrap_or m.props x.props }))) None)) (at-take_all replaced t q)

  at_source : at before_move m.source ≡ Some (renamed_node e number m.props x)
  at_source = looked m.source ∙ ap (λ b. put_or number (cond b (Some (stamp e.moment (record x { props = unwrap_or m.props x.props }))) None) (cond (is_in m.source replaced) None (at t m.source))) (same_path m.source)

  kept : (q : Path) → is_prefix m.path q ≡ false → is_in q replaced ≡ false
  kept q out = elim (in_tells q replaced) [
    | inl h ↦ absurd (false≢true (sym out ∙ ap (is_prefix m.path) (only q h) ∙ front_of_itself m.path))
    | inr h ↦ h
  ]

  at_other : (q : Path) → (q ≡ m.source → ⊥) → is_prefix m.path q ≡ false → at before_move q ≡ at t q
  at_other q differs out =
      looked q ∙ ap (λ b. put_or number (cond b (Some (stamp e.moment (record x { props = unwrap_or m.props x.props }))) None) (cond (is_in q replaced) None (at t q))) (apart (path_tells q m.source))
      ∙ ap (λ b. cond b None (at t q)) (kept q out)
    where
      apart : (q ≡ m.source) ⊎ (eq_by_cmp path_cmp q m.source ≡ false) → eq_by_cmp path_cmp q m.source ≡ false
      apart (inl same) = absurd (differs same)
      apart (inr h) = h

  longer : (p : Path) (n : List ℕ) (r : Path) → p ++ n ∷ r ≡ p → ⊥
  longer p n r same =
      let long : length (p ++ n ∷ r) ≡ length p + length (n ∷ r) = length_append p (n ∷ r) in
      let short : length (p ++ n ∷ r) ≡ length p = ap (λ (q : Path). length q) same in
      let some : length (n ∷ r) ≡ suc (length r) = refl in
      absurd (omega arith)

  after_is : IsRenamed e number m.source m.path m.props t (renamed before_move m.source m.path)
  after_is = record {
    node = x;
    there = there;
    source = ap (at (renamed before_move m.source m.path)) (sym (append-nil m.path)) ∙ at-renamed_to before_move m.source m.path [] (apart_below m.source m.path [] one two) ∙ ap (at before_move) (append-nil m.source) ∙ at_source;
    below = λ n r. at-renamed_to before_move m.source m.path (n ∷ r) (apart_below m.source m.path (n ∷ r) one two) ∙ at_other (m.source ++ n ∷ r) (longer m.source n r) (apart_below m.source m.path (n ∷ r) one two);
    gone = λ r. at-renamed_from before_move m.source m.path (m.source ++ r) (apart_below m.source m.path r one two) (front_of_append m.source r);
    others = λ q out_a out_b. at-renamed_other before_move m.source m.path q out_b out_a ∙ at_other q (λ same. false≢true (sym out_a ∙ ap (is_prefix m.source) same ∙ front_of_itself m.source)) out_b;
  }

-- ---- the law

closing_code : (close : Bool) (reply : Reply) → (closing close reply).code ≡ reply.code
closing_code true reply = refl
closing_code false reply = refl

asked_rename : (e : Entry) (path source : Path) (props : Option (List (List ℕ × List ℕ))) → e.request.op ≡ op.Rename path source props → IsSound e.request
    → IsBelowRoot path × IsBelowRoot source × CanBeMoved source path
asked_rename e path source props asked sound = subst (λ o. IsOperation o (length e.request.body)) asked sound.operation

moved_apart : (t : Tree) (fresh : List Path) (effect : Effect) (m : Path × Path) → effect.move ≡ Some m → IfSome effect.move (CanMove t fresh effect) → is_prefix m.1 m.0 ≡ false
moved_apart t fresh effect m same can = (subst (λ move. IfSome move (CanMove t fresh effect)) same can).destination_apart

pub renames_move : (t : Tree) → IsTree t → (e : Entry) → IsSound e.request → (number : ℕ) (path source : Path) (props : Option (List (List ℕ × List ℕ))) → e.request.op ≡ op.Rename path source props
    → (step t e number).reply.code ≡ None → IsRenamed e number source path props t (step t e number).tree
unfolding outcome P
renames_move t is e sound number path source props asked coded =
    by_course (rename_is t e (record { source = source; path = path; props = props }))
  where
    same_acts : acts t e e.request.op ≡ rename t e (record { source = source; path = path; props = props })
    same_acts = ap (acts t e) asked

    by_shift : IsShift t e (record { source = source; path = path; props = props }) (rename t e (record { source = source; path = path; props = props })) → IsRenamed e number source path props t (effected number (acts t e e.request.op).effect t)
    by_shift shift =
        let effect : (acts t e e.request.op).effect ≡ (shifted e (record { source = source; path = path; props = props }) shift.node shift.replaced).effect = ap (λ (o : Outcome). o.effect) same_acts ∙ shift.effect in
        let apart = moved_apart t (outcome t e).fresh (outcome t e).effect (source, path) (ap (λ (x : Effect). x.move) effect) (outcome_shaped t is e sound).growth.moved in
        subst (λ x. IsRenamed e number source path props t (effected number x t)) (sym effect)
        (after_is t e number (record { source = source; path = path; props = props }) shift.node shift.replaced shift.there shift.only (asked_rename e path source props asked sound).2.apart apart)

    by_course : (is_some (rename t e (record { source = source; path = path; props = props })).reply.code ≡ true) ⊎ IsShift t e (record { source = source; path = path; props = props }) (rename t e (record { source = source; path = path; props = props }))
        → IsRenamed e number source path props t (effected number (acts t e e.request.op).effect t)
    by_course (inl refused_so) =
        absurd (false≢true (ap is_some (sym coded ∙ closing_code e.request.close (acts t e e.request.op).reply ∙ ap (λ (o : Outcome). o.reply.code) same_acts) ∙ refused_so))
    by_course (inr shift) = by_shift shift
