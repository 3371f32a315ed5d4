-- What is above a touched path is touched too: the words of a step one by one.
use Rattle.std.proofs.Common.{◌≡◌, ◌⊎◌, inl, inr, ◌↔◌, ℕ, Bool, true, false, cond, not, List, [], ◌∷◌, ◌++◌, Option, Some, None, is_some, Result, Ok, Err, refl, ap, sym, subst, ◌∙◌, append_assoc}
use Rattle.std.proofs.lemmas.List.{append-nil}
use Rattle.std.specs.Ordering.{eq_by_cmp}
use Rattle.path_text.specs.Paths.{path_cmp, is_prefix}
use Rattle.namespace_model.specs.declared.caller.Caller.{Caller}
use Rattle.namespace_model.specs.declared.code.Code.{Code}
use Rattle.namespace_model.specs.declared.code.Code.TheVariants.{PathNotFound, FilesystemNotFound}
use Rattle.namespace_model.specs.declared.denied.Refusal.{Refusal}
use Rattle.namespace_model.specs.declared.reply.Reply.{Reply}
use Rattle.namespace_model.specs.declared.request.Entry.{Entry}
use Rattle.namespace_model.specs.Nodes.{Node, is_directory}
use Rattle.namespace_model.specs.Trees.{Path, Tree, at, node_at, parent, subtree, IsLaid, IsDirectory}
use Rattle.namespace_model.specs.Effects.{Put}
use Rattle.namespace_model.specs.Refusals.{caller_of}
use Rattle.namespace_model.specs.Outcomes.{Outcome, touched, reading, answered, refused, unless, noted, edited, once}
use Rattle.namespace_model.specs.Walks.{walk_or, walk, ended, missing_below, missing_code}
use Rattle.namespace_model.specs.Ways.{Way, reached, missing, blocked, closed, may_enter, behind, seen, read_from, way_of, read_on}
use Rattle.namespace_model.specs.Looks.{found}
use Rattle.namespace_model.specs.Locality.{Among}
use Rattle.namespace_model.proofs.WayLemmas.{IsReadBy, base_read}
use Rattle.namespace_model.proofs.Lookups.{keys_among, among_keys, path_tells}
use Rattle.namespace_model.proofs.Prefixes.{parent_name, parent_of_child, behind_front, front_of_append}
use Rattle.namespace_model.proofs.Alikeness.{among_left, among_right, among_either}
use Rattle.namespace_model.proofs.PageOrder.{among_filter, filter_among}

-- ---- what was seen before

-- The path was seen, or its parent was seen or is one of these.
abbrev pub Known : (Path → Type 0) → List Path → Path → Type 0
Known S ps q = S q ⊎ (S (parent q) ⊎ Among (parent q) ps)

-- each path of the list was seen, or its parent was seen or is of the list
abbrev pub Rooted : (Path → Type 0) → List Path → Type 0
Rooted S ps = (q : Path) → Among q ps → Known S ps q

-- what is touched of an outcome hangs on what was seen before
pub record Closed (S : Path → Type 0) (o : Outcome) : Type 0 where
  pub hangs : Rooted S (touched o)

-- these paths were seen too
abbrev pub Also : (Path → Type 0) → List Path → Path → Type 0
Also S ps q = S q ⊎ Among q ps

-- whatever was seen is seen still
abbrev pub Keeps : (Path → Type 0) → (Path → Type 0) → Type 0
Keeps S R = (q : Path) → S q → R q

-- before a step nothing was seen
abbrev pub Unseen : Path → Type 0
Unseen p = ⊥

more_known : (S : Path → Type 0) (ps qs : List Path) (q : Path) → ((p : Path) → Among p ps → Among p qs) → Known S ps q → Known S qs q
more_known S ps qs q more (inl s) = inl s
more_known S ps qs q more (inr (inl s)) = inr (inl s)
more_known S ps qs q more (inr (inr k)) = inr (inr (more (parent q) k))

known_then : (S : Path → Type 0) (ps qs : List Path) (q : Path) → Rooted S ps → Known (Also S ps) qs q → Known S (ps ++ qs) q
known_then S ps qs q first (inl (inl s)) = inl s
known_then S ps qs q first (inl (inr k)) = more_known S ps (ps ++ qs) q (λ p j. among_left p ps qs j) (first q k)
known_then S ps qs q first (inr (inl (inl s))) = inr (inl s)
known_then S ps qs q first (inr (inl (inr k))) = inr (inr (among_left (parent q) ps qs k))
known_then S ps qs q first (inr (inr k)) = inr (inr (among_right (parent q) ps qs k))

pub rooted_append : (S : Path → Type 0) (ps qs : List Path) → Rooted S ps → Rooted (Also S ps) qs → Rooted S (ps ++ qs)
rooted_append S ps qs first then q h = elim (among_either q ps qs h) [
  | inl k ↦ more_known S ps (ps ++ qs) q (λ p j. among_left p ps qs j) (first q k)
  | inr k ↦ known_then S ps qs q first (then q k)
]

-- paths that were all seen
pub seen_rooted : (S : Path → Type 0) (ps : List Path) → ((q : Path) → Among q ps → S q) → Rooted S ps
seen_rooted S ps seen q k = inl (seen q k)

-- a path whose parent was seen
pub one_rooted : (S : Path → Type 0) (p : Path) → S (parent p) → Rooted S (p ∷ [])
one_rooted S p s q (inl e) = inr (inl (subst (λ r. S (parent r)) (sym e) s))
one_rooted S p s q (inr k) = absurd k

-- a path that was seen itself
pub known_rooted : (S : Path → Type 0) (p : Path) → S p → Rooted S (p ∷ [])
known_rooted S p s q (inl e) = inl (subst S (sym e) s)
known_rooted S p s q (inr k) = absurd k

-- the account has no parent
pub account_rooted : (S : Path → Type 0) → Rooted S ([] ∷ [])
account_rooted S q (inl e) = inr (inr (inl (ap parent e)))
account_rooted S q (inr k) = absurd k

-- ---- the words of a step

pub answered_closed : (S : Path → Type 0) (reply : Reply) → Closed S (answered reply)
answered_closed S reply = record { hangs = λ q h. absurd h }

pub refused_closed : (S : Path → Type 0) (code : Code) → Closed S (refused code)
refused_closed S code = record { hangs = λ q h. absurd h }

pub reading_closed : (S : Path → Type 0) (ps : List Path) (o : Outcome) → Rooted S ps → Closed (Also S ps) o → Closed S (reading ps o)
reading_closed S ps o first then = record {
  hangs = subst (λ l. Rooted S l) (sym (append_assoc ps o.read o.written)) (rooted_append S ps (touched o) first then.hangs);
}

pub unless_closed : (S : Path → Type 0) (x : Option Reply) (o : Outcome) → Closed S o → Closed S (unless x o)
unless_closed S None o h = h
unless_closed S (Some reply) o h = answered_closed S reply

pub noted_closed : (S : Path → Type 0) (u : Option Node) (p : Path) (none : Outcome) (f : Node → Outcome) → S (parent p) → Closed S none
    → ((x : Node) → Closed (Also S (p ∷ [])) (f x)) → Closed S (noted u p none f)
noted_closed S None p none f above h then = h
noted_closed S (Some x) p none f above h then = reading_closed S (p ∷ []) (f x) (one_rooted S p above) (then x)

pub edited_closed : (S : Path → Type 0) (p : Path) (put : Put) (reply : Reply) → S p → Closed S (edited p put reply)
edited_closed S p put reply s = record { hangs = known_rooted S p s }

-- a node of the way, and what is read behind it
met_rooted : (S : Path → Type 0) (caller : Caller) (p : Path) (u : Option Node) (rest : List Path) → S (parent p) → Rooted (Also S (p ∷ [])) rest → Rooted S (seen caller p u rest)
met_rooted S caller p None rest above then = λ q k. absurd k
met_rooted S caller p (Some x) rest above then = rooted_append S (p ∷ []) (cond (is_directory x) (behind (may_enter caller x) rest) []) (one_rooted S p above) (by_kind (is_directory x))
  where
    by_check : (c : Result Unit Refusal) → Rooted (Also S (p ∷ [])) (behind c rest)
    by_check (Ok allowed) = then
    by_check (Err r) = λ q k. absurd k

    by_kind : (d : Bool) → Rooted (Also S (p ∷ [])) (cond d (behind (may_enter caller x) rest) [])
    by_kind true = by_check (may_enter caller x)
    by_kind false = λ q k. absurd k

-- what is read on the way from a directory that was seen
way_rooted : (S : Path → Type 0) (t : Tree) (caller : Caller) (done names : Path) → S done → Rooted S (read_from t caller done names)
way_rooted S t caller done [] s = λ q k. absurd k
way_rooted S t caller done (n ∷ names) s =
    met_rooted S caller (done ++ n ∷ []) (at t (done ++ n ∷ [])) (read_from t caller (done ++ n ∷ []) names) (subst S (sym (parent_of_child done n)) s)
    (way_rooted (Also S ((done ++ n ∷ []) ∷ [])) t caller (done ++ n ∷ []) names (inr (inl refl)))

ended_closed : (R : Path → Type 0) (ps : List Path) (lost : Path → Outcome) (code : Code) (whole : Path) (o : Outcome) → ((q : Path) → Among q ps → R q) → ((d : Path) → R d → Closed R (lost d)) → (R whole → Closed R o)
    → (w : Way) → IsReadBy ps whole w → Closed R (ended lost code o w)
ended_closed R ps lost code whole o read gone then reached base = then (read whole base)
ended_closed R ps lost code whole o read gone then (missing d) base = gone d (read d base)
ended_closed R ps lost code whole o read gone then (blocked p) base = refused_closed R code
ended_closed R ps lost code whole o read gone then (closed p r) base = answered_closed R _

missing_closed : (S : Path → Type 0) (code : Code) (d : Path) → Closed S (missing_below code d)
missing_closed S code [] = refused_closed S FilesystemNotFound
missing_closed S code (fs ∷ names) = refused_closed S code

-- a walk; what comes then has seen the last directory
pub walk_or_closed : (S : Path → Type 0) (t : Tree) (caller : Caller) (lost : Path → Node → Outcome) (code : Code) (p : Path) (next : Node → Outcome)
    → ((R : Path → Type 0) → Keeps S R → (d : Path) → R d → (x : Node) → Closed R (lost d x)) → ((R : Path → Type 0) → Keeps S R → R (parent p) → (x : Node) → Closed R (next x))
    → Closed S (walk_or t caller lost code p next)
walk_or_closed S t caller lost code p next gone then =
    reading_closed S (read_on t caller p) (ended (λ d. lost d (node_at t d)) code (next (node_at t (parent p))) (way_of t caller p))
    (rooted_append S ([] ∷ []) (read_from t caller [] (parent p)) (account_rooted S) (way_rooted (Also S ([] ∷ [])) t caller [] (parent p) (inr (inl refl))))
    (ended_closed (Also S (read_on t caller p)) (read_on t caller p) (λ d. lost d (node_at t d)) code (parent p) (next (node_at t (parent p))) (λ q k. inr k)
    (λ d s. gone (Also S (read_on t caller p)) (λ q h. inl h) d s (node_at t d)) (λ s. then (Also S (read_on t caller p)) (λ q h. inl h) s (node_at t (parent p)))
    (way_of t caller p) (base_read t caller [] (parent p)))

-- the walk to the parent of a path
pub walk_closed : (S : Path → Type 0) (t : Tree) (caller : Caller) (code : Code) (p : Path) (next : Node → Outcome)
    → ((R : Path → Type 0) → Keeps S R → R (parent p) → (x : Node) → Closed R (next x)) → Closed S (walk t caller code p next)
walk_closed S t caller code p next then = walk_or_closed S t caller (λ d dir. missing_below code d) code p next (λ R keeps d s x. missing_closed R code d) then

-- the way to a node, and the node
pub found_closed : (S : Path → Type 0) (t : Tree) (e : Entry) (p : Path) (f : Node → Outcome)
    → ((R : Path → Type 0) → Keeps S R → R p → (x : Node) → Closed R (f x)) → Closed S (found t e p f)
found_closed S t e p f then =
    walk_closed S t (caller_of e) PathNotFound p (λ dir. noted (at t p) p (refused (missing_code p PathNotFound)) f) (λ R keeps above dir.
    noted_closed R (at t p) p (refused (missing_code p PathNotFound)) f above (refused_closed R (missing_code p PathNotFound))
    (λ x. then (Also R (p ∷ [])) (λ q h. inl (keeps q h)) (inr (inl refl)) x))

-- ---- what is above

-- of a path at or below d: it is d, or its parent is at or below d
pub parent_within : (d q : Path) → is_prefix d q ≡ true → (q ≡ d) ⊎ ((o : Path) × (n : List ℕ) × (q ≡ o ++ n ∷ []) × (is_prefix d o ≡ true))
parent_within d q below = behind (behind_front d q below)
  where
    named : (r : Path) → q ≡ d ++ r → (r ≡ []) ⊎ ((n : List ℕ) × (r ≡ parent r ++ n ∷ []))
        → (q ≡ d) ⊎ ((o : Path) × (n : List ℕ) × (q ≡ o ++ n ∷ []) × (is_prefix d o ≡ true))
    named r e (inl none) = inl (e ∙ ap (λ s. d ++ s) none ∙ append-nil d)
    named r e (inr name) = inr (d ++ parent r, name.0, e ∙ ap (λ s. d ++ s) name.1 ∙ sym (append_assoc d (parent r) (name.0 ∷ [])), front_of_append d (parent r))

    behind : ((r : Path) × (q ≡ d ++ r)) → (q ≡ d) ⊎ ((o : Path) × (n : List ℕ) × (q ≡ o ++ n ∷ []) × (is_prefix d o ≡ true))
    behind rest = named rest.0 rest.1 (parent_name rest.0)

some_if : (o : Option Node) → IsDirectory o → is_some o ≡ true
some_if None h = absurd h
some_if (Some x) h = refl

-- what is above a path that is there is there
pub there_above : (t : Tree) → IsLaid t → (q o : Path) (n : List ℕ) → q ≡ o ++ n ∷ [] → is_some (at t q) ≡ true → is_some (at t o) ≡ true
there_above t laid q o n e there = some_if (at t o) (laid o n (subst (λ p. is_some (at t p) ≡ true) e there))

pub parent_is : (q o : Path) (n : List ℕ) → q ≡ o ++ n ∷ [] → parent q ≡ o
parent_is q o n e = ap parent e ∙ parent_of_child o n

-- what stands at and below a path whose parent was seen
pub subtree_rooted : (S : Path → Type 0) (t : Tree) → IsLaid t → (p : Path) → S (parent p) → Rooted S (subtree t p)
subtree_rooted S t laid p above q k =
    let is = keys_among t (is_prefix p) q k in
    elim (parent_within p q is.0) [
      | inl e ↦ inr (inl (subst (λ r. S (parent r)) (sym e) above))
      | inr h ↦ inr (inr (subst (λ r. Among r (subtree t p)) (sym (parent_is q h.0 h.1 h.2))
          (among_keys t (is_prefix p) h.0 (there_above t laid q h.0 h.1 h.2 is.1) h.3)))
    ]

-- ---- a whole step

step_up : (ps : List Path) (p : Path) (n : List ℕ) → Known Unseen ps (p ++ n ∷ []) → Among p ps
step_up ps p n (inl s) = absurd s
step_up ps p n (inr (inl s)) = absurd s
step_up ps p n (inr (inr k)) = subst (λ q. Among q ps) (parent_of_child p n) k

-- each front of a path of the list is of the list
pub rooted_up : (ps : List Path) → Rooted Unseen ps → (p q : Path) → Among (p ++ q) ps → Among p ps
rooted_up ps h p [] k = subst (λ r. Among r ps) (append-nil p) k
rooted_up ps h p (n ∷ q) k =
    step_up ps p n (h (p ++ n ∷ []) (rooted_up ps h (p ++ n ∷ []) q (subst (λ r. Among r ps) (sym (append_assoc p (n ∷ []) q)) k)))

-- ---- each path once

in_once : (p : Path) (ps : List Path) → Among p ps → Among p (once ps)
in_once p [] h = absurd h
in_once p (q ∷ ps) (inl e) = inl e
in_once p (q ∷ ps) (inr k) = elim (path_tells p q) [
  | inl e ↦ inl e
  | inr other ↦ inr (filter_among (λ r. not (eq_by_cmp path_cmp r q)) p (once ps) (ap not other) (in_once p ps k))
]

of_once : (p : Path) (ps : List Path) → Among p (once ps) → Among p ps
of_once p [] h = absurd h
of_once p (q ∷ ps) (inl e) = inl e
of_once p (q ∷ ps) (inr k) = inr (of_once p ps (among_filter (λ r. not (eq_by_cmp path_cmp r q)) p (once ps) k).1)

-- a list without its repeats has the same paths
pub once_among : (p : Path) (ps : List Path) → Among p ps ↔ Among p (once ps)
once_among p ps = (in_once p ps, of_once p ps)
