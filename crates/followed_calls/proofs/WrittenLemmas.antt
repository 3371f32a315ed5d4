-- What is written: nothing by a listing, and by a batch what is behind its token.
use Rattle.std.proofs.Common.{◌≡◌, inl, inr, ℕ, ◌==◌, Bool, true, false, not, ◌||◌, List, [], ◌∷◌, ◌++◌, map, length, Option, Some, refl, ap, sym, subst, ◌∙◌, append-nil}
use Rattle.std.proofs.lemmas.Bool.{false≢true}
use Rattle.std.specs.Cmp.{unsigned_Decides}
use Rattle.namespace_model.specs.declared.code.Code.TheVariants.{ResourceTypeMismatch}
use Rattle.namespace_model.specs.declared.op.BatchChange.{BatchChange}
use Rattle.namespace_model.specs.declared.op.Op.{Op}
use Rattle.namespace_model.specs.declared.op.Op.TheVariants as op
use Rattle.namespace_model.specs.declared.reply.Reply.{Reply}
use Rattle.namespace_model.specs.declared.request.Entry.{Entry}
use Rattle.namespace_model.specs.Access.{read_execute}
use Rattle.namespace_model.specs.ListFilesystems.{list_filesystems}
use Rattle.namespace_model.specs.ListPaths.{list_paths, list_page, list_node, is_closed, listed, paged}
use Rattle.namespace_model.specs.Nodes.{is_directory}
use Rattle.namespace_model.specs.Outcomes.{Outcome, once, reading, answered}
use Rattle.namespace_model.specs.Refusals.{caller_of, first_refusal, is_no_superuser, lacks}
use Rattle.namespace_model.specs.SetAccessRecursive.{batch_below, batch_page, set_access_recursive}
use Rattle.namespace_model.specs.Step.{acts, outcome}
use Rattle.namespace_model.specs.Trees.{Path, Tree, IsTree}
use Rattle.namespace_model.proofs.Everywhere.{found_has, unless_has, unless_if_has}
use Rattle.namespace_model.proofs.PageLaws.{batches_write_above}
use Rattle.inode_tree.specs.declared.id.NodeId.{NodeId}
use Rattle.inode_tree.specs.After.{drawn_ids, known}
use Rattle.inode_tree.specs.Drawing.{next_ids}
use Rattle.inode_tree.specs.Footprints.{ids_of, written_ids}
use Rattle.inode_tree.specs.Promises.{is_one_of, numbers_of}
use Rattle.inode_tree.proofs.PairLemmas.{known_is}
use Rattle.inode_tree.proofs.TurnLemmas.{Within}
use Rattle.followed_calls.specs.Calls.{AnsweredCall, KeepsPromise, outcome_of}
use Rattle.followed_calls.specs.Laws.{WritesBehind}
use Rattle.followed_calls.proofs.ListingLemmas.{of_step, asked_of}

-- ---- ids

has_one : (xs : List (Path × ℕ)) (id : ℕ) → is_one_of id (map (λ (y : Path × ℕ). y.1) xs) ≡ true → (p : Path) × Within (p, id) xs
has_one [] id e = absurd (false≢true e)
has_one (y ∷ ys) id e = by_first (y.1 == id) refl e (has_one ys id)
  where
    by_first : (b : Bool) → (y.1 == id) ≡ b → (b || is_one_of id (map (λ (w : Path × ℕ). w.1) ys)) ≡ true
        → (is_one_of id (map (λ (w : Path × ℕ). w.1) ys) ≡ true → (p : Path) × Within (p, id) ys) → (p : Path) × Within (p, id) (y ∷ ys)
    by_first true same h more = (y.0, inl (ap (λ k. (y.0, k)) (sym ((unsigned_Decides y.1 id).0 same))))
    by_first false other h more = let rest = more h in (rest.0, inr rest.1)

-- an id that the draft writes, where nothing is made, is that of a written path
written_path : (c : AnsweredCall) → KeepsPromise c → (outcome_of c).fresh ≡ [] → (id : ℕ) → is_one_of id (numbers_of c.draft.writes.items) ≡ true
    → (p : Path) × Within (p, id) (known c.parts (outcome_of c).written)
written_path c is none_new id writes = has_one (known c.parts (outcome_of c).written) id one
  where
    no_drawn : drawn_ids c.entry ≡ []
    no_drawn =
        ap (λ (ids : List NodeId). map (λ (i : NodeId). i.0) ids) is.entered.draws
        ∙ ap (λ (l : List Path). map (λ (i : NodeId). i.0) (next_ids c.fresh.pass c.fresh.used (length l))) none_new

    same_ids : written_ids c.parts c.entry ≡ ids_of c.parts (outcome_of c).written
    same_ids =
        ap (λ t. ids_of c.parts (outcome t c.entry.entry).written ++ drawn_ids c.entry) is.possible.stands.shown
        ∙ ap (λ l. ids_of c.parts (outcome_of c).written ++ l) no_drawn
        ∙ append-nil (ids_of c.parts (outcome_of c).written)

    one : is_one_of id (ids_of c.parts (outcome_of c).written) ≡ true
    one = sym ((of_step c is).written_ids id ∙ ap (is_one_of id) same_ids) ∙ writes

-- ---- listings

pub record IsIdle (o : Outcome) : Type 0 where
  pub written : o.written ≡ []
  pub fresh : o.fresh ≡ []

quiet : (reply : Reply) → IsIdle (answered reply)
quiet reply = record { written = refl; fresh = refl }

more_read : (ps : List Path) (o : Outcome) → IsIdle o → IsIdle (reading ps o)
more_read ps o h = record { written = h.written; fresh = h.fresh }

pub paths_write_nothing : (t : Tree) → IsTree t → (e : Entry) (dir : Path) (recursive : Bool) (token : Option Path) (max : ℕ) → IsIdle (list_paths t e dir recursive token max)
unfolding list_paths
paths_write_nothing t is e dir recursive token max =
    found_has IsIdle quiet more_read t e dir (list_node t e dir recursive token max) is.root
    (λ x there. unless_if_has IsIdle quiet more_read (not (is_directory x)) ResourceTypeMismatch _
    (λ kind. unless_has IsIdle quiet more_read (lacks (caller_of e) read_execute dir x) _ (λ rights. by_page recursive)))
  where
    by_page : (below : Bool) → IsIdle (paged t e dir below token (list_page t dir recursive token max))
    by_page true =
        more_read _ _ (unless_has IsIdle quiet more_read (first_refusal (is_closed (caller_of e)) t _) (listed t dir (list_page t dir recursive token max)) (λ opened. quiet _))
    by_page false = more_read _ _ (quiet _)

pub filesystems_write_nothing : (t : Tree) (e : Entry) (prefix : List ℕ) (token : Option Path) (max : ℕ) → IsIdle (list_filesystems t e prefix token max)
unfolding list_filesystems
filesystems_write_nothing t e prefix token max =
    unless_has IsIdle quiet more_read (is_no_superuser (caller_of e) []) _ (λ rights. record { written = refl; fresh = refl })

fresh_is : (t : Tree) (e : Entry) → (outcome t e).fresh ≡ (acts t e e.request.op).fresh
unfolding outcome
fresh_is t e = refl

idle_outcome : (t : Tree) (e : Entry) → IsIdle (acts t e e.request.op) → (outcome t e).written ≡ []
unfolding outcome
idle_outcome t e idle = ap once idle.written

pub nothing_written : (c : AnsweredCall) → KeepsPromise c → (asked : Op) → c.request.op ≡ asked → IsIdle (acts c.tree c.entry.entry asked) → (token : Path) → WritesBehind token c
nothing_written c is asked e idle token id writes =
    let here : IsIdle (acts c.tree c.entry.entry c.entry.entry.request.op) = subst (λ o. IsIdle (acts c.tree c.entry.entry o)) (sym (asked_of c is asked e)) idle in
    let found = written_path c is (fresh_is c.tree c.entry.entry ∙ here.fresh) id writes in
    absurd (subst (λ ps. Within (found.0, id) (known c.parts ps)) (idle_outcome c.tree c.entry.entry here) found.1)

-- ---- batches

batch_makes_nothing : (t : Tree) → IsTree t → (e : Entry) (p : Path) (change : BatchChange) (token : Option Path) (max : ℕ) (force : Bool) → (set_access_recursive t e p change token max force).fresh ≡ []
unfolding set_access_recursive
batch_makes_nothing t is e p change token max force =
    found_has (λ o. o.fresh ≡ []) (λ reply. refl) (λ ps o h. h) t e p (batch_below t e p change token force (batch_page t p token max)) is.root (λ x there. refl)

pub batch_writes_behind : (p : Path) (max : ℕ) (token : Path) (c : AnsweredCall) (change : BatchChange) (force : Bool) → KeepsPromise c → c.request.op ≡ op.SetAccessRecursive p change (Some token) max force → WritesBehind token c
batch_writes_behind p max token c change force is e id writes =
    let found = written_path c is none_new id writes in
    let at_path = known_is c.parts (outcome_of c).written (found.0, id) found.1 in
    (found.0, (at_path.1, batches_write_above c.tree is.possible.stands.tree c.entry.entry p change token max force there found.0 at_path.0))
  where
    there : c.entry.entry.request.op ≡ op.SetAccessRecursive p change (Some token) max force
    there = asked_of c is (op.SetAccessRecursive p change (Some token) max force) e

    none_new : (outcome_of c).fresh ≡ []
    none_new =
        fresh_is c.tree c.entry.entry ∙ ap (λ o. (acts c.tree c.entry.entry o).fresh) there
        ∙ batch_makes_nothing c.tree is.possible.stands.tree c.entry.entry p change (Some token) max force
