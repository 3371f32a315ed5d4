-- A batch, node by node: what came of the nodes so far, before the batch of what is left.
use Rattle.std.proofs.Common.{◌≡◌, ◌≢◌, inl, inr, ℕ, zero, suc, ◌+◌, ◌==◌, ◌≤◌, ◌<◌, Bool, true, false, cond, List, [], ◌∷◌, ◌++◌, length, map, take, slice_get, Option, Some, None, unwrap_or, Result, Ok, Err, refl, sym, ap, subst, ◌∙◌, append_assoc, append-nil, length-append, arith}
use Rattle.std.specs.Prelude.{IfSome}
use Rattle.std.proofs.lemmas.Bool.{false≢true}
use Rattle.std.proofs.lemmas.Bool.Decides.{nat_tests}
use Rattle.acl_text.specs.declared.acl.AclPair.{AclPair}
use Rattle.path_text.specs.Paths.{is_prefix}
use Rattle.path_text.specs.Tokens.{is_on_page}
use Rattle.namespace_model.specs.declared.caller.Caller.{Caller}
use Rattle.namespace_model.specs.declared.code.Code.{Code}
use Rattle.namespace_model.specs.declared.op.BatchChange.{BatchChange}
use Rattle.namespace_model.specs.declared.request.Entry.{Entry}
use Rattle.namespace_model.specs.declared.request.Request.{Request}
use Rattle.namespace_model.specs.Effects.{Put, stamp}
use Rattle.namespace_model.specs.Locality.{Among}
use Rattle.namespace_model.specs.Nodes.{Node, blank}
use Rattle.namespace_model.specs.Pages as model
use Rattle.namespace_model.specs.Pages.{page_of}
use Rattle.namespace_model.specs.Refusals.{caller_of, nobody}
use Rattle.namespace_model.specs.SetAccessRecursive.{Batch, Failure, no_batch, batch_next, batch_of, batch_page, resume_at, turn_of, with_turn}
use Rattle.namespace_model.specs.Trees.{Path, Tree, node_at}
use Rattle.namespace_model.proofs.Alikeness.{among_right}
use Rattle.namespace_model.proofs.Prefixes.{behind_front, same_bytes}
use Rattle.inode_tree.specs.declared.need.Need.{Need}
use Rattle.inode_tree.specs.Inodes.{node_of}
use Rattle.inode_tree.specs.Parts.{Parts}
use Rattle.inode_tree.specs.Stands.{Stands}
use Rattle.inode_tree.specs.Views.{Held, Shown, Agrees, Grows}
use Rattle.path_walk.specs.declared.call.Call.{Call}
use Rattle.path_walk.specs.Batches.{puts_by}
use Rattle.path_walk.specs.Calls.{IsCall}
use Rattle.path_walk.proofs.TrailLemmas.{agrees_before}
use Rattle.path_order.specs.PagesBelow.{last_of, AreHeld, AreNodesOf}
use Rattle.path_order.proofs.PageLemmas.{held_grows, held_more, last_page, more_page, nodes_more}
use Rattle.acl_recursive.specs.declared.asked.Asked.{Asked}
use Rattle.acl_recursive.specs.declared.run.Run.{Run}
use Rattle.acl_recursive.specs.declared.tally.Tally.{Tally}
use Rattle.acl_recursive.specs.declared.walk.Step.{Step}
use Rattle.acl_recursive.specs.declared.walk.Walk.{Walk}
use Rattle.acl_recursive.specs.Batched.{Turns, batch_by, edit_of, edits_of, failure_of, failures_of, fails, left_at, nodes_behind, nodes_in, path_in, paths_in, resumed, touched_by, turns_of, IsAhead, IsEndOf, IsReadyFor, IsRun, IsRunIn, IsStep, IsTally, NeedsLeft, NeedsOfBatch}
use Rattle.acl_recursive.proofs.TallyLemmas.{edits_more, failures_more}

-- ---- rows

paths_more : (dir : Path) (rows : List Step) (r : Step) → paths_in dir (rows ++ r ∷ []) ≡ paths_in dir rows ++ path_in dir r ∷ []
paths_more dir [] r = refl
paths_more dir (x ∷ rows) r = ap (λ l. path_in dir x ∷ l) (paths_more dir rows r)

rows_nodes_more : (rows : List Step) (r : Step) → nodes_in (rows ++ r ∷ []) ≡ nodes_in rows ++ r.seen ∷ []
rows_nodes_more [] r = refl
rows_nodes_more (x ∷ rows) r = ap (λ l. x.seen ∷ l) (rows_nodes_more rows r)

paths_long : (dir : Path) (rows : List Step) → length (paths_in dir rows) ≡ length rows
paths_long dir [] = refl
paths_long dir (r ∷ rows) = ap suc (paths_long dir rows)

-- the names of the last row, and these where there is none
abbrev pub last_names : Option Path → List Step → Option Path
last_names o [] = o
last_names o (r ∷ rows) = last_names (Some r.names.items) rows

last_more : (o : Option Path) (rows : List Step) (r : Step) → last_names o (rows ++ r ∷ []) ≡ Some r.names.items
last_more o [] r = refl
last_more o (x ∷ rows) r = last_more (Some x.names.items) rows r

last_resumed : (dir : Path) (token : Option Path) (from : Path) (names : Path) (rows : List Step) → from ≡ dir ++ names → resumed dir token (last_names (Some names) rows) ≡ Some (last_of from (paths_in dir rows))
last_resumed dir token from names [] e = ap Some (sym e)
last_resumed dir token from names (r ∷ rows) e = last_resumed dir token (path_in dir r) r.names.items rows refl

last_is : (dir : Path) (token : Option Path) (rows : List Step) → 1 ≤ length rows → resumed dir token (last_names None rows) ≡ Some (last_of dir (paths_in dir rows))
last_is dir token [] some = absurd (omega arith)
last_is dir token (r ∷ rows) some = last_resumed dir token (path_in dir r) r.names.items rows refl

cons_no_nil : {A : Type 0} (x : A) (xs : List A) → x ∷ xs ≡ [] → ⊥
cons_no_nil x xs e = false≢true (sym (ap is_any e))
  where
    is_any : {A : Type 0} → List A → Bool
    is_any [] = false
    is_any (y ∷ ys) = true

-- ---- the batch of the model

-- one batch before another
abbrev joined : Batch → Batch → Batch
joined a b = record { changed = a.changed ++ b.changed; failed = a.failed ++ b.failed }

joined_none : (b : Batch) → joined b no_batch ≡ b
joined_none b = ap (λ l. record { changed = l; failed = b.failed ++ [] }) (append-nil b.changed) ∙ ap (λ l. record { changed = b.changed; failed = l }) (append-nil b.failed)

module _ (t : Tree) (e : Entry) (change : BatchChange) (caller : Caller) (by : caller_of e ≡ caller) (moment : ℕ) (comes_at : e.moment ≡ moment) where
  abbrev turns : Turns
  turns = turn_of caller change

  -- the turn of a node that stands at a path
  turn_there : (force : Bool) (q : Path) (x : Node) (rest : List Path) → node_at t q ≡ x → batch_of t e change force (q ∷ rest) ≡ with_turn e force q x (turns x) (batch_of t e change force rest)
  turn_there force q x rest there =
      ap (λ (y : Node). with_turn e force q y (turn_of (caller_of e) change y) (batch_of t e change force rest)) there
      ∙ ap (λ c. with_turn e force q x (turn_of c change x) (batch_of t e change force rest)) by

  module _ (force : Bool) (dir : Path) where
    -- where none of these ends the batch, it is theirs before that of what is left
    pub batch_before : (parts : Parts) (rows : List Step) (rest : List Path) → AreNodesOf parts t (paths_in dir rows) (nodes_in rows) → (force ≡ false → failures_of turns dir rows ≡ [])
        → batch_of t e change force (paths_in dir rows ++ rest) ≡ joined (batch_by turns moment dir rows) (batch_of t e change force rest)
    batch_before parts [] rest are goes = refl
    batch_before parts (r ∷ rows) rest are goes =
        turn_there force (path_in dir r) (node_of r.seen.node) (paths_in dir rows ++ rest) (ap (λ (o : Option Node). unwrap_or o blank) are.0.shows)
        ∙ ap (with_turn e force (path_in dir r) (node_of r.seen.node) (turns (node_of r.seen.node))) (batch_before parts rows rest are.1 (λ f. rest_goes (turns (node_of r.seen.node)) f (goes f)))
        ∙ by_turn force (turns (node_of r.seen.node)) goes
      where
        rest_goes : (k : Result AclPair Code) → force ≡ false → failure_of k (path_in dir r) r.seen ++ failures_of turns dir rows ≡ [] → failures_of turns dir rows ≡ []
        rest_goes (Ok pair) f none = none
        rest_goes (Err code) f none = absurd (cons_no_nil _ _ none)

        by_turn : (f : Bool) (k : Result AclPair Code) → (f ≡ false → failure_of k (path_in dir r) r.seen ++ failures_of turns dir rows ≡ [])
            → with_turn e f (path_in dir r) (node_of r.seen.node) k (joined (batch_by turns moment dir rows) (batch_of t e change force rest))
            ≡ joined (record { changed = puts_by (edit_of k moment (path_in dir r) r.seen ++ edits_of turns moment dir rows); failed = failure_of k (path_in dir r) r.seen ++ failures_of turns dir rows }) (batch_of t e change force rest)
        by_turn f (Ok pair) none =
            ap (λ m. record {
              changed = (path_in dir r, stamp m (record (node_of r.seen.node) { acl = pair })) ∷ (puts_by (edits_of turns moment dir rows) ++ (batch_of t e change force rest).changed);
              failed = failures_of turns dir rows ++ (batch_of t e change force rest).failed;
            }) comes_at
        by_turn true (Err code) none = refl
        by_turn false (Err code) none = absurd (cons_no_nil _ _ (none refl))

    -- a node that is changed or fails is one of its batch
    first_touched : (q : Path) (x : Node) (k : Result AclPair Code) (b : Batch) → Among q (touched_by (with_turn e force q x k b))
    first_touched q x k b = by_turn force k
      where
        by_turn : (f : Bool) (k : Result AclPair Code) → Among q (touched_by (with_turn e f q x k b))
        by_turn f (Ok pair) = among_right q (map (λ (y : Failure). y.path) b.failed) (q ∷ map (λ (y : Path × Put). y.0) b.changed) (inl refl)
        by_turn true (Err code) = inl refl
        by_turn false (Err code) = inl refl

    among_joined : (q : Path) (a b : Batch) → Among q (touched_by b) → Among q (touched_by (joined a b))
    among_joined q a b h = failed_first a.failed
      where
        changed_first : (xs : List (Path × Put)) → Among q (map (λ (y : Path × Put). y.0) b.changed) → Among q (map (λ (y : Path × Put). y.0) (xs ++ b.changed))
        changed_first [] k = k
        changed_first (x ∷ xs) k = inr (changed_first xs k)

        own_failed : (fs : List Failure) → Among q (map (λ (y : Failure). y.path) fs ++ map (λ (y : Path × Put). y.0) b.changed) → Among q (map (λ (y : Failure). y.path) fs ++ map (λ (y : Path × Put). y.0) (a.changed ++ b.changed))
        own_failed [] k = changed_first a.changed k
        own_failed (f ∷ fs) (inl k) = inl k
        own_failed (f ∷ fs) (inr k) = inr (own_failed fs k)

        failed_first : (fs : List Failure) → Among q (map (λ (y : Failure). y.path) (fs ++ b.failed) ++ map (λ (y : Path × Put). y.0) (a.changed ++ b.changed))
        failed_first [] = own_failed b.failed h
        failed_first (f ∷ fs) = inr (failed_first fs)

    pub next_touched : (parts : Parts) (rows : List Step) (q : Path) (rest : List Path) → AreNodesOf parts t (paths_in dir rows) (nodes_in rows) → (force ≡ false → failures_of turns dir rows ≡ [])
        → Among q (touched_by (batch_of t e change force (paths_in dir rows ++ q ∷ rest)))
    next_touched parts rows q rest are goes =
        subst (λ b. Among q (touched_by b)) (sym (batch_before parts rows (q ∷ rest) are goes))
        (among_joined q (batch_by turns moment dir rows) (batch_of t e change force (q ∷ rest)) (first_touched q (node_at t q) (turn_of (caller_of e) change (node_at t q)) (batch_of t e change force rest)))

    -- a node that fails ends it
    pub batch_ends : (parts : Parts) (rows : List Step) (r : Step) (rest : List Path) (code : Code) → AreNodesOf parts t (paths_in dir rows) (nodes_in rows) → node_at t (path_in dir r) ≡ node_of r.seen.node → force ≡ false
        → failures_of turns dir rows ≡ [] → turns (node_of r.seen.node) ≡ Err code
        → batch_of t e change force (paths_in dir rows ++ path_in dir r ∷ rest) ≡ batch_by turns moment dir (rows ++ r ∷ [])
    batch_ends parts rows r rest code are there unforced none comes =
        batch_before parts rows (path_in dir r ∷ rest) are (λ f. none)
        ∙ ap (joined (batch_by turns moment dir rows)) (turn_there force (path_in dir r) (node_of r.seen.node) rest there
        ∙ ap (λ k. with_turn e force (path_in dir r) (node_of r.seen.node) k (batch_of t e change force rest)) comes
        ∙ ap (λ f. with_turn e f (path_in dir r) (node_of r.seen.node) (Err code) (batch_of t e change force rest)) unforced)
        ∙ ap (λ l. record { changed = l; failed = failures_of turns dir rows ++ record { path = path_in dir r; node = node_of r.seen.node; code = code } ∷ [] })
        (append-nil (puts_by (edits_of turns moment dir rows))
        ∙ ap puts_by (sym (edits_more turns moment dir rows r ∙ ap (λ k. edits_of turns moment dir rows ++ edit_of k moment (path_in dir r) r.seen) comes ∙ append-nil (edits_of turns moment dir rows))))
        ∙ ap (λ l. record { changed = puts_by (edits_of turns moment dir (rows ++ r ∷ [])); failed = l })
        (sym (failures_more turns moment dir rows r ∙ ap (λ k. failures_of turns dir rows ++ failure_of k (path_in dir r) r.seen) comes))

-- ---- its token

resume_rows : (ts : Turns) (moment : ℕ) (dir : Path) (token o : Option Path) (rows : List Step) → failures_of ts dir rows ≡ [] → resume_at (resumed dir token o) (puts_by (edits_of ts moment dir rows)) ≡ resumed dir token (last_names o rows)
resume_rows ts moment dir token o [] none = refl
resume_rows ts moment dir token o (r ∷ rows) none = by_turn (ts (node_of r.seen.node)) none (resume_rows ts moment dir token (Some r.names.items) rows)
  where
    by_turn : (k : Result AclPair Code) → failure_of k (path_in dir r) r.seen ++ failures_of ts dir rows ≡ []
        → (failures_of ts dir rows ≡ [] → resume_at (resumed dir token (Some r.names.items)) (puts_by (edits_of ts moment dir rows)) ≡ resumed dir token (last_names (Some r.names.items) rows))
        → resume_at (resumed dir token o) (puts_by (edit_of k moment (path_in dir r) r.seen ++ edits_of ts moment dir rows)) ≡ resumed dir token (last_names (Some r.names.items) rows)
    by_turn (Ok pair) e more = more e
    by_turn (Err code) e more = absurd (cons_no_nil _ _ e)

-- where no failure ends the batch its token is that of the page
page_next : (force : Bool) (token : Option Path) (page : model.Page) (b : Batch) → (force ≡ false → b.failed ≡ []) → batch_next force token page b ≡ page.next
page_next true token page b goes = refl
page_next false token page b goes = ap (λ (l : List Failure). cond (length l == 0) page.next (resume_at token b.changed)) (goes refl)

not_none : (n : ℕ) → (suc n == 0) ≡ false
not_none n = grind (arith, nat_tests)

-- where one does it is the last that was changed
ended_next : (force : Bool) (token : Option Path) (page : model.Page) (b : Batch) (fs : List Failure) (f : Failure) → force ≡ false → b.failed ≡ fs ++ f ∷ [] → batch_next force token page b ≡ resume_at token b.changed
ended_next force token page b fs f unforced failed =
    ap (λ g. batch_next g token page b) unforced ∙ ap (λ (l : List Failure). cond (length l == 0) page.next (resume_at token b.changed)) failed ∙ some fs
  where
    some : (fs : List Failure) → cond (length (fs ++ f ∷ []) == 0) page.next (resume_at token b.changed) ≡ resume_at token b.changed
    some [] = refl
    some (g ∷ fs) = ap (λ c. cond c page.next (resume_at token b.changed)) (not_none (length (fs ++ f ∷ [])))

-- a token is one of the filesystem
pub resumed_on_page : (dir : Path) (token o : Option Path) → dir ≢ [] → IfSome token (λ k. is_prefix (take 1 dir) k ≡ true) → IfSome (resumed dir token o) (λ k. is_on_page (slice_get dir 0) k ≡ true)
resumed_on_page [] token o some is = absurd (some refl)
resumed_on_page (fs ∷ names) None None some is = tt
resumed_on_page (fs ∷ names) (Some k) None some is =
    let rest = behind_front (fs ∷ []) k is in subst (λ p. is_on_page (Some fs) p ≡ true) (sym rest.1) (same_bytes fs)
resumed_on_page (fs ∷ names) token (Some more) some is = same_bytes fs

-- ---- the batch so far

pub record IsRunning (held : Held) (shown : Shown) (call : Call) (asked : Asked) (count : ℕ) (w : Walk) (tally : Tally) (last : Option Path) : Type 0 where
  pub rows : List Step
  pub from : Path
  pub long : length rows ≡ count
  pub ahead : IsAhead held shown call.path.now from w
  pub so_far : (parts : Parts) (t : Tree) → Stands parts t → Agrees shown parts
      → (nodes_behind t call.path.now asked.token.now ≡ paths_in call.path.now rows ++ left_at t call.path.now from w) × AreNodesOf parts t (paths_in call.path.now rows) (nodes_in rows)
  pub looked : AreHeld held shown (nodes_in rows)
  pub tally_is : IsTally (turns_of call asked) call.moment call.path.now rows tally
  pub goes : asked.force ≡ false → failures_of (turns_of call asked) call.path.now rows ≡ []
  pub last_is : last ≡ last_names None rows

take_over : (n : ℕ) (done : List Path) (q : Path) (rest : List Path) → length done < n → (more : List Path) × (take n (done ++ q ∷ rest) ≡ done ++ q ∷ more)
take_over zero done q rest h = absurd (omega arith)
take_over (suc n) [] q rest h = (take n rest, refl)
take_over (suc n) (p ∷ done) q rest h = let k = take_over n done q rest (omega arith) in (k.0, ap (λ l. p ∷ l) k.1)

module _ (call : Call) (is_call : IsCall call) (asked : Asked) where
  abbrev dir : Path
  dir = call.path.now

  abbrev token : Option Path
  token = asked.token.now

  by_it : (e : Entry) → e.request ≡ call.request.now → caller_of e ≡ call.caller.now
  by_it e asks = ap (λ (r : Request). unwrap_or r.caller nobody) asks ∙ ap (λ c. unwrap_or c nobody) is_call.by

  -- it begins
  pub begins : (held : Held) (shown : Shown) (w : Walk) (tally : Tally) → IsReadyFor held shown call asked w → IsTally (turns_of call asked) call.moment dir [] tally → IsRunning held shown call asked 0 w tally None
  begins held shown w tally ready none = record {
    rows = [];
    from = ready.from;
    long = refl;
    ahead = ready.ahead;
    so_far = λ parts t stands agrees. (ready.left parts t stands agrees, tt);
    looked = tt;
    tally_is = none;
    goes = λ f. refl;
    last_is = refl;
  }

  -- the batch of these rows, whose list ends there or goes on
  pub run_in : (parts : Parts) (t : Tree) (rows : List Step) (rest : List Path) (next : Option Path) → AreNodesOf parts t (paths_in dir rows) (nodes_in rows) → nodes_behind t dir token ≡ paths_in dir rows ++ rest
      → (asked.force ≡ false → failures_of (turns_of call asked) dir rows ≡ []) → batch_page t dir token asked.max ≡ record { paths = paths_in dir rows; next = next } → IsRunIn parts t call asked rows next
  run_in parts t rows rest next are list goes page = record {
    nodes = are;
    front = (rest, list);
    batch = λ e asks at.
        ap (λ (p : model.Page). batch_of t e asked.change.now asked.force p.paths) page
        ∙ ap (batch_of t e asked.change.now asked.force) (sym (append-nil (paths_in dir rows)))
        ∙ batch_before t e asked.change.now call.caller.now (by_it e asks) call.moment at asked.force dir parts rows [] are goes
        ∙ joined_none (batch_by (turns_of call asked) call.moment dir rows);
    next_is = page_next asked.force token (batch_page t dir token asked.max) (batch_by (turns_of call asked) call.moment dir rows) goes ∙ ap (λ (p : model.Page). p.next) page;
  }

  module _ (held : Held) (old new : Shown) (count : ℕ) (before : Walk) (tally : Tally) (last : Option Path) (grows : Grows old new) (is : IsRunning held old call asked count before tally last) where
    abbrev done : List Path
    done = paths_in dir is.rows

    abbrev the_turns : Turns
    the_turns = turns_of call asked

    so_far_later : (parts : Parts) (t : Tree) → Stands parts t → Agrees new parts
        → (nodes_behind t dir token ≡ done ++ left_at t dir is.from before) × AreNodesOf parts t done (nodes_in is.rows)
    so_far_later parts t stands agrees = is.so_far parts t stands (agrees_before old new parts grows agrees)

    -- ---- a node more

    module _ (after : Walk) (r : Step) (later : Tally) (failed : Bool) (step : (d f : Path) → IsAhead held old d f before → IsStep held new d f before after r)
        (taken : (rows : List Step) → IsTally the_turns call.moment dir rows tally → IsTally the_turns call.moment dir (rows ++ r ∷ []) later) (tells : failed ≡ fails (the_turns (node_of r.seen.node))) where
      abbrev here : IsStep held new dir is.from before after r
      here = step dir is.from is.ahead

      nodes_next : (parts : Parts) (t : Tree) → Stands parts t → Agrees new parts → AreNodesOf parts t (paths_in dir (is.rows ++ r ∷ [])) (nodes_in (is.rows ++ r ∷ []))
      nodes_next parts t stands agrees =
          subst (λ l. AreNodesOf parts t l (nodes_in (is.rows ++ r ∷ []))) (sym (paths_more dir is.rows r))
          (subst (λ l. AreNodesOf parts t (done ++ path_in dir r ∷ []) l) (sym (rows_nodes_more is.rows r))
          (nodes_more parts t done (nodes_in is.rows) (path_in dir r) r.seen (so_far_later parts t stands agrees).1 (here.node parts t stands agrees)))

      list_next : (parts : Parts) (t : Tree) → Stands parts t → Agrees new parts → nodes_behind t dir token ≡ paths_in dir (is.rows ++ r ∷ []) ++ left_at t dir (path_in dir r) after
      list_next parts t stands agrees =
          (so_far_later parts t stands agrees).0 ∙ ap (λ l. done ++ l) (here.left parts t stands agrees)
          ∙ sym (append_assoc done (path_in dir r ∷ []) (left_at t dir (path_in dir r) after))
          ∙ ap (λ l. l ++ left_at t dir (path_in dir r) after) (sym (paths_more dir is.rows r))

      looked_next : AreHeld held new (nodes_in (is.rows ++ r ∷ []))
      looked_next = subst (λ l. AreHeld held new l) (sym (rows_nodes_more is.rows r)) (held_more held new (nodes_in is.rows) r.seen (held_grows held old new (nodes_in is.rows) grows is.looked) here.looked)

      no_failure : (k : Result AclPair Code) → fails k ≡ false → failure_of k (path_in dir r) r.seen ≡ []
      no_failure (Ok pair) e = refl
      no_failure (Err code) e = absurd (false≢true (sym e))

      pub one_more : (asked.force ≡ false → failed ≡ false) → IsRunning held new call asked (count + 1) after later (Some r.names.items)
      one_more goes = record {
        rows = is.rows ++ r ∷ [];
        from = path_in dir r;
        long = length-append is.rows (r ∷ []) ∙ ap (λ k. k + 1) is.long;
        ahead = here.goes_on;
        so_far = λ parts t stands agrees. (list_next parts t stands agrees, nodes_next parts t stands agrees);
        looked = looked_next;
        tally_is = taken is.rows is.tally_is;
        goes = λ f.
            failures_more the_turns call.moment dir is.rows r
            ∙ ap (λ l. l ++ failure_of (the_turns (node_of r.seen.node)) (path_in dir r) r.seen) (is.goes f) ∙ no_failure (the_turns (node_of r.seen.node)) (sym tells ∙ goes f);
        last_is = sym (last_more None is.rows r);
      }

      failing : (k : Result AclPair Code) → fails k ≡ true → (code : Code) × (k ≡ Err code)
      failing (Ok pair) e = absurd (false≢true e)
      failing (Err code) e = (code, refl)

      -- it fails, and ends the batch
      pub failed_ends : (run : Run) → failed ≡ true → asked.force ≡ false → count < asked.max → run.tally ≡ later → run.next ≡ resumed dir token last → dir ≢ [] → IfSome token (λ k. is_prefix (take 1 dir) k ≡ true)
          → IsRun held new call asked run
      failed_ends run fails_so unforced less same next some of_page =
          let why = failing (the_turns (node_of r.seen.node)) (sym tells ∙ fails_so) in
          let told : failures_of the_turns dir (is.rows ++ r ∷ []) ≡ failures_of the_turns dir is.rows ++ record { path = path_in dir r; node = node_of r.seen.node; code = why.0 } ∷ [] =
          failures_more the_turns call.moment dir is.rows r ∙ ap (λ k. failures_of the_turns dir is.rows ++ failure_of k (path_in dir r) r.seen) why.1 in
          let changed : edits_of the_turns call.moment dir (is.rows ++ r ∷ []) ≡ edits_of the_turns call.moment dir is.rows =
          edits_more the_turns call.moment dir is.rows r ∙ ap (λ k. edits_of the_turns call.moment dir is.rows ++ edit_of k call.moment (path_in dir r) r.seen) why.1 ∙ append-nil (edits_of the_turns call.moment dir is.rows) in
          record {
            rows = is.rows ++ r ∷ [];
            tally = subst (IsTally the_turns call.moment dir (is.rows ++ r ∷ [])) (sym same) (taken is.rows is.tally_is);
            is_run = λ parts t stands agrees.
                let so_far = so_far_later parts t stands agrees in
                let over = take_over asked.max done (path_in dir r) (left_at t dir (path_in dir r) after) (let l = paths_long dir is.rows in let k = is.long in omega (arith, l, k, less)) in
                record {
                  nodes = nodes_next parts t stands agrees;
                  front = (left_at t dir (path_in dir r) after, list_next parts t stands agrees);
                  batch = λ e asks at.
                      ap (λ l. batch_of t e asked.change.now asked.force (take asked.max l)) (so_far.0 ∙ ap (λ l. done ++ l) (here.left parts t stands agrees))
                      ∙ ap (batch_of t e asked.change.now asked.force) over.1
                      ∙ batch_ends t e asked.change.now call.caller.now (by_it e asks) call.moment at asked.force dir parts is.rows r over.0 why.0 so_far.1
                      (ap (λ (o : Option Node). unwrap_or o blank) (here.node parts t stands agrees).shows) unforced (is.goes unforced) why.1;
                  next_is =
                      ended_next asked.force token (batch_page t dir token asked.max) (batch_by the_turns call.moment dir (is.rows ++ r ∷ [])) (failures_of the_turns dir is.rows) _ unforced told
                      ∙ ap (λ l. resume_at token (puts_by l)) changed
                      ∙ resume_rows the_turns call.moment dir token None is.rows (is.goes unforced)
                      ∙ ap (resumed dir token) (sym is.last_is) ∙ sym next;
                };
            looked = looked_next;
            on_page = subst (λ o. IfSome o (λ k. is_on_page (slice_get dir 0) k ≡ true)) (sym next) (resumed_on_page dir token last some of_page);
          }

    -- ---- its end

    -- a stripe that isn't held
    pub run_needs : (n : Need) → count < asked.max → ((d f : Path) → IsAhead held old d f before → NeedsLeft held old d f before n) → NeedsOfBatch held new call asked n
    run_needs n less step =
        let needs = step dir is.from is.ahead in
        record {
          within = needs.within;
          asks = needs.asks;
          lacks = needs.lacks;
          needed = λ parts t stands agrees e asks at.
              let was = agrees_before old new parts grows agrees in
              let so_far = is.so_far parts t stands was in
              let one = needs.needed parts t stands was in
              let over = take_over asked.max done one.0 one.1.0 (let l = paths_long dir is.rows in let k = is.long in omega (arith, l, k, less)) in (
                one.0,
                (
                  one.1.1.0,
                  (
                    subst (λ l. Among one.0 (touched_by (batch_of t e asked.change.now asked.force l))) (sym (ap (take asked.max) (so_far.0 ∙ ap (λ l. done ++ l) one.1.1.1.0) ∙ over.1))
                        (next_touched t e asked.change.now call.caller.now (by_it e asks) call.moment at asked.force dir parts is.rows one.0 over.0 so_far.1 is.goes),
                    (one.1.1.1.1.0, one.1.1.1.1.1),
                  ),
                ),
              );
        }

    -- nothing is left
    pub run_ended : (run : Run) → count ≤ asked.max → ((d f : Path) → IsAhead held old d f before → (parts : Parts) (t : Tree) → Stands parts t → Agrees new parts → left_at t d f before ≡ []) → run.tally ≡ tally → run.next ≡ None
        → IsRun held new call asked run
    run_ended run few step same next = record {
      rows = is.rows;
      tally = subst (IsTally the_turns call.moment dir is.rows) (sym same) is.tally_is;
      is_run = λ parts t stands agrees.
          let so_far = so_far_later parts t stands agrees in
          let list : nodes_behind t dir token ≡ done ++ [] = so_far.0 ∙ ap (λ l. done ++ l) (step dir is.from is.ahead parts t stands agrees) in
          run_in parts t is.rows [] run.next so_far.1 list is.goes
          (last_page asked.max dir (nodes_behind t dir token) done (list ∙ append-nil done) (let l = paths_long dir is.rows in let k = is.long in omega (arith, l, k, few))
          ∙ ap (λ o. record { paths = done; next = o }) (sym next));
      looked = held_grows held old new (nodes_in is.rows) grows is.looked;
      on_page = subst (λ o. IfSome o (λ k. is_on_page (slice_get dir 0) k ≡ true)) (sym next) tt;
    }

    -- more is left
    pub run_full : (run : Run) → 1 ≤ asked.max → count ≡ asked.max
        → ((d f : Path) → IsAhead held old d f before → (parts : Parts) (t : Tree) → Stands parts t → Agrees old parts → IsEndOf (left_at t d f before) false) → run.tally ≡ tally → run.next ≡ resumed dir token last
        → dir ≢ [] → IfSome token (λ k. is_prefix (take 1 dir) k ≡ true) → IsRun held new call asked run
    run_full run some full ends same next below of_page = record {
      rows = is.rows;
      tally = subst (IsTally the_turns call.moment dir is.rows) (sym same) is.tally_is;
      is_run = λ parts t stands agrees.
          let was = agrees_before old new parts grows agrees in
          let so_far = is.so_far parts t stands was in
          let left = ends dir is.from is.ahead parts t stands was in
          let list : nodes_behind t dir token ≡ done ++ left.0 ∷ left.1.0 = so_far.0 ∙ ap (λ l. done ++ l) left.1.1 in
          run_in parts t is.rows (left.0 ∷ left.1.0) run.next so_far.1 list is.goes
          (more_page asked.max dir (nodes_behind t dir token) done left.0 left.1.0 some list (paths_long dir is.rows ∙ is.long ∙ full)
          ∙ ap (λ o. record { paths = done; next = o })
          (sym (next ∙ ap (resumed dir token) is.last_is ∙ last_is dir token is.rows (let k = is.long in omega (arith, k, full, some)))));
      looked = held_grows held old new (nodes_in is.rows) grows is.looked;
      on_page = subst (λ o. IfSome o (λ k. is_on_page (slice_get dir 0) k ≡ true)) (sym next) (resumed_on_page dir token last below of_page);
    }

pub running_as : {held later : Held} {shown : Shown} {call : Call} {asked : Asked} {count : ℕ} {w : Walk} {tally : Tally} {last : Option Path} → later ≡ held → IsRunning held shown call asked count w tally last → IsRunning later shown call asked count w tally last
running_as {shown} {call} {asked} {count} {w} {tally} {last} same is = subst (λ h. IsRunning h shown call asked count w tally last) (sym same) is
