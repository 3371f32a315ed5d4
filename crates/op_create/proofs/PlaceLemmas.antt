-- What comes of a call that makes a node by the end of the way to its parent, and by what was found there.
use Rattle.std.proofs.Common.{◌≡◌, ◌≢◌, inl, inr, ℕ, zero, suc, ◌+◌, ◌-◌, ◌==◌, ◌<◌, ◌≤◌, Bool, true, false, cond, not, ◌&&◌, List, [], ◌∷◌, ◌++◌, length, take, drop, Option, Some, None, option_map, is_some, unwrap_or, Result, Ok, Err, refl, ap, sym, subst, ◌∙◌, append_assoc, append-nil, arith}
use Rattle.std.proofs.lemmas.Bool.{false≢true}
use Rattle.std.proofs.lemmas.Bool.Decides.{leb_tells}
use Rattle.std.proofs.Math.Logic.{∥∥₁_elim}
use mathlib.Core.HLevel.{⊥_prop}
use Rattle.std.specs.FinMap as fin
use Rattle.namespace_model.specs.declared.caller.Caller.{Caller}
use Rattle.namespace_model.specs.declared.code.Code.TheVariants.{ResourceTypeMismatch, DirectoryNotEmpty}
use Rattle.namespace_model.specs.declared.denied.Refusal.{Refusal}
use Rattle.namespace_model.specs.declared.op.Op.{Op}
use Rattle.namespace_model.specs.declared.reply.Reply.{Reply}
use Rattle.namespace_model.specs.declared.request.Entry.{Entry}
use Rattle.namespace_model.specs.declared.request.Request.{Request}
use Rattle.namespace_model.specs.Create.{Making, create, create_from, create_in, create_under, create_over, create_new, made, made_below, new_nodes}
use Rattle.namespace_model.specs.Nodes.{Node, blank, is_directory, is_directory_content, has_kind}
use Rattle.namespace_model.specs.Outcomes.{Outcome, answered, reading, unless, noted}
use Rattle.namespace_model.specs.Refusals.{caller_of, lacks, or_else, refuse_if, is_guarded, exists_already, is_unmet, is_unmet_without}
use Rattle.namespace_model.specs.Sound.{IsOperation}
use Rattle.namespace_model.specs.Trees.{Path, Tree, at, parent, is_bare}
use Rattle.namespace_model.specs.Walks.{ended, hand_on}
use Rattle.namespace_model.specs.Ways.{Way, reached, missing, blocked, closed, passed, met, may_enter, base_of, way_from, way_of, read_on}
use Rattle.namespace_model.proofs.WayLemmas.{reading_both}
use Rattle.namespace_model.proofs.Effected.{drop_front}
use Rattle.namespace_model.proofs.Prefixes.{length_append, parent_name}
use Rattle.inode_tree.specs.declared.draft.EvalStop.TheVariants as stop
use Rattle.inode_tree.specs.declared.id.NodeId.{NodeId}
use Rattle.inode_tree.specs.declared.need.Need.{Need}
use Rattle.inode_tree.specs.ChildLists.{name_cmp}
use Rattle.inode_tree.specs.Inodes.{BareInode, BareContent, directory, file, links_in, node_content, node_of}
use Rattle.inode_tree.specs.Parts.{Parts, follow}
use Rattle.inode_tree.specs.Promises.{numbers_of}
use Rattle.inode_tree.specs.Stands.{Stands}
use Rattle.inode_tree.specs.Views.{Held, Shown, Agrees, Agreeing}
use Rattle.inode_tree.proofs.IndexLemmas.{index_from_stands}
use Rattle.path_walk.specs.declared.call.Call.{Call}
use Rattle.path_walk.specs.declared.find.Find.{Find}
use Rattle.path_walk.specs.declared.find.Found.{Found}
use Rattle.path_walk.specs.declared.find.Found.TheVariants as found
use Rattle.path_walk.specs.declared.parent.Parent.{Parent}
use Rattle.path_walk.specs.declared.stop.Base.{Base}
use Rattle.path_walk.specs.declared.stop.End.{End}
use Rattle.path_walk.specs.declared.stop.End.TheVariants as end
use Rattle.path_walk.specs.declared.stop.Visit.{Visit}
use Rattle.path_walk.specs.Answers.{stop_reply}
use Rattle.path_walk.specs.Calls.{Answers}
use Rattle.path_walk.specs.Children.{has_children}
use Rattle.path_walk.specs.Finds.{last_read, read_to, IsFound, IsPlaced, IsFindFor}
use Rattle.path_walk.specs.Parents.{IsParent}
use Rattle.path_walk.specs.Visits.{end_of, IsVisitFor, AreLookedAt, IsOnTheWay, NeedsChild}
use Rattle.path_walk.proofs.AnswerLemmas.{outcome_reads, read_need, way_need}
use Rattle.path_walk.proofs.FindLemmas.{child_needs}
use Rattle.path_walk.proofs.QuestionLemmas.{unless_both}
use Rattle.path_walk.proofs.BareLemmas.{shows_node, bare_is}
use Rattle.op_create.specs.declared.nodes.NewNode.{NewNode}
use Rattle.op_create.specs.declared.place.Place.{Place}
use Rattle.op_create.specs.Creates.{IsCreate, making_of, asked, refusal_over, refusal_by, replaced_by, IsComing, IsPlace, LeadsTo, replaced_path}
use Rattle.op_create.proofs.CreateLemmas.{create_is, caller_is, step_is}

-- ---- names

take_drop : (k : ℕ) (xs : Path) → xs ≡ take k xs ++ drop k xs
take_drop zero xs = refl
take_drop (suc k) [] = refl
take_drop (suc k) (x ∷ xs) = ap (λ (l : Path). x ∷ l) (take_drop k xs)

take_front : (d r : Path) → take (length d) (d ++ r) ≡ d
take_front [] r = refl
take_front (n ∷ d) r = ap (λ (l : Path). n ∷ l) (take_front d r)

-- as many names as stand behind the first are those of the parent
front_is_parent : (path : Path) (n : List ℕ) → path ≡ parent path ++ n ∷ [] → take (length (drop 1 path)) path ≡ parent path
front_is_parent path n named =
    let long : length path ≡ length (parent path) + 1 = ap (λ (l : Path). length l) named ∙ length_append (parent path) (n ∷ []) in
    let k : length (drop 1 path) ≡ length (parent path) = one_less path (length (parent path)) long in
    ap (λ j. take j path) k ∙ ap (take (length (parent path))) named ∙ take_front (parent path) (n ∷ [])
  where
    one_less : (xs : Path) (k : ℕ) → length xs ≡ k + 1 → length (drop 1 xs) ≡ k
    one_less [] k e = absurd (let z : 0 ≡ k + 1 = e in omega arith)
    one_less (x ∷ xs) k e = let s : length (x ∷ xs) ≡ suc (length xs) = refl in let g : length xs ≡ k = omega arith in g

-- the names behind the filesystem from this one on
pub names_left : (k : ℕ) (path names : Path) → names ≡ drop 1 path → 1 < k → take (length names - (k - 2)) (drop (k - 2) names) ≡ drop (k - 1) path
names_left k path names are deep =
    all_left (k - 2) names ∙ ap (drop (k - 2)) are ∙ one_more (k - 2) path ∙ ap (λ j. drop j path) (let h : suc (k - 2) ≡ k - 1 = omega arith in h)
  where
    take_all : (xs : Path) → take (length xs) xs ≡ xs
    take_all [] = refl
    take_all (x ∷ xs) = ap (λ (l : Path). x ∷ l) (take_all xs)

    all_left : (j : ℕ) (xs : Path) → take (length xs - j) (drop j xs) ≡ drop j xs
    all_left zero xs = ap (λ i. take i xs) (let h : length xs - 0 ≡ length xs = omega arith in h) ∙ take_all xs
    all_left (suc j) [] = ap (λ i. take i (drop (suc j) [])) (let h : 0 - suc j ≡ 0 = omega arith in h)
    all_left (suc j) (x ∷ xs) = ap (λ i. take i (drop j xs)) (let s : length (x ∷ xs) ≡ suc (length xs) = refl in let h : length (x ∷ xs) - suc j ≡ length xs - j = omega arith in h) ∙ all_left j xs

    one_more : (j : ℕ) (xs : Path) → drop j (drop 1 xs) ≡ drop (suc j) xs
    one_more zero [] = refl
    one_more (suc j) [] = refl
    one_more j (x ∷ xs) = refl

-- ---- a way on which a node is missing

-- the names behind the last directory that is there: the first of them leads nowhere
abbrev IsMissing : Tree → Path → Path → Type 0
IsMissing t whole d = (n : List ℕ) × (rest : Path) × (whole ≡ d ++ n ∷ rest) × (at t (d ++ n ∷ []) ≡ None)

abbrev is_missing_way : Way → Bool
is_missing_way (missing d) = true
is_missing_way reached = false
is_missing_way (blocked p) = false
is_missing_way (closed p r) = false

abbrev missing_at : Way → Path
missing_at (missing d) = d
missing_at reached = []
missing_at (blocked p) = []
missing_at (closed p r) = []

missing_is : (t : Tree) (caller : Caller) (done names d : Path) → way_from t caller done names ≡ missing d → IsMissing t (done ++ names) d
missing_is t caller done [] d e = absurd (false≢true (ap is_missing_way e))
missing_is t caller done (n ∷ names) d e = by_node (at t (done ++ n ∷ [])) refl (λ k. missing_is t caller (done ++ n ∷ []) names d k) e
  where
    by_check : (p : Path) (check : Result Unit Refusal) → (way_from t caller (done ++ n ∷ []) names ≡ missing d → IsMissing t ((done ++ n ∷ []) ++ names) d)
        → passed p check (way_from t caller (done ++ n ∷ []) names) ≡ missing d → IsMissing t (done ++ n ∷ names) d
    by_check p (Ok allowed) further k = subst (λ (w : Path). IsMissing t w d) (append_assoc done (n ∷ []) names) (further k)
    by_check p (Err refusal) further k = absurd (false≢true (ap is_missing_way k))

    by_kind : (p : Path) (x : Node) (b : Bool) → (way_from t caller (done ++ n ∷ []) names ≡ missing d → IsMissing t ((done ++ n ∷ []) ++ names) d)
        → cond b (passed p (may_enter caller x) (way_from t caller (done ++ n ∷ []) names)) (blocked p) ≡ missing d → IsMissing t (done ++ n ∷ names) d
    by_kind p x true further k = by_check p (may_enter caller x) further k
    by_kind p x false further k = absurd (false≢true (ap is_missing_way k))

    by_node : (u : Option Node) → at t (done ++ n ∷ []) ≡ u → (way_from t caller (done ++ n ∷ []) names ≡ missing d → IsMissing t ((done ++ n ∷ []) ++ names) d)
        → met caller done (done ++ n ∷ []) u (way_from t caller (done ++ n ∷ []) names) ≡ missing d → IsMissing t (done ++ n ∷ names) d
    by_node None none further k = let same : done ≡ d = ap missing_at k in subst (λ (q : Path). IsMissing t (done ++ n ∷ names) q) same (n, names, refl, none)
    by_node (Some x) there further k = by_kind (done ++ n ∷ []) x (is_directory x) further k

abbrev is_lost : End → Bool
is_lost (end.NotFound depth) = true
is_lost end.Reached = false
is_lost (end.NotDirectory depth) = false
is_lost (end.Denied x) = false

abbrev lost_depth : End → ℕ
lost_depth (end.NotFound depth) = depth
lost_depth end.Reached = 0
lost_depth (end.NotDirectory depth) = 0
lost_depth (end.Denied x) = 0

-- a way that ends where nothing is
lost_way : (w : Way) (depth : ℕ) → end.NotFound depth ≡ end_of w → (d : Path) × (w ≡ missing d) × (depth ≡ length d + 1)
lost_way reached depth e = absurd (false≢true (sym (ap is_lost e)))
lost_way (missing d) depth e = (d, refl, ap lost_depth e)
lost_way (blocked p) depth e = absurd (false≢true (sym (ap is_lost e)))
lost_way (closed p r) depth e = absurd (false≢true (sym (ap is_lost e)))

-- where nothing stands no id is reached
nowhere : (parts : Parts) (t : Tree) → Stands parts t → (q : Path) → at t q ≡ None → follow parts 0 q ≡ None
nowhere parts t stands q none = by_id (follow parts 0 q) refl
  where
    by_id : (o : Option ℕ) → follow parts 0 q ≡ o → o ≡ None
    by_id None is = refl
    by_id (Some i) is = absurd (false≢true (sym (ap is_some none) ∙ ap is_some ((index_from_stands parts t stands).places q i is).shows))

-- ---- refusals

of_kind : (c : BareContent) → (is_directory_content (node_content c) && not (fin.len (links_in c) == 0)) ≡ not (fin.len (links_in c) == 0)
of_kind (directory links) = refl
of_kind (file bytes staged) = sym (ap (λ k. not (k == 0)) (fin.len-empty name_cmp ℕ))

-- what is asked of a node that is there is asked of its inode
module _ (t : Tree) (e : Entry) (m : Making) (dir : Node) (y : BareInode) where
  abbrev guarded : Option Reply
  guarded = is_guarded (caller_of e) dir m.path (node_of y)

  abbrev taken : Option Reply
  taken = exists_already e

  abbrev unmet : Option Reply
  unmet = is_unmet e (node_of y)

  abbrev other_kind : Option Reply
  other_kind = refuse_if (not (has_kind m.kind (node_of y))) ResourceTypeMismatch

  abbrev filled : Option Reply
  filled = refuse_if (has_children y) DirectoryNotEmpty

  abbrev over_refusal : Option Reply
  over_refusal = or_else guarded (or_else taken (or_else unmet (or_else other_kind filled)))

  abbrev rest : Outcome
  rest = made_below e m (parent m.path) dir (m.path ∷ [])

  over_is : is_bare t m.path ≡ (fin.len (links_in y.content) == 0) → create_over t e m dir (node_of y) ≡ unless over_refusal (made_below e m (parent m.path) dir (m.path ∷ []))
  over_is bare =
      ap (λ b. unless guarded (unless taken (unless unmet (unless other_kind (unless (refuse_if (is_directory (node_of y) && not b) DirectoryNotEmpty) rest))))) bare
      ∙ ap (λ b. unless guarded (unless taken (unless unmet (unless other_kind (unless (refuse_if b DirectoryNotEmpty) rest))))) (of_kind y.content)
      ∙ ap (λ o. unless guarded (unless taken (unless unmet o))) (unless_both other_kind filled rest)
      ∙ ap (λ o. unless guarded (unless taken o)) (unless_both unmet (or_else other_kind filled) rest)
      ∙ ap (unless guarded) (unless_both taken (or_else unmet (or_else other_kind filled)) rest)
      ∙ unless_both guarded (or_else taken (or_else unmet (or_else other_kind filled))) rest

-- ---- what comes of a way

-- a way ends so before the parent, and nothing is to be made there
abbrev pub Stops : End → Type 0
Stops end.Reached = ⊥
Stops (end.NotFound depth) = depth ≤ 1
Stops (end.NotDirectory depth) = Unit {0}
Stops (end.Denied denied) = Unit {0}

pub stops_else : (e : End) → e ≢ end.Reached → ((depth : ℕ) → e ≢ end.NotFound depth) → Stops e
stops_else end.Reached one other = absurd (one refl)
stops_else (end.NotFound depth) one other = absurd (other depth refl)
stops_else (end.NotDirectory depth) one other = tt
stops_else (end.Denied denied) one other = tt

-- the path of a sound call has from two to 60 names
pub path_is_short : (call : Call) (new : NewNode) → IsCreate call new → (2 ≤ length call.path.now) × (length call.path.now ≤ 60)
path_is_short call new is = let k = subst (λ (o : Op). IsOperation o (length call.request.now.body)) is.operation is.is_call.sound.operation in (k.0.parts, k.0.limits.depth_within)

-- and so have its last names
pub few_names : (call : Call) (new : NewNode) → IsCreate call new → (above names : Path) → call.path.now ≡ above ++ names → length names ≤ 60
few_names call new is above names named =
    let a = (path_is_short call new is).1 in
    let b : length call.path.now ≡ length above + length names = ap (λ (l : Path). length l) named ∙ length_append above names in
    omega arith

pub path_is_some : (call : Call) (new : NewNode) → IsCreate call new → call.path.now ≢ []
path_is_some call new is none = let a = (path_is_short call new is).0 in let b : length call.path.now ≡ 0 = ap (λ (l : Path). length l) none in omega arith

module _ (call : Call) (new : NewNode) (is : IsCreate call new) where
  abbrev m : Making
  m = making_of call new

  abbrev caller : Caller
  caller = call.caller.now

  abbrev path : Path
  path = call.path.now

  abbrev entry_of : Request → Entry
  entry_of request = record { conn = 0; index = 0; moment = call.moment; request = request }

  abbrev after : Tree → Entry → Outcome
  after t e = hand_on t (parent path) (create_in t e m)

  abbrev lost_at : Tree → Entry → Path → Outcome
  lost_at t e d = hand_on t d (create_from e m d)

  -- the step by the way
  create_on : (t : Tree) (e : Entry) → e.request ≡ call.request.now
      → create t e m ≡ reading (read_on t caller path) (ended (lost_at t e) ResourceTypeMismatch (after t e) (way_of t caller path))
  create_on t e asks =
      create_is t e m
      ∙ ap (λ c. reading (read_on t c path) (ended (lost_at t e) ResourceTypeMismatch (after t e) (way_of t c path))) (caller_is e call is.is_call asks)

  unmet_same : (e : Entry) → e.request ≡ call.request.now → is_unmet_without e ≡ is_unmet_without (asked call)
  unmet_same e asks = ap (λ (r : Request). is_unmet_without (entry_of r)) asks

  abbrev over_by : Node → BareInode → Caller → Request → Option Reply
  over_by dir y c r =
      or_else (is_guarded c dir path (node_of y)) (or_else (exists_already (entry_of r)) (or_else (is_unmet (entry_of r) (node_of y))
      (or_else (refuse_if (not (has_kind new.kind (node_of y))) ResourceTypeMismatch) (refuse_if (has_children y) DirectoryNotEmpty))))

  over_same : (e : Entry) → e.request ≡ call.request.now → (dir : Node) (y : BareInode) → over_by dir y (caller_of e) e.request ≡ refusal_over call new.kind dir y
  over_same e asks dir y = ap (λ c. over_by dir y c e.request) (caller_is e call is.is_call asks) ∙ ap (over_by dir y caller) asks

  -- a stripe of the way is needed
  pub way_needed : (held : Held) (shown : Shown) (n : Need) → IsOnTheWay held shown caller path n → Answers held shown call (Err (stop.Need n))
  way_needed held shown n on =
      way_need held shown call.request.now call.moment call.fresh caller path n on (λ parts t en possible of. (
        ended (lost_at t en.entry) ResourceTypeMismatch (after t en.entry) (way_of t caller path),
        step_is call new is t en.entry of.asks ∙ create_on t en.entry of.asks,
      ))

  -- ---- the parent is reached

  module _ (held : Held) (shown : Shown) (dir : Parent) (here : IsParent held shown caller path dir) where
    abbrev none_there : Entry → Outcome
    none_there e = create_new e m (parent path) (node_of dir.node)

    abbrev looking : Tree → Entry → Option Node → Outcome
    looking t e u = noted u path (none_there e) (create_over t e m (node_of dir.node))

    module _ (r : Option Reply) (says : r ≡ lacks caller 3 (take (length (drop 1 path)) path) (node_of dir.node)) where
      checked : (parts : Parts) (t : Tree) → Stands parts t → Agrees shown parts → (e : Entry) → e.request ≡ call.request.now
          → create t e m ≡ reading (read_on t caller path) (unless r (looking t e (at t path)))
      checked parts t stands agrees e asks =
          let p = here.is_parent parts t stands agrees in
          create_on t e asks
          ∙ ap (λ w. reading (read_on t caller path) (ended (lost_at t e) ResourceTypeMismatch (after t e) w)) p.passes
          ∙ ap (λ u. reading (read_on t caller path) (create_in t e m (unwrap_or u blank))) (shows_node parts t stands (parent path) dir.id.0 dir.node p.leads p.there)
          ∙ ap (λ u. reading (read_on t caller path) (unless u (looking t e (at t path))))
          (ap (λ c. lacks c 3 (parent path) (node_of dir.node)) (caller_is e call is.is_call asks)
          ∙ ap (λ q. lacks caller 3 q (node_of dir.node)) (sym (front_is_parent path dir.name.now here.named)) ∙ sym says)

      -- the caller may not write there
      pub lacks_comes : (reply : Reply) → r ≡ Some reply → (parts : Parts) (t : Tree) → Stands parts t → Agrees shown parts → IsComing parts t call new dir.reads.items (λ e. answered reply)
      lacks_comes reply refuses parts t stands agrees = record {
        paths = read_on t caller path;
        read = (here.is_parent parts t stands agrees).read;
        comes = λ e asks comes_at. checked parts t stands agrees e asks ∙ ap (λ u. reading (read_on t caller path) (unless u (looking t e (at t path)))) refuses;
      }

      module _ (may : r ≡ None) where
        abbrev next : Tree → Entry → Option Node → Outcome
        next t e None = none_there e
        next t e (Some y) = create_over t e m (node_of dir.node) y

        -- what is read to find the node of the path is read, and then comes what is found
        reads_node : (parts : Parts) (t : Tree) → Stands parts t → Agrees shown parts → (e : Entry) → e.request ≡ call.request.now → (u : Option Node) → at t path ≡ u
            → create t e m ≡ reading (read_to t caller path) (next t e u)
        reads_node parts t stands agrees e asks u found =
            checked parts t stands agrees e asks
            ∙ ap (λ k. reading (read_on t caller path) (unless k (looking t e (at t path)))) may
            ∙ ap (λ k. reading (read_on t caller path) (looking t e k)) found
            ∙ by_node u
            ∙ sym (ap (λ w. reading (read_on t caller path ++ last_read w path (at t path)) (next t e u)) (here.is_parent parts t stands agrees).passes
            ∙ ap (λ k. reading (read_on t caller path ++ last_read reached path k) (next t e u)) found)
          where
            by_node : (k : Option Node) → reading (read_on t caller path) (looking t e k) ≡ reading (read_on t caller path ++ last_read reached path k) (next t e k)
            by_node None = ap (λ l. reading l (none_there e)) (sym (append-nil (read_on t caller path)))
            by_node (Some y) = reading_both (read_on t caller path) (path ∷ []) (create_over t e m (node_of dir.node) y)

        -- a stripe of the node of the path is needed
        pub look_needed : (n : Need) → NeedsChild held dir.node dir.name.now n → Answers held shown call (Err (stop.Need n))
        look_needed n needs =
            let before = child_needs held shown caller path dir here n needs in
            read_need held shown call.request.now call.moment call.fresh n before.within before.asks before.lacks (λ parts t en possible of. (
              read_to t caller path,
              outcome_reads t en (read_to t caller path) (next t en.entry (at t path))
                  (step_is call new is t en.entry of.asks ∙ reads_node parts t possible.stands possible.agrees en.entry of.asks (at t path) refl),
              before.needed parts t possible.stands possible.agrees,
            ))

        abbrev one : Path
        one = dir.name.now ∷ []

        abbrev comes_with : Entry → Option Reply → Option NodeId → BareInode → Path → Outcome
        comes_with e refused old x names = unless refused (made e m (parent path) (replaced_path old path) (new_nodes e m (node_of x) (parent path) names))

        below_is : (e : Entry) (gone : List Path) → made_below e m (parent path) (node_of dir.node) gone ≡ made e m (parent path) gone (new_nodes e m (node_of dir.node) (parent path) one)
        below_is e gone =
            ap (λ names. made e m (parent path) gone (new_nodes e m (node_of dir.node) (parent path) names)) (ap (drop (length (parent path))) here.named ∙ drop_front (parent path) one)

        -- by what was found
        found_comes : (parts : Parts) (t : Tree) → Stands parts t → Agrees shown parts → (g : Found) → IsFound t caller path g → IsPlaced parts path g → (e : Entry) → e.request ≡ call.request.now
            → create t e m ≡ reading (read_to t caller path) (comes_with e (refusal_by call new.kind (node_of dir.node) g) (replaced_by g) dir.node one)
        found_comes parts t stands agrees found.Nothing found placed e asks =
            reads_node parts t stands agrees e asks None found.1
            ∙ ap (λ u. reading (read_to t caller path) (unless u (made_below e m (parent path) (node_of dir.node) []))) (unmet_same e asks)
            ∙ ap (λ o. reading (read_to t caller path) (unless (is_unmet_without (asked call)) o)) (below_is e [])
        found_comes parts t stands agrees (found.Node id y) found placed e asks =
            reads_node parts t stands agrees e asks (Some (node_of y)) found.1
            ∙ ap (reading (read_to t caller path)) (over_is t e m (node_of dir.node) y (bare_is parts t stands path id.0 y placed.leads placed.there))
            ∙ ap (λ u. reading (read_to t caller path) (unless u (made_below e m (parent path) (node_of dir.node) (path ∷ [])))) (over_same e asks (node_of dir.node) y)
            ∙ ap (λ o. reading (read_to t caller path) (unless (refusal_over call new.kind (node_of dir.node) y) o)) (below_is e (path ∷ []))
        found_comes parts t stands agrees (found.Stopped s) found placed e asks = absurd (found.0 (here.is_parent parts t stands agrees).passes)

        found_leads : (parts : Parts) (t : Tree) → Stands parts t → Agrees shown parts → (g : Found) → IsFound t caller path g → IsPlaced parts path g
            → follow parts 0 path ≡ option_map (λ (id : NodeId). id.0) (replaced_by g)
        found_leads parts t stands agrees found.Nothing found placed = nowhere parts t stands path found.1
        found_leads parts t stands agrees (found.Node id y) found placed = placed.leads
        found_leads parts t stands agrees (found.Stopped s) found placed = absurd (found.0 (here.is_parent parts t stands agrees).passes)

        -- the node comes to stand in the parent
        pub look_place : (f : Find) → IsFindFor shown caller path f → AreLookedAt held shown f.ids.items → (place : Place) → place.reads.items ≡ f.ids.items
            → place.base ≡ record { id = dir.id; node = dir.node } → place.replaced ≡ replaced_by f.found → place.names.now ≡ one
            → IsPlace held shown call new (refusal_by call new.kind (node_of dir.node) f.found) place
        look_place f finds looked place reads_are base_is old_is names_are = record {
          above = parent path;
          named = here.named ∙ ap (λ names. parent path ++ names) (sym names_are);
          is_place = λ parts t stands agrees.
              let find = finds parts t stands agrees in
              let refusal = refusal_by call new.kind (node_of dir.node) f.found in
              record {
                coming = record {
                  paths = read_to t caller path;
                  read = ap (λ (l : List NodeId). numbers_of l) reads_are ∙ find.read;
                  comes = λ e asks comes_at.
                      found_comes parts t stands agrees f.found find.found_is find.placed e asks
                      ∙ ap (λ old. reading (read_to t caller path) (comes_with e refusal old dir.node one)) (sym old_is)
                      ∙ ap (λ (b : Base). reading (read_to t caller path) (comes_with e refusal place.replaced b.node one)) (sym base_is)
                      ∙ ap (λ names. reading (read_to t caller path) (comes_with e refusal place.replaced place.base.node names)) (sym names_are);
                };
                leads = (here.is_parent parts t stands agrees).leads ∙ ap (λ (b : Base). Some b.id.0) (sym base_is);
                first = subst (λ names. LeadsTo parts (parent path) names place.replaced) (sym names_are) (
                  ap (follow parts 0) (sym here.named) ∙ found_leads parts t stands agrees f.found find.found_is find.placed ∙ ap (option_map (λ (id : NodeId). id.0)) (sym old_is),
                  λ h. refl,
                );
              };
          looked = subst (λ (l : List NodeId). AreLookedAt held shown l) (sym reads_are) looked;
        }

  -- ---- the way ends before

  module _ (held : Held) (shown : Shown) (v : Visit) (visited : IsVisitFor shown caller path v) where
    pub stop_comes : (s : End) → v.end ≡ s → Stops s → (parts : Parts) (t : Tree) → Stands parts t → Agrees shown parts
        → IsComing parts t call new v.ids (λ e. answered (stop_reply ResourceTypeMismatch s))
    stop_comes s same stops parts t stands agrees =
        let visit = visited parts t stands agrees in
        record {
          paths = read_on t caller path;
          read = visit.read;
          comes = λ e asks comes_at. create_on t e asks ∙ ap (reading (read_on t caller path)) (by_way e (way_of t caller path) s (sym same ∙ visit.ends) stops);
        }
      where
        by_way : (e : Entry) (w : Way) (s : End) → s ≡ end_of w → Stops s → ended (lost_at t e) ResourceTypeMismatch (after t e) w ≡ answered (stop_reply ResourceTypeMismatch s)
        by_way e reached s h stops = absurd (subst Stops h stops)
        by_way e (missing []) s h stops = ap (λ k. answered (stop_reply ResourceTypeMismatch k)) (sym h)
        by_way e (missing (fs ∷ names)) s h stops =
            absurd (let few : length (fs ∷ names) + 1 ≤ 1 = subst Stops h stops in let l : length (fs ∷ names) ≡ suc (length names) = refl in omega arith)
        by_way e (blocked p) s h stops = ap (λ k. answered (stop_reply ResourceTypeMismatch k)) (sym h)
        by_way e (closed p r) s h stops = ap (λ k. answered (stop_reply ResourceTypeMismatch k)) (sym h)

    -- ---- a directory is missing on the way

    module _ (depth : ℕ) (is_end : v.end ≡ end.NotFound depth) (deep : 1 < depth) where
      abbrev Lost : Tree → Type 0
      Lost t = (d : Path) × (way_of t caller path ≡ missing d) × (depth ≡ length d + 1)

      lost : (parts : Parts) (t : Tree) → Stands parts t → Agrees shown parts → Lost t
      lost parts t stands agrees = lost_way (way_of t caller path) depth (sym is_end ∙ (visited parts t stands agrees).ends)

      below_path : (t : Tree) (w d : Path) → IsMissing t (parent w) d → IsMissing t w d
      below_path t w d h = elim (parent_name w) [
        | inl none ↦ absurd (let k : length (d ++ h.0 ∷ h.1) ≡ 0 = ap (λ (l : Path). length l) (sym h.2 ∙ ap parent none) in let l = length_append d (h.0 ∷ h.1) in let s : length (h.0 ∷ h.1) ≡ suc (length h.1) = refl in omega arith)
        | inr last ↦ (h.0, h.1 ++ last.0 ∷ [], last.1 ∙ ap (λ l. l ++ last.0 ∷ []) h.2 ∙ append_assoc d (h.0 ∷ h.1) (last.0 ∷ []), h.3)
      ]

      missing_there : (t : Tree) → (l : Lost t) → IsMissing t path l.0
      missing_there t l = below_path t path l.0 (missing_is t caller [] (parent path) l.0 l.1)

      within_path : (t : Tree) → Lost t → depth ≤ length path
      within_path t l =
          let h = missing_there t l in
          let a : length path ≡ length (l.0 ++ h.0 ∷ h.1) = ap (λ (q : Path). length q) h.2 in
          let b = length_append l.0 (h.0 ∷ h.1) in
          let s : length (h.0 ∷ h.1) ≡ suc (length h.1) = refl in
          let k = l.2 in
          omega arith

      -- so many names the path has
      pub depth_within : ∥ Agreeing shown ∥₁ → depth ≤ length path
      depth_within some = elim (leb_tells depth (length path)) [
        | inl k ↦ k.1
        | inr k ↦ absurd (∥∥₁_elim some ⊥_prop (λ a. let u = within_path a.tree (lost a.parts a.tree a.stands a.agrees) in let w = k.1 in omega arith))
      ]

      abbrev front : Path
      front = take (depth - 1) path

      front_is : (t : Tree) → (l : Lost t) → l.0 ≡ front
      front_is t l =
          let h = missing_there t l in
          let k : depth - 1 ≡ length l.0 = let e = l.2 in omega arith in
          sym (ap (λ j. take j path) k ∙ ap (take (length l.0)) h.2 ∙ take_front l.0 (h.0 ∷ h.1))

      names_are : (t : Tree) → (l : Lost t) → drop (depth - 1) path ≡ (missing_there t l).0 ∷ (missing_there t l).1
      names_are t l =
          let h = missing_there t l in
          let k : depth - 1 ≡ length l.0 = let e = l.2 in omega arith in
          ap (λ j. drop j path) k ∙ ap (drop (length l.0)) h.2 ∙ drop_front l.0 (h.0 ∷ h.1)

      from_is : (t : Tree) (e : Entry) (d : Path) (x : Node) → 1 ≤ length d → at t d ≡ Some x → lost_at t e d ≡ create_under e m d x
      from_is t e [] x some there = absurd (let k : 1 ≤ 0 = some in omega arith)
      from_is t e (fs ∷ names) x some there = ap (λ u. create_under e m (fs ∷ names) (unwrap_or u blank)) there

      module _ (r : Option Reply) (says : r ≡ or_else (lacks caller 3 front (node_of v.base.node)) (is_unmet_without (asked call))) where
        leads_front : (parts : Parts) (t : Tree) → Stands parts t → Agrees shown parts → follow parts 0 front ≡ Some v.base.id.0
        leads_front parts t stands agrees =
            let l = lost parts t stands agrees in
            ap (follow parts 0) (sym (front_is t l)) ∙ ap (λ w. follow parts 0 (base_of path w)) (sym l.1) ∙ (visited parts t stands agrees).leads

        under_is : (parts : Parts) (t : Tree) → Stands parts t → Agrees shown parts → (e : Entry) → e.request ≡ call.request.now
            → create t e m ≡ reading (read_on t caller path) (unless r (made e m front [] (new_nodes e m (node_of v.base.node) front (drop (depth - 1) path))))
        under_is parts t stands agrees e asks =
            let l = lost parts t stands agrees in
            let visit = visited parts t stands agrees in
            let size : length l.0 ≡ length front = ap (λ (q : Path). length q) (front_is t l) in
            let long : 1 ≤ length front = let b = l.2 in let c = deep in omega arith in
            let behind : length front ≡ depth - 1 = let b = l.2 in omega arith in
            create_on t e asks
            ∙ ap (λ w. reading (read_on t caller path) (ended (lost_at t e) ResourceTypeMismatch (after t e) w)) l.1
            ∙ ap (λ d. reading (read_on t caller path) (lost_at t e d)) (front_is t l)
            ∙ ap (reading (read_on t caller path)) (from_is t e front (node_of v.base.node) long (shows_node parts t stands front v.base.id.0 v.base.node (leads_front parts t stands agrees) visit.there)
            ∙ ap (λ c. unless (lacks c 3 front (node_of v.base.node)) (unless (is_unmet_without e) (made_below e m front (node_of v.base.node) []))) (caller_is e call is.is_call asks)
            ∙ ap (λ u. unless (lacks caller 3 front (node_of v.base.node)) (unless u (made_below e m front (node_of v.base.node) []))) (unmet_same e asks)
            ∙ unless_both (lacks caller 3 front (node_of v.base.node)) (is_unmet_without (asked call)) (made_below e m front (node_of v.base.node) [])
            ∙ ap (λ u. unless u (made_below e m front (node_of v.base.node) [])) (sym says)
            ∙ ap (λ j. unless r (made e m front [] (new_nodes e m (node_of v.base.node) front (drop j path)))) behind)

        -- the nodes come to stand below the last directory that is there
        pub under_place : AreLookedAt held shown v.ids → (place : Place) → place.reads.items ≡ v.ids → place.base ≡ v.base → place.replaced ≡ None → place.names.now ≡ drop (depth - 1) path
            → IsPlace held shown call new r place
        under_place looked place reads_are base_is no_old names_same = record {
          above = front;
          named = take_drop (depth - 1) path ∙ ap (λ names. front ++ names) (sym names_same);
          is_place = λ parts t stands agrees.
              let l = lost parts t stands agrees in
              let h = missing_there t l in
              record {
                coming = record {
                  paths = read_on t caller path;
                  read = ap (λ (k : List NodeId). numbers_of k) reads_are ∙ (visited parts t stands agrees).read;
                  comes = λ e asks comes_at.
                      under_is parts t stands agrees e asks
                      ∙ ap (λ names. reading (read_on t caller path) (unless r (made e m front [] (new_nodes e m (node_of v.base.node) front names)))) (sym names_same)
                      ∙ ap (λ (b : Base). reading (read_on t caller path) (unless r (made e m front [] (new_nodes e m (node_of b.node) front place.names.now)))) (sym base_is)
                      ∙ ap (λ o. reading (read_on t caller path) (unless r (made e m front (replaced_path o path) (new_nodes e m (node_of place.base.node) front place.names.now)))) (sym no_old);
                };
                leads = leads_front parts t stands agrees ∙ ap (λ (b : Base). Some b.id.0) (sym base_is);
                first = subst (λ names. LeadsTo parts front names place.replaced) (sym (names_same ∙ names_are t l)) (
                  ap (λ q. follow parts 0 (q ++ h.0 ∷ [])) (sym (front_is t l)) ∙ nowhere parts t stands (l.0 ++ h.0 ∷ []) h.3 ∙ sym (ap (option_map (λ (id : NodeId). id.0)) no_old),
                  λ k. absurd (false≢true (sym (ap is_some no_old) ∙ k)),
                );
              };
          looked = subst (λ (l : List NodeId). AreLookedAt held shown l) (sym reads_are) looked;
        }
