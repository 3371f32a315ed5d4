-- The root of a filesystem on which the superuser calls: what the step reads of it, and what the answers owe.
use Rattle.std.proofs.Common.{◌≡◌, [], ◌∷◌, length, Option, Some, None, Ok, Err, refl, sym, ap, ◌∙◌, arith}
use Rattle.namespace_model.specs.declared.caller.Caller.{Caller}
use Rattle.namespace_model.specs.declared.code.Code.TheVariants.{FilesystemNotFound, PathNotFound}
use Rattle.namespace_model.specs.declared.request.Entry.{Entry}
use Rattle.namespace_model.specs.Looks as looks
use Rattle.namespace_model.specs.Nodes.{Node}
use Rattle.namespace_model.specs.Outcomes.{Outcome, reading, refused, noted}
use Rattle.namespace_model.specs.Refusals.{is_no_superuser}
use Rattle.namespace_model.specs.Replies.{refusal}
use Rattle.namespace_model.specs.Step.{acts, root_of}
use Rattle.namespace_model.specs.Trees.{Path, Tree, at, parent}
use Rattle.namespace_model.specs.Walks.{missing_code}
use Rattle.namespace_model.specs.Ways.{reached, way_of, read_on}
use Rattle.inode_tree.specs.declared.draft.Draft.{Draft}
use Rattle.inode_tree.specs.declared.draft.EvalStop.TheVariants as stop
use Rattle.inode_tree.specs.declared.id.NodeId.{NodeId}
use Rattle.inode_tree.specs.declared.need.Need.{Need}
use Rattle.inode_tree.specs.Inodes.{BareInode}
use Rattle.inode_tree.specs.Promises.{is_one_of}
use Rattle.inode_tree.specs.Views.{Held, Shown}
use Rattle.path_walk.specs.declared.call.Call.{Call}
use Rattle.path_walk.specs.declared.find.Find.{Find}
use Rattle.path_walk.specs.declared.find.Found.{Found}
use Rattle.path_walk.specs.declared.find.Found.TheVariants as found
use Rattle.path_walk.specs.Answers.{IsAnswered}
use Rattle.path_walk.specs.Calls.{IsCall, Answers}
use Rattle.path_walk.specs.Finds.{read_to, IsFound, IsFindFor, IsNeedOfFind}
use Rattle.path_walk.specs.Visits.{AreLookedAt}
use Rattle.path_walk.proofs.AnswerLemmas.{answer_is_draft, read_need, outcome_reads}
use Rattle.path_walk.proofs.LookAnswers.{found_is, node_is}
use Rattle.path_walk.proofs.SeatLemmas.{find_seat}
use Rattle.op_filesystem.specs.Roots.{AsksRoot, IsRootReached}
use Rattle.op_filesystem.proofs.SuperuserLemmas.{called_by, let_on}

-- the way to a path of one name is reached at once, and reads the account alone
pub record IsRoot (t : Tree) (caller : Caller) (path : Path) : Type 0 where
  pub whole : root_of path ≡ path
  pub above : parent path ≡ []
  pub passes : way_of t caller path ≡ reached
  pub reads : read_on t caller path ≡ [] ∷ []

pub is_root : (t : Tree) (caller : Caller) (path : Path) → length path ≡ 1 → IsRoot t caller path
is_root t caller [] h = absurd (omega arith)
is_root t caller (fs ∷ []) h = record { whole = refl; above = refl; passes = refl; reads = refl }
is_root t caller (fs ∷ n ∷ names) h = absurd (omega arith)

-- where the root is missing the filesystem is
is_missing : (path : Path) → length path ≡ 1 → missing_code path PathNotFound ≡ FilesystemNotFound
is_missing [] h = absurd (omega arith)
is_missing (fs ∷ []) h = refl
is_missing (fs ∷ n ∷ names) h = absurd (omega arith)

-- what comes of a call on a filesystem behind the first question
abbrev pub behind_root : Path → (Tree → Entry → Node → Outcome) → Tree → Entry → Outcome
behind_root path some t e = reading ([] ∷ []) (noted (at t path) path (refused FilesystemNotFound) (some t e))

found_root : (t : Tree) (e : Entry) (path : Path) (some : Node → Outcome) → length path ≡ 1
    → looks.found t e path some ≡ reading ([] ∷ []) (noted (at t path) path (refused FilesystemNotFound) some)
found_root t e [] some h = absurd (omega arith)
found_root t e (fs ∷ []) some h = refl
found_root t e (fs ∷ n ∷ names) some h = absurd (omega arith)

module _ (call : Call) (is : IsCall call) (asks : AsksRoot call) (allowed : is_no_superuser call.caller.now call.path.now ≡ None) where
  abbrev path : Path
  path = call.path.now

  abbrev caller : Caller
  caller = call.caller.now

  passes : (t : Tree) → way_of t caller path ≡ reached
  passes t = (is_root t caller path asks.root).passes

  -- the step looks at the root
  pub looks_at : (t : Tree) (e : Entry) → e.request ≡ call.request.now → acts t e e.request.op ≡ looks.found t e path (asks.some t e)
  looks_at t e same = let_on call is (behind_root path asks.some) asks.asks allowed t e same ∙ sym (found_root t e path (asks.some t e) asks.root)

  there_is : (t : Tree) (e : Entry) (x : Node) → e.request ≡ call.request.now → at t path ≡ Some x → acts t e e.request.op ≡ reading (read_to t caller path) (asks.some t e x)
  there_is t e x same there = looks_at t e same ∙ node_is t e path (asks.some t e) caller (called_by call is e same) x (passes t) there

  missing_is : (t : Tree) (e : Entry) → e.request ≡ call.request.now → at t path ≡ None → acts t e e.request.op ≡ reading (read_to t caller path) (refused FilesystemNotFound)
  missing_is t e same none =
      looks_at t e same ∙ found_is t e path (asks.some t e) caller (called_by call is e same) found.Nothing (passes t, none)
      ∙ ap (λ c. reading (read_to t caller path) (refused c)) (is_missing path asks.root)

  -- what is read to find it is read
  reads_it : (t : Tree) (e : Entry) → e.request ≡ call.request.now → (after : Outcome) × (acts t e e.request.op ≡ reading (read_to t caller path) after)
  reads_it t e same = by_node (at t path) refl
    where
      by_node : (o : Option Node) → at t path ≡ o → (after : Outcome) × (acts t e e.request.op ≡ reading (read_to t caller path) after)
      by_node None none = (refused FilesystemNotFound, missing_is t e same none)
      by_node (Some x) there = (asks.some t e x, there_is t e x same there)

  module _ (held : Held) (shown : Shown) where
    -- a stripe of what is read isn't held
    pub root_needed : (n : Need) → IsNeedOfFind held shown caller path n → Answers held shown call (Err (stop.Need n))
    root_needed n before =
        read_need held shown call.request.now call.moment call.fresh n before.within before.asks before.lacks (λ parts t e possible of.
        let after = reads_it t e.entry of.asks in
        (read_to t caller path, outcome_reads t e (read_to t caller path) after.0 after.1, before.needed parts t possible.stands possible.agrees))

    module _ (f : Find) (finds : IsFindFor shown caller path f) (looked : AreLookedAt held shown f.ids.items) where
      -- there is no root
      pub missing_answer : (d : Draft) → ((id : NodeId) (x : BareInode) → f.found ≡ found.Node id x → ⊥) → IsAnswered call.request.now.close (refusal FilesystemNotFound) f.ids.items d → Answers held shown call (Ok d)
      missing_answer d no_node answers =
          answer_is_draft held shown call.request.now call.moment call.fresh (refusal FilesystemNotFound) f.ids.items d is.sound looked answers (λ parts t e possible of.
          let find = finds parts t possible.stands possible.agrees in (
            read_to t caller path,
            missing_is t e.entry of.asks (nothing_there t f.found refl find.found_is),
            λ id. ap (is_one_of id) find.read,
          ))
        where
          nothing_there : (t : Tree) (o : Found) → f.found ≡ o → IsFound t caller path o → at t path ≡ None
          nothing_there t (found.Node id x) same it = absurd (no_node id x same)
          nothing_there t found.Nothing same it = it.1
          nothing_there t (found.Stopped e) same it = absurd (it.0 (passes t))

      -- or there is
      pub root_reached : (id : NodeId) (x : BareInode) → f.found ≡ found.Node id x → IsRootReached held shown call f.ids.items (record { id = id; node = x })
      root_reached id x same = record { allowed = allowed; seat = find_seat held shown caller path f id x same finds looked }
