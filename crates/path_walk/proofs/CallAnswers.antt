-- What the answers to a call owe: want of memory, a way that ends before the parent, a stripe that isn't held, and a node that was found.
use Rattle.std.proofs.Common.{◌≡◌, List, Ok, Err, refl, ap, ◌∙◌}
use Rattle.namespace_model.specs.declared.caller.Caller.{Caller}
use Rattle.namespace_model.specs.declared.code.Code.{Code}
use Rattle.namespace_model.specs.declared.reply.Reply.{Reply}
use Rattle.namespace_model.specs.declared.request.Entry.{Entry}
use Rattle.namespace_model.specs.Looks as looks
use Rattle.namespace_model.specs.Nodes.{Node}
use Rattle.namespace_model.specs.Outcomes.{Outcome, answered, reading}
use Rattle.namespace_model.specs.Step.{acts}
use Rattle.namespace_model.specs.Trees.{Path, Tree}
use Rattle.namespace_model.specs.Walks.{missing_below, ended}
use Rattle.namespace_model.specs.Ways.{way_of, read_on}
use Rattle.inode_tree.specs.declared.draft.Draft.{Draft}
use Rattle.inode_tree.specs.declared.draft.EvalStop.{EvalStop}
use Rattle.inode_tree.specs.declared.draft.EvalStop.TheVariants as stop
use Rattle.inode_tree.specs.declared.id.NodeId.{NodeId}
use Rattle.inode_tree.specs.declared.need.Need.{Need}
use Rattle.inode_tree.specs.Promises.{is_one_of}
use Rattle.inode_tree.specs.Views.{Held, Shown}
use Rattle.path_walk.specs.declared.call.Call.{Call}
use Rattle.path_walk.specs.declared.find.Find.{Find}
use Rattle.path_walk.specs.declared.stop.End.{End}
use Rattle.path_walk.specs.Answers.{stop_reply, IsAnswered, found_outcome}
use Rattle.path_walk.specs.Calls.{IsCall, Answers}
use Rattle.path_walk.specs.Finds.{IsFindFor, IsNeedOfFind}
use Rattle.path_walk.specs.Parents.{IsStop}
pub use Rattle.path_walk.specs.Settles.{LooksAs}
use Rattle.path_walk.specs.Visits.{AreLookedAt, IsOnTheWay}
use Rattle.path_walk.proofs.AnswerLemmas.{answer_is_draft, way_need, stop_is}
use Rattle.path_walk.proofs.LookAnswers.{look_draft, look_need}

-- no draft: what is needed has to be, and want of memory may always come
pub stopped_by : (held : Held) (shown : Shown) (call : Call) (s : EvalStop) → ((n : Need) → s ≡ stop.Need n → Answers held shown call (Err (stop.Need n))) → Answers held shown call (Err s)
stopped_by held shown call (stop.Need n) needs = needs n refl
stopped_by held shown call stop.NoMemory needs = tt

-- ---- the way

-- the step of a call walks to a path, answers this code where the way ends, and else goes on
abbrev pub WalksAs : Call → Caller → Path → Code → Type 0
WalksAs call caller path code = (t : Tree) (e : Entry) → e.request ≡ call.request.now → e.moment ≡ call.moment
    → (after : Outcome) × (acts t e e.request.op ≡ reading (read_on t caller path) (ended (missing_below code) code after (way_of t caller path)))

-- the draft of a way that ends before the parent
pub stop_answer : (held : Held) (shown : Shown) (call : Call) (caller : Caller) (path : Path) (code : Code) (ids : List NodeId) (e : End) (d : Draft) → IsCall call → IsStop held shown caller path ids e
    → IsAnswered call.request.now.close (stop_reply code e) ids d → WalksAs call caller path code → Answers held shown call (Ok d)
stop_answer held shown call caller path code ids e d is stops answers walks =
    answer_is_draft held shown call.request.now call.moment call.fresh (stop_reply code e) ids d is.sound stops.looked answers (λ parts t en possible of.
    let way = stops.is_stop parts t possible.stands possible.agrees in
    let goes = walks t en.entry of.asks of.comes_at in (
      read_on t caller path,
      goes.1 ∙ ap (reading (read_on t caller path)) (stop_is code goes.0 (way_of t caller path) e way.ends way.stops),
      λ id. ap (is_one_of id) way.read,
    ))

-- a stripe of the way that isn't held
pub walk_need : (held : Held) (shown : Shown) (call : Call) (caller : Caller) (path : Path) (code : Code) (n : Need) → IsOnTheWay held shown caller path n → WalksAs call caller path code
    → Answers held shown call (Err (stop.Need n))
walk_need held shown call caller path code n on walks =
    way_need held shown call.request.now call.moment call.fresh caller path n on (λ parts t e possible of.
    let goes = walks t e.entry of.asks of.comes_at in (ended (missing_below code) code goes.0 (way_of t caller path), goes.1))

-- ---- a look at the node of the call's path

-- the step of a call looks at the node of the call's path, and goes on with it on its tree
abbrev pub FindsAs : Call → (Tree → Entry → Node → Outcome) → Type 0
FindsAs call some = (t : Tree) (e : Entry) → e.request ≡ call.request.now → acts t e e.request.op ≡ looks.found t e call.path.now (some t e)

-- the draft of an answer by what was found
pub found_answer : (held : Held) (shown : Shown) (call : Call) (some : Tree → Entry → Node → Outcome) (f : Find) (reply : Reply) (d : Draft) → IsCall call → FindsAs call some
    → IsFindFor shown call.caller.now call.path.now f → AreLookedAt held shown f.ids.items → IsAnswered call.request.now.close reply f.ids.items d
    → ((t : Tree) (e : Entry) → e.request ≡ call.request.now → e.moment ≡ call.moment → found_outcome call.path.now (some t e) f.found ≡ answered reply)
    → Answers held shown call (Ok d)
found_answer held shown call some f reply d is step finds looked answers says =
    look_draft held shown call.request.now call.moment call.fresh call.caller.now call.path.now some f reply d is.sound is.by step finds looked answers says

-- a stripe on the way to the node that isn't held
pub found_lacks : (held : Held) (shown : Shown) (call : Call) (some : Tree → Entry → Node → Outcome) (n : Need) → IsCall call → FindsAs call some → IsNeedOfFind held shown call.caller.now call.path.now n
    → Answers held shown call (Err (stop.Need n))
found_lacks held shown call some n is step before = look_need held shown call.request.now call.moment call.fresh call.caller.now call.path.now some n is.by step before

-- the same where what comes of the node is the same on every tree
pub look_answer : (held : Held) (shown : Shown) (call : Call) (some : Entry → Node → Outcome) (f : Find) (reply : Reply) (d : Draft) → IsCall call → LooksAs call some
    → IsFindFor shown call.caller.now call.path.now f → AreLookedAt held shown f.ids.items → IsAnswered call.request.now.close reply f.ids.items d
    → ((e : Entry) → e.request ≡ call.request.now → e.moment ≡ call.moment → found_outcome call.path.now (some e) f.found ≡ answered reply)
    → Answers held shown call (Ok d)
look_answer held shown call some f reply d is step finds looked answers says =
    found_answer held shown call (λ t e. some e) f reply d is step finds looked answers (λ t e asks comes. says e asks comes)

pub look_lacks : (held : Held) (shown : Shown) (call : Call) (some : Entry → Node → Outcome) (n : Need) → IsCall call → LooksAs call some → IsNeedOfFind held shown call.caller.now call.path.now n
    → Answers held shown call (Err (stop.Need n))
look_lacks held shown call some n is step before = found_lacks held shown call (λ t e. some e) n is step before
