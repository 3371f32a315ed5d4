-- What an evaluator answers where nodes are to be edited that were found.
use Rattle.std.specs.Prelude.{◌≡◌, List, Result}
use Rattle.namespace_model.specs.declared.reply.Reply.{Reply}
use Rattle.namespace_model.specs.declared.request.Entry.{Entry}
use Rattle.namespace_model.specs.Looks as looks
use Rattle.namespace_model.specs.Nodes.{Node}
use Rattle.namespace_model.specs.Outcomes.{Outcome}
use Rattle.namespace_model.specs.Step.{acts}
use Rattle.namespace_model.specs.Trees.{Tree}
use Rattle.inode_tree.specs.declared.change.Edit.{Edit}
use Rattle.inode_tree.specs.declared.draft.Draft.{Draft}
use Rattle.inode_tree.specs.declared.draft.EvalStop.{EvalStop}
use Rattle.inode_tree.specs.declared.id.NodeId.{NodeId}
use Rattle.inode_tree.specs.Inodes.{BareInode, node_of}
use Rattle.inode_tree.specs.Views.{Held, Shown}
use Rattle.path_walk.specs.declared.call.Call.{Call}
use Rattle.path_walk.specs.declared.edits.Verdict.{Verdict}
use Rattle.path_walk.specs.Batches.{IsBatch}
use Rattle.path_walk.specs.Calls.{Answers}
use Rattle.path_walk.specs.Edits.{IsSeat, IsVerdict}
use Rattle.path_walk.specs.declared.removals.Removal.{Removal}
use Rattle.path_walk.specs.Removals.{IsRemoval}
use Rattle.path_walk.specs.Visits.{AreLookedAt}

-- the step of each entry of the call looks at the node of its path, and then comes what comes of it
abbrev pub LooksAs : Call → (Entry → Node → Outcome) → Type 0
LooksAs call some = (t : Tree) (e : Entry) → e.request ≡ call.request.now → acts t e e.request.op ≡ looks.found t e call.path.now (some e)

-- for each entry of the call the verdict says what comes of the node
abbrev pub IsVerdictOf : Call → (Entry → Node → Outcome) → BareInode → Verdict → Type 0
IsVerdictOf call some x v = (e : Entry) → e.request ≡ call.request.now → e.moment ≡ call.moment → IsVerdict (some e (node_of x)) call.path.now x v

-- where the node of the path was found, and the verdict says what comes of it, the call is answered
abbrev pub Settles : Held → Shown → Call → List NodeId → NodeId → Verdict → Result Draft EvalStop → Type 0
Settles held shown call reads id v answer =
    (some : Entry → Node → Outcome) (x : BareInode) → LooksAs call some → IsSeat held shown call.caller.now call.path.now reads id x → IsVerdictOf call some x v
    → Answers held shown call answer

-- the step of each entry of the call edits nodes of these ids so, once it read these
abbrev pub IsBatchOf : Shown → Call → List NodeId → List (NodeId × Edit) → Reply → Type 0
IsBatchOf shown call reads edits reply = (e : Entry) → e.request ≡ call.request.now → e.moment ≡ call.moment → IsBatch shown e reads edits reply

-- where that is so, and what was read was looked at, the call is answered
abbrev pub SettlesAll : Held → Shown → Call → List NodeId → List (NodeId × Edit) → Reply → Result Draft EvalStop → Type 0
SettlesAll held shown call reads edits reply answer = AreLookedAt held shown reads → IsBatchOf shown call reads edits reply → Answers held shown call answer

-- the step of each entry of the call takes this out of the parent of its path, once it read these
abbrev pub IsRemovalOf : Shown → Call → List NodeId → Removal → Reply → Type 0
IsRemovalOf shown call reads removal reply = (e : Entry) → e.request ≡ call.request.now → e.moment ≡ call.moment → IsRemoval shown e call.path.now reads removal reply

-- where that is so, and what was read was looked at, the call is answered
abbrev pub SettlesRemoval : Held → Shown → Call → List NodeId → Removal → Reply → Result Draft EvalStop → Type 0
SettlesRemoval held shown call reads removal reply answer = AreLookedAt held shown reads → IsRemovalOf shown call reads removal reply → Answers held shown call answer
