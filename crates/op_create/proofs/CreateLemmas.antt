-- The answer of a call that makes a node is that of its step, once it is known what comes of it.
use Rattle.std.proofs.Common.{◌≡◌, List, Option, Some, Ok, unwrap_or, refl, ap, subst, ◌∙◌}
use Rattle.namespace_model.specs.declared.code.Code.TheVariants.{ResourceTypeMismatch}
use Rattle.namespace_model.specs.declared.reply.Reply.{Reply}
use Rattle.namespace_model.specs.declared.request.Entry.{Entry}
use Rattle.namespace_model.specs.declared.request.Request.{Request}
use Rattle.namespace_model.specs.Create.{Making, create, create_from, create_in}
use Rattle.namespace_model.specs.Outcomes.{answered, reading}
use Rattle.namespace_model.specs.Refusals.{caller_of, nobody}
use Rattle.namespace_model.specs.Step.{acts}
use Rattle.namespace_model.specs.Trees.{Tree, parent}
use Rattle.namespace_model.specs.Walks.{ended, hand_on}
use Rattle.namespace_model.specs.Ways.{read_on, way_of}
use Rattle.inode_tree.specs.declared.draft.Draft.{Draft}
use Rattle.inode_tree.specs.declared.id.NodeId.{NodeId}
use Rattle.inode_tree.specs.Parts.{Parts}
use Rattle.inode_tree.specs.Promises.{is_one_of}
use Rattle.inode_tree.specs.Stands.{Stands}
use Rattle.inode_tree.specs.Views.{Held, Shown, Agrees}
use Rattle.path_walk.specs.declared.call.Call.{Call}
use Rattle.path_walk.specs.Answers.{IsAnswered}
use Rattle.path_walk.specs.Calls.{IsCall, Answers}
use Rattle.path_walk.specs.Visits.{AreLookedAt}
use Rattle.path_walk.proofs.AnswerLemmas.{answer_is_draft}
use Rattle.op_create.specs.declared.nodes.NewNode.{NewNode}
use Rattle.op_create.specs.declared.place.Place.{Place}
use Rattle.op_create.specs.Creates.{IsCreate, IsComing, IsPlace, making_of, placed}

-- ---- the step

-- the step reads what is read on the way, and then comes what its end says
pub create_is : (t : Tree) (e : Entry) (m : Making) → create t e m
    ≡ reading (read_on t (caller_of e) m.path)
    (ended (λ d. hand_on t d (create_from e m d)) ResourceTypeMismatch (hand_on t (parent m.path) (create_in t e m)) (way_of t (caller_of e) m.path))
unfolding create
create_is t e m = refl

pub caller_is : (e : Entry) (call : Call) → IsCall call → e.request ≡ call.request.now → caller_of e ≡ call.caller.now
caller_is e call is asks = ap (λ (r : Request). unwrap_or r.caller nobody) asks ∙ ap (λ c. unwrap_or c nobody) is.by

module _ (call : Call) (new : NewNode) (is : IsCreate call new) where
  -- the step of an entry of the call
  pub step_is : (t : Tree) (e : Entry) → e.request ≡ call.request.now → acts t e e.request.op ≡ create t e (making_of call new)
  step_is t e asks = ap (λ (r : Request). acts t e r.op) asks ∙ ap (acts t e) is.operation

  -- ---- an answer

  module _ (held : Held) (shown : Shown) where
    -- a reply that comes is a draft
    pub answer_draft : (reads : List NodeId) (reply : Reply) (d : Draft) → AreLookedAt held shown reads → IsAnswered call.request.now.close reply reads d
        → ((parts : Parts) (t : Tree) → Stands parts t → Agrees shown parts → IsComing parts t call new reads (λ e. answered reply)) → Answers held shown call (Ok d)
    answer_draft reads reply d looked answers comes =
        answer_is_draft held shown call.request.now call.moment call.fresh reply reads d is.is_call.sound looked answers (λ parts t e possible of.
        let coming = comes parts t possible.stands possible.agrees in
        (coming.paths, step_is t e.entry of.asks ∙ coming.comes e.entry of.asks of.comes_at, λ id. ap (is_one_of id) coming.read))

    -- a refusal at a place is a draft
    pub refused_draft : (refusal : Option Reply) (place : Place) (reply : Reply) (d : Draft) → IsPlace held shown call new refusal place → refusal ≡ Some reply
        → IsAnswered call.request.now.close reply place.reads.items d → Answers held shown call (Ok d)
    refused_draft refusal place reply d stage refuses answers =
        answer_draft place.reads.items reply d stage.looked answers (λ parts t stands agrees.
        subst (λ r. IsComing parts t call new place.reads.items (placed call new r place stage.above)) refuses (stage.is_place parts t stands agrees).coming)
