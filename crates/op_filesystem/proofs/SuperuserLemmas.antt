-- A call on filesystems asks first whether the caller is the superuser.
use Rattle.std.proofs.Common.{◌≡◌, ℕ, List, [], Option, Some, None, unwrap_or, Ok, sym, ap, ◌∙◌}
use Rattle.std.proofs.lemmas.Bool.{false≢true}
use Rattle.namespace_model.specs.declared.op.Op.{Op}
use Rattle.namespace_model.specs.declared.op.Op.TheVariants as op
use Rattle.namespace_model.specs.declared.reply.Reply.{Reply}
use Rattle.namespace_model.specs.declared.request.Entry.{Entry}
use Rattle.namespace_model.specs.declared.request.Request.{Request}
use Rattle.namespace_model.specs.Outcomes.{Outcome, unless}
use Rattle.namespace_model.specs.Refusals.{caller_of, nobody, is_no_superuser}
use Rattle.namespace_model.specs.Step.{acts}
use Rattle.namespace_model.specs.Trees.{Path, Tree}
use Rattle.inode_tree.specs.declared.draft.Draft.{Draft}
use Rattle.inode_tree.specs.declared.id.NodeId.{NodeId}
use Rattle.inode_tree.specs.Promises.{numbers_of, is_one_of}
use Rattle.inode_tree.specs.Views.{Held, Shown}
use Rattle.path_walk.specs.declared.call.Call.{Call}
use Rattle.path_walk.specs.Answers.{IsAnswered}
use Rattle.path_walk.specs.Calls.{IsCall, Answers, path_of}
use Rattle.path_walk.proofs.AnswerLemmas.{answer_is_draft}

-- ---- the operation of a call

-- the path that it names is the call's
module _ (call : Call) (is : IsCall call) where
  named_by : (o : Op) → call.request.now.op ≡ o → path_of o ≡ call.path.now
  named_by o asked = sym (ap path_of asked) ∙ is.named

  pub creates_it : (path : Path) (props : Option (List (List ℕ × List ℕ))) → call.request.now.op ≡ op.CreateFilesystem path props → call.request.now.op ≡ op.CreateFilesystem call.path.now props
  creates_it path props asked = asked ∙ ap (λ p. op.CreateFilesystem p props) (named_by (op.CreateFilesystem path props) asked)

  pub gets_it : (path : Path) → call.request.now.op ≡ op.GetFilesystem path → call.request.now.op ≡ op.GetFilesystem call.path.now
  gets_it path asked = asked ∙ ap op.GetFilesystem (named_by (op.GetFilesystem path) asked)

  pub sets_it : (path : Path) (props : List (List ℕ × List ℕ)) → call.request.now.op ≡ op.SetFilesystem path props → call.request.now.op ≡ op.SetFilesystem call.path.now props
  sets_it path props asked = asked ∙ ap (λ p. op.SetFilesystem p props) (named_by (op.SetFilesystem path props) asked)

  pub deletes_it : (path : Path) → call.request.now.op ≡ op.DeleteFilesystem path → call.request.now.op ≡ op.DeleteFilesystem call.path.now
  deletes_it path asked = asked ∙ ap op.DeleteFilesystem (named_by (op.DeleteFilesystem path) asked)

-- ---- the first question

-- the step of each entry of the call asks it, and goes on so
abbrev pub AsksFirst : Call → (Tree → Entry → Outcome) → Type 0
AsksFirst call behind = (t : Tree) (e : Entry) → e.request ≡ call.request.now → acts t e e.request.op ≡ unless (is_no_superuser (caller_of e) call.path.now) (behind t e)

module _ (call : Call) (is : IsCall call) where
  pub called_by : (e : Entry) → e.request ≡ call.request.now → caller_of e ≡ call.caller.now
  called_by e asks = ap (λ (r : Request). unwrap_or r.caller nobody) asks ∙ ap (λ c. unwrap_or c nobody) is.by

  module _ (behind : Tree → Entry → Outcome) (first : AsksFirst call behind) where
    asked : (t : Tree) (e : Entry) (o : Option Reply) → e.request ≡ call.request.now → is_no_superuser call.caller.now call.path.now ≡ o → acts t e e.request.op ≡ unless o (behind t e)
    asked t e o asks h = first t e asks ∙ ap (λ c. unless (is_no_superuser c call.path.now) (behind t e)) (called_by e asks) ∙ ap (λ r. unless r (behind t e)) h

    -- the superuser's goes on
    pub let_on : is_no_superuser call.caller.now call.path.now ≡ None → (t : Tree) (e : Entry) → e.request ≡ call.request.now → acts t e e.request.op ≡ behind t e
    let_on allowed t e asks = asked t e None asks allowed

    -- another one's is denied, and reads nothing
    pub denied_answer : (held : Held) (shown : Shown) (reply : Reply) (ids : List NodeId) (d : Draft) → is_no_superuser call.caller.now call.path.now ≡ Some reply → ids ≡ []
        → IsAnswered call.request.now.close reply ids d → Answers held shown call (Ok d)
    denied_answer held shown reply ids d refuses none answers =
        answer_is_draft held shown call.request.now call.moment call.fresh reply ids d is.sound (λ id h. absurd (false≢true (ap (λ (l : List NodeId). is_one_of id (numbers_of l)) (sym none) ∙ h))) answers
        (λ parts t e possible of. ([], asked t e.entry (Some reply) of.asks refuses, λ id. ap (λ (l : List NodeId). is_one_of id (numbers_of l)) none))
