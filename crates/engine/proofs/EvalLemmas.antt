-- The draft of a request that was refused when it was decoded.
use Rattle.std.proofs.Common.{[], refl, ap, ◌≡◌, ◌∙◌, ℕ}
use Rattle.std.proofs.lemmas.Bool.{false≢true}
use Rattle.namespace_model.specs.declared.code.Code.{Code}
use Rattle.namespace_model.specs.declared.op.Op.TheVariants as op
use Rattle.namespace_model.specs.declared.request.Request.{Request}
use Rattle.namespace_model.specs.Replies.{refusal}
use Rattle.namespace_model.specs.Sound.{IsSound}
use Rattle.namespace_model.specs.Step.{acts}
use Rattle.inode_tree.specs.declared.draft.Draft.{Draft}
use Rattle.inode_tree.specs.declared.fresh.Fresh.{Fresh}
use Rattle.inode_tree.specs.Promises.{IsDraft}
use Rattle.inode_tree.specs.Views.{Held, Shown}
use Rattle.path_walk.specs.Answers.{IsAnswered}
use Rattle.path_walk.proofs.AnswerLemmas.{answer_is_draft}

-- nothing is read, and the reply is the refusal
pub refused_draft : (held : Held) (shown : Shown) (request : Request) (moment : ℕ) (fresh : Fresh) (c : Code) (d : Draft) → request.op ≡ op.Refused c → IsSound request
    → IsAnswered request.close (refusal c) [] d → IsDraft held shown request moment fresh d
refused_draft held shown request moment fresh c d asked sound is =
    answer_is_draft held shown request moment fresh (refusal c) [] d sound (λ id h. absurd (false≢true h)) is
    (λ parts t e possible of. ([], ap (λ (r : Request). acts t e.entry r.op) of.asks ∙ ap (acts t e.entry) asked, λ id. refl))
