-- A step that refuses changes nothing.
use Rattle.std.proofs.Common.{◌≡◌, Bool, true, false, List, Option, Some, None, is_some, refl, ap, sym, ◌∙◌}
use Rattle.std.proofs.lemmas.Bool.{false≢true}
use Rattle.namespace_model.specs.declared.reply.Reply.{Reply}
use Rattle.namespace_model.specs.declared.request.Entry.{Entry}
use Rattle.namespace_model.specs.Trees.{Path, Tree}
use Rattle.namespace_model.specs.Outcomes.{Outcome, answered, reading, once}
use Rattle.namespace_model.specs.Quiet.{IsQuiet}
use Rattle.namespace_model.specs.Step.{acts, outcome, closing}
use Rattle.namespace_model.proofs.DenialSteps.{Asked, IsLaw, acts_holds}
use Rattle.namespace_model.proofs.Successes.{IsSuccess}
use Rattle.namespace_model.proofs.SuccessReplies.{no_code}

Quiet : Outcome → Type 0
Quiet o = IsQuiet o

answered_quiet : (reply : Reply) → Quiet (answered reply)
unfolding Quiet
answered_quiet reply refuses = record { written = refl; fresh = refl; effect = refl }

asked_quiet : (x : Option Reply) → Asked Quiet x
asked_quiet None = record { asked = tt }
asked_quiet (Some reply) = record { asked = answered_quiet reply }

reading_quiet : (ps : List Path) (o : Outcome) → Quiet o → Quiet (reading ps o)
unfolding Quiet
reading_quiet ps o h refuses = record { written = (h refuses).written; fresh = (h refuses).fresh; effect = (h refuses).effect }

success_quiet : (t : Tree) (e : Entry) (o : Outcome) → IsSuccess t e o → Quiet o
unfolding Quiet
success_quiet t e o success refuses = absurd (false≢true (sym (ap is_some (no_code t e o success)) ∙ refuses))

quiet_law : (t : Tree) (e : Entry) → IsLaw t e Quiet
quiet_law t e = record {
  reads = reading_quiet;
  succeeds = success_quiet t e;
  refuses = λ c plain. answered_quiet _;
  unmodified = answered_quiet _;
  shut = λ to p r walks is. answered_quiet _;
  rights = λ want p x is wanted. asked_quiet _;
  sticky = λ dir p x is above guarded. asked_quiet _;
  superuser = λ p for. asked_quiet _;
  access = λ p x is by. asked_quiet _;
  owner = λ p x new is asks by. asked_quiet _;
  group = λ p x new is asks by. asked_quiet _;
}

acts_quiet : (t : Tree) (e : Entry) → IsQuiet (acts t e e.request.op)
unfolding Quiet
acts_quiet t e = acts_holds t e Quiet (quiet_law t e) e.request.op refl (λ c is. answered_quiet _)

closing_code : (close : Bool) (reply : Reply) → (closing close reply).code ≡ reply.code
closing_code true reply = refl
closing_code false reply = refl

-- a reply with a code comes with nothing written, no new path and no effect
pub outcome_quiet : (t : Tree) (e : Entry) → IsQuiet (outcome t e)
unfolding outcome
outcome_quiet t e refuses =
    let quiet = acts_quiet t e (sym (ap is_some (closing_code e.request.close (acts t e e.request.op).reply)) ∙ refuses) in
    record { written = ap once quiet.written; fresh = quiet.fresh; effect = quiet.effect }
