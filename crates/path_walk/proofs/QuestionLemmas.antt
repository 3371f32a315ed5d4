-- Questions in a row are one question: the first that is answered by a refusal ends it.
use Rattle.std.proofs.Common.{◌≡◌, Option, Some, None, refl, ap}
use Rattle.std.specs.Option.{unwrap_or}
use Rattle.namespace_model.specs.declared.reply.Reply.{Reply}
use Rattle.namespace_model.specs.Outcomes.{Outcome, answered, unless}
use Rattle.namespace_model.specs.Refusals.{or_else}

-- one question, and then the next
pub unless_both : (a b : Option Reply) (o : Outcome) → unless a (unless b o) ≡ unless (or_else a b) o
unless_both None b o = refl
unless_both (Some reply) b o = refl

-- what is asked behind a question, as one
pub unless_rest : (a b : Option Reply) (o after : Outcome) → o ≡ unless b after → unless a o ≡ unless (or_else a b) after
unless_rest None b o after e = e
unless_rest (Some reply) b o after e = refl

-- where the question is answered by a refusal, that is the answer
pub unless_refused : (a : Option Reply) (reply : Reply) (o : Outcome) → a ≡ Some reply → unless a o ≡ answered reply
unless_refused a reply o e = ap (λ r. unless r o) e

-- where it isn't, it goes on
pub unless_passed : (a : Option Reply) (o : Outcome) → a ≡ None → unless a o ≡ o
unless_passed a o e = ap (λ r. unless r o) e

-- a question before an answer
pub unless_answered : (a : Option Reply) (reply : Reply) → unless a (answered reply) ≡ answered (unwrap_or a reply)
unless_answered None reply = refl
unless_answered (Some refused) reply = refl
