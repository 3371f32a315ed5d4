use Rattle.std.proofs.Common.{◌≡◌, Result, Ok, Err, IfErr, IsErrAnd, sym, subst}
use Rattle.op_decode.specs.Decoded.{decoded}
use Rattle.serving.proofs.connection.answer.Goals as goal

-- what holds of an error holds of the same error where it is passed on
passed_on : {A E : Type 0} (r : Result A E) (e : E) (P : E → Type 0) → IsErrAnd r (λ given. given ≡ e) → P e → IfErr r P
passed_on (Ok x) e P is holds = tt
passed_on (Err given) e P is holds = subst P (sym is) holds

pub returns-in_err-text-clause-full : goal.returns-in_err-text-clause-full
unfolding decoded
returns-in_err-text-clause-full g c =
    passed_on c.from_residual-in_err-text.result c.in_err-text.field-0.0 _ c.from_residual-in_err-text.ensures.1
    (rw c.in_ok-request.ensures.decoded at c.in_err-text.ensures.full)
