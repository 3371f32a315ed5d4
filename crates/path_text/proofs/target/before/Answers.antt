use Rattle.std.proofs.Common.{◌==◌, sym, ◌∙◌}
use Rattle.path_text.proofs.PlaceLemmas.{before_found, before_none}
use Rattle.path_text.proofs.target.before.Goals as goal

pub returns-in-Some : goal.returns-in-Some
returns-in-Some c = before_found (λ b. b == c.args.byte) _ _ (sym c.place_of.ensures ∙ c.in-Some.is)

pub returns-in-None : goal.returns-in-None
returns-in-None c = before_none (λ b. b == c.args.byte) _ (sym c.place_of.ensures ∙ c.in-None.is)
