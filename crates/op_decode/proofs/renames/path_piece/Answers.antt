use Rattle.std.proofs.Common.{sym, ◌∙◌}
use Rattle.path_text.specs.Targets.{is_question_mark}
use Rattle.path_text.proofs.PlaceLemmas.{before_found, before_none}
use Rattle.op_decode.proofs.renames.path_piece.Goals as goal

pub returns-in-Some : goal.returns-in-Some
returns-in-Some c = before_found is_question_mark _ _ (sym c.question_mark.ensures ∙ c.in-Some.is)

pub returns-in-None : goal.returns-in-None
returns-in-None c = before_none is_question_mark _ (sym c.question_mark.ensures ∙ c.in-None.is)
