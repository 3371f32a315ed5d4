use Rattle.std.proofs.Common.{sym, ◌∙◌}
use Rattle.path_text.proofs.TokenLemmas.{text_of_names, text_of_no_names}
use Rattle.path_text.proofs.token.names_text.Goals as goal

pub returns-then-is_empty : goal.returns-then-is_empty
returns-then-is_empty c =
    rw (c.in_ok-push.ensures.items, c.new-text.ensures.items) (text_of_no_names c.args.names.now (sym c.is_empty.ensures ∙ c.if-is_empty.true))

pub returns : goal.returns
returns c =
    rw (c.in_ok-push_names.ensures, c.new-text.ensures.items) (text_of_names c.args.names.now (sym c.is_empty.ensures ∙ c.if-is_empty.false))
