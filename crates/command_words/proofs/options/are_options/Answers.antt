use Rattle.std.proofs.Common.{sym, ◌∙◌}
use Rattle.command_words.proofs.WordLemmas.{all_given, is_none}
use Rattle.command_words.proofs.options.are_options.Goals as goal

pub returns : goal.returns
returns c = sym (all_given c.args.command c.each.rest.now (is_none _ (sym c.is_empty.ensures ∙ c.each-test.false))) ∙ c.each.invariant
