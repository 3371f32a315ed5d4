use Rattle.std.proofs.Common.{sym, option_map, ◌∙◌}
use Rattle.command_words.proofs.WordLemmas.{value_read, is_none}
use Rattle.command_words.proofs.options.value_of.Goals as goal

pub returns : goal.returns
returns c = sym (value_read (option_map (λ text. text.now) c.each.found) c.args.name.now c.each.rest.now (is_none _ (sym c.is_empty.ensures ∙ c.each-test.false))) ∙ c.each.invariant
