use Rattle.std.proofs.Common.{◌≡◌, length, option_map}
use Rattle.command_words.specs.Words.{value_given}
use Rattle.command_words.proofs.WordLemmas.{value_left}
use Rattle.command_words.proofs.options.value_of.Given as goal

-- the words that are left decide, with what was found before them
abbrev pub invariant-each : goal.invariant-each
invariant-each l = value_left (option_map (λ text. text.now) l.found) l.name l.rest ≡ value_given l.fn.name l.fn.words

abbrev pub decreases-each : goal.decreases-each
decreases-each l = length l.rest
