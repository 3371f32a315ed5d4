use Rattle.std.proofs.Common.{◌≡◌, length}
use Rattle.command_words.specs.Words.{are_given}
use Rattle.command_words.proofs.options.are_options.Given as goal

-- the words that are left decide
abbrev pub invariant-each : goal.invariant-each
invariant-each l = are_given l.command l.rest ≡ are_given l.fn.command l.fn.words

abbrev pub decreases-each : goal.decreases-each
decreases-each l = length l.rest
