use Rattle.std.proofs.Common.{◌≡◌, true, false, drop, ap, sym, ◌∙◌}
use Rattle.path_text.specs.Targets.{begins_badly}
use Rattle.path_text.proofs.PlaceLemmas.{rest_is}
use Rattle.path_text.proofs.EscapeLemmas.{bad_escape-found, bad_escape-passed, bad_escape-none}
use Rattle.path_text.proofs.escape.bad_escape.Goals as goal

pub returns-then-begins_badly : goal.returns-then-begins_badly
returns-then-begins_badly c =
    let bad : begins_badly (drop c.loop-at.at c.args.text.now) ≡ true = ap begins_badly (sym (rest_is c.args.text.now c.loop-at.at)) ∙ sym c.begins_badly.ensures ∙ c.if-begins_badly.true in
    bad_escape-found _ _ c.loop-at-test.true bad c.loop-at.invariant

pub loop-at-preserved : goal.loop-at-preserved
loop-at-preserved c =
    let fine : begins_badly (drop c.loop-at.at c.args.text.now) ≡ false = ap begins_badly (sym (rest_is c.args.text.now c.loop-at.at)) ∙ sym c.begins_badly.ensures ∙ c.if-begins_badly.false in
    bad_escape-passed _ _ c.loop-at-test.true fine c.loop-at.invariant

pub returns : goal.returns
returns c = bad_escape-none _ _ c.loop-at-test.false c.loop-at.invariant
