use Rattle.std.proofs.Common.{option_map, sym, ◌∙◌}
use Rattle.op_filesystem.proofs.NamedLemmas.{none_passed, one_passed, first_named, none_named}
use Rattle.op_filesystem.proofs.names.next_named.Goals as goal

pub loop-count-init : goal.loop-count-init
loop-count-init c = none_passed c.args.account.now c.args.prefix.now (option_map (λ n. n.now) c.args.from)

pub returns-then-begins : goal.returns-then-begins
returns-then-begins c =
    first_named c.args.account.now c.args.prefix.now (option_map (λ n. n.now) c.args.from) (option_map (λ n. n.now) c.loop-count.last) c.loop-count.invariant c.in-Some.name.now c.in-Some.id.0
    c.in-Some.ensures (sym c.begins.ensures ∙ c.if-begins.true)

pub loop-count-preserved : goal.loop-count-preserved
loop-count-preserved c =
    one_passed c.args.account.now c.args.prefix.now (option_map (λ n. n.now) c.args.from) (option_map (λ n. n.now) c.loop-count.last) c.loop-count.invariant c.in-Some.name.now c.in-Some.id.0
    c.in-Some.ensures (sym c.begins.ensures ∙ c.if-begins.false)

pub returns-in-None : goal.returns-in-None
returns-in-None c = none_named c.args.account.now c.args.prefix.now (option_map (λ n. n.now) c.args.from) (option_map (λ n. n.now) c.loop-count.last) c.loop-count.invariant c.in-None.ensures
