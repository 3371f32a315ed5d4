use Rattle.std.proofs.Common.{◌<◌, length, sym, ◌∙◌, append-nil, arith}
use Rattle.path_order.proofs.PathNames.{not_empty, names_next}
use Rattle.path_order.proofs.names.path_below.Goals as goal

pub loop-name-init : goal.loop-name-init
loop-name-init c = c.in_ok-whole.ensures ∙ sym (append-nil c.args.path.now)

pub child-requires : goal.child-requires
child-requires c = record { filesystem = λ e. absurd (not_empty c.args.path.now _ c.requires.below (sym c.loop-name.invariant ∙ e)) }

pub loop-name-preserved : goal.loop-name-preserved
loop-name-preserved c =
    names_next c.args.path.now c.args.names.now c.loop-name.name-index c.name-item.result c.loop-name.whole _
    (let a = c.loop-name-test.true in let b = c.loop-name.auto.name-index-end in let h : c.loop-name.name-index < length c.args.names.now = omega arith in h) c.name-item.is c.loop-name.invariant c.in_ok-longer.ensures
