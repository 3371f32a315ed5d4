use Rattle.std.proofs.Common.{refl}
use Rattle.dir_rename.proofs.RenameLemmas.{shift_comes}
use Rattle.dir_rename.proofs.eval.move_node.Goals as goal

pub settle_shift-requires-clause-looked : goal.settle_shift-requires-clause-looked
settle_shift-requires-clause-looked g c = c.requires.ends.coming.looked

pub settle_shift-requires-clause-shift : goal.settle_shift-requires-clause-shift
settle_shift-requires-clause-shift g c =
    shift_comes c.args.call.now c.requires.call c.args.asked.now c.requires.operation (g.V.View.held c.args.view.now) (g.V.View.shown c.args.view.now) c.args.ends c.requires.ends _
    c.id_of.ensures refl c.in_ok-copy.ensures refl c.in_ok-copy-2.ensures refl c.in_ok-meta.ensures
