use native.Mathlib.Numerals.{add-one}
use Rattle.inode_tree.proofs.PlaceLemmas.{above_at, free_at, in_order}
use Rattle.inode_tree.proofs.places.place_above.Goals as goal

pub returns-in-Ok-clause-above : goal.returns-in-Ok-clause-above
returns-in-Ok-clause-above g c =
    rw add-one (above_at g.K.Ord.cmp g.met.K.Ord.total c.args.key.now c.args.entries.now c.in-Ok.at (in_order _ c.requires) c.in-Ok.ensures.0 c.in-Ok.ensures.1)

pub returns-in-Err-clause-above : goal.returns-in-Err-clause-above
returns-in-Err-clause-above g c =
    (free_at g.K.Ord.cmp g.met.K.Ord.total c.args.key.now c.args.entries.now c.in-Err.at c.in-Err.ensures.0 c.in-Err.ensures.1).above
