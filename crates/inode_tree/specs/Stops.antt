-- What a look that gave nothing means to an evaluator.
use Rattle.inode_tree.specs.declared.draft.EvalStop.{EvalStop}
use Rattle.inode_tree.specs.declared.draft.EvalStop.TheVariants as stop
use Rattle.inode_tree.specs.declared.need.GetStop.{GetStop}
use Rattle.inode_tree.specs.declared.need.GetStop.TheVariants as get

abbrev pub stop_of_get : GetStop → EvalStop
stop_of_get (get.Need need) = stop.Need need
stop_of_get get.NoMemory = stop.NoMemory
