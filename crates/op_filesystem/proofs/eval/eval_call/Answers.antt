use Rattle.op_filesystem.proofs.SuperuserLemmas.{creates_it, gets_it, sets_it, deletes_it}
use Rattle.op_filesystem.proofs.eval.eval_call.Goals as goal

pub create_filesystem-requires-clause-operation : goal.create_filesystem-requires-clause-operation
create_filesystem-requires-clause-operation g c = creates_it c.args.call.now c.requires.call _ _ c.in-CreateFilesystem.is

pub get_filesystem-requires-clause-operation : goal.get_filesystem-requires-clause-operation
get_filesystem-requires-clause-operation g c = gets_it c.args.call.now c.requires.call _ c.in-GetFilesystem.is

pub set_filesystem-requires-clause-operation : goal.set_filesystem-requires-clause-operation
set_filesystem-requires-clause-operation g c = sets_it c.args.call.now c.requires.call _ _ c.in-SetFilesystem.is

pub delete_filesystem-requires-clause-operation : goal.delete_filesystem-requires-clause-operation
delete_filesystem-requires-clause-operation g c = deletes_it c.args.call.now c.requires.call _ c.in-DeleteFilesystem.is
