use Rattle.inode_tree.proofs.WorkedFootprints.{read_of_its_way, create_writes_old_and_new, rename_writes_both_parents}
use Rattle.inode_tree.proofs.laws.worked_footprints.Goals as goal

pub returns-clause-a_read_is_of_its_way : goal.returns-clause-a_read_is_of_its_way
returns-clause-a_read_is_of_its_way c = read_of_its_way

pub returns-clause-a_create_writes_old_and_new : goal.returns-clause-a_create_writes_old_and_new
returns-clause-a_create_writes_old_and_new c = create_writes_old_and_new

pub returns-clause-a_rename_writes_both_parents : goal.returns-clause-a_rename_writes_both_parents
returns-clause-a_rename_writes_both_parents c = rename_writes_both_parents
