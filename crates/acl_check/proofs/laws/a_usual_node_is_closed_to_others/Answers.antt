use Rattle.std.proofs.Common.{refl}
use Rattle.std.specs.Prelude.{codes}
use Rattle.namespace_model.specs.declared.op.Kind.TheVariants.{File, Directory}
use Rattle.acl_check.proofs.RightsLemmas.{usual_shown}
use Rattle.acl_check.proofs.laws.a_usual_node_is_closed_to_others.Goals as goal

pub returns-clause-directory : goal.returns-clause-directory
returns-clause-directory c = usual_shown Directory (codes "rwxr-x---") refl

pub returns-clause-file : goal.returns-clause-file
returns-clause-file c = usual_shown File (codes "rw-r-----") refl
