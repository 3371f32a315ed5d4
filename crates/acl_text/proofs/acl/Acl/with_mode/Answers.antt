use Rattle.std.proofs.Common.{sym, subst}
use Rattle.acl_text.specs.Acls.{IsAclMap}
use Rattle.acl_text.proofs.AclLemmas.{IsAclMap-mode_set}
use Rattle.acl_text.proofs.acl.Acl.with_mode.Goals as goal

pub invariant_of-result : goal.invariant_of-result
invariant_of-result c = subst IsAclMap (sym c.in_ok-map.ensures) (IsAclMap-mode_set c.args.bits.now _ c.in_ok-copied_map.ensures.acl)
