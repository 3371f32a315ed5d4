use Rattle.std.proofs.Common.{sym, subst, ap, ◌∙◌, None}
use Rattle.std.specs.FinMap as fin
use Rattle.acl_text.specs.Acls.{IsAclMap}
use Rattle.acl_text.proofs.AclLemmas.{entries-mode_map, IsAclMap-mode_map}
use Rattle.acl_text.proofs.acl.AclPair.of_mode.Goals as goal

pub invariant_of-result : goal.invariant_of-result
invariant_of-result c = subst IsAclMap (sym c.in_ok-map.ensures) (IsAclMap-mode_map c.args.bits.now)

pub returns : goal.returns
returns c = λ i. record { access = (ap fin.entries c.in_ok-map.ensures ∙ entries-mode_map c.args.bits.now) i; default = None }
