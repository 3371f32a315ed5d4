use Rattle.std.proofs.Common.{subst}
use Rattle.acl_text.specs.Acls.{IsAcl}
use Rattle.acl_text.proofs.AclLemmas.{acl_entries}
use Rattle.acl_text.proofs.acl.Acl.entries.Goals as goal

pub returns-clause-acl : goal.returns-clause-acl
returns-clause-acl c = subst IsAcl c.self.view_is (acl_entries c.self.inside.map c.self.invariant c.as_slice.ensures.held)
