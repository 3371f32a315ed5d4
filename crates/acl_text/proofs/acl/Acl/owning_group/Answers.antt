use Rattle.std.proofs.Common.{sym, subst, IsSome, ◌∙◌}
use Rattle.acl_text.proofs.acl.Acl.owning_group.Goals as goal

pub unwrap-requires : goal.unwrap-requires
unwrap-requires c = subst IsSome (sym c.get.ensures.value) c.get.ensures.acl.owning_group

pub returns : goal.returns
returns c = sym c.get.ensures.value ∙ c.unwrap.ensures
