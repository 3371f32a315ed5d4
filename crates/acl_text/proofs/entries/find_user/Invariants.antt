use Rattle.std.proofs.Common.{◌≡◌, drop}
use Rattle.std.specs.FinMap.{find}
use Rattle.acl_text.specs.Whos.{who_cmp}
use Rattle.acl_text.specs.declared.who.Who.TheVariants.{User}
use Rattle.acl_text.proofs.entries.find_user.Given as goal

abbrev pub invariant-loop-entry : goal.invariant-loop-entry
invariant-loop-entry l = find who_cmp (User l.id) (drop l.entry-index l.items) ≡ find who_cmp (User l.id) l.items
