use Rattle.std.proofs.Common.{◌≡◌, take, fold}
use Rattle.acl_text.specs.AclWriting.{scoped, with_entry}
use Rattle.acl_text.proofs.write.append_entries.Given as goal

abbrev pub invariant-loop-who : goal.invariant-loop-who
invariant-loop-who l = l.text.items ≡ fold with_entry l.fn.text.items (scoped l.scope (take l.who-index l.entries))
