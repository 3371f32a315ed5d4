use Rattle.std.proofs.Common.{[], length, ap, ◌∙◌}
use Rattle.std.specs.FinMap as fin
use Rattle.acl_text.specs.Whos.{who_cmp}
use Rattle.acl_text.proofs.entries.Entries.new.Goals as goal

pub returns : goal.returns
returns c = ap (fin.from_sorted {R = who_cmp}) c.new.ensures.items ∙ fin.empty_of_len _ (fin.len-entries _ ∙ ap length (fin.entries-from_sorted who_cmp [] tt))
