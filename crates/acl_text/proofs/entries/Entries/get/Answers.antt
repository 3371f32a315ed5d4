use Rattle.std.proofs.Common.{sym, ap, ◌∙◌}
use Rattle.std.specs.FinMap as fin
use Rattle.std.specs.FinMap.{find}
use Rattle.acl_text.specs.Whos.{who_cmp}
use Rattle.acl_text.proofs.EntryLemmas.{entries-map}
use Rattle.acl_text.proofs.entries.Entries.get.Goals as goal

pub returns : goal.returns
returns c =
    let who = c.args.who.now in
    c.find.ensures ∙ ap (find who_cmp who) (c.as_slice.ensures.value ∙ sym (entries-map c.self.inside.items.items c.self.invariant.0))
    ∙ sym (fin.get-entries _ who) ∙ ap (λ m. fin.get m who) c.self.view_is
