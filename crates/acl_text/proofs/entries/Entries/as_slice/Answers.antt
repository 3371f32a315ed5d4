use Rattle.std.proofs.Common.{sym, ap, subst, ◌∙◌}
use Rattle.std.specs.FinMap as fin
use Rattle.acl_text.specs.Held.{AreHeld}
use Rattle.acl_text.proofs.EntryLemmas.{entries-map}
use Rattle.acl_text.proofs.entries.Entries.as_slice.Goals as goal

pub returns-clause-value : goal.returns-clause-value
returns-clause-value c = c.as_slice.ensures.value ∙ sym (entries-map c.self.inside.items.items c.self.invariant.0) ∙ ap fin.entries c.self.view_is

pub returns-clause-held : goal.returns-clause-held
returns-clause-held c =
    subst AreHeld (sym (entries-map c.self.inside.items.items c.self.invariant.0) ∙ ap fin.entries c.self.view_is) c.self.invariant.1
