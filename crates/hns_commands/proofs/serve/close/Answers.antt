use Rattle.std.proofs.Common.{◌≡◌, length, sum_by, sym, subst, ◌∙◌}
use Rattle.service_workers.specs.Drafts.{body_in}
use Rattle.hns_commands.specs.Serves.{AreInOrder}
use Rattle.hns_commands.proofs.ServeLemmas.{all_tallies, summed}
use Rattle.hns_commands.proofs.serve.close.Goals as goal

pub returns-clause-text : goal.returns-clause-text
returns-clause-text g c =
    let entries : c.len.result ≡ length c.close-closing.result.journal.entries = c.len.ensures.value in
    let bytes : c.body_bytes.result ≡ sum_by body_in c.close-closing.result.journal.entries = c.body_bytes.ensures.value in
    let tally = c.in_ok-passes.ensures.tally ∙ all_tallies c.close-closing.result.journal.entries c.in_ok-passes.passes.items c.close-closing.ensures.passes c.close-closing.ensures.entries
    (subst AreInOrder (sym c.in_ok-passes.ensures.passes) c.requires.order) c.in_ok-passes.ensures.own in
    c.in_ok-text.ensures ∙ summed c.close-closing.result.journal.entries c.len.result c.body_bytes.result c.in_ok-passes.tally entries tally bytes
