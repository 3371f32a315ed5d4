use Rattle.std.proofs.Common.{sym, ap, ◌∙◌}
use Rattle.std.specs.Prelude.{filter}
use Rattle.striped_store.specs.Views.{number_of_pass}
use Rattle.conn_workers.specs.Counted.{is_by}
use Rattle.conn_workers.proofs.DeskLemmas.{tally_none}
use Rattle.conn_workers.proofs.counted.CountedPass.new.Goals as goal

pub invariant_of-result : goal.invariant_of-result
invariant_of-result g c = record {
  tally_is = c.none.ensures ∙ sym (tally_none c.args.pass c.requires.seen);
  own = c.requires.made ∙ ap (filter (is_by (number_of_pass c.args.pass))) (sym c.requires.seen);
}
