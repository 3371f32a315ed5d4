use Rattle.std.proofs.Common.{refl}
use Rattle.inode_tree.specs.declared.draft.EvalStop.TheVariants as stop
use Rattle.path_walk.proofs.StepLemmas.{same_error}
use Rattle.path_order.proofs.ListingLemmas.{listed_from}
use Rattle.path_order.proofs.listing.list_from.Goals as goal

pub returns-clause-listing : goal.returns-clause-listing
returns-clause-listing g c = (
  refl,
  λ dir token is.
      listed_from (g.V.View.held c.next_page.new.view) (g.V.View.shown c.next_page.new.view) dir token c.args.max c.next_page.new.cursor c.in-Ok.page _ (c.in-Ok.ensures.page dir token is) refl c.in_ok-next.ensures,
)

pub returns-in-Err-clause-need : goal.returns-in-Err-clause-need
returns-in-Err-clause-need g c = λ n e dir token is. c.in-Err.ensures.need n (same_error c.in-Err.stop (stop.Need n) e) dir token is
