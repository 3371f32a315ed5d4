use Rattle.std.proofs.Common.{◌≡◌, ◌++◌, ap, sym, ◌∙◌}
use Rattle.std.specs.Option.{option_copied}
use Rattle.path_walk.proofs.FindLemmas.{ok_then}
use Rattle.path_listing.specs.Listed.{paths_in}
use Rattle.path_order.specs.PagesBelow.{last_of}
use Rattle.path_listing.proofs.RowLemmas.{last_row}
use Rattle.path_listing.proofs.body.last_path.Goals as goal

pub returns-in-Some : goal.returns-in-Some
returns-in-Some c =
    ok_then c.path_below.result _ (λ path. path ≡ last_of c.args.dir.now (paths_in c.args.dir.now c.args.rows.now)) c.path_below.ensures
    (λ path is. is ∙ ap (λ l. c.args.dir.now ++ l) c.as_slice.ensures.value ∙ last_row c.args.dir.now c.args.dir.now c.args.rows.now c.in-Some.row.now (sym c.last.ensures.value ∙ ap option_copied c.in-Some.is))
