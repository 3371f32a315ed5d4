use Rattle.std.proofs.Common.{◌≡◌, take}
use Rattle.serde_json.specs.View.{items_view}
use Rattle.namespace_model.specs.ListPaths.{path_items}
use Rattle.namespace_model.specs.Trees.{Tree}
use Rattle.path_listing.specs.Listed.{AreShown, paths_in}
use Rattle.path_listing.proofs.body.rows_body.Given as goal

abbrev pub invariant-loop-row : goal.invariant-loop-row
invariant-loop-row l = (t : Tree) → AreShown t l.dir l.rows → items_view l.entries.items ≡ path_items t (paths_in l.dir (take l.row-index l.rows))
