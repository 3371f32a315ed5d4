use Rattle.std.proofs.Common.{◌++◌, take, ap, ◌∙◌}
use Rattle.std.proofs.Math.Seq.{take-add}
use Rattle.file_data.specs.ExtentLists.{Extents, whole}
use Rattle.file_data.proofs.extent_list.ExtentList.take_up.Goals as goal

pub returns : goal.returns
returns c =
    c.cut.ensures.kept ∙ take-add c.self.inside.count c.args.count (whole c.self.inside.list)
    ∙ ap (λ (x : Extents). x.extents ++ take c.args.count x.ahead) c.self.view_is
