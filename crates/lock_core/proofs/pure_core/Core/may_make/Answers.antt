use Rattle.std.proofs.Common.{List, length, ap, ◌∙◌}
use Rattle.lock_core.proofs.CoreMoves.{parts_long}
use Rattle.lock_core.proofs.pure_core.Core.may_make.Goals as goal

pub fitting-requires : goal.fitting-requires
fitting-requires g c =
    ap (λ (l : List g.row.P-Part.Denot). length l) c.as_slice-2.ensures.value
    ∙ parts_long g.P.Parted.object g.P.Parted.bare c.self.inside c.self.invariant _ c.self.view_is g.met.P.Parted.lawful
