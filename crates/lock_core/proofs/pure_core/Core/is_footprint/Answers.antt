use Rattle.std.proofs.Common.{List, length, map, ap, ◌∙◌}
use Rattle.lock_core.proofs.CoreMoves.{parts_long, parts_are}
use Rattle.lock_core.proofs.Growing.{held_as}
use Rattle.lock_core.proofs.pure_core.Core.is_footprint.Goals as goal

pub footprint-requires : goal.footprint-requires
footprint-requires g c =
    ap (λ (l : List g.row.P-Part.Denot). length l) c.as_slice.ensures.value
    ∙ parts_long g.P.Parted.object g.P.Parted.bare c.self.inside c.self.invariant _ c.self.view_is g.met.P.Parted.lawful

pub returns : goal.returns
returns g c =
    let h = held_as g.P.Parted.object g.P.Parted.bare c.as_slice.result.now _ c.args.entry.now c.args.number c.in_ok-modes.modes c.args.glance.now.marks
    (ap (λ (l : List g.row.P-Part.Denot). map g.P.Parted.bare l) c.as_slice.ensures.value
    ∙ parts_are g.P.Parted.object g.P.Parted.bare c.self.inside c.self.invariant _ c.self.view_is) c.in_ok-modes.ensures in
    ((λ t. h.0 (c.holds_as.ensures.0 t)), (λ p. c.holds_as.ensures.1 (h.1 p)))
