use Rattle.std.proofs.Common.{◌<◌, length, ap, ◌∙◌, sym, List, arith}
use Rattle.lock_core.proofs.Totals.{elem-map}
use Rattle.lock_core.proofs.Columns.{length-replay}
use Rattle.lock_core.proofs.CoreMoves.{parts_are, at_index}
use Rattle.lock_core.proofs.pure_core.Core.part.Goals as goal
use lib.ListN.{get_elem?, length-map}

pub index-requires : goal.index-requires
index-requires g c =
    omega (
      arith,
      c.self.inside.parts.ok.0,
      length-map c.self.inside.parts.items g.P.Parted.bare,
      ap (λ (l : List g.row.P-Part.Denot). length l) c.self.invariant.parts,
      length-replay g.P.Parted.object g.met.P.Parted.lawful c.self.inside.journal.items,
    )

pub returns : goal.returns
returns g c =
    let long : c.args.stripe < length c.self.inside.parts.items = omega (
      arith,
      length-map c.self.inside.parts.items g.P.Parted.bare,
      ap (λ (l : List g.row.P-Part.Denot). length l) c.self.invariant.parts,
      length-replay g.P.Parted.object g.met.P.Parted.lawful c.self.inside.journal.items,
    ) in
    ap (λ (l : List g.row.P-Part.Denot). get_elem? l c.args.stripe) (sym (parts_are g.P.Parted.object g.P.Parted.bare c.self.inside c.self.invariant _ c.self.view_is))
    ∙ elem-map g.P.Parted.bare c.self.inside.parts.items c.args.stripe c.index.result.now (at_index c.self.inside.parts.items c.args.stripe c.index.result.now long c.index.ensures)
