use Rattle.std.proofs.Common.{refl, sym, subst}
use Rattle.path_locks.specs.Views.{HeldView, IsHeldBy}
use Rattle.path_locks.proofs.Works.{same_held}
use Rattle.path_locks.proofs.held.Held.reserve.Goals as goal

pub returns-clause-held : goal.returns-clause-held
returns-clause-held g c = λ seat held.
    let h : HeldView g.row.P-Part.Denot = record { modes = c.self.inside.plan; parts = c.self.inside.parts.items; wide = c.self.inside.wide } in
    let h' : HeldView g.row.P-Part.Denot = record { modes = c.self.inside.plan; parts = c.reserve_all.new.parts.items; wide = c.self.inside.wide } in
    same_held g.P.Parted.bare seat h h' refl c.reserve_all.ensures.same (subst (λ (z : HeldView g.row.P-Part.Denot). IsHeldBy g.P.Parted.bare seat z) (sym c.self.view_is) held)
