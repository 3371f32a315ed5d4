use Rattle.std.proofs.Common.{List, length, replicate, ap, sym, ◌∙◌, subst}
use Rattle.atomic_table.specs.Table.{opening}
use Rattle.path_locks.specs.declared.rule.Slot.{Slot}
use Rattle.path_locks.specs.Rule.{Ruled, first_view}
use Rattle.path_locks.proofs.Opened.{opening_ruled, shelf_size}
use Rattle.path_locks.proofs.start.make_memory.Goals as goal

pub new-requires : goal.new-requires
new-requires g c =
    let r = c.requires.slots in
    subst (λ (z : List (Slot g.row.P-Part.Denot g.row.P-Entry.Denot g.row.K.Denot)). Ruled g.P.Parted.object g.P.Parted.bare g.K.Keeper.tells c.args.about.now
    (opening (replicate 129 0) z (first_view g.P.Parted.object g.K.Keeper.tells c.args.about.now))) (sym r.1)
    (opening_ruled g.P.Parted.object g.met.P.Parted.lawful g.P.Parted.bare g.K.Keeper.tells c.args.about.now r.0 r.2 c.requires.kept c.requires.fit c.requires.some)

pub returns-in-Ok-clause-own : goal.returns-in-Ok-clause-own
returns-in-Ok-clause-own g c =
    let r = c.requires.slots in
    let e = c.in-Ok.ensures.ok in (
      record {
        words = e.0;
        slots = e.1 ∙ ap (λ (z : List (Slot g.row.P-Part.Denot g.row.P-Entry.Denot g.row.K.Denot)). length z) r.1
            ∙ shelf_size g.P.Parted.object g.met.P.Parted.lawful g.P.Parted.bare g.K.Keeper.tells c.args.about.now r.0 r.2;
      },
      e.2,
    )
