use Rattle.std.proofs.Common.{◌≡◌, slice_get, Some, ap, refl, arith}
use Rattle.std.specs.Option.{option_copied}
use Rattle.striped_store.proofs.Using.{through_none, through_all, through_room, through_next, next_entry}
use Rattle.striped_store.proofs.used.used_ids.Goals as goal

pub loop-number-init : goal.loop-number-init
loop-number-init g c = through_none g.P.Parted.object g.P.Entry.Bodied.uses _ _ refl

pub add_ids-requires-clause-room : goal.add_ids-requires-clause-room
add_ids-requires-clause-room g c =
    let at : slice_get c.args.journal.now.entries c.loop-number.number ≡ Some c.in-Some.entry.now =
    next_entry c.args.journal.now.entries c.loop-number.number c.in-Some.entry.now _ c.get.ensures (ap option_copied c.in-Some.is) in
    through_room g.P.Parted.object g.P.Entry.Bodied.uses c.args.journal.now.entries c.loop-number.number _ c.in-Some.entry.now c.loop-number.invariant
    (omega (arith, c.loop-number-test.true, c.len-number-end.ensures.small)) (c.requires c.loop-number.number c.in-Some.entry.now at)

pub loop-number-preserved : goal.loop-number-preserved
loop-number-preserved g c =
    let at : slice_get c.args.journal.now.entries c.loop-number.number ≡ Some c.in-Some.entry.now =
    next_entry c.args.journal.now.entries c.loop-number.number c.in-Some.entry.now _ c.get.ensures (ap option_copied c.in-Some.is) in
    through_next g.P.Parted.object g.P.Entry.Bodied.uses c.args.journal.now.entries c.loop-number.number _ _ _ c.in-Some.entry.now refl c.loop-number.invariant at
    c.add_ids.ensures.added (c.requires c.loop-number.number c.in-Some.entry.now at) c.add_ids.ensures.small

pub returns : goal.returns
returns g c = through_all g.P.Parted.object g.P.Entry.Bodied.uses c.args.journal.now.entries c.loop-number.number _ c.loop-number.invariant
    (omega (arith, c.loop-number-test.false, c.len-number-end.ensures.value))
