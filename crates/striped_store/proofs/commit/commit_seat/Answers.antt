use Rattle.std.proofs.Common.{List, [], ◌∷◌, ◌++◌, sym, ◌∙◌, subst}
use Rattle.std.specs.Prelude.{Option}
use Rattle.commit_journal.specs.Keeper.{AreKept}
use Rattle.lock_core.specs.Sound.{AllFit}
use Rattle.path_locks.specs.Views.{seen_of}
use Rattle.path_locks.proofs.Alikes.{alike_held}
use Rattle.striped_store.specs.Commits.{ArePartsOf}
use Rattle.striped_store.proofs.Grown.{same_before, own_few, own_more, may_commit, parts_of, kept_grown, had_memory}
use Rattle.striped_store.proofs.commit.commit_seat.Goals as goal

pub enter-requires-clause-held : goal.enter-requires-clause-held
enter-requires-clause-held g c =
    alike_held g.P.Parted.bare c.args.seat.now c.take_journal-journal.new.seat c.reserve-ready.new.self c.take_journal-journal.ensures.held
    (c.reserve-ready.ensures.held c.args.seat.now c.requires.held)

pub enter-requires-clause-kept : goal.enter-requires-clause-kept
enter-requires-clause-kept g c =
    subst (λ (l : List g.row.P-Entry.Denot). AreKept (g.K.Keeper.tells c.make_room.new.keeper).kept (l ++ c.args.entry ∷ [])) (sym c.make_room.ensures.entries)
    (subst (λ (k : Option (List g.row.P-Entry.Denot)). AreKept k (c.take_journal-journal.result.0.entries ++ c.args.entry ∷ [])) (sym c.in-Ok.ensures.kept)
    (kept_grown c.args.entry (g.K.Keeper.tells c.take_journal-journal.result.1).kept c.take_journal-journal.result.0.entries c.take_journal-journal.ensures.kept))

pub enter-requires-clause-ready : goal.enter-requires-clause-ready
enter-requires-clause-ready g c = had_memory c.reserve-ready.result _ c.in-Ok.ensures.ready c.reserve-ready.ensures.ready

pub give_journal-requires-clause-kept : goal.give_journal-requires-clause-kept
give_journal-requires-clause-kept g c =
    subst (λ (l : List g.row.P-Entry.Denot). AreKept (g.K.Keeper.tells c.make_room.new.keeper).kept l) (sym c.make_room.ensures.entries)
    (subst (λ (k : Option (List g.row.P-Entry.Denot)). AreKept k c.take_journal-journal.result.0.entries) (sym c.in-Err.ensures.kept) c.take_journal-journal.ensures.kept)

pub enter-requires-clause-may : goal.enter-requires-clause-may
enter-requires-clause-may g c =
    may_commit g.P.Parted.object c.args.seat.now c.take_journal-journal.new.seat c.args.entry c.take_journal-journal.ensures.same c.take_journal-journal.ensures.held
    c.take_journal-journal.ensures.mine c.requires.can

pub returns-in-Ok-clause-own : goal.returns-in-Ok-clause-own
returns-in-Ok-clause-own g c =
    own_more g.P.Parted.object c.take_journal-journal.new.seat c.enter.new.seat c.args.entry c.take_journal-journal.ensures.stands c.enter.ensures.mine c.enter.ensures.seen

pub returns-in-Ok-clause-parts : goal.returns-in-Ok-clause-parts
returns-in-Ok-clause-parts g c = λ h is.
    let same = same_before (seen_of c.take_journal-journal.new.seat) h c.args.entry (sym c.enter.ensures.seen ∙ is) in
    subst (λ (l : List g.row.P-Entry.Denot). ArePartsOf g.P.Parted.object l c.args.seat.now) same
    (parts_of g.P.Parted.object c.args.seat.now c.take_journal-journal.new.seat c.take_journal-journal.ensures.held c.take_journal-journal.ensures.notes)

pub returns-in-Err-clause-own : goal.returns-in-Err-clause-own
returns-in-Err-clause-own g c = own_few g.P.Parted.object c.give_journal.new.seat c.give_journal.ensures.stands

pub returns-in-Err-clause-back : goal.returns-in-Err-clause-back
returns-in-Err-clause-back g c = record {
  held_again = alike_held g.P.Parted.bare c.take_journal-journal.new.seat c.give_journal.new.seat c.reserve-ready.new.self c.give_journal.ensures.held
      (alike_held g.P.Parted.bare c.args.seat.now c.take_journal-journal.new.seat c.reserve-ready.new.self c.take_journal-journal.ensures.held
      (c.reserve-ready.ensures.held c.args.seat.now c.requires.held));
  modes = c.reserve-ready.ensures.modes;
  parts = c.reserve-ready.ensures.same;
  wide = c.reserve-ready.ensures.wide;
  holds = c.give_journal.ensures.held.holds ∙ c.take_journal-journal.ensures.held.holds;
}

pub returns-in-Err-clause-fit : goal.returns-in-Err-clause-fit
returns-in-Err-clause-fit g c =
    subst (λ (l : List g.row.P-Entry.Denot). AllFit g.P.Parted.object l) (sym (c.give_journal.ensures.seen ∙ c.take_journal-journal.ensures.seen)) c.take_journal-journal.ensures.fit
