use Rattle.std.proofs.Common.{◌≡◌, ◌+◌, true, List, [], ◌∷◌, ◌++◌, length, length-append, refl, ap, sym, ◌∙◌, subst}
use Rattle.lock_core.specs.Machine.{notes, committed}
use Rattle.path_locks.specs.declared.rule.View.{View}
use Rattle.path_locks.specs.Moves.{Commits}
use Rattle.path_locks.specs.Committing.{MayCommit}
use Rattle.path_locks.specs.Working.{AreReady, worked, AreChanged}
use Rattle.path_locks.specs.Views.{SeatView, HeldView, seen_of, mine_of, has_journal, IsHeldBy, IsSeatAgain}
use Rattle.path_locks.proofs.Betweens.{between_all}
use Rattle.path_locks.proofs.Commits.{committed_held, same_seat}
use Rattle.path_locks.proofs.table.LockTable.commit.Goals as goal

pub apply_all-requires : goal.apply_all-requires
apply_all-requires g c =
    record { ready = subst (λ (z : HeldView g.row.P-Part.Denot). AreReady g.P.Parted.ready c.args.work.now z.parts) (sym c.held.view_is) c.requires.ready }

pub put_longer-requires-clause-entry : goal.put_longer-requires-clause-entry
put_longer-requires-clause-entry g c =
    let s : SeatView g.row.P-Part.Denot g.row.P-Entry.Denot g.row.K.Denot =
    record { table = c.seat.inside.seat.table_id; id = c.seat.inside.seat.id; me = c.seat.inside.seat.me; room = c.seat.inside.room.items } in
    let e = c.requires.entry.0 in
    let entries : c.args.journal.entries ≡ seen_of s ++ e ∷ [] = c.requires.entry.1 ∙ ap (λ (z : SeatView g.row.P-Part.Denot g.row.P-Entry.Denot g.row.K.Denot). seen_of z ++ e ∷ []) (sym c.seat.view_is) in
    (e, entries, subst (λ (z : SeatView g.row.P-Part.Denot g.row.P-Entry.Denot g.row.K.Denot). MayCommit g.P.Parted.object z.me.0.at e) (sym c.seat.view_is) c.requires.entry.2)

pub invariant_of-seat : goal.invariant_of-seat
invariant_of-seat g c =
    let s : SeatView g.row.P-Part.Denot g.row.P-Entry.Denot g.row.K.Denot =
    record { table = c.seat.inside.seat.table_id; id = c.seat.inside.seat.id; me = c.seat.inside.seat.me; room = c.seat.inside.room.items } in
    let e = c.requires.entry.0 in
    let entries : c.args.journal.entries ≡ seen_of s ++ e ∷ [] = c.requires.entry.1 ∙ ap (λ (z : SeatView g.row.P-Part.Denot g.row.P-Entry.Denot g.row.K.Denot). seen_of z ++ e ∷ []) (sym c.seat.view_is) in
    let t : SeatView g.row.P-Part.Denot g.row.P-Entry.Denot g.row.K.Denot =
    record { table = c.put_longer.new.seat.table_id; id = c.put_longer.new.seat.id; me = c.put_longer.new.seat.me; room = c.seat.inside.room.items } in
    let told : Commits g.P.Parted.object g.K.Keeper.tells s.me e c.args.keeper t.me = c.put_longer.ensures.given e entries in
    let h : HeldView g.row.P-Part.Denot = record { modes = c.held.inside.plan; parts = c.held.inside.parts.items; wide = c.held.inside.wide } in
    let h' : HeldView g.row.P-Part.Denot = record { modes = c.held.inside.plan; parts = c.apply_all.new.parts.items; wide = c.held.inside.wide } in
    let held : IsHeldBy g.P.Parted.bare s h = subst (λ (z : SeatView g.row.P-Part.Denot g.row.P-Entry.Denot g.row.K.Denot). IsHeldBy g.P.Parted.bare z h) (sym c.seat.view_is)
    (subst (λ (z : HeldView g.row.P-Part.Denot). IsHeldBy g.P.Parted.bare c.args.seat.now z) (sym c.held.view_is) c.requires.held) in
    let has : has_journal s ≡ true = ap (λ (z : SeatView g.row.P-Part.Denot g.row.P-Entry.Denot g.row.K.Denot). has_journal z) c.seat.view_is ∙ c.requires.journal in
    let may : MayCommit g.P.Parted.object s.me.0.at e = subst (λ (z : SeatView g.row.P-Part.Denot g.row.P-Entry.Denot g.row.K.Denot). MayCommit g.P.Parted.object z.me.0.at e) (sym c.seat.view_is) c.requires.entry.2 in
    let does = subst (λ (z : SeatView g.row.P-Part.Denot g.row.P-Entry.Denot g.row.K.Denot). g.P.Parted.does c.args.work.now (notes g.P.Parted.object z.me.0.at) e) (sym c.seat.view_is) c.requires.entry.3 in
    let number : c.len-number.result ≡ length (seen_of s) + 1 = c.len-number.ensures.value ∙ ap (λ (l : List g.row.P-Entry.Denot). length l) entries ∙ length-append (seen_of s) (e ∷ []) in
    let stays : IsHeldBy g.P.Parted.bare t h' = committed_held g.P.Parted.object g.met.P.Parted.lawful g.P.Parted.does g.P.Parted.applied g.met.P.Parted.works g.P.Parted.bare
    s t h h' c.args.work.now e c.len-number.result number c.seat.invariant.stands.wide held has g.K.Keeper.tells c.args.keeper told may does refl c.apply_all.ensures in
    between_all g.P.Parted.object g.P.Parted.bare t h' stays told.stands

pub returns-clause-same : goal.returns-clause-same
returns-clause-same g c =
    let s : SeatView g.row.P-Part.Denot g.row.P-Entry.Denot g.row.K.Denot =
    record { table = c.seat.inside.seat.table_id; id = c.seat.inside.seat.id; me = c.seat.inside.seat.me; room = c.seat.inside.room.items } in
    let e = c.requires.entry.0 in
    let entries : c.args.journal.entries ≡ seen_of s ++ e ∷ [] = c.requires.entry.1 ∙ ap (λ (z : SeatView g.row.P-Part.Denot g.row.P-Entry.Denot g.row.K.Denot). seen_of z ++ e ∷ []) (sym c.seat.view_is) in
    let t : SeatView g.row.P-Part.Denot g.row.P-Entry.Denot g.row.K.Denot =
    record { table = c.put_longer.new.seat.table_id; id = c.put_longer.new.seat.id; me = c.put_longer.new.seat.me; room = c.seat.inside.room.items } in
    let told : Commits g.P.Parted.object g.K.Keeper.tells s.me e c.args.keeper t.me = c.put_longer.ensures.given e entries in
    subst (λ (z : SeatView g.row.P-Part.Denot g.row.P-Entry.Denot g.row.K.Denot). IsSeatAgain z t) c.seat.view_is (same_seat g.P.Parted.object s t e g.K.Keeper.tells c.args.keeper told c.put_longer.ensures.own.0 c.put_longer.ensures.own.1)

pub returns-clause-journal : goal.returns-clause-journal
returns-clause-journal g c =
    let s : SeatView g.row.P-Part.Denot g.row.P-Entry.Denot g.row.K.Denot =
    record { table = c.seat.inside.seat.table_id; id = c.seat.inside.seat.id; me = c.seat.inside.seat.me; room = c.seat.inside.room.items } in
    let e = c.requires.entry.0 in
    let entries : c.args.journal.entries ≡ seen_of s ++ e ∷ [] = c.requires.entry.1 ∙ ap (λ (z : SeatView g.row.P-Part.Denot g.row.P-Entry.Denot g.row.K.Denot). seen_of z ++ e ∷ []) (sym c.seat.view_is) in
    let t : SeatView g.row.P-Part.Denot g.row.P-Entry.Denot g.row.K.Denot =
    record { table = c.put_longer.new.seat.table_id; id = c.put_longer.new.seat.id; me = c.put_longer.new.seat.me; room = c.seat.inside.room.items } in
    let told : Commits g.P.Parted.object g.K.Keeper.tells s.me e c.args.keeper t.me = c.put_longer.ensures.given e entries in
    ap (λ (z : View g.row.P-Part.Denot g.row.P-Entry.Denot). z.at.journal) told.view

pub returns-clause-seen : goal.returns-clause-seen
returns-clause-seen g c =
    let s : SeatView g.row.P-Part.Denot g.row.P-Entry.Denot g.row.K.Denot =
    record { table = c.seat.inside.seat.table_id; id = c.seat.inside.seat.id; me = c.seat.inside.seat.me; room = c.seat.inside.room.items } in
    let e = c.requires.entry.0 in
    let entries : c.args.journal.entries ≡ seen_of s ++ e ∷ [] = c.requires.entry.1 ∙ ap (λ (z : SeatView g.row.P-Part.Denot g.row.P-Entry.Denot g.row.K.Denot). seen_of z ++ e ∷ []) (sym c.seat.view_is) in
    let t : SeatView g.row.P-Part.Denot g.row.P-Entry.Denot g.row.K.Denot =
    record { table = c.put_longer.new.seat.table_id; id = c.put_longer.new.seat.id; me = c.put_longer.new.seat.me; room = c.seat.inside.room.items } in
    let told : Commits g.P.Parted.object g.K.Keeper.tells s.me e c.args.keeper t.me = c.put_longer.ensures.given e entries in
    ap (λ (z : View g.row.P-Part.Denot g.row.P-Entry.Denot). z.at.seen) told.view ∙ sym entries

pub returns-clause-mine : goal.returns-clause-mine
returns-clause-mine g c =
    let s : SeatView g.row.P-Part.Denot g.row.P-Entry.Denot g.row.K.Denot =
    record { table = c.seat.inside.seat.table_id; id = c.seat.inside.seat.id; me = c.seat.inside.seat.me; room = c.seat.inside.room.items } in
    let t : SeatView g.row.P-Part.Denot g.row.P-Entry.Denot g.row.K.Denot =
    record { table = c.put_longer.new.seat.table_id; id = c.put_longer.new.seat.id; me = c.put_longer.new.seat.me; room = c.seat.inside.room.items } in
    λ e is.
    let told : Commits g.P.Parted.object g.K.Keeper.tells s.me e c.args.keeper t.me = c.put_longer.ensures.given e (is ∙ ap (λ (z : SeatView g.row.P-Part.Denot g.row.P-Entry.Denot g.row.K.Denot). seen_of z ++ e ∷ []) (sym c.seat.view_is)) in
    ap (λ (z : View g.row.P-Part.Denot g.row.P-Entry.Denot). z.at.mine) told.view ∙ ap (λ (z : SeatView g.row.P-Part.Denot g.row.P-Entry.Denot g.row.K.Denot). mine_of z ++ e ∷ []) c.seat.view_is

pub returns-clause-commits : goal.returns-clause-commits
returns-clause-commits g c =
    let s : SeatView g.row.P-Part.Denot g.row.P-Entry.Denot g.row.K.Denot =
    record { table = c.seat.inside.seat.table_id; id = c.seat.inside.seat.id; me = c.seat.inside.seat.me; room = c.seat.inside.room.items } in
    let t : SeatView g.row.P-Part.Denot g.row.P-Entry.Denot g.row.K.Denot =
    record { table = c.put_longer.new.seat.table_id; id = c.put_longer.new.seat.id; me = c.put_longer.new.seat.me; room = c.seat.inside.room.items } in
    λ e is.
    let told : Commits g.P.Parted.object g.K.Keeper.tells s.me e c.args.keeper t.me = c.put_longer.ensures.given e (is ∙ ap (λ (z : SeatView g.row.P-Part.Denot g.row.P-Entry.Denot g.row.K.Denot). seen_of z ++ e ∷ []) (sym c.seat.view_is)) in
    ap (λ (z : View g.row.P-Part.Denot g.row.P-Entry.Denot). z.at) told.view ∙ ap (λ (z : SeatView g.row.P-Part.Denot g.row.P-Entry.Denot g.row.K.Denot). committed g.P.Parted.object z.me.0.at e (length (seen_of z) + 1)) c.seat.view_is

pub returns-clause-held : goal.returns-clause-held
returns-clause-held g c =
    let s : SeatView g.row.P-Part.Denot g.row.P-Entry.Denot g.row.K.Denot =
    record { table = c.seat.inside.seat.table_id; id = c.seat.inside.seat.id; me = c.seat.inside.seat.me; room = c.seat.inside.room.items } in
    let e = c.requires.entry.0 in
    let entries : c.args.journal.entries ≡ seen_of s ++ e ∷ [] = c.requires.entry.1 ∙ ap (λ (z : SeatView g.row.P-Part.Denot g.row.P-Entry.Denot g.row.K.Denot). seen_of z ++ e ∷ []) (sym c.seat.view_is) in
    let t : SeatView g.row.P-Part.Denot g.row.P-Entry.Denot g.row.K.Denot =
    record { table = c.put_longer.new.seat.table_id; id = c.put_longer.new.seat.id; me = c.put_longer.new.seat.me; room = c.seat.inside.room.items } in
    let told : Commits g.P.Parted.object g.K.Keeper.tells s.me e c.args.keeper t.me = c.put_longer.ensures.given e entries in
    let h : HeldView g.row.P-Part.Denot = record { modes = c.held.inside.plan; parts = c.held.inside.parts.items; wide = c.held.inside.wide } in
    let h' : HeldView g.row.P-Part.Denot = record { modes = c.held.inside.plan; parts = c.apply_all.new.parts.items; wide = c.held.inside.wide } in
    let held : IsHeldBy g.P.Parted.bare s h = subst (λ (z : SeatView g.row.P-Part.Denot g.row.P-Entry.Denot g.row.K.Denot). IsHeldBy g.P.Parted.bare z h) (sym c.seat.view_is)
    (subst (λ (z : HeldView g.row.P-Part.Denot). IsHeldBy g.P.Parted.bare c.args.seat.now z) (sym c.held.view_is) c.requires.held) in
    let has : has_journal s ≡ true = ap (λ (z : SeatView g.row.P-Part.Denot g.row.P-Entry.Denot g.row.K.Denot). has_journal z) c.seat.view_is ∙ c.requires.journal in
    let may : MayCommit g.P.Parted.object s.me.0.at e = subst (λ (z : SeatView g.row.P-Part.Denot g.row.P-Entry.Denot g.row.K.Denot). MayCommit g.P.Parted.object z.me.0.at e) (sym c.seat.view_is) c.requires.entry.2 in
    let does = subst (λ (z : SeatView g.row.P-Part.Denot g.row.P-Entry.Denot g.row.K.Denot). g.P.Parted.does c.args.work.now (notes g.P.Parted.object z.me.0.at) e) (sym c.seat.view_is) c.requires.entry.3 in
    let number : c.len-number.result ≡ length (seen_of s) + 1 = c.len-number.ensures.value ∙ ap (λ (l : List g.row.P-Entry.Denot). length l) entries ∙ length-append (seen_of s) (e ∷ []) in
    let stays : IsHeldBy g.P.Parted.bare t h' = committed_held g.P.Parted.object g.met.P.Parted.lawful g.P.Parted.does g.P.Parted.applied g.met.P.Parted.works g.P.Parted.bare
    s t h h' c.args.work.now e c.len-number.result number c.seat.invariant.stands.wide held has g.K.Keeper.tells c.args.keeper told may does refl c.apply_all.ensures in
    stays

pub returns-clause-applied : goal.returns-clause-applied
returns-clause-applied g c =
    subst (λ (z : HeldView g.row.P-Part.Denot). AreChanged g.P.Parted.bare (worked g.P.Parted.applied c.args.work.now (length c.args.journal.entries)) z.parts c.apply_all.new.parts.items) c.held.view_is
    (subst (λ n. AreChanged g.P.Parted.bare (worked g.P.Parted.applied c.args.work.now n) c.held.inside.parts.items c.apply_all.new.parts.items) c.len-number.ensures.value c.apply_all.ensures)

pub returns-clause-fit : goal.returns-clause-fit
returns-clause-fit g c =
    let s : SeatView g.row.P-Part.Denot g.row.P-Entry.Denot g.row.K.Denot =
    record { table = c.seat.inside.seat.table_id; id = c.seat.inside.seat.id; me = c.seat.inside.seat.me; room = c.seat.inside.room.items } in
    let e = c.requires.entry.0 in
    let entries : c.args.journal.entries ≡ seen_of s ++ e ∷ [] = c.requires.entry.1 ∙ ap (λ (z : SeatView g.row.P-Part.Denot g.row.P-Entry.Denot g.row.K.Denot). seen_of z ++ e ∷ []) (sym c.seat.view_is) in
    let t : SeatView g.row.P-Part.Denot g.row.P-Entry.Denot g.row.K.Denot =
    record { table = c.put_longer.new.seat.table_id; id = c.put_longer.new.seat.id; me = c.put_longer.new.seat.me; room = c.seat.inside.room.items } in
    let told : Commits g.P.Parted.object g.K.Keeper.tells s.me e c.args.keeper t.me = c.put_longer.ensures.given e entries in
    told.fit

pub returns-clause-notes : goal.returns-clause-notes
returns-clause-notes g c =
    let s : SeatView g.row.P-Part.Denot g.row.P-Entry.Denot g.row.K.Denot =
    record { table = c.seat.inside.seat.table_id; id = c.seat.inside.seat.id; me = c.seat.inside.seat.me; room = c.seat.inside.room.items } in
    let e = c.requires.entry.0 in
    let entries : c.args.journal.entries ≡ seen_of s ++ e ∷ [] = c.requires.entry.1 ∙ ap (λ (z : SeatView g.row.P-Part.Denot g.row.P-Entry.Denot g.row.K.Denot). seen_of z ++ e ∷ []) (sym c.seat.view_is) in
    let t : SeatView g.row.P-Part.Denot g.row.P-Entry.Denot g.row.K.Denot =
    record { table = c.put_longer.new.seat.table_id; id = c.put_longer.new.seat.id; me = c.put_longer.new.seat.me; room = c.seat.inside.room.items } in
    let told : Commits g.P.Parted.object g.K.Keeper.tells s.me e c.args.keeper t.me = c.put_longer.ensures.given e entries in
    told.notes

pub returns-clause-stands : goal.returns-clause-stands
returns-clause-stands g c =
    let s : SeatView g.row.P-Part.Denot g.row.P-Entry.Denot g.row.K.Denot =
    record { table = c.seat.inside.seat.table_id; id = c.seat.inside.seat.id; me = c.seat.inside.seat.me; room = c.seat.inside.room.items } in
    let e = c.requires.entry.0 in
    let entries : c.args.journal.entries ≡ seen_of s ++ e ∷ [] = c.requires.entry.1 ∙ ap (λ (z : SeatView g.row.P-Part.Denot g.row.P-Entry.Denot g.row.K.Denot). seen_of z ++ e ∷ []) (sym c.seat.view_is) in
    let t : SeatView g.row.P-Part.Denot g.row.P-Entry.Denot g.row.K.Denot =
    record { table = c.put_longer.new.seat.table_id; id = c.put_longer.new.seat.id; me = c.put_longer.new.seat.me; room = c.seat.inside.room.items } in
    let told : Commits g.P.Parted.object g.K.Keeper.tells s.me e c.args.keeper t.me = c.put_longer.ensures.given e entries in
    told.stands
