-- The step that takes the journal.
use Rattle.std.proofs.Common.{◌≡◌, ℕ, eqb, ◌<◌, true, List, slice_set, slice_index, refl, ap, sym, ◌∙◌, subst, length-set, arith}
use Rattle.lock_core.specs.declared.machine.Sitting.{Sitting}
use Rattle.lock_core.specs.declared.machine.Event.TheVariants as event
use Rattle.lock_core.specs.Object.{Object, replay}
use Rattle.lock_core.specs.Machine as machine
use Rattle.lock_core.specs.Machine.{LockState, plain, seat_at, hold_at, note_of, with_journal, IsAllowed}
use Rattle.lock_core.specs.Sound.{StartsWith, AllFit}
use Rattle.lock_core.specs.Lists.{elem-set_same, elem-set_other}
use Rattle.lock_core.proofs.Totals.{elem_within, map-set}
use Rattle.lock_core.proofs.Columns.{index-set_same}
use Rattle.lock_core.proofs.JournalTake.{journal_take_keeps}
use Rattle.commit_journal.specs.Keeper.{Told}
use Rattle.atomic_table.specs.Table.{Me, Act, keeps, takes, step, stepped, Valid, Allows, carried_after}
use Rattle.atomic_table.proofs.Lists.{exchanged}
use Rattle.path_locks.specs.declared.rule.Slot.{Slot}
use Rattle.path_locks.specs.declared.rule.Slot.TheVariants.{Book}
use Rattle.path_locks.specs.declared.rule.View.{View}
use Rattle.path_locks.specs.declared.rule.Opening.{Opening}
use Rattle.path_locks.specs.Rule.{home_of, Ruled, Shows}
use Rattle.path_locks.specs.Plays.{with_at, with_counts, IsQuiet}
use Rattle.path_locks.specs.Moves.{took_journal}
use Rattle.path_locks.proofs.Noted.{notes_at}
use Rattle.path_locks.proofs.Shown.{seat_of_view, word_is, views_after, load_keeps, stands_at}
use Rattle.path_locks.proofs.Kept.{kept_taken}
use mathlib.Core.Option.{Option, none, some}
use prog.Atomic.{either}
use lib.ListN.{get_elem?}

module _ {T E R : Type 0} (o : Object T E R) where
  may_take : (m : LockState T E R) (v : ℕ) (x : Sitting T E) → seat_at m.seats v ≡ x → IsQuiet x → slice_index m.words 128 ≡ 0 → IsAllowed o m (plain (event.JournalTake v))
  may_take m v x e q zero = let t = subst (λ (z : Sitting T E). IsQuiet z) (sym e) q in (t.live, (t.no_journal, (t.no_latch, (zero, tt))))

  module _ {K : Type 0} (bare : T → T) (tells : K → Told E) (key : Opening E K) where
    pub may_take_journal : (slots id : ℕ) (me : Me (Slot T E K) (View T E)) → IsQuiet me.0.at
        → Allows (Ruled o bare tells key) slots id me 128 (λ n. either (eqb n 0) 1 n) (took_journal o tells (step slots 128 0 1 none) me)
    may_take_journal slots id me quiet t ruled long here small =
        exchanged (slice_index t.words 128) 0 1 (λ n. (w : View T E) × (a : Act (Slot T E K)) × Valid t.homes me.1 a
        × Ruled o bare tells key (stepped t 128 n id me.1 w a) × took_journal o tells (step slots 128 0 1 none) me (slice_index t.words 128) (w, carried_after me.1 a))
        (λ zero.
        let m = ruled.0 in
        let sh = ruled.1 in
        let ok = ruled.3 in
        let h0 = key.journal.value.entries in
        let seat = seat_of_view bare key t m sh id me.0 here in
        let free : slice_index m.words 128 ≡ 0 = sym (word_is bare key t m sh 128) ∙ zero in
        let allowed = may_take m id me.0.at seat quiet free in
        let book = sh.book free in
        let b = book.book in
        let c = book.keeper in
        let w : View T E = with_counts (with_at me.0 (with_journal me.0.at true b.entries)) (tells c).faults (tells c).faults in
        let m' : LockState T E R = machine.stepped o m (plain (event.JournalTake id)) in
        let ok' = journal_take_keeps o h0 m id ok allowed in
        let same : with_journal me.0.at true b.entries ≡ with_journal (seat_at m.seats id) true m.journal = λ i. with_journal (sym seat i) true (book.entries_are i) in
        let shows : Shows bare key (record { words = slice_set t.words 128 1; homes = slice_set t.homes 64 none; views = slice_set t.views id w }) m' = record {
          words = ap (λ (l : List ℕ). slice_set l 128 1) sh.words;
          seats = map-set (λ (z : View T E). z.at) t.views id w ∙ ap (λ (l : List (Sitting T E)). slice_set l id w.at) sh.seats ∙ ap (λ (z : Sitting T E). slice_set m.seats id z) same;
          slots = length-set t.homes 64 none ∙ sh.slots;
          places = λ k h. ap (λ (z : Option (Option (Slot T E K))). home_of bare z) (elem-set_other t.homes 64 k none (λ e. omega arith)) ∙ sh.places k h;
          book = λ z. absurd (let e = index-set_same m.words 128 1 (omega (arith, ok.words)) in omega arith);
          away = λ z. elem-set_same t.homes 64 none (omega (arith, sh.slots));
        } in
        let views = views_after bare key m.journal t.views id me.0 w here refl refl refl quiet.live ruled.2 in
        let there = elem-set_same t.views id w (elem_within t.views id me.0 here) in
        let stands = stands_at bare o key m' ok' id w.at (seat_of_view bare key _ m' shows id w there) quiet.live in
        let limits : b.limits ≡ me.0.limits = book.limits_are ∙ sym ((ruled.2).each id me.0 here quiet.live).limits in
        let alive : (seat_at m.seats id).live ≡ true = ap (λ (z : Sitting T E). z.live) seat ∙ quiet.live in
        let begins : StartsWith b.entries me.0.at.seen = subst (λ (z : Sitting T E). StartsWith b.entries z.seen) seat
        (subst (λ (h : List E). StartsWith h (seat_at m.seats id).seen) (sym book.entries_are) (ok.seats id alive).knows.prefix) in
        let fit : AllFit o b.entries = subst (λ (h : List E). AllFit o h) (sym book.entries_are) ok.fit in
        let noted = notes_at o h0 m' ok' id w.at (seat_of_view bare key _ m' shows id w there) quiet.live in
        let notes : (k : ℕ) (y : T) → k < 64 → note_of (hold_at me.0.at.holds k) ≡ some y → get_elem? (replay o b.entries) k ≡ some y =
        λ k y l n. ap (λ (h : List E). get_elem? (replay o h) k) book.entries_are ∙ noted k y l n in (
          w,
          takes 64 (Book b c),
          book.there,
          (m', shows, views, ok', kept_taken tells t ruled.4 sh.slots _ b c book.there id me.0 w here refl refl),
          (
            (λ _. (
              b,
              c,
              record {
                view = refl;
                hand_is = refl;
                limits_are = limits;
                kept = (ruled.4).kept b c book.there;
                rose = (let low = (ruled.4).below id me.0 here quiet.live in let e = (ruled.4).counted b c book.there in omega (arith, low, e));
                begins = begins;
                fit = fit;
                notes = notes;
                stands = stands;
              },
            )),
            (λ ne. absurd (ne zero)),
          ),
        ))
        (λ ne. (me.0, keeps, tt, load_keeps bare o key tells t 128 id me here ruled, ((λ z. absurd (ne z)), (λ _. refl))))
