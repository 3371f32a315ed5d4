-- The steps that give the journal back: as it was, or with one entry more.
use Rattle.std.proofs.Common.{◌≡◌, ℕ, ◌+◌, ◌≤◌, true, false, List, [], ◌∷◌, ◌++◌, length, slice_set, slice_index, refl, ap, sym, ◌∙◌, subst, length-set, append_assoc, arith}
use Rattle.lock_core.specs.declared.machine.Sitting.{Sitting}
use Rattle.lock_core.specs.declared.machine.Event.TheVariants as event
use Rattle.lock_core.specs.Object.{Object, IsLawful, replay}
use Rattle.lock_core.specs.Machine as machine
use Rattle.lock_core.specs.Machine.{LockState, plain, seat_at, with_journal, hold_at, IsNoted, IsFootprint, MayMake, committed, IsAllowed}
use Rattle.lock_core.specs.Sound.{StartsWith, AllFit}
use Rattle.lock_core.specs.Lists.{elem-set_same, elem-set_other}
use Rattle.lock_core.proofs.Totals.{elem_within, map-set}
use Rattle.lock_core.proofs.Columns.{index-set_same}
use Rattle.lock_core.proofs.JournalGive.{journal_give_keeps}
use Rattle.lock_core.proofs.Commit.{commit_keeps}
use Rattle.commit_journal.specs.Journal.{JournalView}
use Rattle.commit_journal.specs.Keeper.{Told, AreKept}
use Rattle.atomic_table.specs.Table.{State, Me, gives, put_back, rest, Allows, step}
use Rattle.path_locks.specs.declared.rule.Slot.{Slot}
use Rattle.path_locks.specs.declared.rule.Slot.TheVariants.{Book}
use Rattle.path_locks.specs.declared.rule.View.{View}
use Rattle.path_locks.specs.declared.rule.Opening.{Opening}
use Rattle.path_locks.specs.Rule.{home_of, Ruled, Shows, AreViews}
use Rattle.path_locks.specs.Plays.{with_at, with_counts}
use Rattle.path_locks.specs.Moves.{GaveJournal, gave_journal, Commits}
use Rattle.path_locks.proofs.Noted.{notes_at, allows_else}
use Rattle.path_locks.proofs.Looks.{in_hand}
use Rattle.path_locks.proofs.Kept.{same_keeper, kept_given, others_without}
use Rattle.path_locks.proofs.Shown.{seat_of_view, views_after, stands_at}
use mathlib.Core.Option.{Option, none, some}
use lib.ListN.{get_elem?}

module _ {E : Type 0} where
  longer_starts : (h : List E) (e : E) (seen : List E) → StartsWith h seen → StartsWith (h ++ e ∷ []) seen
  longer_starts h e seen s = (s.0 ++ e ∷ [], sym (append_assoc seen s.0 (e ∷ [])) ∙ ap (λ (l : List E). l ++ e ∷ []) s.1)

module _ {T E K : Type 0} where
  -- the views stay right while the journal grows
  pub views_grown : (key : Opening E K) (h h' : List E) (views : List (View T E)) → ((seen : List E) → StartsWith h seen → StartsWith h' seen) → AreViews key h views → AreViews key h' views
  views_grown key h h' views more ok = record {
    few = ok.few;
    counted = ok.counted;
    each = λ j v at live. let k = ok.each j v at live in record { limits = k.limits; before = λ i seen e. more seen (k.before i seen e) };
  }

  -- the journal lies in its slot again
  book_back : {R : Type 0} (bare : T → T) (key : Opening E K) (t : State (Slot T E K) (View T E)) (m : LockState T E R) → Shows bare key t m → length m.words ≡ 129
      → (id : ℕ) (w : View T E) (x : Sitting T E) → w.at ≡ x → (b : JournalView E) (k : K) (c : List (ℕ × Slot T E K)) → c ≡ (64, Book b k) ∷ rest c → b.limits ≡ key.journal.value.limits
      → (h : List E) (rs : List R) → b.entries ≡ h
      → Shows bare key (record { words = slice_set t.words 128 0; homes = put_back t.homes c; views = slice_set t.views id w })
      (record { words = slice_set m.words 128 0; homes = m.homes; journal = h; replies = rs; seats = slice_set m.seats id x })
  book_back bare key t m sh wide id w x ew b k c hand limits h rs entries =
      let back : slice_set t.homes 64 (some (Book b k)) ≡ put_back t.homes c = sym (ap (λ (z : List (ℕ × Slot T E K)). put_back t.homes z) hand) in
      let word : slice_index (slice_set m.words 128 0) 128 ≡ 0 = index-set_same m.words 128 0 (omega (arith, wide)) in
      subst (λ (hs : List (Option (Slot T E K))). Shows bare key (record { words = slice_set t.words 128 0; homes = hs; views = slice_set t.views id w })
      (record { words = slice_set m.words 128 0; homes = m.homes; journal = h; replies = rs; seats = slice_set m.seats id x })) back (record {
        words = ap (λ (l : List ℕ). slice_set l 128 0) sh.words;
        seats = map-set (λ (z : View T E). z.at) t.views id w ∙ ap (λ (l : List (Sitting T E)). slice_set l id w.at) sh.seats ∙ ap (λ (z : Sitting T E). slice_set m.seats id z) ew;
        slots = length-set t.homes 64 (some (Book b k)) ∙ sh.slots;
        places = λ i l. ap (λ (z : Option (Option (Slot T E K))). home_of bare z) (elem-set_other t.homes 64 i (some (Book b k)) (λ e. omega arith)) ∙ sh.places i l;
        book = λ z. record { book = b; keeper = k; there = elem-set_same t.homes 64 (some (Book b k)) (omega (arith, sh.slots)); entries_are = entries; limits_are = limits };
        away = λ z. absurd (omega arith);
      })

module _ {T E R K : Type 0} (o : Object T E R) (lawful : IsLawful o) (bare : T → T) (tells : K → Told E) (key : Opening E K) where
  -- as it was
  pub may_give_journal : (slots id : ℕ) (me : Me (Slot T E K) (View T E)) (b : JournalView E) (k : K) → me.0.at.live ≡ true → me.0.at.journal ≡ true → me.1 ≡ (64, Book b k) ∷ rest me.1
      → b.entries ≡ me.0.at.seen → b.limits ≡ me.0.limits → AreKept (tells k).kept b.entries → me.0.taken ≤ (tells k).faults
      → Allows (Ruled o bare tells key) slots id me 128 (λ _. 0) (λ _ m'. GaveJournal o tells me k m')
  may_give_journal slots id me b k live has hand entries limits keeps more t ruled long here small =
      let m = ruled.0 in
      let sh = ruled.1 in
      let ok = ruled.3 in
      let h0 = key.journal.value.entries in
      let seat = seat_of_view bare key t m sh id me.0 here in
      let alive : (seat_at m.seats id).live ≡ true = ap (λ (z : Sitting T E). z.live) seat ∙ live in
      let have : (seat_at m.seats id).journal ≡ true = ap (λ (z : Sitting T E). z.journal) seat ∙ has in
      let whole : me.0.at.seen ≡ m.journal = sym (ap (λ (z : Sitting T E). z.seen) seat) ∙ (ok.seats id alive).whole have in
      let w : View T E = with_counts (with_at me.0 (with_journal me.0.at false me.0.at.seen)) me.0.taken (tells k).faults in
      let m' : LockState T E R = machine.stepped o m (plain (event.JournalGive id)) in
      let ok' = journal_give_keeps o h0 m id ok (alive, (have, tt)) in
      let shows = book_back bare key t m sh ok.words id w (with_journal (seat_at m.seats id) false (seat_at m.seats id).seen) (ap (λ (z : Sitting T E). with_journal z false z.seen) (sym seat))
      b k me.1 hand (limits ∙ ((ruled.2).each id me.0 here live).limits) m.journal m.replies (entries ∙ whole) in
      let views = views_after bare key m.journal t.views id me.0 w here refl refl refl live ruled.2 in
      let there = elem-set_same t.views id w (elem_within t.views id me.0 here) in
      let stands = stands_at bare o key m' ok' id w.at (seat_of_view bare key _ m' shows id w there) live in
      (w, gives, tt, (m', shows, views, ok', kept_given tells t ruled.4 sh.slots _ b k keeps me.1 hand id me.0 w here has more refl refl (others_without o h0 bare key t m sh ok id me.0 here has)), record { view = refl; hand_is = refl; stands = stands })

  -- with one entry more
  pub may_commit : (slots id : ℕ) (me : Me (Slot T E K) (View T E)) (b : JournalView E) (k : K) (e : E) → me.0.at.live ≡ true → me.0.at.journal ≡ true → me.1 ≡ (64, Book b k) ∷ rest me.1
      → b.entries ≡ me.0.at.seen ++ e ∷ [] → b.limits ≡ me.0.limits → AreKept (tells k).kept b.entries → me.0.taken ≤ (tells k).faults → ((k : ℕ) → IsNoted (hold_at me.0.at.holds k)) → IsFootprint o me.0.at e (length me.0.at.seen + 1) → MayMake o me.0.at e
      → Allows (Ruled o bare tells key) slots id me 128 (λ _. 0)
      (λ _ m'. Commits o tells me e k m')
  may_commit slots id me b k e live has hand entries limits keeps more looked footprint fits t ruled long here small =
      let m = ruled.0 in
      let sh = ruled.1 in
      let ok = ruled.3 in
      let h0 = key.journal.value.entries in
      let seat = seat_of_view bare key t m sh id me.0 here in
      let alive : (seat_at m.seats id).live ≡ true = ap (λ (z : Sitting T E). z.live) seat ∙ live in
      let have : (seat_at m.seats id).journal ≡ true = ap (λ (z : Sitting T E). z.journal) seat ∙ has in
      let whole : me.0.at.seen ≡ m.journal = sym (ap (λ (z : Sitting T E). z.seen) seat) ∙ (ok.seats id alive).whole have in
      let print : IsFootprint o me.0.at e (length m.journal + 1) = subst (λ (h : List E). IsFootprint o me.0.at e (length h + 1)) whole footprint in
      let allowed : IsAllowed o m (plain (event.Commit id e)) = subst (λ (z : Sitting T E). (z.live ≡ true) × ((z.journal ≡ true) × (((k : ℕ) → IsNoted (hold_at z.holds k))
      × (IsFootprint o z e (length m.journal + 1) × (MayMake o z e × Unit {0}))))) (sym seat) (live, (has, (looked, (print, (fits, tt))))) in
      let w : View T E = with_counts (with_at me.0 (committed o me.0.at e (length me.0.at.seen + 1))) me.0.taken (tells k).faults in
      let m' : LockState T E R = machine.stepped o m (plain (event.Commit id e)) in
      let ok' = commit_keeps o h0 lawful m id e ok allowed in
      let same : committed o me.0.at e (length me.0.at.seen + 1) ≡ committed o (seat_at m.seats id) e (length m.journal + 1) = λ i. committed o (sym seat i) e (length (whole i) + 1) in
      let shows = book_back bare key t m sh ok.words id w (committed o (seat_at m.seats id) e (length m.journal + 1)) same b k me.1 hand
      (limits ∙ ((ruled.2).each id me.0 here live).limits) (m.journal ++ e ∷ []) m'.replies (entries ∙ ap (λ (h : List E). h ++ e ∷ []) whole) in
      let grown = views_grown key m.journal (m.journal ++ e ∷ []) t.views (longer_starts m.journal e) ruled.2 in
      let views = views_after bare key (m.journal ++ e ∷ []) t.views id me.0 w here refl refl refl live grown in
      let there = elem-set_same t.views id w (elem_within t.views id me.0 here) in
      let stands = stands_at bare o key m' ok' id w.at (seat_of_view bare key _ m' shows id w there) live in
      let noted = notes_at o h0 m' ok' id w.at (seat_of_view bare key _ m' shows id w there) live in
      let longer : me.0.at.seen ++ e ∷ [] ≡ m.journal ++ e ∷ [] = ap (λ (h : List E). h ++ e ∷ []) whole in (
        w,
        gives,
        tt,
        (m', shows, views, ok', kept_given tells t ruled.4 sh.slots _ b k keeps me.1 hand id me.0 w here has more refl refl (others_without o h0 bare key t m sh ok id me.0 here has)),
        record {
          view = refl;
          hand_is = refl;
          fit = subst (λ (h : List E). AllFit o h) (sym longer) ok'.fit;
          notes = λ i y l n. ap (λ (h : List E). get_elem? (replay o h) i) longer ∙ noted i y l n;
          stands = stands;
        },
      )

  -- the same once the journal lies in the slot that was taken last
  pub may_put_journal : (slots id : ℕ) (me me' : Me (Slot T E K) (View T E)) (b : JournalView E) (k : K) → me' ≡ (me.0, (64, Book b k) ∷ rest me.1) → me.0.at.live ≡ true → me.0.at.journal ≡ true
      → b.entries ≡ me.0.at.seen → b.limits ≡ me.0.limits → AreKept (tells k).kept b.entries → me.0.taken ≤ (tells k).faults
      → Allows (Ruled o bare tells key) slots id me' 128 (λ _. 0) (λ _. gave_journal o tells (step slots 128 0 0 none) me' 0)
  may_put_journal slots id me me' b k e live has entries limits keeps more =
      let z : Me (Slot T E K) (View T E) = (me.0, (64, Book b k) ∷ rest me.1) in
      subst (λ (y : Me (Slot T E K) (View T E)). Allows (Ruled o bare tells key) slots id y 128 (λ _. 0) (λ _. gave_journal o tells (step slots 128 0 0 none) y 0)) (sym e)
      (allows_else (Ruled o bare tells key) slots id z 128 (λ _. 0) (λ _ m'. GaveJournal o tells z k m') (λ _. gave_journal o tells (step slots 128 0 0 none) z 0)
      (λ n m' t b' k' h. subst (λ (q : K). GaveJournal o tells z q m') (same_keeper b b' k k' (in_hand z.1 64 (Book b k) (Book b' k') (rest z.1) (rest z.1) refl h)) t)
      (may_give_journal slots id z b k live has refl entries limits keeps more))

module _ {T E R K : Type 0} (o : Object T E R) (tells : K → Told E) where
  -- what the seat is told of it
  pub journal_put : (slots : ℕ) (me me' me2 : Me (Slot T E K) (View T E)) (b : JournalView E) (k : K) → me' ≡ (me.0, (64, Book b k) ∷ rest me.1)
      → gave_journal o tells (step slots 128 0 0 none) me' 0 me2 → GaveJournal o tells me k me2
  journal_put slots me me' me2 b k eq told =
      let z : Me (Slot T E K) (View T E) = (me.0, (64, Book b k) ∷ rest me.1) in
      let told' : gave_journal o tells (step slots 128 0 0 none) z 0 me2 = subst (λ (y : Me (Slot T E K) (View T E)). gave_journal o tells (step slots 128 0 0 none) y 0 me2) eq told in
      let t : GaveJournal o tells z k me2 = told' b k refl in
      record { view = t.view; hand_is = t.hand_is; stands = t.stands }
