-- The steps that take a latch and give it back, and the one that holds a stripe shared from now on.
use Rattle.std.proofs.Common.{◌≡◌, ◌≢◌, ℕ, eqb, ◌+◌, ◌<◌, true, List, ◌∷◌, length, slice_set, slice_index, refl, ap, sym, ◌∙◌, subst, length-set, arith}
use Rattle.std.specs.Prelude as std
use Rattle.lock_core.specs.declared.object.LockMode.TheVariants as mode
use Rattle.lock_core.specs.declared.machine.Hold.{Hold}
use Rattle.lock_core.specs.declared.machine.Hold.TheVariants as hold
use Rattle.lock_core.specs.declared.machine.Sitting.{Sitting}
use Rattle.lock_core.specs.declared.machine.Event.TheVariants as event
use Rattle.lock_core.specs.Object.{Object, IsLawful, replay}
use Rattle.lock_core.specs.Machine as machine
use Rattle.lock_core.specs.Machine.{LockState, plain, seat_at, with_hold, with_latch, hold_at, note_of, looked_with, downgraded, HeldIn, IsAllowed}
use Rattle.lock_core.specs.Lists.{elem-set_same, elem-set_other}
use Rattle.lock_core.proofs.Totals.{elem_within}
use Rattle.lock_core.proofs.Columns.{hold_at-set_same}
use Rattle.lock_core.proofs.LatchTake.{latch_take_keeps, latch_take_finds}
use Rattle.lock_core.proofs.LatchGive.{latch_give_keeps}
use Rattle.lock_core.proofs.Downgrade.{downgrade_keeps}
use Rattle.commit_journal.specs.Keeper.{Told}
use Rattle.atomic_table.specs.Table.{State, Me, Act, keeps, takes, gives, put_back, rest, step, stepped, Valid, Allows, carried_after}
use Rattle.atomic_table.proofs.Lists.{exchanged}
use Rattle.path_locks.specs.declared.rule.Slot.{Slot}
use Rattle.path_locks.specs.declared.rule.Slot.TheVariants.{Part}
use Rattle.path_locks.specs.declared.rule.View.{View}
use Rattle.path_locks.specs.declared.rule.Opening.{Opening}
use Rattle.path_locks.specs.Rule.{Ruled, Shows}
use Rattle.path_locks.specs.Plays.{with_at, with_stripe, MayGive, Holds}
use Rattle.path_locks.specs.Moves.{TookLatch, took_latch, GaveLatch, made_shared}
use Rattle.path_locks.proofs.Noted.{notes_at, allows_else}
use Rattle.path_locks.proofs.Shown.{part_there, placed_set, seat_of_view, word_is, shown_after, views_after, load_keeps, stands_at}
use Rattle.path_locks.proofs.Kept.{kept_after, put_far}
use mathlib.Core.Option.{Option, none, some, some-injective}
use prog.Atomic.{either}
use lib.ListN.{get_elem?}

module _ {T E R K : Type 0} (o : Object T E R) (lawful : IsLawful o) (bare : T → T) (tells : K → Told E) (key : Opening E K) where
  -- the part of a stripe that is held shared is taken, to be looked at
  pub may_take_latch : (slots id : ℕ) (me : Me (Slot T E K) (View T E)) (s : ℕ) → s < 64 → MayGive mode.Shared me.0.at s
      → Allows (Ruled o bare tells key) slots id me (64 + s) (λ n. either (eqb n 0) 1 n) (λ found m'.
      (found ≡ 0 → (y : T) × TookLatch o me s (bare y) ((s, Part y) ∷ me.1) m') × (found ≢ 0 → m' ≡ me))
  may_take_latch slots id me s h may t ruled long here small =
      exchanged (slice_index t.words (64 + s)) 0 1 (λ n. (w : View T E) × (a : Act (Slot T E K)) × Valid t.homes me.1 a × Ruled o bare tells key (stepped t (64 + s) n id me.1 w a)
      × ((slice_index t.words (64 + s) ≡ 0 → (y : T) × TookLatch o me s (bare y) ((s, Part y) ∷ me.1) (w, carried_after me.1 a))
      × (slice_index t.words (64 + s) ≢ 0 → (let r : Me (Slot T E K) (View T E) = (w, carried_after me.1 a) in r) ≡ me)))
      (λ zero.
      let m = ruled.0 in
      let sh = ruled.1 in
      let ok = ruled.3 in
      let h0 = key.journal.value.entries in
      let seat = seat_of_view bare key t m sh id me.0 here in
      let q = subst (λ (z : Sitting T E). MayGive mode.Shared z s) (sym seat) may in
      let free : slice_index m.words (64 + s) ≡ 0 = sym (word_is bare key t m sh (64 + s)) ∙ zero in
      let allowed : IsAllowed o m (plain (event.LatchTake id s)) = (q.quiet.live, (q.quiet.no_journal, (q.quiet.no_latch, (q.held, (free, tt))))) in
      let part = latch_take_finds o h0 lawful m id s h ok allowed in
      let slot = part_there bare (get_elem? t.homes s) part.0 (sh.places s h ∙ part.1) in
      let y = slot.0 in
      let w : View T E = with_at me.0 (with_latch (with_hold me.0.at s (hold.Looked (bare y))) (std.Some s)) in
      let m' : LockState T E R = machine.stepped o m (plain (event.LatchTake id s)) in
      let ok' = latch_take_keeps o h0 lawful m id s h ok allowed in
      let found : get_elem? m.homes s ≡ some (some (bare y)) = part.1 ∙ ap (λ (z : T). some (some z)) (sym slot.2) in
      let same : with_latch (with_hold me.0.at s (hold.Looked (bare y))) (std.Some s) ≡ with_latch (with_hold (seat_at m.seats id) s (looked_with (get_elem? m.homes s))) (std.Some s) =
      λ i. with_latch (with_hold (sym seat i) s (looked_with (sym found i))) (std.Some s) in
      let shows = shown_after bare key t m sh (64 + s) 1 (λ e. omega arith) 1 refl id w _ same
      (slice_set t.homes s none) (slice_set m.homes s none) (length-set t.homes s none ∙ sh.slots) (elem-set_other t.homes s 64 none (λ e. omega arith))
      (placed_set bare t.homes m.homes s none none (omega (arith, sh.slots)) (omega (arith, ok.homes)) refl sh.places) in
      let views = views_after bare key m.journal t.views id me.0 w here refl refl refl may.quiet.live ruled.2 in
      let there = elem-set_same t.views id w (elem_within t.views id me.0 here) in
      let stands = stands_at bare o key m' ok' id w.at (seat_of_view bare key _ m' shows id w there) may.quiet.live in
      let noted = notes_at o h0 m' ok' id w.at (seat_of_view bare key _ m' shows id w there) may.quiet.live in
      let wide : s < length me.0.at.holds = omega (arith, stands.wide, length-set me.0.at.holds s (hold.Looked (bare y))) in
      let now : get_elem? (replay o m.journal) s ≡ some (bare y) = noted s (bare y) h (ap note_of (hold_at-set_same me.0.at.holds s (hold.Looked (bare y)) wide)) in
      let again : (x : T) → note_of (hold_at me.0.at.holds s) ≡ some x → x ≡ bare y =
      λ x note. some-injective _ _ (sym (notes_at o h0 m ok id me.0.at seat may.quiet.live s x h note) ∙ now) in
      (w, takes s (Part y), slot.1, (m', shows, views, ok', kept_after tells t ruled.4 _ (slice_set t.homes s none) (elem-set_other t.homes s 64 none (λ e. omega arith)) id me.0 w here refl refl may.quiet.live refl), ((λ _. (y, record { view = refl; hand_is = refl; again = again; stands = stands })), (λ ne. absurd (ne zero)))))
      (λ ne. (me.0, keeps, tt, load_keeps bare o key tells t (64 + s) id me here ruled, ((λ z. absurd (ne z)), (λ _. refl))))

  -- a part goes back into its slot, and the stripe stays held shared
  part_back : (t : State (Slot T E K) (View T E)) (m : LockState T E R) → Shows bare key t m → length m.homes ≡ 64 → (i n s : ℕ) → i < 128 → s < 64 → (id : ℕ) (w : View T E) (x : Sitting T E) → w.at ≡ x
      → (y : T) (c : List (ℕ × Slot T E K)) → c ≡ (s, Part y) ∷ rest c → (note : Option T) → note ≡ some (bare y)
      → Shows bare key (record { words = slice_set t.words i n; homes = put_back t.homes c; views = slice_set t.views id w })
      (record { words = slice_set m.words i n; homes = slice_set m.homes s note; journal = m.journal; replies = m.replies; seats = slice_set m.seats id x })
  part_back t m sh wide i n s low h id w x ew y c hand note noted =
      let back : slice_set t.homes s (some (Part y)) ≡ put_back t.homes c = sym (ap (λ (z : List (ℕ × Slot T E K)). put_back t.homes z) hand) in
      subst (λ (hs : List (Option (Slot T E K))). Shows bare key (record { words = slice_set t.words i n; homes = hs; views = slice_set t.views id w })
      (record { words = slice_set m.words i n; homes = slice_set m.homes s note; journal = m.journal; replies = m.replies; seats = slice_set m.seats id x })) back
      (shown_after bare key t m sh i n (λ e. omega arith) n refl id w x ew (slice_set t.homes s (some (Part y))) (slice_set m.homes s note)
      (length-set t.homes s (some (Part y)) ∙ sh.slots) (elem-set_other t.homes s 64 (some (Part y)) (λ e. omega arith))
      (placed_set bare t.homes m.homes s (some (Part y)) note (omega (arith, sh.slots)) (omega (arith, wide)) (ap (λ (z : Option T). some z) (sym noted)) sh.places))

  -- the latch is given back, with the part
  pub may_give_latch : (slots id : ℕ) (me : Me (Slot T E K) (View T E)) (s : ℕ) (y : T) → s < 64 → me.0.at.live ≡ true → me.0.at.latch ≡ std.Some s
      → note_of (hold_at me.0.at.holds s) ≡ some (bare y) → me.1 ≡ (s, Part y) ∷ rest me.1
      → Allows (Ruled o bare tells key) slots id me (64 + s) (λ _. 0) (λ _ m'. GaveLatch o me m')
  may_give_latch slots id me s y h live latch note hand t ruled long here small =
      let m = ruled.0 in
      let sh = ruled.1 in
      let ok = ruled.3 in
      let h0 = key.journal.value.entries in
      let seat = seat_of_view bare key t m sh id me.0 here in
      let allowed : IsAllowed o m (plain (event.LatchGive id s)) = (ap (λ (z : Sitting T E). z.live) seat ∙ live, (ap (λ (z : Sitting T E). z.latch) seat ∙ latch, tt)) in
      let w : View T E = with_at me.0 (with_latch me.0.at std.None) in
      let m' : LockState T E R = machine.stepped o m (plain (event.LatchGive id s)) in
      let ok' = latch_give_keeps o h0 m id s h ok allowed in
      let shows = part_back t m sh ok.homes (64 + s) 0 s (omega arith) h id w (with_latch (seat_at m.seats id) std.None) (ap (λ (z : Sitting T E). with_latch z std.None) (sym seat))
      y me.1 hand (note_of (hold_at (seat_at m.seats id).holds s)) (ap (λ (z : Sitting T E). note_of (hold_at z.holds s)) seat ∙ note) in
      let views = views_after bare key m.journal t.views id me.0 w here refl refl refl live ruled.2 in
      let there = elem-set_same t.views id w (elem_within t.views id me.0 here) in
      let stands = stands_at bare o key m' ok' id w.at (seat_of_view bare key _ m' shows id w there) live in
      (w, gives, tt, (m', shows, views, ok', kept_after tells t ruled.4 _ (put_back t.homes me.1) (put_far t.homes s (Part y) me.1 hand (λ e. omega arith)) id me.0 w here refl refl live refl), record { view = refl; hand_is = refl; stands = stands })

  -- the part goes home, and the stripe is held shared with its note
  pub may_downgrade : (slots id : ℕ) (me : Me (Slot T E K) (View T E)) (s : ℕ) (y : T) → s < 64 → MayGive mode.Exclusive me.0.at s
      → hold_at me.0.at.holds s ≡ hold.Exclusive (bare y) → me.1 ≡ (s, Part y) ∷ rest me.1
      → Allows (Ruled o bare tells key) slots id me s (λ _. 1) (λ _ m'. Holds o me s (hold.Looked (bare y)) (rest me.1) m')
  may_downgrade slots id me s y h may note hand t ruled long here small =
      let m = ruled.0 in
      let sh = ruled.1 in
      let ok = ruled.3 in
      let h0 = key.journal.value.entries in
      let seat = seat_of_view bare key t m sh id me.0 here in
      let q = subst (λ (z : Sitting T E). MayGive mode.Exclusive z s) (sym seat) may in
      let allowed : IsAllowed o m (plain (event.Downgrade id s)) = (q.quiet.live, (q.quiet.no_journal, (q.quiet.no_latch, (q.held, tt)))) in
      let held : hold_at (seat_at m.seats id).holds s ≡ hold.Exclusive (bare y) = ap (λ (z : Sitting T E). hold_at z.holds s) seat ∙ note in
      let w : View T E = with_stripe me.0 s (hold.Looked (bare y)) in
      let m' : LockState T E R = machine.stepped o m (plain (event.Downgrade id s)) in
      let ok' = downgrade_keeps o h0 m id s h ok allowed in
      let same : with_hold me.0.at s (hold.Looked (bare y)) ≡ with_hold (seat_at m.seats id) s (downgraded (hold_at (seat_at m.seats id).holds s)) =
      λ i. with_hold (sym seat i) s (downgraded (sym held i)) in
      let shows = part_back t m sh ok.homes s 1 s (omega arith) h id w _ same y me.1 hand (note_of (hold_at (seat_at m.seats id).holds s)) (ap note_of held) in
      let views = views_after bare key m.journal t.views id me.0 w here refl refl refl may.quiet.live ruled.2 in
      let there = elem-set_same t.views id w (elem_within t.views id me.0 here) in
      let stands = stands_at bare o key m' ok' id w.at (seat_of_view bare key _ m' shows id w there) may.quiet.live in
      (w, gives, tt, (m', shows, views, ok', kept_after tells t ruled.4 _ (put_back t.homes me.1) (put_far t.homes s (Part y) me.1 hand (λ e. omega arith)) id me.0 w here refl refl may.quiet.live refl), record { view = refl; hand_is = refl; stands = stands })

  -- the steps on latches, as their seats are told of them
  pub may_try_latch : (slots id : ℕ) (me : Me (Slot T E K) (View T E)) (s : ℕ) → s < 64 → MayGive mode.Shared me.0.at s
      → Allows (Ruled o bare tells key) slots id me (64 + s) (λ n. either (eqb n 0) 1 n) (took_latch o bare (step slots (64 + s) 0 1 none) me)
  may_try_latch slots id me s h may = allows_else (Ruled o bare tells key) slots id me (64 + s) (λ n. either (eqb n 0) 1 n)
      (λ found m'. (found ≡ 0 → (y : T) × TookLatch o me s (bare y) ((s, Part y) ∷ me.1) m') × (found ≢ 0 → m' ≡ me))
      (took_latch o bare (step slots (64 + s) 0 1 none) me)
      (λ n me' told r e.
      let same : s ≡ r = omega arith in
      subst (λ (z : ℕ). (n ≡ 0 → (y : T) × TookLatch o me z (bare y) ((z, Part y) ∷ me.1) me') × (n ≢ 0 → me' ≡ me)) same told)
      (may_take_latch slots id me s h may)

  pub may_put_latch : (slots id : ℕ) (me me' : Me (Slot T E K) (View T E)) (s : ℕ) (y : T) → me' ≡ (me.0, (s, Part y) ∷ rest me.1) → s < 64 → me.0.at.live ≡ true
      → me.0.at.latch ≡ std.Some s → note_of (hold_at me.0.at.holds s) ≡ some (bare y)
      → Allows (Ruled o bare tells key) slots id me' (64 + s) (λ _. 0) (λ _ m'. GaveLatch o me' m')
  may_put_latch slots id me me' s y e h live latch note =
      subst (λ (z : Me (Slot T E K) (View T E)). Allows (Ruled o bare tells key) slots id z (64 + s) (λ _. 0) (λ _ m'. GaveLatch o z m')) (sym e)
      (may_give_latch slots id (me.0, (s, Part y) ∷ rest me.1) s y h live latch note refl)

  pub may_make_shared : (slots id : ℕ) (me me' : Me (Slot T E K) (View T E)) (s : ℕ) (y : T) → me' ≡ (me.0, (s, Part y) ∷ rest me.1) → s < 64 → MayGive mode.Exclusive me.0.at s
      → hold_at me.0.at.holds s ≡ hold.Exclusive (bare y)
      → Allows (Ruled o bare tells key) slots id me' s (λ _. 1) (λ _. made_shared o (step slots s 1 0 none) me' 1)
  may_make_shared slots id me me' s y e h may note =
      let after : hold.Looked (bare y) ≡ downgraded (hold_at me.0.at.holds s) = ap downgraded (sym note) in
      subst (λ (z : Me (Slot T E K) (View T E)). Allows (Ruled o bare tells key) slots id z s (λ _. 1) (λ _. made_shared o (step slots s 1 0 none) z 1)) (sym e)
      (subst (λ (z : Hold T). Allows (Ruled o bare tells key) slots id (me.0, (s, Part y) ∷ rest me.1) s (λ _. 1) (λ _ m'. Holds o (me.0, (s, Part y) ∷ rest me.1) s z (rest me.1) m')) after
      (may_downgrade slots id (me.0, (s, Part y) ∷ rest me.1) s y h may note refl))

module _ {T E R K : Type 0} (o : Object T E R) (bare : T → T) where
  pub made_shared_with : (me me' me2 : Me (Slot T E K) (View T E)) (s : ℕ) (y : T) (r : Slot T E K) → me' ≡ (me.0, (s, r) ∷ rest me.1) → hold_at me.0.at.holds s ≡ hold.Exclusive (bare y)
      → Holds o me' s (downgraded (hold_at me'.0.at.holds s)) (rest me'.1) me2 → Holds o me s (hold.Looked (bare y)) (rest me.1) me2
  made_shared_with me me' me2 s y r e note t =
      let at : Holds o me s (downgraded (hold_at me.0.at.holds s)) (rest me.1) me2 = record {
        view = t.view ∙ ap (λ (z : Me (Slot T E K) (View T E)). with_stripe z.0 s (downgraded (hold_at z.0.at.holds s))) e;
        hand_is = t.hand_is ∙ ap (λ (z : Me (Slot T E K) (View T E)). rest z.1) e;
        stands = t.stands;
      } in
      subst (λ (z : Hold T). Holds o me s (downgraded z) (rest me.1) me2) note at
