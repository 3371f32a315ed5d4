-- A commit keeps the machine sound.
use Rattle.std.proofs.Common.{◌≡◌, ℕ, zero, suc, ◌+◌, ◌<◌, Bool, true, false, List, [], ◌∷◌, ◌++◌, length, map, slice_set, slice_index, nat_lt, refl, ap, sym, ◌∙◌, subst, length-set, true≢false, add-zero, arith}
use Rattle.lock_core.specs.declared.object.LockMode.{LockMode}
use Rattle.lock_core.specs.declared.object.LockMode.TheVariants as mode
use Rattle.lock_core.specs.declared.machine.Hold.{Hold}
use Rattle.lock_core.specs.declared.machine.Hold.TheVariants.{Free, Shared, Looked, Exclusive}
use Rattle.lock_core.specs.declared.machine.Sitting.{Sitting}
use Rattle.lock_core.specs.declared.machine.Event.TheVariants as event
use Rattle.lock_core.specs.Object.{Object, Agrees, SameOn, IsLawful, mode_of, by_pass, replay}
use Rattle.lock_core.specs.Machine.{plain, LockState, hold_at, note_of, note_or, notes_or, notes, HeldIn, IsNoted, renewed, renewed_from, committed, IsFootprint, seat_at, IsAllowed, stepped}
use Rattle.lock_core.specs.Sound.{total, one_if, Grip, grip, StripeOk, SeatOk, times, MadeBelow, IsSound}
use Rattle.lock_core.proofs.Totals.{total-set, map-set, elem-map, elem_there}
use Rattle.lock_core.proofs.Stripes.{exclusive_note, renew}
use Rattle.lock_core.proofs.Columns.{index-set_same, index-set_other, grip_is, stripe_same, column_same, live_within, live_elem, times_same, length-replay}
use Rattle.lock_core.proofs.Seats.{each_set, dead_set, old_is_other, journal_once}
use Rattle.lock_core.proofs.Histories.{replay-snoc, fit-snoc, replied-snoc, knows_grows, knows_own, made_grows}
use mathlib.Core.Option.{Option, some, some-ne-none}
use lib.ListN.{get_elem?}

module _ {T : Type 0} where
  pub length-notes_or : (ps : List T) (hs : List (Hold T)) → length (notes_or ps hs) ≡ length ps
  length-notes_or [] hs = refl
  length-notes_or (p ∷ ps) [] = refl
  length-notes_or (p ∷ ps) (h ∷ hs) = ap suc (length-notes_or ps hs)

  noted_here : (h : Hold T) (p x : T) → note_of h ≡ some x → some (note_or h p) ≡ some x
  noted_here Free p x e = absurd (some-ne-none x (sym e))
  noted_here Shared p x e = absurd (some-ne-none x (sym e))
  noted_here (Looked y) p x e = e
  noted_here (Exclusive y) p x e = e

  -- where there is a note it is in the list of notes
  pub note_there : (ps : List T) (hs : List (Hold T)) (k : ℕ) (x : T) → k < length ps → note_of (hold_at hs k) ≡ some x
      → get_elem? (notes_or ps hs) k ≡ some x
  note_there [] hs k x h e = absurd (omega arith)
  note_there (p ∷ ps) [] k x h e = absurd (some-ne-none x (sym e))
  note_there (p ∷ ps) (y ∷ hs) zero x h e = noted_here y p x e
  note_there (p ∷ ps) (y ∷ hs) (suc k) x h e = note_there ps hs k x (omega arith) e

  pub length-renewed : (k : ℕ) (w : ℕ → Bool) (ys : List T) (hs : List (Hold T)) → length (renewed_from k w ys hs) ≡ length hs
  length-renewed k w ys [] = refl
  length-renewed k w ys (h ∷ hs) = ap suc (length-renewed (suc k) w ys hs)

  pub hold_at-renewed : (i : ℕ) (w : ℕ → Bool) (ys : List T) (hs : List (Hold T)) (k : ℕ) → k < length hs
      → hold_at (renewed_from i w ys hs) k ≡ renewed (w (i + k)) (get_elem? ys (i + k)) (hold_at hs k)
  hold_at-renewed i w ys [] k l = absurd (omega arith)
  hold_at-renewed i w ys (h ∷ hs) zero l = let P : ℕ → Type 0 = λ n. renewed (w i) (get_elem? ys i) h ≡ renewed (w n) (get_elem? ys n) h in subst P (sym (add-zero i)) refl
  hold_at-renewed i w ys (h ∷ hs) (suc k) l = hold_at-renewed (suc i) w ys hs k (omega arith)
      ∙ (let e : suc i + k ≡ i + suc k = omega arith in ap (λ (n : ℕ). renewed (w n) (get_elem? ys n) (hold_at hs k)) e)

  -- a stripe that is held in a mode is noted, once all are
  pub held_is_noted : (md : LockMode) (h : Hold T) → HeldIn md h → IsNoted h → (md ≡ mode.None → ⊥) → (x : T) × (note_of h ≡ some x)
  held_is_noted mode.None h a b c = absurd (c refl)
  held_is_noted mode.Shared Free a b c = absurd a
  held_is_noted mode.Shared Shared a b c = absurd b
  held_is_noted mode.Shared (Looked x) a b c = (x, refl)
  held_is_noted mode.Shared (Exclusive x) a b c = absurd a
  held_is_noted mode.Exclusive Free a b c = absurd a
  held_is_noted mode.Exclusive Shared a b c = absurd a
  held_is_noted mode.Exclusive (Looked x) a b c = absurd a
  held_is_noted mode.Exclusive (Exclusive x) a b c = (x, refl)

reads_mode : (w r : Bool) → r ≡ true → mode_of w r ≡ mode.None → ⊥
reads_mode true r e n = cc
reads_mode false true e n = cc
reads_mode false false e n = true≢false (sym e)

writes_mode : (w r : Bool) → w ≡ true → mode_of w r ≡ mode.None → ⊥
writes_mode true r e n = cc
writes_mode false r e n = true≢false (sym e)

module _ {T E R : Type 0} (o : Object T E R) (h0 : List E) (lawful : IsLawful o) (m : LockState T E R) (ok : IsSound o h0 m) (v : ℕ)
    (live : (seat_at m.seats v).live ≡ true) where
  -- the notes are the replay's
  pub note_is : (k : ℕ) (x : T) → k < 64 → note_of (hold_at (seat_at m.seats v).holds k) ≡ some x → get_elem? (replay o m.journal) k ≡ some x
  note_is k x h e = (ok.stripes k h).noted v (grip k (seat_at m.seats v)) x (elem-map (grip k) m.seats v (seat_at m.seats v) (live_elem m.seats v live)) e

  module _ (e : E) (n : ℕ) (looked : (k : ℕ) → IsNoted (hold_at (seat_at m.seats v).holds k)) (footprint : IsFootprint o (seat_at m.seats v) e n) where
    wide_notes : length (notes o (seat_at m.seats v)) ≡ 64
    wide_notes = length-notes_or o.opening (seat_at m.seats v).holds ∙ lawful.opens

    both : (k : ℕ) → k < 64 → (mode_of (o.writes (notes o (seat_at m.seats v)) e n k) (o.reads (notes o (seat_at m.seats v)) e n k) ≡ mode.None → ⊥)
        → get_elem? (notes o (seat_at m.seats v)) k ≡ get_elem? (replay o m.journal) k
    both k h some_mode =
        let t = held_is_noted _ (hold_at (seat_at m.seats v).holds k) (footprint k h) (looked k) some_mode in
        let l : k < length o.opening = (let q = lawful.opens in omega arith) in
        note_there o.opening (seat_at m.seats v).holds k t.0 l t.1 ∙ sym (note_is k t.0 h t.1)

    pub notes_agree : Agrees o (notes o (seat_at m.seats v)) (replay o m.journal) e n
    notes_agree k h =
        (λ r. both k h (reads_mode _ _ r), λ w. both k h (writes_mode _ _ w))

    -- so the entry does the same on the notes and on the replay
    pub same_on : SameOn o (notes o (seat_at m.seats v)) (replay o m.journal) e n
    same_on = lawful.frame _ _ e n wide_notes (length-replay o lawful m.journal) notes_agree

    pub same_after : SameOn o (replay o m.journal) (notes o (seat_at m.seats v)) e n
    same_after = lawful.frame _ _ e n (length-replay o lawful m.journal) wide_notes
        (λ k h. (λ r. sym ((notes_agree k h).0 (same_on.reads k h ∙ r)), λ w. sym ((notes_agree k h).1 (same_on.writes k h ∙ w))))

    -- a stripe after the commit
    stripe_after : (w l : ℕ) (home : Option (Option T)) (k : ℕ) → k < 64 → (b : Bool) → o.writes (notes o (seat_at m.seats v)) e n k ≡ b
        → StripeOk w l home (get_elem? (replay o m.journal) k) (map (grip k) m.seats)
        → StripeOk w l home (get_elem? (o.after (replay o m.journal) e n) k) (map (grip k) (slice_set m.seats v (committed o (seat_at m.seats v) e n)))
    stripe_after w l home k h false is c =
        let x = seat_at m.seats v in
        let wide = (ok.seats v live).wide in
        let hold : hold_at (committed o x e n).holds k ≡ hold_at x.holds k =
        hold_at-renewed 0 (o.writes (notes o x) e n) (o.after (notes o x) e n) x.holds k (omega arith)
        ∙ (let z : 0 + k ≡ k = omega arith in ap (λ (i : ℕ). renewed (o.writes (notes o x) e n i) (get_elem? (o.after (notes o x) e n) i) (hold_at x.holds k)) z)
        ∙ ap (λ (b : Bool). renewed b (get_elem? (o.after (notes o x) e n) k) (hold_at x.holds k)) is in
        let part : get_elem? (o.after (replay o m.journal) e n) k ≡ get_elem? (replay o m.journal) k =
        lawful.untouched (replay o m.journal) e n k (length-replay o lawful m.journal) h (sym (same_on.writes k h) ∙ is) in
        subst (λ (p : Option T). StripeOk w l home p (map (grip k) (slice_set m.seats v (committed o x e n)))) (sym part)
        (stripe_same refl refl refl (sym (column_same k m.seats v (committed o x e n) live (grip_is _ _ _ _ hold refl))) c)
    stripe_after w l home k h true is c =
        let x = seat_at m.seats v in
        let wide = (ok.seats v live).wide in
        let here = elem-map (grip k) m.seats v x (live_elem m.seats v live) in
        let held : HeldIn mode.Exclusive (hold_at x.holds k) =
        subst (λ (b : Bool). HeldIn (mode_of b (o.reads (notes o x) e n k)) (hold_at x.holds k)) is (footprint k h) in
        let p = exclusive_note (hold_at x.holds k) held in
        let long = lawful.keeps (notes o x) e n wide_notes in
        let q = elem_there (o.after (notes o x) e n) k (omega arith) in
        let hold : hold_at (committed o x e n).holds k ≡ Exclusive q.0 =
        hold_at-renewed 0 (o.writes (notes o x) e n) (o.after (notes o x) e n) x.holds k (omega arith)
        ∙ (let z : 0 + k ≡ k = omega arith in ap (λ (i : ℕ). renewed (o.writes (notes o x) e n i) (get_elem? (o.after (notes o x) e n) i) (hold_at x.holds k)) z)
        ∙ ap (λ (b : Bool). renewed b (get_elem? (o.after (notes o x) e n) k) (hold_at x.holds k)) is
        ∙ ap (λ (z : Option T). renewed true z (hold_at x.holds k)) q.1
        ∙ ap (λ (z : Hold T). renewed true (some q.0) z) p.1 in
        let part : get_elem? (o.after (replay o m.journal) e n) k ≡ some q.0 = sym (same_on.after k h is) ∙ q.1 in
        subst (λ (z : Option T). StripeOk w l home z (map (grip k) (slice_set m.seats v (committed o x e n)))) (sym part)
        (stripe_same refl refl refl
        (ap (λ (g : Grip T). slice_set (map (grip k) m.seats) v g) (grip_is _ _ _ _ (sym hold) refl) ∙ sym (map-set (grip k) m.seats v (committed o x e n)))
        (renew _ _ _ _ _ c v (grip k x) here p.0 q.0 p.1))

-- a footprint by the replay is one by the notes
module _ {T E R : Type 0} (o : Object T E R) (lawful : IsLawful o) (m : LockState T E R) (ok : IsSound o [] m) (v : ℕ)
    (live : (seat_at m.seats v).live ≡ true) (looked : (k : ℕ) → IsNoted (hold_at (seat_at m.seats v).holds k)) (e : E) (n : ℕ)
    (footprint : (k : ℕ) → k < 64 → HeldIn (mode_of (o.writes (replay o m.journal) e n k) (o.reads (replay o m.journal) e n k)) (hold_at (seat_at m.seats v).holds k)) where
  long_notes : length (notes o (seat_at m.seats v)) ≡ 64
  long_notes = length-notes_or o.opening (seat_at m.seats v).holds ∙ lawful.opens

  both_ways : (k : ℕ) → k < 64 → (mode_of (o.writes (replay o m.journal) e n k) (o.reads (replay o m.journal) e n k) ≡ mode.None → ⊥)
      → get_elem? (replay o m.journal) k ≡ get_elem? (notes o (seat_at m.seats v)) k
  both_ways k h some_mode =
      let t = held_is_noted _ (hold_at (seat_at m.seats v).holds k) (footprint k h) (looked k) some_mode in
      let l : k < length o.opening = (let q = lawful.opens in omega arith) in
      note_is o [] lawful m ok v live k t.0 h t.1 ∙ sym (note_there o.opening (seat_at m.seats v).holds k t.0 l t.1)

  same_replayed : SameOn o (replay o m.journal) (notes o (seat_at m.seats v)) e n
  same_replayed = lawful.frame _ _ e n (length-replay o lawful m.journal) long_notes
      (λ k h. (λ r. both_ways k h (reads_mode _ _ r), λ w. both_ways k h (writes_mode _ _ w)))

  pub footprint_of_replay : IsFootprint o (seat_at m.seats v) e n
  footprint_of_replay k h =
      subst (λ (z : LockMode). HeldIn z (hold_at (seat_at m.seats v).holds k))
      (let s = same_replayed in λ i. mode_of (s.writes k h i) (s.reads k h i)) (footprint k h)

module _ {T E R : Type 0} (o : Object T E R) (h0 : List E) where
  pub commit_keeps : IsLawful o → (m : LockState T E R) (v : ℕ) (e : E) → IsSound o h0 m → IsAllowed o m (plain (event.Commit v e))
      → IsSound o h0 (stepped o m (plain (event.Commit v e)))
  commit_keeps lawful m v e ok a =
      let x = seat_at m.seats v in
      let n = length m.journal + 1 in
      let live = a.0 in
      let has = a.1.0 in
      let looked = a.1.1.0 in
      let footprint = a.1.1.1.0 in
      let may = a.1.1.1.1.0 in
      let x' = committed o x e n in
      let seat = ok.seats v live in
      let within = live_within m.seats v live in
      let by_v : o.by e ≡ v = may.0 ∙ seat.number in
      let same = same_on o h0 lawful m ok v live e n looked footprint in
      let at128 : slice_index (slice_set m.words 128 0) 128 ≡ 0 = index-set_same m.words 128 0 (omega (arith, ok.words)) in
      let t = total-set (λ (z : Sitting T E). one_if z.journal) m.seats v x x' (live_elem m.seats v live) in
      let one = ap one_if has in
      record {
        words = length-set m.words 128 0 ∙ ok.words;
        homes = ok.homes;
        stripes = λ k h.
            let r = replay-snoc o m.journal e in
            subst (λ (ps : List T). StripeOk (slice_index (slice_set m.words 128 0) k) (slice_index (slice_set m.words 128 0) (64 + k)) (get_elem? m.homes k)
            (get_elem? ps k) (map (grip k) (slice_set m.seats v x'))) (sym r)
            (stripe_after o h0 lawful m ok v live e n looked footprint _ _ _ k h (o.writes (notes o x) e n k) refl
            (stripe_same (sym (index-set_other m.words 128 k 0 (λ e. omega arith))) (sym (index-set_other m.words 128 (64 + k) 0 (λ e. omega arith))) refl refl
            (ok.stripes k h)));
        journal_word = at128 ∙ (let w = ok.journal_word in let c = ok.journal_alone in omega arith);
        journal_alone = omega arith;
        seats = each_set (λ j z. SeatOk o h0 (m.journal ++ e ∷ []) j z) m.seats v x' within
            (λ j other l. let s = ok.seats j l in record {
              number = s.number;
              wide = s.wide;
              knows = knows_grows o h0 m.journal e _ _ _ (λ is. other (sym s.number ∙ sym is ∙ by_v)) s.knows;
              whole = λ t. absurd (journal_once o h0 m ok v live has j other l t);
              olds = λ k p at. knows_grows o h0 m.journal e _ _ _ (λ is. old_is_other o h0 m ok v live j l k p at (sym is ∙ by_v)) (s.olds k p at);
            })
            (λ _. record {
              number = seat.number;
              wide = length-renewed 0 (o.writes (notes o x) e n) (o.after (notes o x) e n) x.holds ∙ seat.wide;
              knows = knows_own o h0 m.journal e x.number x.seen x.mine may.0 (seat.whole has) seat.knows;
              whole = λ t. absurd (true≢false (sym t));
              olds = λ k p at. knows_grows o h0 m.journal e _ _ _ (λ is. old_is_other o h0 m ok v live v live k p at (sym is ∙ by_v)) (seat.olds k p at);
            });
        dead = dead_set m.seats v x' within ok.dead (λ l. absurd (true≢false (sym live ∙ l)));
        numbered = λ k.
            let u = total-set (times k) m.seats v x x' (live_elem m.seats v live) in
            let s = times_same k x x' refl refl refl in
            let all : total (times k) (slice_set m.seats v x') ≡ total (times k) m.seats = omega arith in
            all ∙ ok.numbered k ∙ sym (ap (λ (i : ℕ). one_if (nat_lt k i)) (length-set m.seats v x'));
        fit = fit-snoc o m.journal e ok.fit
            (let f : o.fits x.number x.mine (replay o m.journal) e = same.fits x.number x.mine may.1 in
            let g : o.fits x.number (by_pass o x.number m.journal) (replay o m.journal) e = subst (λ (z : List E). o.fits x.number z (replay o m.journal) e) seat.knows.mine_of_all f in
            subst (λ (k : ℕ). o.fits k (by_pass o k m.journal) (replay o m.journal) e) (sym may.0) g);
        made = made_grows o h0 _ m.journal e (let l = length-set m.seats v x' in omega arith)
            (subst (λ (k : ℕ). MadeBelow o h0 k m.journal) (sym (length-set m.seats v x')) ok.made);
        replied = replied-snoc o m.replies m.journal e _ ok.replied same.reply;
      }
