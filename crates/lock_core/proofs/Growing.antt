-- A commit, a new seat and a seat that goes into another, as the pure machine makes them.
use Rattle.std.proofs.Common.{◌≡◌, ℕ, suc, ◌+◌, ◌<◌, max, Bool, true, false, cond, List, [], ◌∷◌, ◌++◌, length, map, slice_set, slice_index_or, slice_get, nat_lt, Some, None, refl, ap, sym, ◌∙◌, subst, ltb-true, ltb-false, arith}
use Rattle.lock_core.specs.declared.object.LockMode.{LockMode}
use Rattle.lock_core.specs.declared.machine.Hold.{Hold}
use Rattle.lock_core.specs.declared.machine.Hold.TheVariants as hold
use Rattle.lock_core.specs.declared.machine.Sitting.{Sitting}
use Rattle.lock_core.specs.declared.machine.Event.TheVariants as event
use Rattle.lock_core.specs.declared.marks.Row.{Row}
use Rattle.lock_core.specs.declared.marks.Past.{Past}
use Rattle.lock_core.specs.declared.marks.Glance.{Glance}
use Rattle.lock_core.specs.declared.marks.Mark.{Mark}
use Rattle.lock_core.specs.declared.pure_core.Core.TheInside.{Inside}
use Rattle.lock_core.specs.Object.{Object, IsLawful, mode_of, by_pass, replay}
use Rattle.lock_core.specs.Machine.{LockState, plain, hold_at, renewed, renewed_from, notes, committed, newcomer, joined, longer, known, spent, seat_at, IsFootprint, MayMake, IsNoted, IsAllowed, stepped}
use Rattle.lock_core.specs.Sound.{IsSound}
use Rattle.lock_core.specs.Marks.{Sketch, past_pair, known_pair, row_sketch, sketch, mark_of, mark_at, MarkedIn, free_marks, HeldAs, HeldAsPlayed, MayPlay, Looks}
use Rattle.lock_core.specs.CoreView.{shown, IsCore}
use Rattle.lock_core.proofs.Totals.{map-set}
use Rattle.lock_core.proofs.Histories.{replay-snoc}
use Rattle.lock_core.proofs.Commit.{same_on, same_after, footprint_of_replay}
use Rattle.lock_core.proofs.CoreMoves.{marks-free, sketches, sound_is, parts_are, rows_set, rows_long, live_sketch}
use Rattle.lock_core.proofs.Looking.{held, marked}
use mathlib.Core.Option.{Option, none, some}
use mathlib.Core.List.{map-append}
use lib.ListN.{get_elem?}

module _ {T : Type 0} where
  renewed_mark : (b : Bool) (y : Option T) (h : Hold T) → mark_of (renewed b y h) ≡ mark_of h
  renewed_mark false y h = refl
  renewed_mark true none h = refl
  renewed_mark true (some y) hold.Free = refl
  renewed_mark true (some y) hold.Shared = refl
  renewed_mark true (some y) (hold.Looked x) = refl
  renewed_mark true (some y) (hold.Exclusive x) = refl

  renewed_marks : (k : ℕ) (w : ℕ → Bool) (ys : List T) (hs : List (Hold T)) → map mark_of (renewed_from k w ys hs) ≡ map mark_of hs
  renewed_marks k w ys [] = refl
  renewed_marks k w ys (h ∷ hs) = λ i. renewed_mark (w k) (get_elem? ys k) h i ∷ renewed_marks (suc k) w ys hs i

-- the modes that were played are those of the parts
pub held_as : {T E R : Type 0} (o : Object T E R) (bare : T → T) (now : List T) (parts : List T) (e : E) (n : ℕ) (modes : List LockMode) (marks : List Mark)
    → map bare now ≡ parts
    → ((k : ℕ) → k < 64 → slice_get modes k ≡ Some (mode_of (o.writes (map bare now) e n k) (o.reads (map bare now) e n k)))
    → (HeldAs modes marks → HeldAsPlayed o parts e n marks) × (HeldAsPlayed o parts e n marks → HeldAs modes marks)
held_as {T} o bare now parts e n modes marks is at =
    let at' : (k : ℕ) → k < 64 → slice_get modes k ≡ Some (mode_of (o.writes parts e n k) (o.reads parts e n k)) =
    subst (λ (ps : List T). (k : ℕ) → k < 64 → slice_get modes k ≡ Some (mode_of (o.writes ps e n k) (o.reads ps e n k))) is at in (
      (λ h k l. h k _ l (at' k l)),
      (λ h k m l is_m. subst (λ (z : LockMode). MarkedIn z (mark_at marks k)) (some_is _ m (sym (at' k l) ∙ is_m)) (h k l)),
    )
  where
    some_is : (a b : LockMode) → Some a ≡ Some b → a ≡ b
    some_is a b e = cc

module _ {T E R : Type 0} (o : Object T E R) (lawful : IsLawful o) (old : LockState T E R) (sound : IsSound o [] old) (v : ℕ) (g : Glance)
    (looks : Looks g (seat_at old.seats v)) (live : (seat_at old.seats v).live ≡ true) (noted : (k : ℕ) → IsNoted (hold_at (seat_at old.seats v).holds k)) where
  -- a footprint by the replay is one by the notes, and the other way round
  pub footprint_to : (e : E) (n : ℕ) → HeldAsPlayed o (replay o old.journal) e n g.marks → IsFootprint o (seat_at old.seats v) e n
  footprint_to e n h = footprint_of_replay o lawful old sound v live noted e n (λ k l. held g (seat_at old.seats v) looks _ k (h k l))

  pub footprint_from : (e : E) (n : ℕ) → IsFootprint o (seat_at old.seats v) e n → HeldAsPlayed o (replay o old.journal) e n g.marks
  footprint_from e n f k l =
      let s = same_on o [] lawful old sound v live e n noted f in
      let m : mode_of (o.writes (notes o (seat_at old.seats v)) e n k) (o.reads (notes o (seat_at old.seats v)) e n k)
      ≡ mode_of (o.writes (replay o old.journal) e n k) (o.reads (replay o old.journal) e n k) = λ i. mode_of (s.writes k l i) (s.reads k l i) in
      subst (λ (z : LockMode). MarkedIn z (mark_at g.marks k)) m (marked g (seat_at old.seats v) looks _ k (f k l))

  pub make_to : (e : E) (n : ℕ) → IsFootprint o (seat_at old.seats v) e n → MayPlay o old.journal v e → MayMake o (seat_at old.seats v) e
  make_to e n f p =
      let seat = sound.seats v live in
      let x = seat_at old.seats v in
      let s = same_after o [] lawful old sound v live e n noted f in
      let m : x.mine ≡ by_pass o v old.journal = seat.knows.mine_of_all ∙ ap (λ (k : ℕ). by_pass o k old.journal) seat.number in
      let q : o.fits v (by_pass o v old.journal) (notes o x) e = s.fits v (by_pass o v old.journal) p.1 in
      (p.0 ∙ sym seat.number, subst (λ (k : ℕ). o.fits k x.mine (notes o x) e) (sym seat.number) (subst (λ (l : List E). o.fits v l (notes o x) e) (sym m) q))

  pub make_from : (e : E) (n : ℕ) → IsFootprint o (seat_at old.seats v) e n → MayMake o (seat_at old.seats v) e → MayPlay o old.journal v e
  make_from e n f p =
      let seat = sound.seats v live in
      let x = seat_at old.seats v in
      let s = same_on o [] lawful old sound v live e n noted f in
      let m : x.mine ≡ by_pass o v old.journal = seat.knows.mine_of_all ∙ ap (λ (k : ℕ). by_pass o k old.journal) seat.number in
      let q : o.fits x.number x.mine (replay o old.journal) e = s.fits x.number x.mine p.1 in
      (p.0 ∙ seat.number, subst (λ (l : List E). o.fits v l (replay o old.journal) e) m (subst (λ (k : ℕ). o.fits k x.mine (replay o old.journal) e) seat.number q))

module _ {P E R T W : Type 0} (o : Object T E R) (lawful : IsLawful o) (bare : T → T) (c : Inside P E R T W) (ok : IsCore o bare c)
    (old : LockState T E R) (is : shown o bare c ≡ old) where
  module _ (v : ℕ) (e : E) (n : ℕ) (allowed : IsAllowed o old (plain (event.Commit v e))) (counted : n ≡ length old.journal + 1) where
    pub parts_after : (now new : List T) (h : List E) → now ≡ c.parts.items → map bare new ≡ o.after (map bare now) e n → h ≡ old.journal ++ e ∷ []
        → map bare new ≡ replay o h
    parts_after now new h same played grown =
        played ∙ ap (λ (l : List T). o.after (map bare l) e n) same ∙ ap (λ (l : List T). o.after l e n) (parts_are o bare c ok old is)
        ∙ ap (λ (k : ℕ). o.after (replay o old.journal) e k) counted ∙ sym (replay-snoc o old.journal e) ∙ ap (λ (l : List E). replay o l) (sym grown)

    pub reply_after : (now : List T) (r : R) → now ≡ c.parts.items → r ≡ o.reply (map bare now) e n
        → r ≡ o.reply (notes o (seat_at old.seats v)) e (length old.journal + 1)
    reply_after now r same played =
        let s = same_on o [] lawful old (sound_is o bare c ok old is) v allowed.0 e (length old.journal + 1) allowed.1.1.0 allowed.1.1.1.0 in
        played ∙ ap (λ (l : List T). o.reply (map bare l) e n) same ∙ ap (λ (l : List T). o.reply l e n) (parts_are o bare c ok old is)
        ∙ ap (λ (k : ℕ). o.reply (replay o old.journal) e k) counted ∙ sym s.reply

    pub rows_after : (r : Row) (seen : ℕ) (h : List E) → r ≡ slice_index_or c.rows.items v r → seen ≡ length h → h ≡ old.journal ++ e ∷ []
        → map row_sketch (slice_set c.rows.items v (record {
          number = r.number;
          glance = record { live = r.glance.live; marks = r.glance.marks; latch = r.glance.latch; journal = false; seen = seen };
          olds = r.olds;
        })) ≡ map sketch (stepped o old (plain (event.Commit v e))).seats
    rows_after r seen h here long grown =
        let x = seat_at old.seats v in
        let x' = committed o x e (length old.journal + 1) in
        let s = live_sketch o bare c ok old is v r allowed.0 here in
        let whole : x.seen ≡ old.journal = ((sound_is o bare c ok old is).seats v allowed.0).whole allowed.1.0 in
        let seen_is : seen ≡ length x'.seen = long ∙ ap (λ (l : List E). length l) (grown ∙ ap (λ (l : List E). l ++ e ∷ []) (sym whole)) in
        let marks : r.glance.marks ≡ map mark_of x'.holds = ap (λ (z : Sketch). z.marks) (sym s)
        ∙ sym (renewed_marks 0 (o.writes (notes o x) e (length old.journal + 1)) (o.after (notes o x) e (length old.journal + 1)) x.holds) in
        rows_set o bare c ok old is v x' _ (λ i. record {
          live = (sym s i).live;
          number = (sym s i).number;
          marks = marks i;
          latch = (sym s i).latch;
          journal = false;
          seen = seen_is i;
          olds = (sym s i).olds;
        })

  pub rows_split : (v : ℕ) → (seat_at old.seats v).live ≡ true → (r row : Row) (rows : List Row) → r ≡ slice_index_or c.rows.items v r
      → row.number ≡ length c.rows.items
      → (row.glance.live ≡ true) × (row.glance.marks ≡ free_marks) × (row.glance.latch ≡ None) × (row.glance.journal ≡ false) × (row.glance.seen ≡ r.glance.seen)
      → row.olds.items ≡ [] → rows ≡ c.rows.items ++ row ∷ []
      → map row_sketch rows ≡ map sketch (stepped o old (plain (event.Split v))).seats
  rows_split v live r row rows here number f olds pushed =
      let s = live_sketch o bare c ok old is v r live here in
      let x = seat_at old.seats v in
      let y : Sitting T E = newcomer o (length old.seats) x.seen in
      let number_is : row.number ≡ length old.seats = number ∙ rows_long o bare c ok old is in
      let seen_is : row.glance.seen ≡ length x.seen = f.4 ∙ ap (λ (z : Sketch). z.seen) (sym s) in
      let last : row_sketch row ≡ sketch y = λ i. record {
        live = f.0 i;
        number = number_is i;
        marks = (f.1 ∙ sym (marks-free T)) i;
        latch = f.2 i;
        journal = f.3 i;
        seen = seen_is i;
        olds = map past_pair (olds i);
      } in
      ap (λ (l : List Row). map row_sketch l) pushed ∙ map-append row_sketch c.rows.items (row ∷ [])
      ∙ ap (λ (l : List Sketch). l ++ row_sketch row ∷ []) (sketches o bare c ok old is) ∙ ap (λ (z : Sketch). map sketch old.seats ++ z ∷ []) last
      ∙ sym (map-append sketch old.seats (y ∷ []))

  longer_length : (xs ys : List E) → length (longer xs ys) ≡ max (length xs) (length ys)
  longer_length xs ys = pick (nat_lt (length xs) (length ys)) refl
    where
      pick : (b : Bool) → nat_lt (length xs) (length ys) ≡ b → length (cond b ys xs) ≡ max (length xs) (length ys)
      pick true e = let l = ltb-true (length xs) (length ys) e in omega arith
      pick false e = let l = ltb-false (length xs) (length ys) e in omega arith

  pub rows_join : (w v : ℕ) → IsAllowed o old (plain (event.Join w v)) → (rw_ rv rv' gone : Row)
      → rw_ ≡ slice_index_or c.rows.items w rw_ → rv ≡ slice_index_or c.rows.items v rv
      → rv'.number ≡ rv.number → (rv'.glance.live ≡ rv.glance.live) × (rv'.glance.marks ≡ rv.glance.marks) × (rv'.glance.latch ≡ rv.glance.latch)
      × (rv'.glance.journal ≡ rv.glance.journal) × (rv'.glance.seen ≡ max rv.glance.seen rw_.glance.seen)
      → rv'.olds.items ≡ rv.olds.items ++ (record { number = rw_.number; seen = rw_.glance.seen }) ∷ rw_.olds.items
      → gone.number ≡ 0 → (gone.glance.live ≡ false) × (gone.glance.marks ≡ free_marks) × (gone.glance.latch ≡ None) × (gone.glance.journal ≡ false) × (gone.glance.seen ≡ 0)
      → gone.olds.items ≡ []
      → map row_sketch (slice_set (slice_set c.rows.items v rv') w gone) ≡ map sketch (stepped o old (plain (event.Join w v))).seats
  rows_join w v a rw_ rv rv' gone here_w here_v number f olds number0 f0 olds0 =
      let xw = seat_at old.seats w in
      let xv = seat_at old.seats v in
      let sw = live_sketch o bare c ok old is w rw_ a.0.0 here_w in
      let sv = live_sketch o bare c ok old is v rv a.0.1 here_v in
      let y = joined xw xv in
      let seen_is : rv'.glance.seen ≡ length (longer xv.seen xw.seen) = f.4 ∙ ap (λ (z : Sketch). max z.seen rw_.glance.seen) (sym sv)
      ∙ ap (λ (z : Sketch). max (length xv.seen) z.seen) (sym sw) ∙ sym (longer_length xv.seen xw.seen) in
      let past : Past = record { number = rw_.number; seen = rw_.glance.seen } in
      let olds_is : map past_pair rv'.olds.items ≡ map known_pair (xv.olds ++ known xw ∷ xw.olds) =
      ap (λ (l : List Past). map past_pair l) olds ∙ map-append past_pair rv.olds.items (past ∷ rw_.olds.items)
      ∙ (λ i. (sym sv i).olds ++ ((sym sw i).number, (sym sw i).seen) ∷ (sym sw i).olds)
      ∙ sym (map-append known_pair xv.olds (known xw ∷ xw.olds)) in
      let first : row_sketch rv' ≡ sketch y = λ i. record {
        live = (f.0 ∙ ap (λ (z : Sketch). z.live) (sym sv)) i;
        number = (number ∙ ap (λ (z : Sketch). z.number) (sym sv)) i;
        marks = (f.1 ∙ ap (λ (z : Sketch). z.marks) (sym sv)) i;
        latch = (f.2 ∙ ap (λ (z : Sketch). z.latch) (sym sv)) i;
        journal = (f.3 ∙ ap (λ (z : Sketch). z.journal) (sym sv)) i;
        seen = seen_is i;
        olds = olds_is i;
      } in
      let second : row_sketch gone ≡ sketch (let z : Sitting T E = spent in z) = λ i. record {
        live = f0.0 i;
        number = number0 i;
        marks = (f0.1 ∙ sym (marks-free T)) i;
        latch = f0.2 i;
        journal = f0.3 i;
        seen = f0.4 i;
        olds = map past_pair (olds0 i);
      } in
      map-set row_sketch (slice_set c.rows.items v rv') w gone
      ∙ ap (λ (l : List Sketch). slice_set l w (row_sketch gone)) (rows_set o bare c ok old is v y rv' first)
      ∙ ap (λ (z : Sketch). slice_set (map sketch (slice_set old.seats v y)) w z) second
      ∙ sym (map-set sketch (slice_set old.seats v y) w spent)
