-- A sound state is told by its words, its journal, its replies and the marks of its seats: places and notes are the replay's.
use Rattle.std.proofs.Common.{◌≡◌, ◌≢◌, ℕ, zero, suc, ◌+◌, ◌<◌, ◌≤◌, Bool, true, false, List, [], ◌∷◌, length, map, take, drop, slice_index, nat_eq, refl, ap, ap₂, sym, ◌∙◌, subst, if◌then◌else◌, eq-eqb, ne_eqb, add-zero, arith}
use Rattle.std.proofs.Math.Seq.{take-append_seam}
use Rattle.lock_core.specs.declared.machine.Hold.{Hold}
use Rattle.lock_core.specs.declared.machine.Hold.TheVariants as hold
use Rattle.lock_core.specs.declared.machine.Known.{Known}
use Rattle.lock_core.specs.declared.machine.Sitting.{Sitting}
use Rattle.lock_core.specs.declared.marks.Row.{Row}
use Rattle.lock_core.specs.declared.marks.Past.{Past}
use Rattle.lock_core.specs.declared.pure_core.Core.TheInside.{Inside}
use Rattle.lock_core.specs.Object.{Object, IsLawful, by_pass, replay}
use Rattle.lock_core.specs.Machine.{LockState, exclusively, hold_at, note_of, seat_at, spent}
use Rattle.lock_core.specs.Sound.{Grip, grip, StripeOk, StartsWith, SeatOk, IsSound}
use Rattle.lock_core.specs.Marks.{Sketch, past_pair, known_pair, row_sketch, mark_of, sketch, hold_of, holds_of, home_of, homes_from, past_of, seat_of, state_of}
use Rattle.lock_core.specs.CoreView.{shown, IsCore}
use Rattle.lock_core.proofs.Totals.{elem-map, elem_within}
use Rattle.lock_core.proofs.Stripes.{many_exclusive, many_shared}
use Rattle.lock_core.proofs.Columns.{length-replay}
use Rattle.lock_core.proofs.Split.{hold_at-free, length-free}
use mathlib.Core.Option.{Option, none, some, some-injective, some-ne-none}
use mathlib.Core.Logic.{dite}
use native.Mathlib.Decide.{ℕ_discrete}
use lib.ListN.{get_elem?}

module _ {T : Type 0} where
  hold_is : (h : Hold T) (p : T) → ((x : T) → note_of h ≡ some x → some p ≡ some x) → hold_of (mark_of h) p ≡ h
  hold_is hold.Free p f = refl
  hold_is hold.Shared p f = refl
  hold_is (hold.Looked x) p f = ap (λ (z : T). hold.Looked z) (some-injective p x (f x refl))
  hold_is (hold.Exclusive x) p f = ap (λ (z : T). hold.Exclusive z) (some-injective p x (f x refl))

  holds_same : (parts : List T) (hs : List (Hold T)) → length hs ≡ length parts
      → ((k : ℕ) (x : T) → note_of (hold_at hs k) ≡ some x → get_elem? parts k ≡ some x) → holds_of (map mark_of hs) parts ≡ hs
  holds_same parts [] l f = refl
  holds_same [] (h ∷ hs) l f = absurd (omega arith)
  holds_same (p ∷ ps) (h ∷ hs) l f = λ i. hold_is h p (f 0) i ∷ holds_same ps hs (omega arith) (λ k. f (suc k)) i

  home_is : (w l : ℕ) (home : Option (Option T)) (x : T) (gs : List (Grip T)) → StripeOk w l home (some x) gs → home ≡ some (home_of w l x)
  home_is w l home x gs c = dite (ℕ_discrete w exclusively)
      (λ e. let out : 0 < many_exclusive gs = (let a = c.counts.counted in let b = c.counts.few in let d = c.counts.alone in omega arith) in
      c.away (omega arith) ∙ ap (λ (b : Bool). some (if b then none else (if nat_eq l 0 then some x else none))) (sym (eq-eqb w exclusively e)))
      (λ ne. let within : many_exclusive gs ≡ 0 = none_out (many_exclusive gs) refl ne in
      dite (ℕ_discrete l 0)
      (λ z. c.at_home (omega arith) ∙ ap (λ (b : Bool). some (if b then none else (if true then some x else none))) (sym (ne_eqb w exclusively ne))
      ∙ ap (λ (b : Bool). some (if nat_eq w exclusively then none else (if b then some x else none))) (sym (eq-eqb l 0 z)))
      (λ nz. c.away (omega arith) ∙ ap (λ (b : Bool). some (if b then none else (if false then some x else none))) (sym (ne_eqb w exclusively ne))
      ∙ ap (λ (b : Bool). some (if nat_eq w exclusively then none else (if b then some x else none))) (sym (ne_eqb l 0 nz))))
    where
      none_out : (n : ℕ) → n ≡ many_exclusive gs → w ≢ exclusively → many_exclusive gs ≡ 0
      none_out zero e ne = sym e
      none_out (suc n) e ne =
          let few : many_shared gs ≡ 0 = c.counts.apart (omega arith) in
          let a = c.counts.alone in let b = c.counts.counted in absurd (ne (omega arith))

  homes_same : (parts : List T) (words : List ℕ) (homes : List (Option T)) (k : ℕ) → length homes ≡ length parts
      → ((i : ℕ) (x : T) → get_elem? parts i ≡ some x → get_elem? homes i ≡ some (home_of (slice_index words (k + i)) (slice_index words (64 + (k + i))) x))
      → homes_from k words parts ≡ homes
  homes_same [] words [] k l f = refl
  homes_same [] words (y ∷ ys) k l f = absurd (omega arith)
  homes_same (x ∷ xs) words [] k l f = absurd (omega arith)
  homes_same (x ∷ xs) words (y ∷ ys) k l f =
      let here : y ≡ home_of (slice_index words k) (slice_index words (64 + k)) x = some-injective y _ (f 0 x refl
      ∙ ap (λ (n : ℕ). some (home_of (slice_index words n) (slice_index words (64 + n)) x)) (add-zero k)) in
      let more = homes_same xs words ys (suc k) (omega arith) (λ i z e. f (suc i) z e
      ∙ (let n : k + suc i ≡ suc k + i = omega arith in ap (λ (n : ℕ). some (home_of (slice_index words n) (slice_index words (64 + n)) z)) n)) in
      λ i. sym here i ∷ more i

module _ {E : Type 0} where
  seen_is : (h s : List E) → StartsWith h s → take (length s) h ≡ s
  seen_is h s p = ap (λ (l : List E). take (length s) l) (sym p.1) ∙ take-append_seam s p.0

head_is : {A : Type 0} (x y : A) (xs ys : List A) → (x ∷ xs) ≡ y ∷ ys → x ≡ y
head_is {A} x y xs ys e = some-injective x y (ap (λ (l : List A). get_elem? l 0) e)

tail_is : {A : Type 0} (x y : A) (xs ys : List A) → (x ∷ xs) ≡ y ∷ ys → xs ≡ ys
tail_is {A} x y xs ys e = ap (λ (l : List A). drop 1 l) e

module _ {T E R : Type 0} (o : Object T E R) where
  pub record OldFacts (h : List E) (k : Known E) : Type 0 where
    pub seen : take (length k.seen) h ≡ k.seen
    pub mine : k.mine ≡ by_pass o k.number k.seen

  olds_same : (h : List E) (ps : List Past) (ks : List (Known E))
      → map past_pair ps ≡ map known_pair ks
      → ((i : ℕ) (k : Known E) → get_elem? ks i ≡ some k → OldFacts h k) → map (past_of o h) ps ≡ ks
  olds_same h [] [] e f = refl
  olds_same h [] (k ∷ ks) e f = absurd (let l = ap length e in omega arith)
  olds_same h (p ∷ ps) [] e f = absurd (let l = ap length e in omega arith)
  olds_same h (p ∷ ps) (k ∷ ks) e f =
      let a = head_is (past_pair p) (known_pair k) _ _ e in
      let more = olds_same h ps ks (tail_is (past_pair p) (known_pair k) _ _ e) (λ i z at. f (suc i) z at) in
      let here = f 0 k refl in
      let number : p.number ≡ k.number = ap (λ (z : ℕ × ℕ). z.0) a in
      let seen : take p.seen h ≡ k.seen = ap (λ (z : ℕ × ℕ). take z.1 h) a ∙ here.seen in
      let mine : by_pass o p.number (take p.seen h) ≡ k.mine = ap₂ (λ (n : ℕ) (l : List E). by_pass o n l) number seen ∙ sym here.mine in
      λ i. record { number = number i; seen = seen i; mine = mine i } ∷ more i

  pub record SeatFacts (parts : List T) (h : List E) (x : Sitting T E) : Type 0 where
    pub wide : length x.holds ≡ length parts
    pub notes : (k : ℕ) (y : T) → note_of (hold_at x.holds k) ≡ some y → get_elem? parts k ≡ some y
    pub seen : take (length x.seen) h ≡ x.seen
    pub mine : x.mine ≡ by_pass o x.number x.seen
    pub olds : (i : ℕ) (k : Known E) → get_elem? x.olds i ≡ some k → OldFacts h k

  seat_is : (parts : List T) (h : List E) (r : Row) (x : Sitting T E) → row_sketch r ≡ sketch x → SeatFacts parts h x → seat_of o parts h r ≡ x
  seat_is parts h r x e f =
      let live = ap (λ (s : Sketch). s.live) e in
      let number = ap (λ (s : Sketch). s.number) e in
      let holds : holds_of r.glance.marks parts ≡ x.holds = ap (λ (s : Sketch). holds_of s.marks parts) e ∙ holds_same parts x.holds f.wide f.notes in
      let latch = ap (λ (s : Sketch). s.latch) e in
      let journal = ap (λ (s : Sketch). s.journal) e in
      let seen : take r.glance.seen h ≡ x.seen = ap (λ (s : Sketch). take s.seen h) e ∙ f.seen in
      let mine : by_pass o r.number (take r.glance.seen h) ≡ x.mine = ap₂ (λ (n : ℕ) (l : List E). by_pass o n l) number seen ∙ sym f.mine in
      let olds = olds_same h r.olds.items x.olds (ap (λ (s : Sketch). s.olds) e) f.olds in
      λ i. record {
        live = live i;
        number = number i;
        holds = holds i;
        latch = latch i;
        journal = journal i;
        seen = seen i;
        mine = mine i;
        olds = olds i;
      }

  seats_same : (parts : List T) (h : List E) (rows : List Row) (xs : List (Sitting T E)) → map row_sketch rows ≡ map sketch xs
      → ((j : ℕ) (x : Sitting T E) → get_elem? xs j ≡ some x → SeatFacts parts h x) → map (seat_of o parts h) rows ≡ xs
  seats_same parts h [] [] e f = refl
  seats_same parts h [] (x ∷ xs) e f = absurd (let l = ap length e in omega arith)
  seats_same parts h (r ∷ rs) [] e f = absurd (let l = ap length e in omega arith)
  seats_same parts h (r ∷ rs) (x ∷ xs) e f =
      let here = seat_is parts h r x (head_is (row_sketch r) (sketch x) _ _ e) (f 0 x refl) in
      let more = seats_same parts h rs xs (tail_is (row_sketch r) (sketch x) _ _ e) (λ j z at. f (suc j) z at) in
      λ i. here i ∷ more i

seat_at_elem : {T E : Type 0} (xs : List (Sitting T E)) (j : ℕ) (x : Sitting T E) → get_elem? xs j ≡ some x → seat_at xs j ≡ x
seat_at_elem [] j x e = absurd (some-ne-none x (sym e))
seat_at_elem (y ∷ ys) zero x e = some-injective y x e
seat_at_elem (y ∷ ys) (suc j) x e = seat_at_elem ys j x e

module _ {T E R : Type 0} (o : Object T E R) (lawful : IsLawful o) (m : LockState T E R) (ok : IsSound o [] m) where
  dead_facts : SeatFacts o (replay o m.journal) m.journal spent
  dead_facts = record {
    wide = length-free T ∙ sym (length-replay o lawful m.journal);
    notes = λ k y e. absurd (some-ne-none y (sym e ∙ ap note_of (hold_at-free k)));
    seen = refl;
    mine = refl;
    olds = λ i k e. absurd (some-ne-none k (sym e));
  }

  seat_facts : (j : ℕ) (x : Sitting T E) → get_elem? m.seats j ≡ some x → SeatFacts o (replay o m.journal) m.journal x
  seat_facts j x at = by_life x.live refl
    where
      here : seat_at m.seats j ≡ x
      here = seat_at_elem m.seats j x at

      -- a note stands below 64, where the stripe tells it
      far : (hs : List (Hold T)) (k : ℕ) → length hs ≤ k → hold_at hs k ≡ hold.Free
      far [] k l = refl
      far (h ∷ hs) zero l = absurd (omega arith)
      far (h ∷ hs) (suc k) l = far hs k (omega arith)

      by_life : (b : Bool) → b ≡ x.live → SeatFacts o (replay o m.journal) m.journal x
      by_life false e = subst (λ (z : Sitting T E). SeatFacts o (replay o m.journal) m.journal z)
          (sym (ok.dead j (ap (λ (z : Sitting T E). z.live) here ∙ sym e)) ∙ here) dead_facts
      by_life true e =
          let s : SeatOk o [] m.journal j x = subst (λ (z : Sitting T E). SeatOk o [] m.journal j z) here
          (ok.seats j (ap (λ (z : Sitting T E). z.live) here ∙ sym e)) in
          record {
            wide = s.wide ∙ sym (length-replay o lawful m.journal);
            notes = λ k y n. dite (native.Mathlib.Decide.dec_lt k 64)
                (λ h. (ok.stripes k h).noted j (grip k x) y (elem-map (grip k) m.seats j x at) n)
                (λ g. absurd (some-ne-none y (sym n ∙ ap note_of (far x.holds k (let w = s.wide in omega arith)))));
            seen = seen_is m.journal x.seen s.knows.prefix;
            mine = s.knows.mine_of_seen;
            olds = λ i k p. record { seen = seen_is m.journal k.seen (s.olds i k p).prefix; mine = (s.olds i k p).mine_of_seen };
          }

  pub state_is : (rows : List Row) → map row_sketch rows ≡ map sketch m.seats → state_of o m.words (replay o m.journal) m.journal m.replies rows ≡ m
  state_is rows e =
      let parts = replay o m.journal in
      let long = length-replay o lawful m.journal in
      let homes : homes_from 0 m.words parts ≡ m.homes = homes_same parts m.words m.homes 0 (ok.homes ∙ sym long)
      (λ i x at. let h : i < 64 = (let w = elem_within parts i x at in omega arith) in
      let z : i ≡ 0 + i = omega arith in
      home_is (slice_index m.words i) (slice_index m.words (64 + i)) (get_elem? m.homes i) x (map (grip i) m.seats)
      (subst (λ (p : Option T). StripeOk (slice_index m.words i) (slice_index m.words (64 + i)) (get_elem? m.homes i) p (map (grip i) m.seats)) at (ok.stripes i h))
      ∙ ap (λ (n : ℕ). some (home_of (slice_index m.words n) (slice_index m.words (64 + n)) x)) z) in
      let seats = seats_same o parts m.journal rows m.seats e seat_facts in
      λ i. record { words = m.words; homes = homes i; journal = m.journal; replies = m.replies; seats = seats i }

  -- fields that have the words, the journal, the replies and the marks of a sound state show that state
  pub shows : {words : List ℕ} {parts : List T} {h : List E} {replies : List R} (rows : List Row) → words ≡ m.words → parts ≡ replay o h
      → h ≡ m.journal → replies ≡ m.replies → map row_sketch rows ≡ map sketch m.seats → state_of o words parts h replies rows ≡ m
  shows rows words parts journal replies marks =
      (λ i. state_of o (words i) ((parts ∙ ap (λ (h : List E). replay o h) journal) i) (journal i) (replies i) rows) ∙ state_is rows marks

  module _ {P W : Type 0} (bare : T → T) (c : Inside P E R T W) (parts : map bare c.parts.items ≡ replay o c.journal.items)
      (words : c.words.items ≡ m.words) (journal : c.journal.items ≡ m.journal) (replies : c.replies.items ≡ m.replies)
      (rows : map row_sketch c.rows.items ≡ map sketch m.seats) where
    pub core_is : IsCore o bare c
    core_is =
        let is : shown o bare c ≡ m = shows c.rows.items words parts journal replies rows in
        record {
          parts = parts;
          sound = subst (λ (z : LockState T E R). IsSound o [] z) (sym is) ok;
          sketched = rows ∙ ap (λ (z : LockState T E R). map sketch z.seats) (sym is);
        }
