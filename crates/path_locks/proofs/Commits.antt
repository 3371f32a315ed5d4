-- The journal goes back with one entry more, and what is held is then its work.
use Rattle.std.proofs.Common.{◌≡◌, ℕ, zero, suc, ◌+◌, ◌<◌, ◌≤◌, Bool, true, false, List, [], ◌∷◌, ◌++◌, length, refl, ap, sym, ◌∙◌, subst, arith}
use Rattle.std.specs.Prelude as std
use Rattle.lock_core.specs.declared.object.LockMode.{LockMode}
use Rattle.lock_core.specs.declared.object.LockMode.TheVariants as mode
use Rattle.lock_core.specs.declared.machine.Hold.{Hold}
use Rattle.lock_core.specs.declared.machine.Hold.TheVariants.{Free, Shared, Looked, Exclusive}
use Rattle.lock_core.specs.declared.machine.Sitting.{Sitting}
use Rattle.lock_core.specs.Object.{Object, IsLawful, IsWorking, mode_of}
use Rattle.lock_core.specs.Machine.{hold_at, note_of, notes, HeldIn, renewed}
use Rattle.lock_core.proofs.Commit.{length-notes_or, note_there, hold_at-renewed}
use Rattle.commit_journal.specs.Journal.{JournalView}
use Rattle.commit_journal.specs.Keeper.{Told, AreKept}
use Rattle.atomic_table.specs.Table.{Me, Allows, step, rest}
use Rattle.path_locks.specs.declared.rule.Slot.{Slot}
use Rattle.path_locks.specs.declared.rule.Slot.TheVariants.{Book}
use Rattle.path_locks.specs.declared.rule.View.{View}
use Rattle.path_locks.specs.declared.rule.Opening.{Opening}
use Rattle.path_locks.specs.Rule.{Ruled}
use Rattle.path_locks.specs.Moves.{Commits, gave_longer}
use Rattle.path_locks.specs.Plans.{AreHeld}
use Rattle.path_locks.specs.Holding.{part_out, with_empty, empties}
use Rattle.path_locks.specs.Views.{SeatView, HeldView, has_journal, with_book, IsHeldBy, IsSeatAgain}
use Rattle.path_locks.specs.Working.{worked, AreChanged}
use Rattle.path_locks.specs.Committing.{MayCommit}
use Rattle.path_locks.proofs.Noted.{allows_else}
use Rattle.path_locks.proofs.Looks.{in_hand}
use Rattle.path_locks.proofs.Kept.{same_book, same_keeper}
use Rattle.path_locks.proofs.GiveJournal.{may_commit}
use mathlib.Core.Option.{Option, none, some}
use lib.ListN.{get_elem?}

module _ {E : Type 0} where
  abbrev first_or : E → List E → E
  first_or d [] = d
  first_or d (x ∷ xs) = x

  abbrev others : List E → List E
  others [] = []
  others (x ∷ xs) = xs

  -- the last entry
  same_last : (xs : List E) (a b : E) → xs ++ a ∷ [] ≡ xs ++ b ∷ [] → a ≡ b
  same_last [] a b e = ap (λ (l : List E). first_or a l) e
  same_last (x ∷ xs) a b e = same_last xs a b (ap (λ (l : List E). others l) e)

module _ {T E R K : Type 0} (o : Object T E R) (tells : K → Told E) where
  -- the entry is the last one of the journal in hand, whichever names are given to them
  same_entry : (m m' : Me (Slot T E K) (View T E)) (b : JournalView E) (k : K) (e : E) → m.1 ≡ (64, Book b k) ∷ rest m.1 → b.entries ≡ m.0.at.seen ++ e ∷ [] → Commits o tells m e k m'
      → (c : JournalView E) (l : K) (f : E) → m.1 ≡ (64, Book c l) ∷ rest m.1 → c.entries ≡ m.0.at.seen ++ f ∷ [] → Commits o tells m f l m'
  same_entry m m' b k e hb eb t c l f hc ec =
      let slots : (let s : Slot T E K = Book b k in s) ≡ Book c l = in_hand m.1 64 (Book b k) (Book c l) (rest m.1) (rest m.1) hb hc in
      let book : b ≡ c = same_book b c k l slots in
      let last : e ≡ f = same_last m.0.at.seen e f (sym eb ∙ ap (λ (z : JournalView E). z.entries) book ∙ ec) in
      subst (λ (z : K). Commits o tells m f z m') (same_keeper b c k l slots) (subst (λ (z : E). Commits o tells m z k m') last t)

  module _ (lawful : IsLawful o) (bare : T → T) (key : Opening E K) where
    pub may_put_longer : (slots id : ℕ) (me me' : Me (Slot T E K) (View T E)) (b : JournalView E) (k : K) (e : E) → me' ≡ (me.0, (64, Book b k) ∷ rest me.1) → me.0.at.live ≡ true
        → me.0.at.journal ≡ true → b.entries ≡ me.0.at.seen ++ e ∷ [] → b.limits ≡ me.0.limits → AreKept (tells k).kept b.entries → me.0.taken ≤ (tells k).faults → MayCommit o me.0.at e
        → Allows (Ruled o bare tells key) slots id me' 128 (λ _. 0) (λ _. gave_longer o tells (step slots 128 0 0 none) me' 0)
    may_put_longer slots id me me' b k e eq live has entries limits keeps more may =
        let z : Me (Slot T E K) (View T E) = (me.0, (64, Book b k) ∷ rest me.1) in
        subst (λ (y : Me (Slot T E K) (View T E)). Allows (Ruled o bare tells key) slots id y 128 (λ _. 0) (λ _. gave_longer o tells (step slots 128 0 0 none) y 0)) (sym eq)
        (allows_else (Ruled o bare tells key) slots id z 128 (λ _. 0) (λ _ m'. Commits o tells z e k m') (λ _. gave_longer o tells (step slots 128 0 0 none) z 0)
        (λ n m' t. same_entry z m' b k e refl entries t)
        (may_commit o lawful bare tells key slots id z b k e live has refl entries limits keeps more may.looked may.footprint may.fits))

  pub longer_put : (slots : ℕ) (me me' me2 : Me (Slot T E K) (View T E)) (b : JournalView E) (k : K) (e : E) → me' ≡ (me.0, (64, Book b k) ∷ rest me.1) → b.entries ≡ me.0.at.seen ++ e ∷ []
      → gave_longer o tells (step slots 128 0 0 none) me' 0 me2 → Commits o tells me e k me2
  longer_put slots me me' me2 b k e eq entries told =
      let z : Me (Slot T E K) (View T E) = (me.0, (64, Book b k) ∷ rest me.1) in
      let told' : gave_longer o tells (step slots 128 0 0 none) z 0 me2 = subst (λ (y : Me (Slot T E K) (View T E)). gave_longer o tells (step slots 128 0 0 none) y 0 me2) eq told in
      let t : Commits o tells z e k me2 = told' b k e refl entries in
      record { view = t.view; hand_is = t.hand_is; fit = t.fit; notes = t.notes; stands = t.stands }

module _ {T : Type 0} where
  renewed_held : (m : LockMode) (b : Bool) (y : Option T) (h : Hold T) → HeldIn m h → HeldIn m (renewed b y h)
  renewed_held m false y h p = p
  renewed_held m true none h p = p
  renewed_held m true (some y) Free p = p
  renewed_held m true (some y) Shared p = p
  renewed_held mode.None true (some y) (Looked x) p = p
  renewed_held mode.Shared true (some y) (Looked x) p = p
  renewed_held mode.Exclusive true (some y) (Looked x) p = p
  renewed_held mode.None true (some y) (Exclusive x) p = p
  renewed_held mode.Shared true (some y) (Exclusive x) p = p
  renewed_held mode.Exclusive true (some y) (Exclusive x) p = p

  writes_it : (w r : Bool) (x : T) → HeldIn (mode_of w r) (Exclusive x) → w ≡ true
  writes_it true r x p = refl
  writes_it false true x p = absurd p
  writes_it false false x p = absurd p

module _ {T E K : Type 0} where
  renewed_hand : (n : ℕ) (b : Bool) (y : Option T) (h : Hold T) (hand : List (ℕ × Slot T E K)) → with_empty n (renewed b y h) hand ≡ with_empty n h hand
  renewed_hand n false y h hand = refl
  renewed_hand n true none h hand = refl
  renewed_hand n true (some y) Free hand = refl
  renewed_hand n true (some y) Shared hand = refl
  renewed_hand n true (some y) (Looked x) hand = refl
  renewed_hand n true (some y) (Exclusive x) hand = refl

  empties_renewed : (n : ℕ) (hs hs' : List (Hold T)) → ((k : ℕ) → k < n → (b : Bool) × (y : Option T) × (hold_at hs' k ≡ renewed b y (hold_at hs k)))
      → empties {T = T} {E = E} {K = K} n hs' ≡ empties n hs
  empties_renewed zero hs hs' f = refl
  empties_renewed (suc n) hs hs' f =
      let t = f n (omega arith) in
      let r = empties_renewed n hs hs' (λ k l. f k (omega arith)) in
      (λ i. with_empty n (t.2 i) (r i)) ∙ renewed_hand n t.0 t.1 (hold_at hs n) (empties n hs)

module _ {T E R W K : Type 0} (o : Object T E R) (lawful : IsLawful o) (does : W → List T → E → Type 0) (applied : T → W → ℕ → T) (works : IsWorking o does applied) (bare : T → T) where
  module _ (s t : SeatView T E K) (h h' : HeldView T) (w : W) (e : E) (n : ℕ) (number : n ≡ length s.me.0.at.seen + 1) (wide : length s.me.0.at.holds ≡ 64) (held : IsHeldBy bare s h)
      (has : has_journal s ≡ true) (tells : K → Told E) (keeper : K) (commits : Commits o tells s.me e keeper t.me) (may : MayCommit o s.me.0.at e) (does_it : does w (notes o s.me.0.at) e) (modes : h'.modes ≡ h.modes)
      (changed : AreChanged bare (worked applied w n) h.parts h'.parts) where
    at_now : (k : ℕ) → k < 64 → hold_at t.me.0.at.holds k
        ≡ renewed (o.writes (notes o s.me.0.at) e (length s.me.0.at.seen + 1) k) (get_elem? (o.after (notes o s.me.0.at) e (length s.me.0.at.seen + 1)) k) (hold_at s.me.0.at.holds k)
    at_now k l =
        let x : Sitting T E = s.me.0.at in
        let c : ℕ = length s.me.0.at.seen + 1 in
        ap (λ (z : View T E). hold_at z.at.holds k) commits.view
        ∙ hold_at-renewed 0 (o.writes (notes o x) e c) (o.after (notes o x) e c) x.holds k (omega (arith, wide))
        ∙ (let z : 0 + k ≡ k = omega arith in ap (λ (i : ℕ). renewed (o.writes (notes o x) e c i) (get_elem? (o.after (notes o x) e c) i) (hold_at x.holds k)) z)

    -- the part of a stripe after the work is its note after the commit
    out_now : (k : ℕ) → k < 64 → (z : Hold T) → hold_at s.me.0.at.holds k ≡ z
        → worked applied w n (part_out z)
        ≡ part_out (renewed (o.writes (notes o s.me.0.at) e (length s.me.0.at.seen + 1) k) (get_elem? (o.after (notes o s.me.0.at) e (length s.me.0.at.seen + 1)) k) z)
    out_now k l Free is = none_out (o.writes (notes o s.me.0.at) e (length s.me.0.at.seen + 1) k) (get_elem? (o.after (notes o s.me.0.at) e (length s.me.0.at.seen + 1)) k)
      where
        none_out : (b : Bool) (y : Option T) → std.None ≡ part_out (renewed b y Free)
        none_out false y = refl
        none_out true none = refl
        none_out true (some y) = refl
    out_now k l Shared is = none_out (o.writes (notes o s.me.0.at) e (length s.me.0.at.seen + 1) k) (get_elem? (o.after (notes o s.me.0.at) e (length s.me.0.at.seen + 1)) k)
      where
        none_out : (b : Bool) (y : Option T) → std.None ≡ part_out (renewed b y Shared)
        none_out false y = refl
        none_out true none = refl
        none_out true (some y) = refl
    out_now k l (Looked x) is = none_out (o.writes (notes o s.me.0.at) e (length s.me.0.at.seen + 1) k) (get_elem? (o.after (notes o s.me.0.at) e (length s.me.0.at.seen + 1)) k)
      where
        none_out : (b : Bool) (y : Option T) → std.None ≡ part_out (renewed b y (Looked x))
        none_out false y = refl
        none_out true none = refl
        none_out true (some y) = refl
    out_now k l (Exclusive x) is =
        let v : Sitting T E = s.me.0.at in
        let c : ℕ = length s.me.0.at.seen + 1 in
        let writes : o.writes (notes o v) e c k ≡ true = writes_it _ (o.reads (notes o v) e c k) x
        (subst (λ (z : Hold T). HeldIn (mode_of (o.writes (notes o v) e c k) (o.reads (notes o v) e c k)) z) is (may.footprint k l)) in
        let long : length (notes o v) ≡ 64 = length-notes_or o.opening v.holds ∙ lawful.opens in
        let there : get_elem? (notes o v) k ≡ some x = note_there o.opening v.holds k x (omega (arith, lawful.opens, l)) (ap note_of is) in
        let after : get_elem? (o.after (notes o v) e c) k ≡ some (applied x w c) = works.works w (notes o v) e c k x long l does_it writes there in
        ap (λ (i : ℕ). std.Some (applied x w i)) number ∙ sym (λ i. part_out (renewed (writes i) (after i) (Exclusive x)))

    -- what is held stays held, with the parts after the work
    pub committed_held : IsHeldBy bare t h'
    unfolding at_now out_now
    committed_held = record {
      no_latch = ap (λ (z : View T E). z.at.latch) commits.view ∙ held.no_latch;
      modes = subst (λ (z : List LockMode). AreHeld z 64 t.me.0.at.holds) (sym modes)
          (λ k m l at. subst (λ (z : Hold T). HeldIn m z) (sym (at_now k l)) (renewed_held m _ _ (hold_at s.me.0.at.holds k) (held.modes k m l at)));
      slots = commits.hand_is ∙ ap (λ (z : List (ℕ × Slot T E K)). rest z) (held.slots ∙ ap (λ (b : Bool). with_book b (empties 64 s.me.0.at.holds)) has)
          ∙ sym (ap (λ (z : View T E). with_book z.at.journal (empties 64 t.me.0.at.holds)) commits.view
          ∙ empties_renewed 64 s.me.0.at.holds t.me.0.at.holds (λ k l. (_, _, at_now k l)));
      long = changed.long ∙ held.long;
      parts = λ k l.
          let q = held.parts k l in
          let r = changed.each k q.0 q.1 in
          (r.0, r.1, r.2 ∙ ap (λ (z : std.Option T). worked applied w n z) q.2 ∙ out_now k l (hold_at s.me.0.at.holds k) refl ∙ ap part_out (sym (at_now k l)));
    }

-- the seat is the same after the commit
pub same_seat : {T E R K : Type 0} (o : Object T E R) (s t : SeatView T E K) (e : E) → (tells : K → Told E) (keeper : K) → Commits o tells s.me e keeper t.me → t.table ≡ s.table → t.id ≡ s.id → IsSeatAgain s t
same_seat {T} {E} o s t e tells keeper c table place = record {
  table = table;
  place = place;
  number = ap (λ (z : View T E). z.at.number) c.view;
  olds = ap (λ (z : View T E). z.at.olds) c.view;
  before = ap (λ (z : View T E). z.before) c.view;
  made = ap (λ (z : View T E). z.made) c.view;
  limits = ap (λ (z : View T E). z.limits) c.view;
}
