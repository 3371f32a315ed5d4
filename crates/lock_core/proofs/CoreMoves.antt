-- The pure machine's fields: what one row shows, and what a change of words and rows leaves.
use Rattle.std.proofs.Common.{◌≡◌, ℕ, zero, suc, ◌<◌, ◌≤◌, true, false, List, [], ◌∷◌, ◌++◌, length, map, slice_set, slice_index_or, replicate, refl, ap, sym, ◌∙◌, subst, arith}
use Rattle.std.specs.Prelude as std
use Rattle.lock_core.specs.declared.machine.Hold.TheVariants as hold
use Rattle.lock_core.specs.declared.machine.Sitting.{Sitting}
use Rattle.lock_core.specs.declared.marks.Row.{Row}
use Rattle.lock_core.specs.declared.marks.Glance.{Glance}
use Rattle.lock_core.specs.declared.pure_core.Core.TheInside.{Inside}
use Rattle.lock_core.specs.Object.{Object, IsLawful, replay}
use Rattle.lock_core.specs.Machine.{LockState, seat_at, spent, free_holds, newcomer}
use Rattle.lock_core.specs.Sound.{IsSound}
use Rattle.lock_core.specs.Marks.{Sketch, past_pair, row_sketch, mark_of, sketch, free_marks, Looks, Put, reglanced}
use Rattle.lock_core.specs.CoreView.{shown, IsCore}
use Rattle.lock_core.proofs.Totals.{elem-map, at_map, map-set}
use Rattle.lock_core.proofs.Columns.{live_within, length-replay}
use Rattle.lock_core.proofs.Split.{seat_at-past}
use mathlib.Core.Option.{some, some-injective, some-ne-none}
use lib.ListN.{get_elem?, length-map}

map-replicate : {A B : Type 0} (f : A → B) (n : ℕ) (a : A) → map f (replicate n a) ≡ replicate n (f a)
map-replicate f zero a = refl
map-replicate {A} {B} f (suc n) a = ap (λ (l : List B). f a ∷ l) (map-replicate f n a)

pub marks-free : (T : Type 0) → map (mark_of {T = T}) free_holds ≡ free_marks
unfolding free_holds free_marks
marks-free T = map-replicate (mark_of {T = T}) 64 hold.Free

-- the first seat
pub row_opened : {T E R : Type 0} (o : Object T E R) (r : Row) → r.number ≡ 0
    → (r.glance.live ≡ true) × (r.glance.marks ≡ free_marks) × (r.glance.latch ≡ std.None) × (r.glance.journal ≡ false) × (r.glance.seen ≡ 0)
    → r.olds.items ≡ [] → row_sketch r ≡ sketch (newcomer o 0 [])
row_opened {T} o r number f olds = λ i. record {
  live = f.0 i;
  number = number i;
  marks = (f.1 ∙ sym (marks-free T)) i;
  latch = f.2 i;
  journal = f.3 i;
  seen = f.4 i;
  olds = map past_pair (olds i);
}

pub first_row : {T E R : Type 0} (o : Object T E R) (rows news : List Row) (r : Row) → rows ≡ news ++ r ∷ [] → news ≡ [] → r.number ≡ 0
    → (r.glance.live ≡ true) × (r.glance.marks ≡ free_marks) × (r.glance.latch ≡ std.None) × (r.glance.journal ≡ false) × (r.glance.seen ≡ 0)
    → r.olds.items ≡ [] → map row_sketch rows ≡ map sketch (newcomer o 0 [] ∷ [])
first_row o rows news r pushed empty number f olds =
    ap (λ (l : List Row). map row_sketch l) (pushed ∙ ap (λ (l : List Row). l ++ r ∷ []) empty) ∙ ap (λ (s : Sketch). s ∷ []) (row_opened o r number f olds)

pub at_index : {A : Type 0} (l : List A) (i : ℕ) (a : A) → i < length l → a ≡ slice_index_or l i a → get_elem? l i ≡ some a
at_index [] i a h e = absurd (omega arith)
at_index {A} (x ∷ xs) zero a h e = ap (λ (z : A). some z) (sym e)
at_index (x ∷ xs) (suc i) a h e = at_index xs i a (omega arith) e

pub same_read : {A : Type 0} (l : List A) (i : ℕ) (a b : A) → i < length l → a ≡ slice_index_or l i a → b ≡ slice_index_or l i b → a ≡ b
same_read l i a b h p q = some-injective a b (sym (at_index l i a h p) ∙ at_index l i b h q)

pub seat_at_there : {T E : Type 0} (xs : List (Sitting T E)) (j : ℕ) (x : Sitting T E) → get_elem? xs j ≡ some x → seat_at xs j ≡ x
seat_at_there [] j x e = absurd (some-ne-none x (sym e))
seat_at_there (y ∷ ys) zero x e = some-injective y x e
seat_at_there (y ∷ ys) (suc j) x e = seat_at_there ys j x e

module _ {P E R T W : Type 0} (o : Object T E R) (bare : T → T) (c : Inside P E R T W) (ok : IsCore o bare c)
    (old : LockState T E R) (is : shown o bare c ≡ old) where
  pub rows_long : length c.rows.items ≡ length old.seats
  rows_long = sym (length-map c.rows.items row_sketch) ∙ ap length ok.sketched ∙ length-map (shown o bare c).seats sketch ∙ ap (λ (z : LockState T E R). length z.seats) is

  pub sketches : map row_sketch c.rows.items ≡ map sketch old.seats
  sketches = ok.sketched ∙ ap (λ (z : LockState T E R). map sketch z.seats) is

  pub sound_is : IsSound o [] old
  sound_is = subst (λ (z : LockState T E R). IsSound o [] z) is ok.sound

  pub parts_are : map bare c.parts.items ≡ replay o old.journal
  parts_are = ok.parts ∙ ap (λ (z : LockState T E R). replay o z.journal) is

  pub sketch_at : (v : ℕ) (r : Row) → get_elem? c.rows.items v ≡ some r → sketch (seat_at old.seats v) ≡ row_sketch r
  sketch_at v r at =
      let a = at_map sketch old.seats v (row_sketch r) (ap (λ (l : List Sketch). get_elem? l v) (sym sketches) ∙ elem-map row_sketch c.rows.items v r at) in
      ap sketch (seat_at_there old.seats v a.0 a.1) ∙ a.2

  pub looks_at : (v : ℕ) (r : Row) (g : Glance) → v < length c.rows.items → r ≡ slice_index_or c.rows.items v r
      → g ≡ r.glance → Looks g (seat_at old.seats v)
  looks_at v r g h at f =
      let e = sym (sketch_at v r (at_index c.rows.items v r h at)) in
      record {
        live = ap (λ (z : Glance). z.live) f ∙ ap (λ (s : Sketch). s.live) e;
        marks = ap (λ (z : Glance). z.marks) f ∙ ap (λ (s : Sketch). s.marks) e;
        latch = ap (λ (z : Glance). z.latch) f ∙ ap (λ (s : Sketch). s.latch) e;
        journal = ap (λ (z : Glance). z.journal) f ∙ ap (λ (s : Sketch). s.journal) e;
        seen = ap (λ (z : Glance). z.seen) f ∙ ap (λ (s : Sketch). s.seen) e;
      }

  pub looks_past : (v : ℕ) (g : Glance) → length c.rows.items ≤ v
      → (g.live ≡ false) × (g.marks ≡ free_marks) × (g.latch ≡ std.None) × (g.journal ≡ false) × (g.seen ≡ 0) → Looks g (seat_at old.seats v)
  looks_past v g h f =
      let e : seat_at old.seats v ≡ spent = seat_at-past old.seats v (let l = rows_long in omega arith) in
      record {
        live = f.0 ∙ sym (ap (λ (z : Sitting T E). z.live) e);
        marks = f.1 ∙ sym (marks-free T) ∙ sym (ap (λ (z : Sitting T E). map mark_of z.holds) e);
        latch = f.2 ∙ sym (ap (λ (z : Sitting T E). z.latch) e);
        journal = f.3 ∙ sym (ap (λ (z : Sitting T E). z.journal) e);
        seen = f.4 ∙ sym (ap (λ (z : Sitting T E). length z.seen) e);
      }

  -- the rows where one is another, which stands for the seat that is put in its place
  pub rows_set : (v : ℕ) (x' : Sitting T E) (r' : Row) → row_sketch r' ≡ sketch x'
      → map row_sketch (slice_set c.rows.items v r') ≡ map sketch (slice_set old.seats v x')
  rows_set v x' r' is =
      map-set row_sketch c.rows.items v r' ∙ ap (λ (l : List Sketch). slice_set l v (row_sketch r')) sketches
      ∙ ap (λ (z : Sketch). slice_set (map sketch old.seats) v z) is ∙ sym (map-set sketch old.seats v x')

  pub live_row : (v : ℕ) → (seat_at old.seats v).live ≡ true → v < length c.rows.items
  live_row v live = let l = live_within old.seats v live in let q = rows_long in omega arith

  pub live_sketch : (v : ℕ) (r : Row) → (seat_at old.seats v).live ≡ true → r ≡ slice_index_or c.rows.items v r → sketch (seat_at old.seats v) ≡ row_sketch r
  live_sketch v r live is = sketch_at v r (at_index c.rows.items v r (live_row v live) is)

  -- the rows where one is as a glance says
  pub rows_put : (m : LockState T E R) (v at word : ℕ) (g : Glance) → Put old m v at word g
      → (r r' : Row) → r ≡ slice_index_or c.rows.items v r → row_sketch r' ≡ reglanced (row_sketch r) g
      → map row_sketch (slice_set c.rows.items v r') ≡ map sketch m.seats
  rows_put m v at word g put r r' is_r is_r' =
      rows_set v put.sitting r' (is_r' ∙ ap (λ (z : Sketch). reglanced z g) (sym (live_sketch v r put.live is_r)) ∙ sym put.glanced)
      ∙ sym (ap (λ (l : List (Sitting T E)). map sketch l) put.seats)

  pub parts_long : IsLawful o → length c.parts.items ≡ 64
  parts_long lawful = sym (length-map c.parts.items bare) ∙ ap length ok.parts ∙ length-replay o lawful c.journal.items
