-- What a table shows of its machine, and what a step of one seat leaves of it.
use Rattle.std.proofs.Common.{◌≡◌, ◌≢◌, ◌⊎◌, inl, inr, ℕ, zero, suc, ◌<◌, true, List, [], ◌∷◌, length, slice_set, slice_index, refl, ap, sym, ◌∙◌, subst, length-set, arith}
use Rattle.lock_core.specs.declared.machine.Sitting.{Sitting}
use Rattle.lock_core.specs.Object.{Object}
use Rattle.lock_core.specs.Machine.{LockState, seat_at}
use Rattle.lock_core.specs.Sound.{IsSound}
use Rattle.lock_core.specs.Lists.{elem-set_same, elem-set_other}
use Rattle.lock_core.proofs.Totals.{elem-map, map-set, set_again, at_set}
use Rattle.lock_core.proofs.Columns.{index-set_other}
use Rattle.lock_core.proofs.CoreMoves.{seat_at_there}
use Rattle.lock_core.proofs.InWords.{in_words}
use Rattle.commit_journal.specs.Keeper.{Told}
use Rattle.atomic_table.specs.Table.{State, Me, keeps, stepped}
use Rattle.path_locks.specs.declared.rule.Slot.{Slot}
use Rattle.path_locks.specs.declared.rule.Slot.TheVariants.{Empty, Part, Book}
use Rattle.path_locks.specs.declared.rule.View.{View}
use Rattle.path_locks.specs.declared.rule.Opening.{Opening}
use Rattle.path_locks.specs.Rule.{home_of, IsPlaced, IsBook, Shows, ViewOk, AreViews, Ruled}
use Rattle.path_locks.specs.Stands.{Stands}
use mathlib.Core.Option.{Option, none, some, some-injective, some-ne-none}
use mathlib.Core.Logic.{dite}
use native.Mathlib.Decide.{ℕ_discrete}
use lib.ListN.{get_elem?}

pub index_again : (ws : List ℕ) (i : ℕ) → slice_set ws i (slice_index ws i) ≡ ws
index_again [] i = refl
index_again (w ∷ ws) zero = refl
index_again (w ∷ ws) (suc i) = ap (λ (l : List ℕ). w ∷ l) (index_again ws i)

module _ {T E K : Type 0} (bare : T → T) where
  -- a part that is home lies in its slot
  pub part_there : (h : Option (Option (Slot T E K))) (x : T) → home_of bare h ≡ some (some x) → (y : T) × (h ≡ some (some (Part y))) × (bare y ≡ x)
  part_there none x e = absurd (some-ne-none (some x) (sym e))
  part_there (some none) x e = absurd (some-ne-none x (sym (some-injective _ _ e)))
  part_there (some (some Empty)) x e = absurd (some-ne-none (some x) (sym e))
  part_there (some (some (Part y))) x e = (y, refl, some-injective _ _ (some-injective _ _ e))
  part_there (some (some (Book j k))) x e = absurd (some-ne-none (some x) (sym e))

  -- one slot and the place that it shows change together
  pub placed_set : (hs : List (Option (Slot T E K))) (ms : List (Option T)) (s : ℕ) (a : Option (Slot T E K)) (b : Option T) → s < length hs → s < length ms
      → home_of bare (some a) ≡ some b → IsPlaced bare hs ms → IsPlaced bare (slice_set hs s a) (slice_set ms s b)
  placed_set hs ms s a b ls lm e placed k h = dite (ℕ_discrete k s)
      (λ q. subst (λ (i : ℕ). home_of bare (get_elem? (slice_set hs s a) i) ≡ get_elem? (slice_set ms s b) i) (sym q)
      (ap (λ (z : Option (Option (Slot T E K))). home_of bare z) (elem-set_same hs s a ls) ∙ e ∙ sym (elem-set_same ms s b lm)))
      (λ n. ap (λ (z : Option (Option (Slot T E K))). home_of bare z) (elem-set_other hs s k a n) ∙ placed k h ∙ sym (elem-set_other ms s k b n))

  module _ {R : Type 0} (key : Opening E K) (t : State (Slot T E K) (View T E)) (m : LockState T E R) (sh : Shows bare key t m) where
    -- the seat of a view
    pub seat_of_view : (id : ℕ) (v : View T E) → get_elem? t.views id ≡ some v → seat_at m.seats id ≡ v.at
    seat_of_view id v here = seat_at_there m.seats id v.at
        (sym (ap (λ (l : List (Sitting T E)). get_elem? l id) sh.seats) ∙ elem-map (λ (z : View T E). z.at) t.views id v here)

    -- the word of a stripe is the machine's
    pub word_is : (i : ℕ) → slice_index t.words i ≡ slice_index m.words i
    word_is i = ap (λ (l : List ℕ). slice_index l i) sh.words

    -- a step on the word of a stripe shows the machine after an event that does the same
    pub shown_after : (i n : ℕ) → i ≢ 128 → (n' : ℕ) → n ≡ n' → (id : ℕ) (w : View T E) (x : Sitting T E) → w.at ≡ x
        → (hs : List (Option (Slot T E K))) (ms : List (Option T)) → length hs ≡ 65 → get_elem? hs 64 ≡ get_elem? t.homes 64 → IsPlaced bare hs ms
        → Shows bare key (record { words = slice_set t.words i n; homes = hs; views = slice_set t.views id w })
        (record { words = slice_set m.words i n'; homes = ms; journal = m.journal; replies = m.replies; seats = slice_set m.seats id x })
    shown_after i n far n' en id w x ew hs ms long same placed =
        let kept : slice_index (slice_set m.words i n') 128 ≡ slice_index m.words 128 = index-set_other m.words i 128 n' (λ e. far (sym e)) in
        record {
          words = ap (λ (l : List ℕ). slice_set l i n) sh.words ∙ ap (λ (k : ℕ). slice_set m.words i k) en;
          seats = map-set (λ (z : View T E). z.at) t.views id w ∙ ap (λ (l : List (Sitting T E)). slice_set l id w.at) sh.seats
              ∙ ap (λ (z : Sitting T E). slice_set m.seats id z) ew;
          slots = long;
          places = placed;
          book = λ z. subst (λ (q : Option (Option (Slot T E K))). IsBook key m.journal q) (sym same) (sh.book (sym kept ∙ z));
          away = λ z. same ∙ sh.away (sym kept ∙ z);
        }

  -- the views after a step in which one changes no more than its seat
  pub views_after : (key : Opening E K) (h : List E) (views : List (View T E)) (id : ℕ) (v w : View T E) → get_elem? views id ≡ some v
      → w.made ≡ v.made → w.limits ≡ v.limits → w.before ≡ v.before → v.at.live ≡ true → AreViews key h views → AreViews key h (slice_set views id w)
  views_after key h views id v w here made limits before live ok = record {
    few = let l = length-set views id w in omega (arith, ok.few);
    counted = λ j z at pos. by_place j z (at_set views id j w z at) pos;
    each = λ j z at alive. each_of j z (at_set views id j w z at) alive;
  }
    where
      by_place : (j : ℕ) (z : View T E) → ((j ≡ id) × (w ≡ z)) ⊎ ((j ≢ id) × (get_elem? views j ≡ some z)) → 0 < z.made → (j ≡ 0) × (z.made ≡ length (slice_set views id w))
      by_place j z (inl p) pos =
          let m : z.made ≡ v.made = ap (λ (q : View T E). q.made) (sym p.1) ∙ made in
          let c = ok.counted id v here (omega arith) in
          (p.0 ∙ c.0, m ∙ c.1 ∙ sym (length-set views id w))
      by_place j z (inr p) pos = let c = ok.counted j z p.1 pos in (c.0, c.1 ∙ sym (length-set views id w))

      each_of : (j : ℕ) (z : View T E) → ((j ≡ id) × (w ≡ z)) ⊎ ((j ≢ id) × (get_elem? views j ≡ some z)) → z.at.live ≡ true → ViewOk key h z
      each_of j z (inl p) alive = subst (λ (q : View T E). ViewOk key h q) p.1 (let c = ok.each id v here live in record {
        limits = limits ∙ c.limits;
        before = λ i seen at. c.before i seen (sym (ap (λ (l : List (List E)). get_elem? l i) before) ∙ at);
      })
      each_of j z (inr p) alive = ok.each j z p.1 alive

  module _ {R : Type 0} (o : Object T E R) (key : Opening E K) where
    -- a step that changes nothing
    pub load_keeps : (tells : K → Told E) (t : State (Slot T E K) (View T E)) (i id : ℕ) (me : Me (Slot T E K) (View T E)) → get_elem? t.views id ≡ some me.0 → Ruled o bare tells key t
        → Ruled o bare tells key (stepped t i (slice_index t.words i) id me.1 me.0 keeps)
    load_keeps tells t i id me here ruled =
        let a = index_again t.words i in
        let b = set_again t.views id me.0 here in
        subst (λ (z : State (Slot T E K) (View T E)). Ruled o bare tells key z) (λ k. record { words = sym a k; homes = t.homes; views = sym b k }) ruled

    -- what a live seat stands in
    pub stands_at : (m : LockState T E R) → IsSound o key.journal.value.entries m → (j : ℕ) (x : Sitting T E) → seat_at m.seats j ≡ x → x.live ≡ true → Stands o x
    stands_at m ok j x e live =
        let alive : (seat_at m.seats j).live ≡ true = ap (λ (z : Sitting T E). z.live) e ∙ live in
        let seat = ok.seats j alive in
        let words = in_words o key.journal.value.entries m ok in
        subst (λ (z : Sitting T E). Stands o z) e (record {
          live = alive;
          wide = seat.wide;
          journal = m.journal;
          begins = seat.knows.prefix;
          mine = seat.knows.mine_of_all;
          mine_of_seen = seat.knows.mine_of_seen;
          fit = ok.fit;
          notes = λ k y h note. (words.notes_are_replay j k alive h).note y note;
        })
