-- The step that joins a seat into another.
use Rattle.std.proofs.Common.{◌≡◌, ◌≢◌, ◌⊎◌, inl, inr, ℕ, zero, suc, ◌<◌, true, List, ◌∷◌, length, map, slice_set, refl, ap, sym, ◌∙◌, subst, length-set, true≢false, arith}
use Rattle.lock_core.specs.declared.machine.Sitting.{Sitting}
use Rattle.lock_core.specs.declared.machine.Event.TheVariants as event
use Rattle.lock_core.specs.Object.{Object}
use Rattle.lock_core.specs.Machine as machine
use Rattle.lock_core.specs.Machine.{LockState, plain, seat_at, joined, spent, IsIdle, IsAllowed}
use Rattle.lock_core.specs.Sound.{StartsWith}
use Rattle.lock_core.specs.Lists.{elem-set_other}
use Rattle.lock_core.proofs.Totals.{map-set, at_set}
use Rattle.lock_core.proofs.Join.{join_keeps}
use Rattle.commit_journal.specs.Keeper.{Told}
use Rattle.atomic_table.specs.Table.{Joins}
use Rattle.path_locks.specs.declared.rule.View.{View}
use Rattle.path_locks.specs.declared.rule.Opening.{Opening}
use Rattle.path_locks.specs.Rule.{Shows, ViewOk, AreViews, Ruled}
use Rattle.path_locks.specs.Plays.{IsResting, joined_view, spent_view}
use Rattle.path_locks.proofs.Shown.{seat_of_view}
use Rattle.path_locks.proofs.Kept.{kept_after, kept_gone}
use mathlib.Core.Option.{some, some-injective}
use lib.ListN.{get_elem?}

module _ {T E K : Type 0} where
  both_ok : (key : Opening E K) (h : List E) (v w : View T E) → ViewOk key h v → StartsWith h v.at.seen → ViewOk key h (joined_view v w)
  both_ok key h v w k prefix = record { limits = k.limits; before = before_of }
    where
      before_of : (i : ℕ) (seen : List E) → get_elem? (v.at.seen ∷ v.before) i ≡ some seen → StartsWith h seen
      before_of zero seen e = subst (λ (z : List E). StartsWith h z) (some-injective v.at.seen seen e) prefix
      before_of (suc i) seen e = k.before i seen e

  views_joined : (key : Opening E K) (h : List E) (views : List (View T E)) (id other : ℕ) (v w : View T E) → get_elem? views id ≡ some v → v.at.live ≡ true
      → StartsWith h v.at.seen → AreViews key h views → AreViews key h (slice_set (slice_set views id (joined_view v w)) other spent_view)
  views_joined key h views id other v w here live prefix ok = record {
    few = let l = long in omega (arith, ok.few);
    counted = λ j z at p. counted_out j z (at_set (slice_set views id (joined_view v w)) other j spent_view z at) p;
    each = λ j z at alive. each_out j z (at_set (slice_set views id (joined_view v w)) other j spent_view z at) alive;
  }
    where
      long : length (slice_set (slice_set views id (joined_view v w)) other (let z : View T E = spent_view in z)) ≡ length views
      long = length-set (slice_set views id (joined_view v w)) other spent_view ∙ length-set views id (joined_view v w)

      counted_in : (j : ℕ) (z : View T E) → ((j ≡ id) × (joined_view v w ≡ z)) ⊎ ((j ≢ id) × (get_elem? views j ≡ some z)) → 0 < z.made
          → (j ≡ 0) × (z.made ≡ length (slice_set (slice_set views id (joined_view v w)) other spent_view))
      counted_in j z (inl p) q =
          let m : z.made ≡ v.made = ap (λ (y : View T E). y.made) (sym p.1) in
          let c = ok.counted id v here (omega arith) in
          (p.0 ∙ c.0, m ∙ c.1 ∙ sym long)
      counted_in j z (inr p) q = let c = ok.counted j z p.1 q in (c.0, c.1 ∙ sym long)

      counted_out : (j : ℕ) (z : View T E) → ((j ≡ other) × (spent_view ≡ z)) ⊎ ((j ≢ other) × (get_elem? (slice_set views id (joined_view v w)) j ≡ some z)) → 0 < z.made
          → (j ≡ 0) × (z.made ≡ length (slice_set (slice_set views id (joined_view v w)) other spent_view))
      counted_out j z (inl p) q = absurd (let e : z.made ≡ 0 = ap (λ (y : View T E). y.made) (sym p.1) in omega arith)
      counted_out j z (inr p) q = counted_in j z (at_set views id j (joined_view v w) z p.1) q

      each_in : (j : ℕ) (z : View T E) → ((j ≡ id) × (joined_view v w ≡ z)) ⊎ ((j ≢ id) × (get_elem? views j ≡ some z)) → z.at.live ≡ true → ViewOk key h z
      each_in j z (inl p) alive = subst (λ (y : View T E). ViewOk key h y) p.1 (both_ok key h v w (ok.each id v here live) prefix)
      each_in j z (inr p) alive = ok.each j z p.1 alive

      each_out : (j : ℕ) (z : View T E) → ((j ≡ other) × (spent_view ≡ z)) ⊎ ((j ≢ other) × (get_elem? (slice_set views id (joined_view v w)) j ≡ some z)) → z.at.live ≡ true → ViewOk key h z
      each_out j z (inl p) alive = absurd (true≢false (sym alive ∙ ap (λ (y : View T E). y.at.live) (sym p.1)))
      each_out j z (inr p) alive = each_in j z (at_set views id j (joined_view v w) z p.1) alive

module _ {T E R K : Type 0} (o : Object T E R) (bare : T → T) (tells : K → Told E) (key : Opening E K) where
  pub may_join : (id other : ℕ) (v w : View T E) → IsResting v.at → IsResting w.at → Joins (Ruled o bare tells key) id v other w (joined_view v w) spent_view
  may_join id other v w rest_v rest_w t ruled here ne there =
      let m = ruled.0 in
      let sh = ruled.1 in
      let vs = ruled.2 in
      let ok = ruled.3 in
      let far : get_elem? t.views other ≡ some w = sym (elem-set_other t.views id other (joined_view v w) ne) ∙ there in
      let seat_v = seat_of_view bare key t m sh id v here in
      let seat_w = seat_of_view bare key t m sh other w far in
      let rests_v = subst (λ (z : Sitting T E). IsResting z) (sym seat_v) rest_v in
      let rests_w = subst (λ (z : Sitting T E). IsResting z) (sym seat_w) rest_w in
      let prefix : StartsWith m.journal v.at.seen = subst (λ (z : Sitting T E). StartsWith m.journal z.seen) seat_v (ok.seats id rests_v.live).knows.prefix in
      let m' : LockState T E R = machine.stepped o m (plain (event.Join other id)) in
      let mid = slice_set t.views id (joined_view v w) in
      let one : map (λ (z : View T E). z.at) mid ≡ slice_set m.seats id (joined (seat_at m.seats other) (seat_at m.seats id)) =
      map-set (λ (z : View T E). z.at) t.views id (joined_view v w) ∙ (λ i. slice_set (sh.seats i) id (joined (sym seat_w i) (sym seat_v i))) in
      let shows : Shows bare key (record { words = t.words; homes = t.homes; views = slice_set mid other spent_view }) m' = record {
        words = sh.words;
        seats = map-set (λ (z : View T E). z.at) mid other spent_view ∙ ap (λ (l : List (Sitting T E)). slice_set l other spent) one;
        slots = sh.slots;
        places = sh.places;
        book = sh.book;
        away = sh.away;
      } in (
        m',
        shows,
        views_joined key m.journal t.views id other v w here rest_v.live prefix vs,
        join_keeps o key.journal.value.entries m other id ok (((rests_w.live, rests_v.live, ne)), ((rests_w.idle, rests_v.idle), tt)),
        kept_gone tells _ (kept_after tells t ruled.4 t.words t.homes refl id v (joined_view v w) here refl refl rest_v.live refl) other spent_view refl refl,
      )
