-- The step that makes a seat.
use Rattle.std.proofs.Common.{◌≡◌, ◌≢◌, ◌⊎◌, inl, inr, ℕ, ◌+◌, ◌<◌, true, List, [], ◌∷◌, ◌++◌, length, map, slice_set, refl, ap, sym, ◌∙◌, subst, length-set, length-append, append-nil, arith}
use Rattle.lock_core.specs.declared.machine.Sitting.{Sitting}
use Rattle.lock_core.specs.declared.machine.Event.TheVariants as event
use Rattle.lock_core.specs.Object.{Object}
use Rattle.lock_core.specs.Machine as machine
use Rattle.lock_core.specs.Machine.{LockState, plain, hold_at, note_of, seat_at, newcomer, IsAllowed}
use Rattle.lock_core.specs.Sound.{AllFit}
use Rattle.lock_core.specs.Lists.{elem-set_same}
use Rattle.lock_core.proofs.Totals.{elem_within, elem-map, map-set, set_again, at_set, at_snoc}
use Rattle.lock_core.proofs.Split.{split_keeps, hold_at-free, length-free}
use Rattle.commit_journal.specs.Keeper.{Told}
use Rattle.atomic_table.specs.Table.{Splits}
use Rattle.path_locks.specs.declared.rule.View.{View}
use Rattle.path_locks.specs.declared.rule.Opening.{Opening}
use Rattle.path_locks.specs.Rule.{Shows, ViewOk, AreViews, Ruled}
use Rattle.path_locks.specs.Plays.{made_another, new_view}
use Rattle.path_locks.specs.Stands.{Stands}
use Rattle.path_locks.proofs.Shown.{seat_of_view}
use Rattle.path_locks.proofs.Kept.{kept_after, kept_new}
use mathlib.Core.Option.{some, some-ne-none}
use mathlib.Core.List.{map-append}
use lib.ListN.{get_elem?, length-map}

module _ {T E R : Type 0} (o : Object T E R) where
  -- a new seat stands in what it has seen
  pub stands_new : (n : ℕ) (seen : List E) → AllFit o seen → Stands o (newcomer o n seen)
  stands_new n seen fits = record {
    live = refl;
    wide = length-free T;
    journal = seen;
    begins = ([], append-nil seen);
    mine = refl;
    mine_of_seen = refl;
    fit = fits;
    notes = λ k x h e. absurd (some-ne-none x (sym e ∙ ap note_of (hold_at-free k)));
  }

  module _ {K : Type 0} (bare : T → T) (tells : K → Told E) (key : Opening E K) where
    pub may_split : (id : ℕ) (v : View T E) → 0 < v.made → v.made < key.seats → v.at.live ≡ true → Splits (Ruled o bare tells key) id v (made_another v) (new_view o v)
    may_split id v pos room live t ruled here =
        let m = ruled.0 in
        let sh = ruled.1 in
        let vs = ruled.2 in
        let ok = ruled.3 in
        let c = vs.counted id v here pos in
        let seat = seat_of_view bare key t m sh id v here in
        let alive : (seat_at m.seats id).live ≡ true = ap (λ (z : Sitting T E). z.live) seat ∙ live in
        let m' : LockState T E R = machine.stepped o m (plain (event.Split id)) in
        let left : View T E = made_another v in
        let right : View T E = new_view o v in
        let mid = slice_set t.views id left in
        let long : length m.seats ≡ length t.views = ap (λ (l : List (Sitting T E)). length l) (sym sh.seats) ∙ length-map t.views (λ (z : View T E). z.at) in
        let count : v.made ≡ length m.seats = c.1 ∙ sym long in
        let kept : map (λ (z : View T E). z.at) mid ≡ m.seats = map-set (λ (z : View T E). z.at) t.views id left
        ∙ set_again (map (λ (z : View T E). z.at) t.views) id v.at (elem-map (λ (z : View T E). z.at) t.views id v here) ∙ sh.seats in
        let new : newcomer o v.made v.at.seen ≡ newcomer o (length m.seats) (seat_at m.seats id).seen = λ i. newcomer o (count i) (sym seat i).seen in
        let shows : Shows bare key (record { words = t.words; homes = t.homes; views = mid ++ right ∷ [] }) m' = record {
          words = sh.words;
          seats = map-append (λ (z : View T E). z.at) mid (right ∷ []) ∙ (λ i. kept i ++ new i ∷ []);
          slots = sh.slots;
          places = sh.places;
          book = sh.book;
          away = sh.away;
        } in
        let more : length (mid ++ right ∷ []) ≡ length t.views + 1 = length-append mid (right ∷ []) ∙ ap (λ (n : ℕ). n + 1) (length-set t.views id left) in (
          m',
          shows,
          record {
            few = omega (arith, c.1);
            counted = λ j z at p. counted_of vs c more j z (at_snoc mid right z j at) p;
            each = λ j z at alive'. each_of vs j z (at_snoc mid right z j at) alive';
          },
          split_keeps o key.journal.value.entries m id ok (alive, tt),
          kept_new tells _ (kept_after tells t ruled.4 t.words t.homes refl id v left here refl refl live refl) id left right
              (elem-set_same t.views id left (elem_within t.views id v here)) live refl refl,
        )
      where
        by_place : AreViews key (ruled.0).journal t.views → (id ≡ 0) × (v.made ≡ length t.views) → length (slice_set t.views id (made_another v) ++ new_view o v ∷ []) ≡ length t.views + 1
            → (j : ℕ) (z : View T E) → ((j ≡ id) × (made_another v ≡ z)) ⊎ ((j ≢ id) × (get_elem? t.views j ≡ some z)) → 0 < z.made
            → (j ≡ 0) × (z.made ≡ length (slice_set t.views id (made_another v) ++ new_view o v ∷ []))
        by_place vs c more j z (inl p) q = (p.0 ∙ c.0, let e : z.made ≡ v.made + 1 = ap (λ (y : View T E). y.made) (sym p.1) in omega (arith, c.1, more))
        by_place vs c more j z (inr p) q = absurd (p.0 ((vs.counted j z p.1 q).0 ∙ sym c.0))

        counted_of : AreViews key (ruled.0).journal t.views → (id ≡ 0) × (v.made ≡ length t.views) → length (slice_set t.views id (made_another v) ++ new_view o v ∷ []) ≡ length t.views + 1
            → (j : ℕ) (z : View T E) → ((j < length (slice_set t.views id (made_another v))) × (get_elem? (slice_set t.views id (made_another v)) j ≡ some z))
            ⊎ ((j ≡ length (slice_set t.views id (made_another v))) × (new_view o v ≡ z)) → 0 < z.made → (j ≡ 0) × (z.made ≡ length (slice_set t.views id (made_another v) ++ new_view o v ∷ []))
        counted_of vs c more j z (inl p) q = by_place vs c more j z (at_set t.views id j (made_another v) z p.1) q
        counted_of vs c more j z (inr p) q = absurd (let e : z.made ≡ 0 = ap (λ (y : View T E). y.made) (sym p.1) in omega arith)

        each_there : AreViews key (ruled.0).journal t.views → (j : ℕ) (z : View T E) → ((j ≡ id) × (made_another v ≡ z)) ⊎ ((j ≢ id) × (get_elem? t.views j ≡ some z)) → z.at.live ≡ true
            → ViewOk key (ruled.0).journal z
        each_there vs j z (inl p) alive = subst (λ (y : View T E). ViewOk key (ruled.0).journal y) p.1 (let k = vs.each id v here live in record { limits = k.limits; before = k.before })
        each_there vs j z (inr p) alive = vs.each j z p.1 alive

        each_of : AreViews key (ruled.0).journal t.views → (j : ℕ) (z : View T E) → ((j < length (slice_set t.views id (made_another v))) × (get_elem? (slice_set t.views id (made_another v)) j ≡ some z))
            ⊎ ((j ≡ length (slice_set t.views id (made_another v))) × (new_view o v ≡ z)) → z.at.live ≡ true → ViewOk key (ruled.0).journal z
        each_of vs j z (inl p) alive = each_there vs j z (at_set t.views id j (made_another v) z p.1) alive
        each_of vs j z (inr p) alive = subst (λ (y : View T E). ViewOk key (ruled.0).journal y) p.1 (let k = vs.each id v here live in record {
          limits = k.limits;
          before = λ i seen at. absurd (some-ne-none seen (sym at));
        })
