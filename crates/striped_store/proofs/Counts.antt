-- What holds of a pass between two calls.
use Rattle.std.proofs.Common.{◌≡◌, ℕ, zero, suc, ◌+◌, ◌<◌, ◌≤◌, ◌≢◌, false, List, [], ◌∷◌, ◌++◌, length, length-append, nat_eq, sum_by, slice_get, replicate, Some, refl, ap, sym, ◌∙◌, subst, arith}
use Rattle.std.specs.Prelude as std
use Rattle.std.proofs.lemmas.List.Sums.{sum_by-append, length-filter, count_by-le-length}
use Rattle.std.proofs.lemmas.Option.{none-some}
use Rattle.lock_core.specs.declared.object.LockMode.{LockMode}
use Rattle.lock_core.specs.declared.object.LockMode.TheVariants as mode
use Rattle.lock_core.specs.declared.machine.Hold.{Hold}
use Rattle.lock_core.specs.declared.machine.Hold.TheVariants.{Free, Shared, Looked, Exclusive}
use Rattle.lock_core.specs.Object.{Object, by_pass}
use Rattle.lock_core.specs.Machine.{hold_at, note_of, HeldIn}
use Rattle.commit_journal.specs.Limits.{LimitNumbers, AreWithin}
use Rattle.path_locks.specs.Alike.{limits_of}
use Rattle.path_locks.specs.Holding.{bared, part_out}
use Rattle.path_locks.specs.Plans.{no_plan, AreHeld}
use Rattle.path_locks.specs.Views.{SeatView, HeldView, TableView, seen_of, mine_of, has_journal, HoldsNothing, IsHeldBy, IsSameSeat, IsSeatAgain, IsNewSeat}
use Rattle.path_locks.proofs.Below.{some_inj}
use Rattle.striped_store.specs.Views.{IsHeld}
use Rattle.striped_store.specs.Passes.{KeepsCount}
use Rattle.striped_store.specs.UsedIds.{IsUsed}
use Rattle.striped_store.proofs.Footprints.{same_mode}
use mathlib.Core.Logic.{dite}
use mathlib.Core.Option.{some, some-ne-none}
use native.Mathlib.Decide.{ℕ_discrete}

in_replicate : {A : Type 0} (n k : ℕ) (a b : A) → slice_get (replicate n a) k ≡ Some b → a ≡ b
in_replicate zero k a b e = absurd (none-some b e)
in_replicate (suc n) zero a b e = some_inj a b e
in_replicate (suc n) (suc k) a b e = in_replicate n k a b e

module _ {T : Type 0} where
  -- a stripe that was looked at is still held in its mode
  looked_mode : (bare : T → T) (m : LockMode) (h h' : Hold T) (q : std.Option T) (x : T) → HeldIn m h → (m ≡ mode.None → ⊥) → bared bare q ≡ part_out h
      → bared bare q ≡ part_out h' → note_of h' ≡ some x → HeldIn m h'
  looked_mode bare mode.None h h' q x a some_mode o o' n = absurd (some_mode refl)
  looked_mode bare m Free h' q x a some_mode o o' n = absurd (some_mode (same_mode {T = T} m mode.None Free a tt))
  looked_mode bare m h Free q x a some_mode o o' n = absurd (some-ne-none x (sym n))
  looked_mode bare m h Shared q x a some_mode o o' n = absurd (some-ne-none x (sym n))
  looked_mode bare mode.Shared h (Looked y) q x a some_mode o o' n = tt
  looked_mode bare mode.Exclusive (Exclusive z) (Looked y) q x a some_mode o o' n = absurd (none-some z (sym o' ∙ o))
  looked_mode bare mode.Exclusive Shared (Looked y) q x a some_mode o o' n = absurd a
  looked_mode bare mode.Exclusive (Looked z) (Looked y) q x a some_mode o o' n = absurd a
  looked_mode bare mode.Shared Shared (Exclusive y) q x a some_mode o o' n = absurd (none-some y (sym o ∙ o'))
  looked_mode bare mode.Shared (Looked z) (Exclusive y) q x a some_mode o o' n = absurd (none-some y (sym o ∙ o'))
  looked_mode bare mode.Shared (Exclusive z) (Exclusive y) q x a some_mode o o' n = absurd a
  looked_mode bare mode.Exclusive h (Exclusive y) q x a some_mode o o' n = tt

module _ {T E K : Type 0} where
  -- nothing is held, which is what the plan of no stripe says
  pub nothing_held : (s : SeatView T E K) → HoldsNothing s → AreHeld no_plan 64 s.me.0.at.holds
  nothing_held s nothing k m h at =
      subst (λ (z : LockMode). HeldIn z (hold_at s.me.0.at.holds k)) (in_replicate 64 k mode.None m at) (nothing.idle.no_hold k)

  -- what is held is the same plan after a look
  pub looked_held : (bare : T → T) (s t : SeatView T E K) (held : HeldView T) (plan : List LockMode) (stripe : ℕ) (x : T) → stripe < 64 → IsHeld held stripe
      → IsHeldBy bare s held → IsHeldBy bare t held → note_of (hold_at t.me.0.at.holds stripe) ≡ some x
      → ((k : ℕ) → k ≢ stripe → hold_at t.me.0.at.holds k ≡ hold_at s.me.0.at.holds k) → AreHeld plan 64 s.me.0.at.holds → AreHeld plan 64 t.me.0.at.holds
  looked_held bare s t held plan stripe x within some_mode was is found others before k m l at = dite (ℕ_discrete k stripe)
      (λ e. subst (λ (i : ℕ). HeldIn m (hold_at t.me.0.at.holds i)) (sym e) (here (subst (λ (i : ℕ). HeldIn m (hold_at s.me.0.at.holds i)) e (before k m l at))))
      (λ ne. subst (λ (h : Hold T). HeldIn m h) (sym (others k ne)) (before k m l at))
    where
      here : HeldIn m (hold_at s.me.0.at.holds stripe) → HeldIn m (hold_at t.me.0.at.holds stripe)
      here a =
          let p = was.parts stripe within in
          let q = is.parts stripe within in
          let same : q.0 ≡ p.0 = some_inj q.0 p.0 (sym q.1 ∙ p.1) in
          let md : m ≡ some_mode.0 = same_mode m some_mode.0 (hold_at s.me.0.at.holds stripe) a (was.modes stripe some_mode.0 within some_mode.1) in
          looked_mode bare m (hold_at s.me.0.at.holds stripe) (hold_at t.me.0.at.holds stripe) p.0 x a (λ e. some_mode.2 (sym md ∙ e)) p.2
          (ap (λ (z : std.Option T). bared bare z) (sym same) ∙ q.2) found

module _ {T E K : Type 0} (uses : E → ℕ) where
  -- a new pass has used up what its entries of the journal at the start did
  pub counts_open : {R : Type 0} (o : Object T E R) (table : TableView E) (n used : ℕ) (s : SeatView T E K) → length table.opening ≤ table.limits.journal_max → AreWithin table.limits
      → n < 64 → IsUsed o uses table.opening n used → IsNewSeat o table n s → KeepsCount uses s no_plan n used
  counts_open o table n used s short within small count new =
      let seen : length (seen_of s) ≡ length table.opening = ap (λ (z : List E). length z) new.seen in
      let mine : length (mine_of s) ≡ length (by_pass o n table.opening) = ap (λ (z : List E). length z) new.mine in
      let most : (limits_of s).journal_max ≡ table.limits.journal_max = ap (λ (z : LimitNumbers). z.journal_max) new.limits in
      let light = count.light in
      record {
        number = new.number;
        small = small;
        no_journal = new.nothing.idle.no_journal;
        held = nothing_held s new.nothing;
        within = subst (λ (z : LimitNumbers). AreWithin z) (sym new.limits) within;
        few = omega (arith, seen, most, short);
        own = omega (arith, seen, mine, length-filter (λ (e : E). nat_eq (o.by e) n) table.opening, count_by-le-length (λ (e : E). nat_eq (o.by e) n) table.opening);
        used = count.is_sum ∙ sym (ap (λ (z : List E). sum_by uses z) new.mine);
        light = omega (arith, light, mine);
      }

  seat_again : (s t : SeatView T E K) → IsSameSeat s t → IsSeatAgain s t
  seat_again s t q = record { table = q.table; place = q.place; number = q.number; olds = q.olds; before = q.before; made = q.made; limits = q.limits }

  -- a pass that has made no further entry has used up no more
  pub counts_again : (s t : SeatView T E K) (plan plan' : List LockMode) (number used : ℕ) → KeepsCount uses s plan number used → IsSeatAgain s t
      → mine_of t ≡ mine_of s → length (seen_of t) ≤ (limits_of t).journal_max → length (mine_of t) ≤ length (seen_of t) → has_journal t ≡ false
      → AreHeld plan' 64 t.me.0.at.holds → KeepsCount uses t plan' number used
  counts_again s t plan plan' number used keeps same mine few own no_journal held =
      let long : length (mine_of t) ≡ length (mine_of s) = ap (λ (z : List E). length z) mine in
      record {
        number = same.number ∙ keeps.number;
        small = keeps.small;
        no_journal = no_journal;
        held = held;
        within = subst (λ (z : LimitNumbers). AreWithin z) (sym same.limits) keeps.within;
        few = few;
        own = own;
        used = keeps.used ∙ sym (ap (λ (z : List E). sum_by uses z) mine);
        light = (let l = keeps.light in omega (arith, l, long));
      }

  pub counts_same : (s t : SeatView T E K) (plan plan' : List LockMode) (number used : ℕ) → KeepsCount uses s plan number used → IsSameSeat s t
      → seen_of t ≡ seen_of s → mine_of t ≡ mine_of s → has_journal t ≡ false → AreHeld plan' 64 t.me.0.at.holds → KeepsCount uses t plan' number used
  counts_same s t plan plan' number used keeps same seen mine no_journal held =
      let long : length (seen_of t) ≡ length (seen_of s) = ap (λ (z : List E). length z) seen in
      let own : length (mine_of t) ≡ length (mine_of s) = ap (λ (z : List E). length z) mine in
      let most : (limits_of t).journal_max ≡ (limits_of s).journal_max = ap (λ (z : LimitNumbers). z.journal_max) same.limits in
      let few = keeps.few in
      let less = keeps.own in
      counts_again s t plan plan' number used keeps (seat_again s t same) mine (omega (arith, few, long, most)) (omega (arith, less, long, own)) no_journal held

  -- a pass that has made one entry more has used up its ids too
  pub counts_more : (s t : SeatView T E K) (plan : List LockMode) (number used : ℕ) (e : E) → KeepsCount uses s plan number used → IsSeatAgain s t
      → mine_of t ≡ mine_of s ++ e ∷ [] → length (seen_of t) ≤ (limits_of t).journal_max → length (mine_of t) ≤ length (seen_of t) → HoldsNothing t
      → uses e ≤ 255 → KeepsCount uses t no_plan number (used + uses e)
  counts_more s t plan number used e keeps same mine few own nothing small =
      let long : length (mine_of t) ≡ length (mine_of s) + 1 = ap (λ (z : List E). length z) mine ∙ length-append (mine_of s) (e ∷ []) in
      let light = keeps.light in
      let sum : sum_by uses (mine_of t) ≡ sum_by uses (mine_of s) + sum_by uses (e ∷ []) = ap (λ (z : List E). sum_by uses z) mine ∙ sum_by-append uses (mine_of s) (e ∷ []) in
      let was = keeps.used in
      record {
        number = same.number ∙ keeps.number;
        small = keeps.small;
        no_journal = nothing.idle.no_journal;
        held = nothing_held t nothing;
        within = subst (λ (z : LimitNumbers). AreWithin z) (sym same.limits) keeps.within;
        few = few;
        own = own;
        used = omega (arith, was, sum);
        light = omega (arith, light, long, small);
      }
