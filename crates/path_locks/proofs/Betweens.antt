-- A seat is between two calls where it holds nothing, and where it holds stripes.
use Rattle.std.proofs.Common.{◌≡◌, ℕ, zero, suc, Bool, List, [], refl, ap, sym, ◌∙◌, arith}
use Rattle.std.specs.Prelude as std
use Rattle.lock_core.specs.declared.object.LockMode.TheVariants as mode
use Rattle.lock_core.specs.declared.machine.Hold.{Hold}
use Rattle.lock_core.specs.Object.{Object}
use Rattle.lock_core.specs.Machine.{hold_at, HeldIn, IsIdle}
use Rattle.lock_core.proofs.Join.{free_is}
use Rattle.atomic_table.specs.Table.{Me}
use Rattle.path_locks.specs.declared.rule.Slot.{Slot}
use Rattle.path_locks.specs.declared.rule.View.{View}
use Rattle.path_locks.specs.Stands.{Stands}
use Rattle.path_locks.specs.Holding.{with_empty, empties, HoldsBelow}
use Rattle.path_locks.specs.Views.{SeatView, HeldView, with_book, IsHeldBy}
use Rattle.path_locks.specs.Between.{IsBetween}

module _ {T E K : Type 0} where
  none_in_hand : (n : ℕ) (hs : List (Hold T)) → ((k : ℕ) → HeldIn mode.None (hold_at hs k)) → empties {T = T} {E = E} {K = K} n hs ≡ []
  none_in_hand zero hs h = refl
  none_in_hand (suc n) hs h =
      let free = free_is (hold_at hs n) (h n) in
      ap (λ (z : Hold T). with_empty {T = T} {E = E} {K = K} n z (empties n hs)) free ∙ none_in_hand n hs h

module _ {T E R K : Type 0} (o : Object T E R) where
  pub between_idle : (me : Me (Slot T E K) (View T E)) → Stands o me.0.at → IsIdle me.0.at → me.1 ≡ [] → IsBetween o me
  between_idle me stands idle none = record {
    stands = stands;
    no_latch = idle.no_latch;
    slots = none ∙ sym (ap (λ (b : Bool). with_book b (empties 64 me.0.at.holds)) idle.no_journal ∙ none_in_hand 64 me.0.at.holds idle.no_hold);
  }

  module _ (bare : T → T) where
    pub between_none : (me : Me (Slot T E K) (View T E)) (parts : List (std.Option T)) → HoldsBelow o bare 0 me parts → IsBetween o me
    between_none me parts b =
        between_idle me b.stands (record { no_hold = λ k. b.above k (omega arith); no_latch = b.quiet.no_latch; no_journal = b.quiet.no_journal }) b.hand_is

    pub between_held : (me : Me (Slot T E K) (View T E)) (parts : List (std.Option T)) → HoldsBelow o bare 64 me parts → IsBetween o me
    between_held me parts b = record {
      stands = b.stands;
      no_latch = b.quiet.no_latch;
      slots = b.hand_is ∙ sym (ap (λ (c : Bool). with_book c (empties 64 me.0.at.holds)) b.quiet.no_journal);
    }

    pub between_all : (s : SeatView T E K) (h : HeldView T) → IsHeldBy bare s h → Stands o s.me.0.at → IsBetween o s.me
    between_all s h held stands = record { stands = stands; no_latch = held.no_latch; slots = held.slots }
