-- What a seat holds stays held while it takes the journal and gives it back.
use Rattle.std.proofs.Common.{◌≡◌, Bool, false, List, [], ap, sym, ◌∙◌, subst}
use Rattle.lock_core.specs.declared.object.LockMode.TheVariants as mode
use Rattle.lock_core.specs.declared.machine.Hold.{Hold}
use Rattle.lock_core.specs.Machine.{hold_at, HeldIn}
use Rattle.path_locks.specs.Plans.{AreHeld}
use Rattle.path_locks.specs.Holding.{AreOut, empties}
use Rattle.path_locks.specs.Views.{SeatView, HeldView, has_journal, with_book, HoldsNothing, IsHeldBy}
use Rattle.path_locks.specs.Alike.{HoldsAlike}

module _ {T E K : Type 0} where
  pub alike_held : (bare : T → T) (s t : SeatView T E K) (h : HeldView T) → HoldsAlike s t → IsHeldBy bare s h → IsHeldBy bare t h
  alike_held bare s t h a held = record {
    no_latch = a.latch ∙ held.no_latch;
    modes = subst (λ (z : List (Hold T)). AreHeld h.modes 64 z) (sym a.holds) held.modes;
    slots = a.slots (empties 64 s.me.0.at.holds) held.slots ∙ ap (λ (z : List (Hold T)). with_book (has_journal t) (empties 64 z)) (sym a.holds);
    long = held.long;
    parts = subst (λ (z : List (Hold T)). AreOut bare z h.parts) (sym a.holds) held.parts;
  }

  -- a seat that held nothing holds nothing again, once it has given the journal back
  pub alike_nothing : (s t u : SeatView T E K) → HoldsNothing s → HoldsAlike s t → HoldsAlike t u → has_journal u ≡ false → HoldsNothing u
  alike_nothing s t u n a b none = record {
    idle = record {
      no_hold = λ k. subst (λ (z : List (Hold T)). HeldIn mode.None (hold_at z k)) (sym (b.holds ∙ a.holds)) (n.idle.no_hold k);
      no_latch = b.latch ∙ a.latch ∙ n.idle.no_latch;
      no_journal = none;
    };
    no_slot = b.slots [] (a.slots [] (n.no_slot ∙ ap (λ (z : Bool). with_book z []) (sym n.idle.no_journal))) ∙ ap (λ (z : Bool). with_book z []) none;
    room = b.room ∙ a.room ∙ n.room;
  }
