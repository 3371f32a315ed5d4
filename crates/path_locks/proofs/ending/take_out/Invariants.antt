use Rattle.std.proofs.Common.{◌≡◌, ℕ, ◌<◌, ◌≤◌, false, length, slice_get, Some, get_or}
use Rattle.std.specs.Vec.{vec_capacity}
use Rattle.std.specs.Slots.{slots_items, slots_filled, slots_len}
use Rattle.std.specs.Slots.Ownership.{Filled}
use Rattle.path_locks.specs.declared.rule.Slot.TheVariants.{Part}
use mathlib.Core.Option.{some}
use lib.ListN.{get_elem?}
use Rattle.path_locks.proofs.ending.take_out.Given as goal

abbrev pub invariant-loop-stripe : goal.invariant-loop-stripe
invariant-loop-stripe g l = record {
  items : slots_items l.closed.slots ≡ slots_items l.fn.closed.slots;
  size : slots_len l.closed.slots ≡ 65;
  filled : Filled (slots_filled l.closed.slots) l.stripe 65;
  emptied : (k : ℕ) → k < l.stripe → get_or (slots_filled l.closed.slots) k false ≡ false;
  room : 64 ≤ vec_capacity l.parts;
  long : length l.parts.items ≡ l.stripe;
  taken : (k : ℕ) (y : g.row.P-Part.Denot) → k < l.stripe → get_elem? (slots_items l.fn.closed.slots) k ≡ some (Part y) → slice_get l.parts.items k ≡ Some y;
}
