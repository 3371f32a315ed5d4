-- What a seat holds: stripes, their parts, and their slots.
use Rattle.std.specs.Prelude.{◌≡◌, ◌≢◌, ℕ, zero, suc, ◌<◌, ◌≤◌, List, [], ◌∷◌, length, slice_get}
use Rattle.std.specs.Prelude as std
use Rattle.lock_core.specs.declared.object.LockMode.{LockMode}
use Rattle.lock_core.specs.declared.object.LockMode.TheVariants as mode
use Rattle.lock_core.specs.declared.machine.Hold.{Hold}
use Rattle.lock_core.specs.declared.machine.Hold.TheVariants.{Free, Shared, Looked, Exclusive}
use Rattle.lock_core.specs.Object.{Object}
use Rattle.lock_core.specs.Machine.{hold_at, HeldIn}
use Rattle.atomic_table.specs.Table.{Me}
use Rattle.atomic_table.specs.Seated.{TableId}
use Rattle.path_locks.specs.declared.rule.Slot.{Slot}
use Rattle.path_locks.specs.declared.rule.Slot.TheVariants.{Empty}
use Rattle.path_locks.specs.declared.rule.View.{View}
use Rattle.path_locks.specs.Plays.{IsQuiet, with_at}
use Rattle.path_locks.specs.Stands.{Stands}

-- a table of locks has 129 words and 65 slots
pub record IsSized (id : TableId) : Type 0 where
  pub words : id.words ≡ 129
  pub slots : id.slots ≡ 65

module _ {T : Type 0} where
  -- the part that is with who holds the stripe so
  abbrev pub part_out : Hold T → std.Option T
  part_out Free = std.None
  part_out Shared = std.None
  part_out (Looked x) = std.None
  part_out (Exclusive x) = std.Some x

  -- a part, if there is one, without what a reserve keeps ready
  abbrev pub bared : (T → T) → std.Option T → std.Option T
  bared bare std.None = std.None
  bared bare (std.Some y) = std.Some (bare y)

  -- of 64 places, each has the part of its stripe where that is held exclusively, and nothing where it isn't
  abbrev pub AreOut : (T → T) → List (Hold T) → List (std.Option T) → Type 0
  AreOut bare holds parts = (k : ℕ) → k < 64 → (q : std.Option T) × (slice_get parts k ≡ std.Some q) × (bared bare q ≡ part_out (hold_at holds k))

module _ {T E : Type 0} where
  module _ {K : Type 0} where
    -- a slot is in hand, empty, where its stripe is held exclusively
    abbrev pub with_empty : ℕ → Hold T → List (ℕ × Slot T E K) → List (ℕ × Slot T E K)
    with_empty k Free hand = hand
    with_empty k Shared hand = hand
    with_empty k (Looked x) hand = hand
    with_empty k (Exclusive x) hand = (k, Empty) ∷ hand

    -- the slots in hand of stripes below n, the last one first
    abbrev pub empties : ℕ → List (Hold T) → List (ℕ × Slot T E K)
    empties zero holds = []
    empties (suc n) holds = with_empty n (hold_at holds n) (empties n holds)

  -- a view with other holds
  abbrev pub reheld : View T E → List (Hold T) → View T E
  reheld v holds = with_at v (record {
    live = v.at.live;
    number = v.at.number;
    holds = holds;
    latch = v.at.latch;
    journal = v.at.journal;
    seen = v.at.seen;
    mine = v.at.mine;
    olds = v.at.olds;
  })

  -- a view is another one but for its holds
  abbrev pub IsReheld : View T E → View T E → Type 0
  IsReheld v w = w ≡ reheld v w.at.holds

  -- one stripe is held in this mode from now on, and the view is else the same
  pub record HeldAnew (s : ℕ) (m : LockMode) (v w : View T E) : Type 0 where
    pub same : IsReheld v w
    pub there : HeldIn m (hold_at w.at.holds s)
    pub others : (k : ℕ) → k ≢ s → hold_at w.at.holds k ≡ hold_at v.at.holds k

-- a seat holds stripes below n alone: their parts are out and their slots in hand
pub record HoldsBelow {T E R K : Type 0} (o : Object T E R) (bare : T → T) (n : ℕ) (me : Me (Slot T E K) (View T E)) (parts : List (std.Option T)) : Type 0 where
  pub quiet : IsQuiet me.0.at
  pub above : (k : ℕ) → n ≤ k → HeldIn mode.None (hold_at me.0.at.holds k)
  pub hand_is : me.1 ≡ empties n me.0.at.holds
  pub room : length parts ≡ 64
  pub out : AreOut bare me.0.at.holds parts
  pub stands : Stands o me.0.at
