-- What a receipt tells of the stripes of its commit.
use Rattle.std.specs.Prelude.{◌≡◌, ◌↔◌, ℕ, ◌<◌, true, false, List}
use Rattle.std.specs.Int.{bit_at}
use Rattle.lock_core.specs.declared.object.LockMode.TheVariants as mode
use Rattle.lock_core.specs.declared.machine.Hold.{Hold}
use Rattle.lock_core.specs.Object.{Object}
use Rattle.lock_core.specs.Machine.{hold_at, HeldIn}
use Rattle.striped_store.specs.declared.receipt.Receipt.{Receipt}

-- bit s of a number is set exactly where stripe s is so
abbrev pub AreBits : ℕ → (ℕ → Type 0) → Type 0
AreBits n so = (k : ℕ) → k < 64 → ((bit_at n k ≡ 1) ↔ so k)

-- the stripes were held so
pub record TellsHolds {T : Type 0} (holds : List (Hold T)) (r : Receipt) : Type 0 where
  pub shared : AreBits r.shared (λ k. HeldIn mode.Shared (hold_at holds k))
  pub exclusive : AreBits r.exclusive (λ k. HeldIn mode.Exclusive (hold_at holds k))

-- on these parts the entry with this number writes the stripes that were held exclusively, and of the others reads those that
-- were held shared
pub record TellsFootprint {T E R : Type 0} (o : Object T E R) (parts : List T) (e : E) (r : Receipt) : Type 0 where
  pub writes : AreBits r.exclusive (λ k. o.writes parts e r.number k ≡ true)
  pub reads : AreBits r.shared (λ k. (o.writes parts e r.number k ≡ false) × (o.reads parts e r.number k ≡ true))
