-- The notes of a seat are the replay of the machine's journal, and what one step allows is what another one does.
use Rattle.std.proofs.Common.{◌≡◌, ℕ, ◌<◌, true, List, ap, ◌∙◌}
use Rattle.lock_core.specs.declared.machine.Sitting.{Sitting}
use Rattle.lock_core.specs.Object.{Object, replay}
use Rattle.lock_core.specs.Machine.{LockState, seat_at, hold_at, note_of}
use Rattle.lock_core.specs.Sound.{IsSound}
use Rattle.lock_core.proofs.InWords.{in_words}
use Rattle.atomic_table.specs.Table.{State, Me, Allows}
use mathlib.Core.Option.{some}
use lib.ListN.{get_elem?}

module _ {T E R : Type 0} (o : Object T E R) (h0 : List E) where
  pub notes_at : (m : LockState T E R) → IsSound o h0 m → (j : ℕ) (x : Sitting T E) → seat_at m.seats j ≡ x → x.live ≡ true
      → (k : ℕ) (y : T) → k < 64 → note_of (hold_at x.holds k) ≡ some y → get_elem? (replay o m.journal) k ≡ some y
  notes_at m ok j x e live k y h note =
      let alive : (seat_at m.seats j).live ≡ true = ap (λ (z : Sitting T E). z.live) e ∙ live in
      ((in_words o h0 m ok).notes_are_replay j k alive h).note y (ap (λ (z : Sitting T E). note_of (hold_at z.holds k)) e ∙ note)

module _ {S V : Type 0} where
  -- what a step tells may be told in other words
  pub allows_else : (holds : State S V → Type 0) (slots id : ℕ) (me : Me S V) (i : ℕ) (f : ℕ → ℕ) (told else : ℕ → Me S V → Type 0)
      → ((n : ℕ) (me' : Me S V) → told n me' → else n me') → Allows holds slots id me i f told → Allows holds slots id me i f else
  allows_else holds slots id me i f told else more allows t ruled long here small =
      let a = allows t ruled long here small in
      (a.0, a.1, a.2, a.3, more _ _ a.4)
