-- What a receipt tells of the stripes that were held is the footprint of its entry on the replay.
use Rattle.std.proofs.Common.{◌≡◌, ℕ, ◌<◌, Bool, true, false, List, length, slice_get, Some, refl, ap, sym, ◌∙◌, subst, true≢false, arith}
use Rattle.lock_core.specs.declared.object.LockMode.{LockMode}
use Rattle.lock_core.specs.declared.object.LockMode.TheVariants as mode
use Rattle.lock_core.specs.declared.machine.Hold.{Hold}
use Rattle.lock_core.specs.declared.machine.Hold.TheVariants.{Free, Shared, Looked, Exclusive}
use Rattle.lock_core.specs.Object.{Object, Agrees, SameOn, IsLawful, mode_of, replay}
use Rattle.lock_core.specs.Machine.{hold_at, notes, HeldIn}
use Rattle.lock_core.proofs.Columns.{length-replay}
use Rattle.lock_core.proofs.Commit.{length-notes_or, note_there, held_is_noted}
use Rattle.path_locks.specs.Plans.{AreHeld}
use Rattle.path_locks.specs.Views.{SeatView}
use Rattle.striped_store.specs.declared.receipt.Receipt.{Receipt}
use Rattle.striped_store.specs.Commits.{CanCommit, ArePartsOf}
use Rattle.striped_store.specs.Receipts.{AreBits, TellsHolds, TellsFootprint}
use lib.ListN.{get_elem?}

module _ {T : Type 0} where
  abbrev mode_in : Hold T → LockMode
  mode_in Free = mode.None
  mode_in Shared = mode.Shared
  mode_in (Looked x) = mode.Shared
  mode_in (Exclusive x) = mode.Exclusive

  mode_is : (m : LockMode) (h : Hold T) → HeldIn m h → m ≡ mode_in h
  mode_is mode.None Free t = refl
  mode_is mode.None Shared t = absurd t
  mode_is mode.None (Looked x) t = absurd t
  mode_is mode.None (Exclusive x) t = absurd t
  mode_is mode.Shared Free t = absurd t
  mode_is mode.Shared Shared t = refl
  mode_is mode.Shared (Looked x) t = refl
  mode_is mode.Shared (Exclusive x) t = absurd t
  mode_is mode.Exclusive Free t = absurd t
  mode_is mode.Exclusive Shared t = absurd t
  mode_is mode.Exclusive (Looked x) t = absurd t
  mode_is mode.Exclusive (Exclusive x) t = refl

  -- a stripe is held in one mode
  pub same_mode : (m n : LockMode) (h : Hold T) → HeldIn m h → HeldIn n h → m ≡ n
  same_mode m n h a b = mode_is m h a ∙ sym (mode_is n h b)

  -- the stripes that a plan has in a mode are those that are held so, where what is held is the plan
  pub bits_of_holds : (plan : List LockMode) (holds : List (Hold T)) (m : LockMode) (n : ℕ) → AreHeld plan 64 holds
      → ((k : ℕ) → k < 64 → (d : LockMode) × (slice_get plan k ≡ Some d)) → AreBits n (λ k. slice_get plan k ≡ Some m)
      → AreBits n (λ k. HeldIn m (hold_at holds k))
  bits_of_holds plan holds m n held whole bits k h = (
    λ b. held k m h ((bits k h).0 b),
    λ t. let d = whole k h in
        (bits k h).1 (d.1 ∙ ap (λ (z : LockMode). Some z) (same_mode d.0 m (hold_at holds k) (held k d.0 h d.1) t)),
  )

pub some_read : (w r : Bool) → r ≡ true → mode_of w r ≡ mode.None → ⊥
some_read true r e n = cc
some_read false true e n = cc
some_read false false e n = true≢false (sym e)

some_written : (w r : Bool) → w ≡ true → mode_of w r ≡ mode.None → ⊥
some_written true r e n = cc
some_written false r e n = true≢false (sym e)

written : (w r : Bool) → mode_of w r ≡ mode.Exclusive → w ≡ true
written true r e = refl
written false true e = cc
written false false e = cc

only_read : (w r : Bool) → mode_of w r ≡ mode.Shared → (w ≡ false) × (r ≡ true)
only_read true r e = cc
only_read false true e = (refl, refl)
only_read false false e = cc

shared_mode : (w r : Bool) → w ≡ false → r ≡ true → mode_of w r ≡ mode.Shared
shared_mode w r e f = ap (λ (z : Bool). mode_of z r) e ∙ ap (λ (z : Bool). mode_of false z) f

module _ {T E R K : Type 0} (o : Object T E R) (lawful : IsLawful o) (s : SeatView T E K) (e : E) (h : List E) (can : CanCommit o s e)
    (parts : ArePartsOf o h s) where
  wide_notes : length (notes o s.me.0.at) ≡ 64
  wide_notes = length-notes_or o.opening s.me.0.at.holds ∙ lawful.opens

  there : (n k : ℕ) → k < 64 → (mode_of (o.writes (notes o s.me.0.at) e n k) (o.reads (notes o s.me.0.at) e n k) ≡ mode.None → ⊥)
      → get_elem? (notes o s.me.0.at) k ≡ get_elem? (replay o h) k
  there n k l some_mode =
      let t = held_is_noted _ (hold_at s.me.0.at.holds k) (can.footprint n k l) (can.looked k) some_mode in
      let within : k < length o.opening = (let q = lawful.opens in omega arith) in
      note_there o.opening s.me.0.at.holds k t.0 within t.1 ∙ sym (parts k t.0 l t.1)

  agree : (n : ℕ) → Agrees o (notes o s.me.0.at) (replay o h) e n
  agree n k l = (λ r. there n k l (some_read _ _ r), λ w. there n k l (some_written _ _ w))

  same : (n : ℕ) → SameOn o (notes o s.me.0.at) (replay o h) e n
  same n = lawful.frame _ _ e n wide_notes (length-replay o lawful h) (agree n)

  pub tells_footprint : (r : Receipt) → TellsHolds s.me.0.at.holds r → TellsFootprint o (replay o h) e r
  tells_footprint r tells = record {
    writes = λ k l.
        let w = o.writes (notes o s.me.0.at) e r.number k in
        let d = o.reads (notes o s.me.0.at) e r.number k in
        let held : HeldIn (mode_of w d) (hold_at s.me.0.at.holds k) = can.footprint r.number k l in (
          λ b. sym ((same r.number).writes k l) ∙ written w d (same_mode (mode_of w d) mode.Exclusive _ held ((tells.exclusive k l).0 b)),
          λ q. (tells.exclusive k l).1
              (subst (λ (z : LockMode). HeldIn z (hold_at s.me.0.at.holds k)) (ap (λ (z : Bool). mode_of z d) ((same r.number).writes k l ∙ q)) held),
        );
    reads = λ k l.
        let w = o.writes (notes o s.me.0.at) e r.number k in
        let d = o.reads (notes o s.me.0.at) e r.number k in
        let held : HeldIn (mode_of w d) (hold_at s.me.0.at.holds k) = can.footprint r.number k l in (
          λ b. let t = only_read w d (same_mode (mode_of w d) mode.Shared _ held ((tells.shared k l).0 b)) in
              (sym ((same r.number).writes k l) ∙ t.0, sym ((same r.number).reads k l) ∙ t.1),
          λ q. (tells.shared k l).1
              (subst (λ (z : LockMode). HeldIn z (hold_at s.me.0.at.holds k))
              (shared_mode w d ((same r.number).writes k l ∙ q.0) ((same r.number).reads k l ∙ q.1)) held),
        );
  }
