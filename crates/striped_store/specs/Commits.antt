-- What a commit needs, and what it does.
use Rattle.std.specs.Prelude.{◌≡◌, ℕ, ◌<◌, List, [], ◌∷◌, ◌++◌}
use Rattle.lock_core.specs.Object.{Object, replay}
use Rattle.lock_core.specs.Machine.{hold_at, note_of, IsNoted, IsFootprint, MayMake}
use Rattle.lock_core.specs.Sound.{StartsWith}
use Rattle.path_locks.specs.Views.{SeatView, HeldView, IsHeldBy}
use Rattle.path_locks.specs.Working.{AreSameParts}
use mathlib.Core.Option.{some}
use lib.ListN.{get_elem?}

-- the seat of a pass may commit the entry, whatever its number will be: it has looked at every stripe that it holds, what it holds
-- is the footprint of the entry, and the entry is by the pass and fits
pub record CanCommit {T E R K : Type 0} (o : Object T E R) (s : SeatView T E K) (e : E) : Type 0 where
  pub looked : (k : ℕ) → IsNoted (hold_at s.me.0.at.holds k)
  pub footprint : (n : ℕ) → IsFootprint o s.me.0.at e n
  pub fits : MayMake o s.me.0.at e

-- a journal has grown, and ends with this entry
pub record GrewBy {E : Type 0} (e : E) (old new : List E) : Type 0 where
  pub before : List E
  pub begins : StartsWith before old
  pub ends : new ≡ before ++ e ∷ []

-- each part that was found is that of the replay of a journal
abbrev pub ArePartsOf : {T E R K : Type 0} → Object T E R → List E → SeatView T E K → Type 0
ArePartsOf {T} o h s = (k : ℕ) (x : T) → k < 64 → note_of (hold_at s.me.0.at.holds k) ≡ some x → get_elem? (replay o h) k ≡ some x

-- what was held is handed back as it was: the same stripes in the same modes, with the same parts, all looked at that were
pub record IsHandedBack {T E K : Type 0} (bare : T → T) (s : SeatView T E K) (held : HeldView T) (t : SeatView T E K) (back : HeldView T) : Type 0 where
  pub held_again : IsHeldBy bare t back
  pub modes : back.modes ≡ held.modes
  pub parts : AreSameParts bare held.parts back.parts
  pub wide : back.wide ≡ held.wide
  pub holds : t.me.0.at.holds ≡ s.me.0.at.holds
