-- What the pure machine's fields mean.
use Rattle.std.specs.Prelude.{◌≡◌, [], map}
use Rattle.lock_core.specs.declared.pure_core.Core.TheInside.{Inside}
use Rattle.lock_core.specs.Object.{Object, replay}
use Rattle.lock_core.specs.Machine.{LockState}
use Rattle.lock_core.specs.Sound.{IsSound}
use Rattle.lock_core.specs.Marks.{row_sketch, sketch, state_of}

module _ {P E R T W : Type 0} (o : Object T E R) (bare : T → T) where
  abbrev pub shown : Inside P E R T W → LockState T E R
  shown c = state_of o c.words.items (map bare c.parts.items) c.journal.items c.replies.items c.rows.items

  pub record IsCore (c : Inside P E R T W) : Type 0 where
    pub parts : map bare c.parts.items ≡ replay o c.journal.items
    pub sound : IsSound o [] (shown c)
    pub sketched : map row_sketch c.rows.items ≡ map sketch (shown c).seats
