-- A step that refuses changes nothing.
use Rattle.std.specs.Prelude.{◌≡◌, [], IsSome}
use Rattle.namespace_model.specs.Effects.{nothing}
use Rattle.namespace_model.specs.Outcomes.{Outcome}

-- no path is written, none is new, and the tree stays
pub record ChangesNothing (o : Outcome) : Type 0 where
  pub written : o.written ≡ []
  pub fresh : o.fresh ≡ []
  pub effect : o.effect ≡ nothing

-- a reply with a code comes from a step that changes nothing
abbrev pub IsQuiet : Outcome → Type 0
IsQuiet o = IsSome o.reply.code → ChangesNothing o
