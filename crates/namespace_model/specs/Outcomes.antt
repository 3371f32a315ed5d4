-- What comes of a step: the paths that it reads and writes, the paths of new nodes from the top, the reply, and the effect. Nothing of
-- it depends on the number that the entry will have: the reply and the nodes that are put have a slot for it.
use Rattle.std.specs.Prelude.{List, [], ◌∷◌, ◌++◌, filter, not, Option, Some, None}
use Rattle.std.specs.Ordering.{eq_by_cmp}
use Rattle.path_text.specs.Paths.{path_cmp}
use Rattle.namespace_model.specs.declared.reply.Reply.{Reply}
use Rattle.namespace_model.specs.declared.code.Code.{Code}
use Rattle.namespace_model.specs.Nodes.{Node}
use Rattle.namespace_model.specs.Trees.{Path}
use Rattle.namespace_model.specs.Effects.{Effect, Put, nothing}
use Rattle.namespace_model.specs.Replies.{refusal}

pub record Outcome : Type 0 where
  pub read : List Path
  pub written : List Path
  pub fresh : List Path
  pub reply : Reply
  pub effect : Effect

abbrev pub touched : Outcome → List Path
touched o = o.read ++ o.written

-- It ends with a reply here, and nothing changes.
abbrev pub answered : Reply → Outcome
answered reply = record { read = []; written = []; fresh = []; reply = reply; effect = nothing }

abbrev pub refused : Code → Outcome
refused code = answered (refusal code)

-- These paths are read, and then it goes on.
abbrev pub reading : List Path → Outcome → Outcome
reading ps o = record o { read = ps ++ o.read }

-- It goes on, unless it is refused here.
abbrev pub unless : Option Reply → Outcome → Outcome
unless None o = o
unless (Some reply) o = answered reply

-- The node of a path is read where it is there. Then it goes on with it, and else as for a node that is missing.
abbrev pub noted : Option Node → Path → Outcome → (Node → Outcome) → Outcome
noted None p none some = none
noted (Some x) p none some = reading (p ∷ []) (some x)

-- One node is put in its own place, with a reply.
abbrev pub edited : Path → Put → Reply → Outcome
edited p put reply = record {
  read = [];
  written = p ∷ [];
  fresh = [];
  reply = reply;
  effect = record { taken = []; puts = (p, put) ∷ []; move = None };
}

-- each path once, where it stands first
abbrev pub once : List Path → List Path
once [] = []
once (p ∷ ps) = p ∷ filter (λ q. not (eq_by_cmp path_cmp q p)) (once ps)

-- the paths that are read and those that are written, each once
abbrev pub without_repeats : Outcome → Outcome
without_repeats o = record o { read = once o.read; written = once o.written }
