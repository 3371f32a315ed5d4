-- What calls on one node have in common: the way to it, and the node.
use Rattle.namespace_model.specs.declared.code.Code.TheVariants.{PathNotFound}
use Rattle.namespace_model.specs.declared.request.Entry.{Entry}
use Rattle.namespace_model.specs.Nodes.{Node}
use Rattle.namespace_model.specs.Trees.{Path, Tree, at}
use Rattle.namespace_model.specs.Outcomes.{Outcome, refused, noted}
use Rattle.namespace_model.specs.Refusals.{caller_of}
use Rattle.namespace_model.specs.Walks.{walk_to, missing_code}

-- The way to a node, the node, and what comes then.
abbrev pub found : Tree → Entry → Path → (Node → Outcome) → Outcome
found t e p some =
    walk_to t (caller_of e) PathNotFound p
    (noted (at t p) p (refused (missing_code p PathNotFound)) some)
