-- What holds of each outcome that a step can come to.
use Rattle.std.proofs.Common.{◌≡◌, Bool, true, false, List, [], ◌∷◌, Option, Some, None, Result, Ok, Err, refl}
use Rattle.lease_state.specs.declared.lease.Lease.{Lease}
use Rattle.lease_state.specs.declared.lease.LeaseFault.{LeaseFault}
use Rattle.namespace_model.specs.declared.caller.Caller.{Caller}
use Rattle.namespace_model.specs.declared.code.Code.{Code}
use Rattle.namespace_model.specs.declared.code.Code.TheVariants.{PathNotFound}
use Rattle.namespace_model.specs.declared.reply.Reply.{Reply}
use Rattle.namespace_model.specs.declared.request.Entry.{Entry}
use Rattle.namespace_model.specs.Nodes.{Node}
use Rattle.namespace_model.specs.Trees.{Path, Tree, at, node_at, parent, IsDirectoryAt}
use Rattle.namespace_model.specs.Replies.{refusal, denial}
use Rattle.namespace_model.specs.Refusals.{caller_of, code_of_fault, refuse_if}
use Rattle.namespace_model.specs.Append.{under_lease}
use Rattle.namespace_model.specs.Outcomes.{Outcome, reading, answered, refused, unless, noted}
use Rattle.namespace_model.specs.Walks.{walk_or, walk, ended, missing_below, missing_code}
use Rattle.namespace_model.specs.Ways.{Way, reached, missing, blocked, closed, way_of, read_on}
use Rattle.namespace_model.specs.Looks.{found}
use Rattle.namespace_model.proofs.WayLemmas.{IsMissing, IsEndOf, way_ends}

-- P holds where a step ends with a reply alone, and stays where paths are read before
module _ (P : Outcome → Type 0) (quiet : (reply : Reply) → P (answered reply)) (read : (ps : List Path) (o : Outcome) → P o → P (reading ps o)) where
  pub unless_has : (x : Option Reply) (o : Outcome) → (x ≡ None → P o) → P (unless x o)
  unless_has None o h = h refl
  unless_has (Some reply) o h = quiet reply

  pub unless_if_has : (b : Bool) (code : Code) (o : Outcome) → (b ≡ false → P o) → P (unless (refuse_if b code) o)
  unless_if_has true code o h = quiet (refusal code)
  unless_if_has false code o h = h refl

  pub under_lease_has : (answer : Result Lease LeaseFault) (next : Lease → Outcome) → ((after : Lease) → P (next after)) → P (under_lease answer next)
  under_lease_has (Err f) next h = quiet (refusal (code_of_fault f))
  under_lease_has (Ok after) next h = h after

  pub noted_has : (u : Option Node) (p : Path) (none : Outcome) (some : Node → Outcome) → (u ≡ None → P none) → ((x : Node) → u ≡ Some x → P (some x)) → P (noted u p none some)
  noted_has None p none some h k = h refl
  noted_has (Some x) p none some h k = read (p ∷ []) (some x) (k x refl)

  -- the end of a way along names: a directory that is there, or a name that is missing below one
  ended_has : (t : Tree) (caller : Caller) (root : IsDirectoryAt t []) (lost : Path → Outcome) (code : Code) (whole : Path) (a : Outcome) → ((d : Path) → IsMissing t whole d → P (lost d)) → (IsDirectoryAt t whole → P a)
      → (w : Way) → IsEndOf t caller whole w → P (ended lost code a w)
  ended_has t caller root lost code whole a none h reached end = h (end root)
  ended_has t caller root lost code whole a none h (missing d) end = none d end
  ended_has t caller root lost code whole a none h (blocked p) end = quiet (refusal code)
  ended_has t caller root lost code whole a none h (closed p r) end = quiet (denial r.rule p 1 r.have)

  -- a walk that goes on with the last directory in two cases
  pub walk_or_has : (t : Tree) (caller : Caller) (lost : Path → Node → Outcome) (code : Code) (p : Path) (next : Node → Outcome) → IsDirectoryAt t []
      → ((d : Path) → IsMissing t (parent p) d → P (lost d (node_at t d))) → (IsDirectoryAt t (parent p) → P (next (node_at t (parent p)))) → P (walk_or t caller lost code p next)
  walk_or_has t caller lost code p next root none h =
      read (read_on t caller p) _
      (ended_has t caller root (λ d. lost d (node_at t d)) code (parent p) (next (node_at t (parent p))) none h (way_of t caller p) (way_ends t caller [] (parent p) (λ here. here)))

  lost_has : (code : Code) (d : Path) → P (missing_below code d)
  lost_has code [] = quiet _
  lost_has code (fs ∷ names) = quiet (refusal code)

  pub walk_has : (t : Tree) (caller : Caller) (code : Code) (p : Path) (next : Node → Outcome) → IsDirectoryAt t [] → (IsDirectoryAt t (parent p) → P (next (node_at t (parent p)))) → P (walk t caller code p next)
  walk_has t caller code p next root h = walk_or_has t caller (λ d dir. missing_below code d) code p next root (λ d none. lost_has code d) h

  pub found_has : (t : Tree) (e : Entry) (p : Path) (some : Node → Outcome) → IsDirectoryAt t [] → ((x : Node) → at t p ≡ Some x → P (some x)) → P (found t e p some)
  found_has t e p some root h =
      walk_has t (caller_of e) PathNotFound p (λ dir. noted (at t p) p (refused (missing_code p PathNotFound)) some) root (λ up. noted_has (at t p) p (refused (missing_code p PathNotFound)) some (λ k. quiet (refusal (missing_code p PathNotFound))) h)
