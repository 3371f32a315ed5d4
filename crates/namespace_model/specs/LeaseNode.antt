-- An action on the lease of a node (Path - Lease of the REST reference).
--
--   1  the way, and the node                             denied (execute), FilesystemNotFound, PathNotFound         found
--   2  write on it                                       denied                                                     lacks
--   3  the conditions                                    ConditionNotMet                                            is_unmet
--   4  the lease table                                   LeaseAlreadyPresent and the other codes of lease actions   lease_act
--   5  the node is put, with its own number and moment   none                                                       lease_put
use Rattle.std.specs.Prelude.{ℕ, ◌+◌, ◌-◌, ◌/◌, List, [], ◌∷◌, ◌++◌, Result, Ok, Err}
use Rattle.lease_state.specs.declared.lease.Lease.{Lease}
use Rattle.lease_state.specs.declared.lease.Lease.TheVariants as lease
use Rattle.lease_state.specs.declared.lease.LeaseAction.{LeaseAction}
use Rattle.lease_state.specs.declared.lease.LeaseAction.TheVariants as action
use Rattle.lease_state.specs.declared.lease.LeaseFault.{LeaseFault}
use Rattle.lease_state.specs.LeaseTable.{lease_act, kept_id}
use Rattle.namespace_model.specs.declared.field.Field.{Field}
use Rattle.namespace_model.specs.declared.field.Field.TheVariants.{LeaseId, LeaseTime}
use Rattle.namespace_model.specs.declared.request.Entry.{Entry}
use Rattle.namespace_model.specs.Nodes.{Node}
use Rattle.namespace_model.specs.Trees.{Path, Tree}
use Rattle.namespace_model.specs.Effects.{keep}
use Rattle.namespace_model.specs.Replies.{success, node_fields}
use Rattle.namespace_model.specs.Access.{write}
use Rattle.namespace_model.specs.Outcomes.{Outcome, edited, refused, unless}
use Rattle.namespace_model.specs.Refusals.{caller_of, lacks, is_unmet, code_of_fault}
use Rattle.namespace_model.specs.Looks.{found}

-- the seconds that a lease still holds once it is broken, rounded up
abbrev pub seconds_left : Lease → ℕ → ℕ
seconds_left lease.Available now = 0
seconds_left (lease.Leased id secs until) now = 0
seconds_left (lease.Breaking id until) now = (until - now + 999) / 1000
seconds_left (lease.Broken id) now = 0

abbrev pub action_status : LeaseAction → ℕ
action_status (action.Acquire id secs) = 201
action_status (action.Renew id) = 200
action_status (action.Change id new) = 200
action_status (action.Release id) = 200
action_status (action.Break period) = 202

-- the id that is held from now on, and for a break the time that is left
abbrev pub action_fields : LeaseAction → Lease → ℕ → List Field
action_fields (action.Acquire id secs) new now = LeaseId (kept_id new) ∷ []
action_fields (action.Renew id) new now = LeaseId (kept_id new) ∷ []
action_fields (action.Change id other) new now = LeaseId (kept_id new) ∷ []
action_fields (action.Release id) new now = []
action_fields (action.Break period) new now = LeaseTime (seconds_left new now) ∷ []

-- the node keeps its number and moment
abbrev pub lease_put : Entry → Path → LeaseAction → Node → Result Lease LeaseFault → Outcome
lease_put e p a x (Err f) = refused (code_of_fault f)
lease_put e p a x (Ok new) =
    edited p (keep (record x { lease = new })) (success (action_status a) (node_fields x ++ action_fields a new e.moment))

abbrev pub lease_node : Entry → Path → LeaseAction → Node → Outcome
lease_node e p a x =
    unless (lacks (caller_of e) write p x)
    (unless (is_unmet e x)
    (lease_put e p a x (lease_act x.lease a e.moment)))

unfoldable pub act_on_lease : Tree → Entry → Path → LeaseAction → Outcome
act_on_lease t e p a = found t e p (lease_node e p a)
