-- Replace the properties of a node (Path - Update with action=setProperties of the REST reference).
--
--   1  the way, and the node      denied (execute), FilesystemNotFound, PathNotFound   found
--   2  write on it                denied                                               lacks
--   3  the conditions             ConditionNotMet                                      is_unmet
--   4  the lease                  LeaseIdMissing and the other codes of writes         lease_refuses
--   5  the node is put, stamped   none                                                 properties_set
use Rattle.std.specs.Prelude.{ℕ, List}
use Rattle.lease_state.specs.LeaseTable.{lease_after_write}
use Rattle.namespace_model.specs.declared.request.Entry.{Entry}
use Rattle.namespace_model.specs.Nodes.{Node}
use Rattle.namespace_model.specs.Trees.{Path, Tree}
use Rattle.namespace_model.specs.Effects.{stamp}
use Rattle.namespace_model.specs.Replies.{success, stamp_fields}
use Rattle.namespace_model.specs.Access.{write}
use Rattle.namespace_model.specs.Outcomes.{Outcome, edited, unless}
use Rattle.namespace_model.specs.Refusals.{caller_of, lacks, is_unmet, lease_refuses}
use Rattle.namespace_model.specs.Looks.{found}

abbrev pub properties_set : Entry → Path → List (List ℕ × List ℕ) → Node → Outcome
properties_set e p props x =
    edited p (stamp e.moment (record x { props = props; lease = lease_after_write x.lease e.moment })) (success 200 (stamp_fields e.moment))

abbrev pub set_properties_of : Entry → Path → List (List ℕ × List ℕ) → Node → Outcome
set_properties_of e p props x =
    unless (lacks (caller_of e) write p x)
    (unless (is_unmet e x)
    (unless (lease_refuses e e.request.lease x)
    (properties_set e p props x)))

unfoldable pub set_properties : Tree → Entry → Path → List (List ℕ × List ℕ) → Outcome
set_properties t e p props = found t e p (set_properties_of e p props)
