-- What a step asks before it goes on: each question is answered by a refusal, or by none. docs/MODEL.md has them in words.
use Rattle.std.specs.Prelude.{ℕ, Bool, true, false, List, [], ◌∷◌, Option, Some, None, Result, Ok, Err, unwrap_or}
use Rattle.std.specs.Option.{option_map_or}
use Rattle.head_text.specs.declared.conditions.Unmet.{Unmet}
use Rattle.head_text.specs.declared.conditions.Unmet.TheVariants as unmet
use Rattle.head_text.specs.ConditionsOf.{conditions_of}
use Rattle.lease_state.specs.declared.lease.LeaseFault.{LeaseFault}
use Rattle.lease_state.specs.declared.lease.LeaseFault.TheVariants as fault
use Rattle.lease_state.specs.LeaseTable.{lease_may_write}
use Rattle.namespace_model.specs.declared.caller.Caller.{Caller}
use Rattle.namespace_model.specs.declared.code.Code.{Code}
use Rattle.namespace_model.specs.declared.code.Code.TheVariants as code
use Rattle.namespace_model.specs.declared.denied.Refusal.{Refusal}
use Rattle.namespace_model.specs.declared.denied.Rule.{Rule}
use Rattle.namespace_model.specs.declared.denied.Rule.TheVariants as rule
use Rattle.namespace_model.specs.declared.reply.Reply.{Reply}
use Rattle.namespace_model.specs.declared.request.Entry.{Entry}
use Rattle.namespace_model.specs.Nodes.{Node}
use Rattle.namespace_model.specs.Trees.{Path, Tree, node_at}
use Rattle.namespace_model.specs.Replies.{refusal, not_modified, denial}
use Rattle.namespace_model.specs.Access.{access_check, no_bits, is_superuser, sticky_lets, may_set_access, may_set_owner, may_set_group}

-- who stands for a request without a caller, which is refused before anything is asked
abbrev pub nobody : Caller
nobody = record { id = []; groups = [] }

abbrev pub caller_of : Entry → Caller
caller_of e = unwrap_or e.request.caller nobody

-- the first of two refusals
abbrev pub or_else : Option Reply → Option Reply → Option Reply
or_else None other = other
or_else (Some reply) other = Some reply

-- the first refusal that a question at each of these paths gives
abbrev pub first_refusal : (Path → Node → Option Reply) → Tree → List Path → Option Reply
first_refusal asks t [] = None
first_refusal asks t (p ∷ ps) = or_else (asks p (node_at t p)) (first_refusal asks t ps)

abbrev pub refuse_if : Bool → Code → Option Reply
refuse_if true c = Some (refusal c)
refuse_if false c = None

abbrev pub deny_unless : Bool → Rule → Path → Option Reply
deny_unless true r p = None
deny_unless false r p = Some (denial r p no_bits no_bits)

-- ---- rights

abbrev pub denied_by : Path → ℕ → Result Unit Refusal → Option Reply
denied_by p want (Ok allowed) = None
denied_by p want (Err r) = Some (denial r.rule p want r.have)

-- the caller lacks some of these bits on the node at a path
abbrev pub lacks : Caller → ℕ → Path → Node → Option Reply
lacks caller want p x = denied_by p want (access_check x.acl.access x.owner x.group caller want)

-- the child at a path is guarded by the sticky bit of its directory
abbrev pub is_guarded : Caller → Node → Path → Node → Option Reply
is_guarded caller dir p x = deny_unless (sticky_lets dir.sticky dir.owner x.owner caller) rule.Sticky p

-- a call on filesystems by another one than the superuser
abbrev pub is_no_superuser : Caller → Path → Option Reply
is_no_superuser caller p = deny_unless (is_superuser caller) rule.SuperuserOnly p

-- a caller that may not set the access control list, the owner, the group
abbrev pub may_not_set_access : Caller → Path → Node → Option Reply
may_not_set_access caller p x = deny_unless (may_set_access x.owner caller) rule.AclOwner p

abbrev pub may_not_set_owner : Caller → Path → Node → Option (List ℕ) → Option Reply
may_not_set_owner caller p x None = None
may_not_set_owner caller p x (Some new) = deny_unless (may_set_owner x.owner new caller) rule.UserOwner p

abbrev pub may_not_set_group : Caller → Path → Node → Option (List ℕ) → Option Reply
may_not_set_group caller p x None = None
may_not_set_group caller p x (Some new) = deny_unless (may_set_group x.owner x.group new caller) rule.GroupOwner p

-- ---- conditions

abbrev pub stamps_of : Node → ℕ × ℕ
stamps_of x = (x.number, x.moment)

-- 412 where a request would change something
abbrev pub unmet_for_change : Result Unit Unmet → Option Reply
unmet_for_change (Ok met) = None
unmet_for_change (Err part) = Some (refusal code.ConditionNotMet)

-- 304 for the two conditions by which one asks whether there is anything new, else 412, where a request only looks
abbrev pub unmet_part : Unmet → Reply
unmet_part unmet.Match = refusal code.ConditionNotMet
unmet_part unmet.Unmodified = refusal code.ConditionNotMet
unmet_part unmet.NoneMatch = not_modified
unmet_part unmet.Modified = not_modified

abbrev pub unmet_for_look : Result Unit Unmet → Option Reply
unmet_for_look (Ok met) = None
unmet_for_look (Err part) = Some (unmet_part part)

-- a condition on the node that is there is not met
abbrev pub is_unmet : Entry → Node → Option Reply
is_unmet e x = unmet_for_change (conditions_of e.request.cond (Some (stamps_of x)))

abbrev pub is_unmet_look : Entry → Node → Option Reply
is_unmet_look e x = unmet_for_look (conditions_of e.request.cond (Some (stamps_of x)))

-- a condition is not met where there is no node
abbrev pub is_unmet_without : Entry → Option Reply
is_unmet_without e = unmet_for_change (conditions_of e.request.cond None)

-- If-None-Match is `*`, which is asked where the node is there
abbrev pub exists_already : Entry → Option Reply
exists_already e = refuse_if (option_map_or (λ tags. tags.any) e.request.cond.none false) code.PathAlreadyExists

-- ---- leases

abbrev pub code_of_fault : LeaseFault → Code
code_of_fault fault.LeaseIdMissing = code.LeaseIdMissing
code_of_fault fault.LeaseIdMismatchWithBlobOperation = code.LeaseIdMismatchWithBlobOperation
code_of_fault fault.LeaseLost = code.LeaseLost
code_of_fault fault.LeaseAlreadyPresent = code.LeaseAlreadyPresent
code_of_fault fault.LeaseIdMismatchWithLeaseOperation = code.LeaseIdMismatchWithLeaseOperation
code_of_fault fault.LeaseNotPresentWithLeaseOperation = code.LeaseNotPresentWithLeaseOperation
code_of_fault fault.LeaseIsBreakingAndCannotBeAcquired = code.LeaseIsBreakingAndCannotBeAcquired
code_of_fault fault.LeaseIsBreakingAndCannotBeChanged = code.LeaseIsBreakingAndCannotBeChanged
code_of_fault fault.LeaseIsBrokenAndCannotBeRenewed = code.LeaseIsBrokenAndCannotBeRenewed

abbrev pub refused_by_lease : Result Unit LeaseFault → Option Reply
refused_by_lease (Ok allowed) = None
refused_by_lease (Err f) = Some (refusal (code_of_fault f))

-- the lease of a node does not let this id, or none, write
abbrev pub lease_refuses : Entry → Option ℕ → Node → Option Reply
lease_refuses e given x = refused_by_lease (lease_may_write x.lease given e.moment)
