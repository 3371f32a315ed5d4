-- What comes of a step on one node is answered by replies that can be spelled.
use Rattle.std.proofs.Common.{◌≡◌, ℕ, ◌≤◌, Bool, true, false, not, ◌&&◌, List, [], ◌∷◌, ◌++◌, length, Option, Some, None, Result, Ok, Err, lit≤, lit<, refl}
use Rattle.std.specs.Prelude.{IfSome, nat_le}
use Rattle.lease_state.specs.declared.lease.TheConstants.{LAST_MOMENT}
use Rattle.head_text.specs.declared.range.Range.{Range}
use Rattle.head_text.specs.ConditionsOf.{conditions_of}
use Rattle.lease_state.specs.declared.lease.AppendLease.{AppendLease}
use Rattle.lease_state.specs.declared.lease.AppendLease.TheVariants as append_lease
use Rattle.lease_state.specs.declared.lease.Lease.{Lease}
use Rattle.lease_state.specs.declared.lease.LeaseAction.{LeaseAction}
use Rattle.lease_state.specs.declared.lease.LeaseAction.TheVariants as action
use Rattle.lease_state.specs.declared.lease.LeaseFault.{LeaseFault}
use Rattle.lease_state.specs.LeaseAppends.{lease_act_append}
use Rattle.lease_state.specs.LeaseTable.{lease_act, lease_may_write, kept_id}
use Rattle.file_data.specs.FileRecord.{stage_answer, append_flush_answer, flush_answer}
use Rattle.acl_text.specs.declared.acl.AclPair.{AclPair}
use Rattle.acl_text.specs.declared.acl.AclFault.{AclFault}
use Rattle.acl_text.specs.AclWriting.{acl_text}
use Rattle.namespace_model.specs.declared.code.Code.TheVariants as code
use Rattle.namespace_model.specs.declared.denied.Rule.TheVariants as rule
use Rattle.namespace_model.specs.declared.field.Field.TheVariants.{AcceptRanges, Acl, ContentRange, ContentType, ContentLength, Group, LeaseId, NamespaceEnabled, Owner, ResourceType}
use Rattle.namespace_model.specs.declared.field.Media.TheVariants.{Octets}
use Rattle.namespace_model.specs.declared.op.Kind.TheVariants as kinds
use Rattle.namespace_model.specs.declared.reply.Reply.{Reply}
use Rattle.namespace_model.specs.declared.request.Entry.{Entry}
use Rattle.namespace_model.specs.Access.{access_check, is_superuser, may_set_access, may_set_owner, may_set_group}
use Rattle.namespace_model.specs.Append.{Appending, under_lease, refused_flush_too, flush_fields, append_lease_fields, append_data, append_node, append}
use Rattle.namespace_model.specs.CheckAccess.{checked_on, check_access}
use Rattle.namespace_model.specs.Contents.{data_of}
use Rattle.namespace_model.specs.DeleteFilesystem.{filesystem_gone, delete_filesystem}
use Rattle.namespace_model.specs.Flush.{flushed_to, flush_node, flush}
use Rattle.namespace_model.specs.GetAccess.{access_shown, get_access}
use Rattle.namespace_model.specs.GetFilesystem.{filesystem_shown, get_filesystem}
use Rattle.namespace_model.specs.GetProperties.{length_fields, user_fields, access_fields, properties_shown, properties_of, get_properties}
use Rattle.namespace_model.specs.LeaseNode.{action_status, action_fields, lease_put, act_on_lease}
use Rattle.namespace_model.specs.Nodes.{Node, Content, directory, file, bytes_in, is_directory, kind_of}
use Rattle.namespace_model.specs.Outcomes.{Outcome, refused, reading, unless, noted}
use Rattle.namespace_model.specs.ReadFile.{last_byte, content_fields, part_read, bytes_read, read_node, read_file}
use Rattle.namespace_model.specs.Refusals.{caller_of, refuse_if, lacks, is_no_superuser, is_unmet, is_unmet_look, lease_refuses, may_not_set_access, may_not_set_owner, may_not_set_group, code_of_fault}
use Rattle.namespace_model.specs.Replies.{success, stamp_fields, node_fields, property_fields, lease_fields}
use Rattle.namespace_model.specs.SetAccess.{Setting, has_default, pair_set, access_put, set_access}
use Rattle.namespace_model.specs.SetFilesystem.{filesystem_set, set_filesystem}
use Rattle.namespace_model.specs.SetProperties.{properties_set, set_properties}
use Rattle.namespace_model.specs.Trees.{Path, Tree, at, subtree}
use Rattle.inode_tree.specs.Views.{HasDates}
use Rattle.reply_text.specs.ReplyText.{CanSpell}
use Rattle.reply_text.proofs.Spellable.{AreClosed, closed_none, closed_more, closed_append, closed_properties, closed_lease, stamped_spelled, shown_spelled, plain_spelled}
use Rattle.engine.proofs.FineQuestions.{IsFine, dated, answered_fine, refused_fine, reading_fine, unless_fine, denied_fine, deny_fine, refuse_fine, change_fine, look_fine, lease_fine, staging_fine, flush_fine, noted_fine, found_fine}

-- a body says nothing of whether a reply can be spelled
pub body_spelled : (status : ℕ) (r : Reply) (bytes : List ℕ) → CanSpell r → CanSpell (record r { body = bytes })
body_spelled status r bytes can = record { status = can.status; moments = can.moments; one_open = can.one_open }

-- ---- lines

closed_user : (status : Bool) (x : Node) → AreClosed (user_fields status x)
closed_user true x = closed_none
closed_user false x = closed_properties x.props

closed_length : (c : Content) → AreClosed (length_fields c)
closed_length directory = closed_none
closed_length (file bytes staged) = closed_more (ContentLength (length bytes)) [] tt refl closed_none

closed_access : (x : Node) → AreClosed (access_fields x)
closed_access x = closed_more (Owner x.owner) _ tt refl (closed_more (Group x.group) _ tt refl (closed_more _ [] tt refl closed_none))

module _ (t : Tree) (e : Entry) (timely : e.moment ≤ LAST_MOMENT) (dates : HasDates t) where
  changed_spelled : CanSpell (success 200 (stamp_fields e.moment))
  changed_spelled = stamped_spelled 200 e.moment [] (lit≤ tt, lit< tt) timely closed_none

  lacks_fine : (want : ℕ) (p : Path) (x : Node) → IfSome (lacks (caller_of e) want p x) CanSpell
  lacks_fine want p x = denied_fine p want (access_check x.acl.access x.owner x.group (caller_of e) want)

  met_fine : (x : Node) → IfSome (is_unmet e x) CanSpell
  met_fine x = change_fine (conditions_of e.request.cond (Some (x.number, x.moment)))

  look_met_fine : (x : Node) → IfSome (is_unmet_look e x) CanSpell
  look_met_fine x = look_fine (conditions_of e.request.cond (Some (x.number, x.moment)))

  leased_fine : (given : Option ℕ) (x : Node) → IfSome (lease_refuses e given x) CanSpell
  leased_fine given x = lease_fine (lease_may_write x.lease given e.moment)

  -- ---- properties and access

  shown_fine : (status : Bool) (x : Node) → x.moment ≤ LAST_MOMENT → IsFine (properties_shown e status x)
  shown_fine status x in_time =
      answered_fine _
      (shown_spelled 200 x _ (lit≤ tt, lit< tt) in_time
      (closed_more (ResourceType (kind_of x)) _ tt refl
      (closed_append (access_fields x) _ (closed_access x)
      (closed_append (user_fields status x) _ (closed_user status x) (closed_append (lease_fields x.lease e.moment) _ (closed_lease x.lease e.moment) (closed_length x.content))))))

  pub properties_fine : (p : Path) (status : Bool) → IsFine (get_properties t e p status)
  unfolding get_properties
  properties_fine p status =
      found_fine t e p (properties_of e status) (λ x is. unless_fine (is_unmet_look e x) (properties_shown e status x) (look_met_fine x) (shown_fine status x (dated x.moment (dates p x is))))

  access_shown_fine : (x : Node) → x.moment ≤ LAST_MOMENT → IsFine (access_shown x)
  access_shown_fine x in_time =
      answered_fine _ (shown_spelled 200 x _ (lit≤ tt, lit< tt) in_time (closed_append (access_fields x) _ (closed_access x) (closed_more (Acl (acl_text x.acl)) [] tt refl closed_none)))

  pub access_fine : (p : Path) → IsFine (get_access t e p)
  unfolding get_access
  access_fine p = found_fine t e p _ (λ x is. unless_fine (is_unmet_look e x) (access_shown x) (look_met_fine x) (access_shown_fine x (dated x.moment (dates p x is))))

  pub check_fine : (p : Path) (want : ℕ) → IsFine (check_access t e p want)
  unfolding check_access
  check_fine p want =
      found_fine t e p (checked_on e p want)
      (λ x is. unless_fine (is_unmet_look e x) _ (look_met_fine x) (unless_fine (lacks (caller_of e) want p x) _ (lacks_fine want p x) (answered_fine _ (plain_spelled 200 [] (lit≤ tt, lit< tt) closed_none))))

  pub set_properties_fine : (p : Path) (props : List (List ℕ × List ℕ)) → IsFine (set_properties t e p props)
  unfolding set_properties
  set_properties_fine p props =
      found_fine t e p _
      (λ x is. unless_fine (lacks (caller_of e) 2 p x) _ (lacks_fine 2 p x)
      (unless_fine (is_unmet e x) _ (met_fine x)
      (unless_fine (lease_refuses e e.request.lease x) (properties_set e p props x) (leased_fine e.request.lease x) (record { spelled = changed_spelled }))))

  owner_fine : (p : Path) (x : Node) (owner : Option (List ℕ)) → IfSome (may_not_set_owner (caller_of e) p x owner) CanSpell
  owner_fine p x None = tt
  owner_fine p x (Some new) = deny_fine (may_set_owner x.owner new (caller_of e)) rule.UserOwner p

  group_fine : (p : Path) (x : Node) (group : Option (List ℕ)) → IfSome (may_not_set_group (caller_of e) p x group) CanSpell
  group_fine p x None = tt
  group_fine p x (Some new) = deny_fine (may_set_group x.owner x.group new (caller_of e)) rule.GroupOwner p

  put_fine : (p : Path) (s : Setting) (x : Node) (made : Result AclPair AclFault) → IsFine (access_put e p s x made)
  put_fine p s x (Err f) = refused_fine code.InvalidAcl
  put_fine p s x (Ok pair) = record { spelled = changed_spelled }

  pub set_access_fine : (p : Path) (s : Setting) → IsFine (set_access t e p s)
  unfolding set_access
  set_access_fine p s =
      found_fine t e p _
      (λ x is. unless_fine (may_not_set_access (caller_of e) p x) _ (deny_fine (may_set_access x.owner (caller_of e)) rule.AclOwner p)
      (unless_fine (may_not_set_owner (caller_of e) p x s.owner) _ (owner_fine p x s.owner)
      (unless_fine (may_not_set_group (caller_of e) p x s.group) _ (group_fine p x s.group)
      (unless_fine (is_unmet e x) _ (met_fine x)
      (unless_fine (lease_refuses e e.request.lease x) _ (leased_fine e.request.lease x)
      (unless_fine (refuse_if (not (is_directory x) && has_default s.acl) code.InvalidAcl) (access_put e p s x (pair_set s x.acl)) (refuse_fine (not (is_directory x) && has_default s.acl) code.InvalidAcl)
      (put_fine p s x (pair_set s x.acl))))))))

  -- ---- leases

  closed_action : (a : LeaseAction) (new : Lease) → AreClosed (action_fields a new e.moment)
  closed_action (action.Acquire id secs) new = closed_more (LeaseId (kept_id new)) [] tt refl closed_none
  closed_action (action.Renew id) new = closed_more (LeaseId (kept_id new)) [] tt refl closed_none
  closed_action (action.Change id other) new = closed_more (LeaseId (kept_id new)) [] tt refl closed_none
  closed_action (action.Release id) new = closed_none
  closed_action (action.Break period) new = closed_more _ [] tt refl closed_none

  acted_spelled : (a : LeaseAction) (x : Node) (new : Lease) → x.moment ≤ LAST_MOMENT → CanSpell (success (action_status a) (node_fields x ++ action_fields a new e.moment))
  acted_spelled (action.Acquire id secs) x new in_time = shown_spelled 201 x _ (lit≤ tt, lit< tt) in_time (closed_action (action.Acquire id secs) new)
  acted_spelled (action.Renew id) x new in_time = shown_spelled 200 x _ (lit≤ tt, lit< tt) in_time (closed_action (action.Renew id) new)
  acted_spelled (action.Change id other) x new in_time = shown_spelled 200 x _ (lit≤ tt, lit< tt) in_time (closed_action (action.Change id other) new)
  acted_spelled (action.Release id) x new in_time = shown_spelled 200 x _ (lit≤ tt, lit< tt) in_time (closed_action (action.Release id) new)
  acted_spelled (action.Break period) x new in_time = shown_spelled 202 x _ (lit≤ tt, lit< tt) in_time (closed_action (action.Break period) new)

  lease_put_fine : (p : Path) (a : LeaseAction) (x : Node) → x.moment ≤ LAST_MOMENT → (acted : Result Lease LeaseFault) → IsFine (lease_put e p a x acted)
  lease_put_fine p a x in_time (Err f) = refused_fine (code_of_fault f)
  lease_put_fine p a x in_time (Ok new) = record { spelled = acted_spelled a x new in_time }

  pub act_fine : (p : Path) (a : LeaseAction) → IsFine (act_on_lease t e p a)
  unfolding act_on_lease
  act_fine p a =
      found_fine t e p _
      (λ x is. unless_fine (lacks (caller_of e) 2 p x) _ (lacks_fine 2 p x)
      (unless_fine (is_unmet e x) (lease_put e p a x (lease_act x.lease a e.moment)) (met_fine x) (lease_put_fine p a x (dated x.moment (dates p x is)) (lease_act x.lease a e.moment))))

  -- ---- data

  closed_content : (x : Node) → AreClosed (content_fields x e.moment)
  closed_content x =
      closed_more (ContentType Octets) _ tt refl (closed_more (ResourceType kinds.File) _ tt refl
      (closed_append (property_fields x.props) _ (closed_properties x.props) (closed_lease x.lease e.moment)))

  bytes_fine : (x : Node) → x.moment ≤ LAST_MOMENT → (bytes : List ℕ) (range : Option Range) → IsFine (bytes_read e x bytes range)
  bytes_fine x in_time bytes None =
      answered_fine _ (body_spelled 200 _ bytes (shown_spelled 200 x _ (lit≤ tt, lit< tt) in_time (closed_more AcceptRanges _ tt refl (closed_content x))))
  bytes_fine x in_time bytes (Some range) =
      unless_fine (refuse_if (nat_le (length bytes) range.from) code.InvalidRange) (part_read e x bytes range.from (last_byte range.to (length bytes))) (refuse_fine (nat_le (length bytes) range.from) code.InvalidRange)
      (answered_fine _ (body_spelled 206 _ _ (shown_spelled 206 x _ (lit≤ tt, lit< tt) in_time
      (closed_more AcceptRanges _ tt refl (closed_more (ContentRange range.from (last_byte range.to (length bytes)) (length bytes)) _ tt refl (closed_content x))))))

  pub read_fine : (p : Path) (range : Option Range) → IsFine (read_file t e p range)
  unfolding read_file
  read_fine p range =
      found_fine t e p (read_node e p range)
      (λ x is. unless_fine (lacks (caller_of e) 4 p x) _ (lacks_fine 4 p x)
      (unless_fine (refuse_if (is_directory x) code.ResourceTypeMismatch) _ (refuse_fine (is_directory x) code.ResourceTypeMismatch)
      (unless_fine (is_unmet_look e x) (bytes_read e x (bytes_in x.content) range) (look_met_fine x) (bytes_fine x (dated x.moment (dates p x is)) (bytes_in x.content) range))))

  closed_held : (a : AppendLease) (after : Lease) → AreClosed (append_lease_fields a after)
  closed_held append_lease.Plain after = closed_none
  closed_held (append_lease.Acquire id secs) after = closed_more (LeaseId (kept_id after)) [] tt refl closed_none
  closed_held append_lease.AutoRenew after = closed_more (LeaseId (kept_id after)) [] tt refl closed_none
  closed_held append_lease.Release after = closed_none
  closed_held (append_lease.AcquireRelease id secs) after = closed_none

  appended_spelled : (flush : Bool) (a : AppendLease) (after : Lease) → CanSpell (success 202 (flush_fields flush e.moment ++ append_lease_fields a after))
  appended_spelled true a after = stamped_spelled 202 e.moment _ (lit≤ tt, lit< tt) timely (closed_held a after)
  appended_spelled false a after = plain_spelled 202 _ (lit≤ tt, lit< tt) (closed_held a after)

  flush_too_fine : (a : Appending) (x : Node) → IfSome (refused_flush_too a.flush (append_flush_answer (data_of x.content) a.position e.request.body)) CanSpell
  flush_too_fine a x = by_flush a.flush
    where
      by_flush : (b : Bool) → IfSome (refused_flush_too b (append_flush_answer (data_of x.content) a.position e.request.body)) CanSpell
      by_flush true = flush_fine (append_flush_answer (data_of x.content) a.position e.request.body)
      by_flush false = tt

  staged_fine : (p : Path) (a : Appending) (x : Node) (after : Lease) → IsFine (append_data e p a x after)
  staged_fine p a x after =
      unless_fine _ _ (staging_fine (stage_answer (data_of x.content) a.position e.request.body))
      (unless_fine _ _ (flush_too_fine a x) (record { spelled = appended_spelled a.flush a.action after }))

  under_fine : (p : Path) (a : Appending) (x : Node) (acted : Result Lease LeaseFault) → IsFine (under_lease acted (append_data e p a x))
  under_fine p a x (Err f) = refused_fine (code_of_fault f)
  under_fine p a x (Ok after) = staged_fine p a x after

  pub append_fine : (p : Path) (a : Appending) → IsFine (append t e p a)
  unfolding append
  append_fine p a =
      found_fine t e p (append_node e p a)
      (λ x is. unless_fine (lacks (caller_of e) 6 p x) _ (lacks_fine 6 p x)
      (unless_fine (refuse_if (is_directory x) code.ResourceTypeMismatch) _ (refuse_fine (is_directory x) code.ResourceTypeMismatch)
      (under_fine p a x (lease_act_append x.lease a.action e.request.lease e.moment))))

  pub flushed_fine : (p : Path) (position : ℕ) (retain : Bool) → IsFine (flush t e p position retain)
  unfolding flush
  flushed_fine p position retain =
      found_fine t e p (flush_node e p position retain)
      (λ x is. unless_fine (lacks (caller_of e) 6 p x) _ (lacks_fine 6 p x)
      (unless_fine (refuse_if (is_directory x) code.ResourceTypeMismatch) _ (refuse_fine (is_directory x) code.ResourceTypeMismatch)
      (unless_fine (is_unmet e x) _ (met_fine x)
      (unless_fine (lease_refuses e e.request.lease x) _ (leased_fine e.request.lease x)
      (unless_fine _ (flushed_to e p position retain x) (flush_fine (flush_answer (data_of x.content) position)) (record { spelled = changed_spelled }))))))

  -- ---- filesystems

  root_fine : (p : Path) (some : Node → Outcome) → ((x : Node) → at t p ≡ Some x → IsFine (some x))
      → IsFine (unless (is_no_superuser (caller_of e) p) (reading ([] ∷ []) (noted (at t p) p (refused code.FilesystemNotFound) some)))
  root_fine p some fine =
      unless_fine (is_no_superuser (caller_of e) p) _ (deny_fine (is_superuser (caller_of e)) rule.SuperuserOnly p)
      (reading_fine ([] ∷ []) _ (noted_fine (at t p) p _ some (refused_fine code.FilesystemNotFound) fine))

  pub get_filesystem_fine : (p : Path) → IsFine (get_filesystem t e p)
  unfolding get_filesystem
  get_filesystem_fine p =
      root_fine p filesystem_shown
      (λ x is. answered_fine _ (shown_spelled 200 x _ (lit≤ tt, lit< tt) (dated x.moment (dates p x is)) (closed_append (property_fields x.props) _ (closed_properties x.props) (closed_more NamespaceEnabled [] tt refl closed_none))))

  pub set_filesystem_fine : (p : Path) (props : List (List ℕ × List ℕ)) → IsFine (set_filesystem t e p props)
  unfolding set_filesystem
  set_filesystem_fine p props = root_fine p (filesystem_set e p props) (λ x is. record { spelled = changed_spelled })

  pub delete_filesystem_fine : (p : Path) → IsFine (delete_filesystem t e p)
  unfolding delete_filesystem
  delete_filesystem_fine p = root_fine p (filesystem_gone (subtree t p)) (λ x is. record { spelled = plain_spelled 202 [] (lit≤ tt, lit< tt) closed_none })
