-- The reply of every step can be spelled.
use Rattle.std.proofs.Common.{ℕ, ◌≤◌, Bool, true, false, cond, not, ◌&&◌, is_some, List, [], ◌∷◌, Option, Some, None, lit≤, lit<}
use Rattle.std.specs.Option.{option_map_or}
use Rattle.lease_state.specs.declared.lease.TheConstants.{LAST_MOMENT}
use Rattle.head_text.specs.ConditionsOf.{conditions_of}
use Rattle.lease_state.specs.LeaseTable.{lease_may_write}
use Rattle.namespace_model.specs.declared.code.Code.TheVariants as code
use Rattle.namespace_model.specs.declared.denied.Rule.TheVariants as rule
use Rattle.namespace_model.specs.declared.op.Op.{Op}
use Rattle.namespace_model.specs.declared.op.Op.TheVariants as op
use Rattle.namespace_model.specs.declared.request.Entry.{Entry}
use Rattle.namespace_model.specs.Access.{access_check, is_superuser, sticky_lets}
use Rattle.namespace_model.specs.Create.{Making, made_below, create, create_over, create_new, create_in, create_under, create_from}
use Rattle.namespace_model.specs.CreateFilesystem.{create_filesystem, filesystem_made}
use Rattle.namespace_model.specs.Delete.{not_clearable, gone, cleared, delete_node, delete}
use Rattle.namespace_model.specs.Nodes.{Node, is_directory, has_kind, kind_of}
use Rattle.namespace_model.specs.Outcomes.{reading, refused, unless}
use Rattle.namespace_model.specs.Refusals.{caller_of, refuse_if, first_refusal, lacks, is_guarded, is_no_superuser, exists_already, is_unmet, is_unmet_without, lease_refuses}
use Rattle.namespace_model.specs.Rename.{Moving, grows, some_too_long, shifted, fitted, rename_over, rename_new, rename_into, rename_node, rename_out, rename}
use Rattle.namespace_model.specs.Replies.{success, stamp_fields}
use Rattle.namespace_model.specs.Step.{acts, outcome, root_of}
use Rattle.namespace_model.specs.Trees.{Path, Tree, at, parent, is_bare, subtree}
use Rattle.namespace_model.specs.Walks.{missing_code}
use Rattle.inode_tree.specs.Views.{HasDates}
use Rattle.reply_text.specs.ReplyText.{CanSpell}
use Rattle.reply_text.proofs.Spellable.{closed_none, closing_spelled, stamped_spelled, plain_spelled}
use Rattle.engine.proofs.FineQuestions.{IsFine, refused_fine, reading_fine, unless_fine, denied_fine, deny_fine, refuse_fine, change_fine, lease_fine, first_fine, clearable_fine, walk_or_fine, walk_fine, noted_fine}
use Rattle.engine.proofs.FineNodes.{properties_fine, access_fine, check_fine, set_properties_fine, set_access_fine, act_fine, read_fine, append_fine, flushed_fine, get_filesystem_fine, set_filesystem_fine, delete_filesystem_fine}
use Rattle.engine.proofs.FinePages.{list_fine, list_filesystems_fine, batch_fine}

module _ (t : Tree) (e : Entry) (timely : e.moment ≤ LAST_MOMENT) where
  made_spelled : CanSpell (success 201 (stamp_fields e.moment))
  made_spelled = stamped_spelled 201 e.moment [] (lit≤ tt, lit< tt) timely closed_none

  filesystem_fine : (p : Path) (props : Option (List (List ℕ × List ℕ))) → IsFine (create_filesystem t e p props)
  unfolding create_filesystem
  filesystem_fine p props =
      unless_fine (is_no_superuser (caller_of e) p) _ (deny_fine (is_superuser (caller_of e)) rule.SuperuserOnly p)
      (reading_fine ([] ∷ []) _
      (unless_fine (refuse_if (is_some (at t p)) code.FilesystemAlreadyExists) (filesystem_made e p props) (refuse_fine (is_some (at t p)) code.FilesystemAlreadyExists) (record { spelled = made_spelled })))

  made_fine : (m : Making) → (base : Path) (x : Node) (replaced : List Path) → IsFine (made_below e m base x replaced)
  made_fine m base x replaced = record { spelled = made_spelled }

  new_fine : (m : Making) → (base : Path) (x : Node) → IsFine (create_new e m base x)
  new_fine m base x = unless_fine (is_unmet_without e) _ (change_fine (conditions_of e.request.cond None)) (made_fine m base x [])

  over_fine : (m : Making) → (dir y : Node) → IsFine (create_over t e m dir y)
  over_fine m dir y =
      unless_fine (is_guarded (caller_of e) dir m.path y) _ (deny_fine (sticky_lets dir.sticky dir.owner y.owner (caller_of e)) rule.Sticky m.path)
      (unless_fine (exists_already e) _ (refuse_fine (option_map_or (λ tags. tags.any) e.request.cond.none false) code.PathAlreadyExists)
      (unless_fine (is_unmet e y) _ (change_fine (conditions_of e.request.cond (Some (y.number, y.moment))))
      (unless_fine (refuse_if (not (has_kind m.kind y)) code.ResourceTypeMismatch) _ (refuse_fine (not (has_kind m.kind y)) code.ResourceTypeMismatch)
      (unless_fine (refuse_if (is_directory y && not (is_bare t m.path)) code.DirectoryNotEmpty) _ (refuse_fine (is_directory y && not (is_bare t m.path)) code.DirectoryNotEmpty)
      (made_fine m (parent m.path) dir (m.path ∷ []))))))

  in_fine : (m : Making) → (dir : Node) → IsFine (create_in t e m dir)
  in_fine m dir =
      unless_fine (lacks (caller_of e) 3 (parent m.path) dir) _ (denied_fine (parent m.path) 3 (access_check dir.acl.access dir.owner dir.group (caller_of e) 3))
      (noted_fine (at t m.path) m.path (create_new e m (parent m.path) dir) (create_over t e m dir) (new_fine m (parent m.path) dir) (λ y is. over_fine m dir y))

  under_fine : (m : Making) → (base : Path) (x : Node) → IsFine (create_under e m base x)
  under_fine m base x =
      unless_fine (lacks (caller_of e) 3 base x) _ (denied_fine base 3 (access_check x.acl.access x.owner x.group (caller_of e) 3)) (new_fine m base x)

  from_fine : (m : Making) → (d : Path) (x : Node) → IsFine (create_from e m d x)
  from_fine m [] x = refused_fine code.FilesystemNotFound
  from_fine m (fs ∷ names) x = under_fine m (fs ∷ names) x

  create_fine : (m : Making) → IsFine (create t e m)
  unfolding create
  create_fine m = walk_or_fine t (caller_of e) (create_from e m) code.ResourceTypeMismatch m.path (create_in t e m) (from_fine m) (in_fine m)

  gone_fine : (dir : Path) (ps : List Path) → IsFine (gone dir ps)
  gone_fine dir ps = record { spelled = plain_spelled 200 [] (lit≤ tt, lit< tt) closed_none }

  cleared_fine : (p : Path) (recursive : Bool) (ps : List Path) → IsFine (cleared t e p recursive ps)
  cleared_fine p true ps = reading_fine ps _ (unless_fine (first_refusal (not_clearable t (caller_of e)) t ps) (gone (parent p) ps) (first_fine (not_clearable t (caller_of e)) (clearable_fine t (caller_of e)) t ps) (gone_fine (parent p) ps))
  cleared_fine p false ps = gone_fine (parent p) ps

  node_fine : (p : Path) (recursive : Bool) (dir x : Node) → IsFine (delete_node t e p recursive dir x)
  node_fine p recursive dir x =
      unless_fine (is_guarded (caller_of e) dir p x) _ (deny_fine (sticky_lets dir.sticky dir.owner x.owner (caller_of e)) rule.Sticky p)
      (unless_fine (is_unmet e x) _ (change_fine (conditions_of e.request.cond (Some (x.number, x.moment))))
      (unless_fine (lease_refuses e e.request.lease x) _ (lease_fine (lease_may_write x.lease e.request.lease e.moment))
      (unless_fine (refuse_if (not recursive && (is_directory x && not (is_bare t p))) code.DirectoryNotEmpty) _ (refuse_fine (not recursive && (is_directory x && not (is_bare t p))) code.DirectoryNotEmpty)
      (cleared_fine p recursive (subtree t p)))))

  delete_fine : (p : Path) (recursive : Bool) → IsFine (delete t e p recursive)
  unfolding delete
  delete_fine p recursive =
      walk_fine t (caller_of e) code.PathNotFound p _
      (λ dir. unless_fine (lacks (caller_of e) 3 (parent p) dir) _ (denied_fine (parent p) 3 (access_check dir.acl.access dir.owner dir.group (caller_of e) 3))
      (noted_fine (at t p) p (refused (missing_code p code.PathNotFound)) (delete_node t e p recursive dir) (refused_fine (missing_code p code.PathNotFound)) (λ x is. node_fine p recursive dir x)))

  -- ---- renames

  shift_fine : (m : Moving) (x : Node) (replaced : List Path) → IsFine (shifted e m x replaced)
  shift_fine m x replaced = record { spelled = made_spelled }

  fitted_fine : (m : Moving) (x : Node) (replaced : List Path) → IsFine (fitted t e m x replaced)
  fitted_fine m x replaced = by_test (is_directory x && grows m)
    where
      by_test : (b : Bool) → IsFine (cond b (reading (subtree t m.source) (unless (refuse_if (some_too_long m (subtree t m.source)) code.RenameTooLong) (shifted e m x replaced))) (shifted e m x replaced))
      by_test true =
          reading_fine (subtree t m.source) _
          (unless_fine (refuse_if (some_too_long m (subtree t m.source)) code.RenameTooLong) (shifted e m x replaced) (refuse_fine (some_too_long m (subtree t m.source)) code.RenameTooLong) (shift_fine m x replaced))
      by_test false = shift_fine m x replaced

  rename_over_fine : (m : Moving) (x dir y : Node) → IsFine (rename_over t e m x dir y)
  rename_over_fine m x dir y =
      unless_fine (is_guarded (caller_of e) dir m.path y) _ (deny_fine (sticky_lets dir.sticky dir.owner y.owner (caller_of e)) rule.Sticky m.path)
      (unless_fine (exists_already e) _ (refuse_fine (option_map_or (λ tags. tags.any) e.request.cond.none false) code.PathAlreadyExists)
      (unless_fine (is_unmet e y) _ (change_fine (conditions_of e.request.cond (Some (y.number, y.moment))))
      (unless_fine (lease_refuses e e.request.source_lease x) _ (lease_fine (lease_may_write x.lease e.request.source_lease e.moment))
      (unless_fine (refuse_if (not (has_kind (kind_of x) y)) code.ResourceTypeMismatch) _ (refuse_fine (not (has_kind (kind_of x) y)) code.ResourceTypeMismatch)
      (unless_fine (refuse_if (is_directory y && not (is_bare t m.path)) code.DirectoryNotEmpty) _ (refuse_fine (is_directory y && not (is_bare t m.path)) code.DirectoryNotEmpty)
      (fitted_fine m x (m.path ∷ [])))))))

  rename_new_fine : (m : Moving) (x : Node) → IsFine (rename_new t e m x)
  rename_new_fine m x =
      unless_fine (is_unmet_without e) _ (change_fine (conditions_of e.request.cond None))
      (unless_fine (lease_refuses e e.request.source_lease x) _ (lease_fine (lease_may_write x.lease e.request.source_lease e.moment)) (fitted_fine m x []))

  rename_into_fine : (m : Moving) (x dir : Node) → IsFine (rename_into t e m x dir)
  rename_into_fine m x dir =
      unless_fine (lacks (caller_of e) 3 (parent m.path) dir) _ (denied_fine (parent m.path) 3 (access_check dir.acl.access dir.owner dir.group (caller_of e) 3))
      (noted_fine (at t m.path) m.path (rename_new t e m x) (rename_over t e m x dir) (rename_new_fine m x) (λ y is. rename_over_fine m x dir y))

  rename_node_fine : (m : Moving) (dir x : Node) → IsFine (rename_node t e m dir x)
  rename_node_fine m dir x =
      unless_fine (is_guarded (caller_of e) dir m.source x) _ (deny_fine (sticky_lets dir.sticky dir.owner x.owner (caller_of e)) rule.Sticky m.source)
      (walk_fine t (caller_of e) code.RenameDestinationParentPathNotFound m.path (rename_into t e m x) (rename_into_fine m x))

  rename_fine : (m : Moving) → IsFine (rename t e m)
  unfolding rename
  rename_fine m =
      walk_fine t (caller_of e) code.SourcePathNotFound m.source (rename_out t e m)
      (λ dir. unless_fine (lacks (caller_of e) 3 (parent m.source) dir) _ (denied_fine (parent m.source) 3 (access_check dir.acl.access dir.owner dir.group (caller_of e) 3))
      (noted_fine (at t m.source) m.source (refused (missing_code m.source code.SourcePathNotFound)) (rename_node t e m dir) (refused_fine (missing_code m.source code.SourcePathNotFound)) (λ x is. rename_node_fine m dir x)))

  -- ---- all of them

  acts_fine : (o : Op) → HasDates t → IsFine (acts t e o)
  acts_fine (op.ListFilesystems prefix token max) dates = list_filesystems_fine t e prefix token max
  acts_fine (op.CreateFilesystem path props) dates = filesystem_fine (root_of path) props
  acts_fine (op.GetFilesystem path) dates = get_filesystem_fine t e timely dates (root_of path)
  acts_fine (op.SetFilesystem path props) dates = set_filesystem_fine t e timely dates (root_of path) props
  acts_fine (op.DeleteFilesystem path) dates = delete_filesystem_fine t e timely dates (root_of path)
  acts_fine (op.List dir recursive token max) dates = list_fine t e dir recursive token max
  acts_fine (op.Create path kind permissions umask props) dates = create_fine _
  acts_fine (op.Rename path source props) dates = rename_fine _
  acts_fine (op.Read path range) dates = read_fine t e timely dates path range
  acts_fine (op.GetProperties path status) dates = properties_fine t e timely dates path status
  acts_fine (op.GetAccess path) dates = access_fine t e timely dates path
  acts_fine (op.CheckAccess path want) dates = check_fine t e timely dates path want
  acts_fine (op.Append path position flush retain action) dates = append_fine t e timely dates path _
  acts_fine (op.Flush path position retain) dates = flushed_fine t e timely dates path position retain
  acts_fine (op.SetProperties path props) dates = set_properties_fine t e timely dates path props
  acts_fine (op.SetAccess path owner group permissions acl) dates = set_access_fine t e timely dates path _
  acts_fine (op.SetAccessRecursive path change token max force) dates = batch_fine t e path change token max force
  acts_fine (op.Lease path action) dates = act_fine t e timely dates path action
  acts_fine (op.Delete path recursive) dates = delete_fine path recursive
  acts_fine (op.Refused c) dates = refused_fine c

-- whatever is asked for
pub outcome_fine : (t : Tree) (e : Entry) → e.moment ≤ LAST_MOMENT → HasDates t → IsFine (outcome t e)
unfolding outcome
outcome_fine t e timely dates = record { spelled = closing_spelled e.request.close _ (acts_fine t e timely e.request.op dates).spelled }
