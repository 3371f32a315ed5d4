-- A law that each success and each refusal of a step has, and that reading keeps, holds of what comes of each operation.
use Rattle.std.proofs.Common.{◌≡◌, inl, inr, ℕ, Bool, true, false, not, ◌&&◌, ◌==◌, nat_le, List, [], ◌∷◌, ◌++◌, length, Option, Some, None, is_some, unwrap_or, Result, Ok, Err, if◌then◌else◌, refl, ap, sym, subst, ◌∙◌, append_assoc, append-nil}
use Rattle.namespace_model.proofs.PageOrder.{among_take}
use Rattle.std.proofs.lemmas.Bool.{false≢true}
use Rattle.std.specs.Prelude.{IfSome}
use Rattle.std.specs.Option.{option_map_or}
use Rattle.acl_text.specs.declared.acl.AclPair.{AclPair}
use Rattle.acl_text.specs.declared.acl.AclFault.{AclFault}
use Rattle.file_data.specs.declared.fault.DataFault.{DataFault}
use Rattle.file_data.specs.declared.fault.DataFault.TheVariants as data_fault
use Rattle.file_data.specs.FileRecord.{stage_answer, flush_answer, append_flush_answer}
use Rattle.head_text.specs.declared.conditions.Unmet.{Unmet}
use Rattle.head_text.specs.declared.conditions.Unmet.TheVariants as unmet
use Rattle.head_text.specs.declared.range.Range.{Range}
use Rattle.head_text.specs.ConditionsOf.{conditions_of}
use Rattle.lease_state.specs.declared.lease.Lease.{Lease}
use Rattle.lease_state.specs.declared.lease.LeaseAction.{LeaseAction}
use Rattle.lease_state.specs.declared.lease.LeaseFault.{LeaseFault}
use Rattle.lease_state.specs.declared.lease.LeaseFault.TheVariants as fault
use Rattle.lease_state.specs.LeaseTable.{lease_act, lease_may_write}
use Rattle.path_text.specs.Paths.{is_prefix}
use Rattle.lease_state.specs.declared.lease.AppendLease.{AppendLease}
use Rattle.lease_state.specs.LeaseAppends.{lease_act_append}
use Rattle.acl_text.specs.declared.perm.ModeBits.{ModeBits}
use Rattle.acl_text.specs.declared.scope.Scope.{Scope}
use Rattle.acl_text.specs.declared.who.Who.{Who}
use Rattle.namespace_model.specs.declared.denied.Refusal.{Refusal}
use Rattle.namespace_model.specs.declared.op.Kind.{Kind}
use Rattle.namespace_model.specs.declared.code.Code.{Code}
use Rattle.namespace_model.specs.declared.code.Code.TheVariants as code
use Rattle.namespace_model.specs.declared.op.BatchChange.{BatchChange}
use Rattle.namespace_model.specs.declared.op.Op.{Op}
use Rattle.namespace_model.specs.declared.op.Op.TheVariants as op
use Rattle.namespace_model.specs.declared.reply.Reply.{Reply}
use Rattle.namespace_model.specs.declared.request.Entry.{Entry}
use Rattle.namespace_model.specs.Codes.{status_of}
use Rattle.namespace_model.specs.Nodes.{Node, blank, is_directory, kind_of, has_kind, bytes_in}
use Rattle.namespace_model.specs.Trees.{Path, Tree, at, node_at, parent, is_bare, is_child, is_below, keys_where, subtree, children, IsDirectory, IsDirectoryAt}
use Rattle.namespace_model.specs.Replies.{not_modified, denial}
use Rattle.namespace_model.specs.Outcomes.{Outcome, reading, answered, refused, unless, noted}
use Rattle.namespace_model.specs.Refusals.{caller_of, or_else, first_refusal, refuse_if, lacks, is_guarded, is_no_superuser, may_not_set_access, may_not_set_owner, may_not_set_group, unmet_for_change, unmet_for_look, is_unmet, is_unmet_look, is_unmet_without, exists_already, stamps_of, code_of_fault, refused_by_lease, lease_refuses}
use Rattle.namespace_model.specs.Walks.{walk_or, walk, ended, missing_below, missing_code}
use Rattle.namespace_model.specs.Ways.{Way, reached, missing, blocked, closed, base_of, way_of, read_on}
use Rattle.namespace_model.specs.Looks.{found}
use Rattle.namespace_model.specs.Pages.{page_of, above, on_the_way}
use Rattle.namespace_model.specs.Locality.{Among}
use Rattle.namespace_model.specs.Denials.{asked_owner, asked_group}
use Rattle.namespace_model.specs.DenialPlaces.{walks_to, changes_in, IsWantedOn, IsWantedBelow, IsWantedAt, changing, on_node, below_node, IsGuardedFrom, IsSetBy, IsForSuperuser}
use Rattle.namespace_model.specs.Contents.{data_of, refused_staging, refused_flush}
use Rattle.namespace_model.specs.CreateFilesystem.{create_filesystem, filesystem_made}
use Rattle.namespace_model.specs.GetFilesystem.{get_filesystem, filesystem_shown}
use Rattle.namespace_model.specs.SetFilesystem.{set_filesystem, filesystem_set}
use Rattle.namespace_model.specs.DeleteFilesystem.{delete_filesystem, filesystem_gone}
use Rattle.namespace_model.specs.ListFilesystems.{list_filesystems, filesystems, filesystems_listed}
use Rattle.namespace_model.specs.ListPaths.{list_paths, list_node, list_page, paged, listed, is_closed}
use Rattle.namespace_model.specs.Create.{Making, create, create_from, create_in, create_over, create_new, made_below}
use Rattle.namespace_model.specs.Delete.{delete, delete_in, delete_node, cleared, gone, not_clearable}
use Rattle.namespace_model.specs.Rename.{Moving, rename, rename_out, rename_node, rename_into, rename_over, rename_new, shifted, grows, some_too_long}
use Rattle.namespace_model.specs.ReadFile.{read_file, read_node, bytes_read}
use Rattle.namespace_model.specs.GetProperties.{get_properties, properties_of, properties_shown}
use Rattle.namespace_model.specs.GetAccess.{get_access, access_of, access_shown}
use Rattle.namespace_model.specs.CheckAccess.{check_access, checked_on}
use Rattle.namespace_model.specs.Append.{append, append_node, refused_flush_too, under_lease}
use Rattle.namespace_model.specs.Flush.{flush, flush_node, flushed_to}
use Rattle.namespace_model.specs.SetProperties.{set_properties, set_properties_of, properties_set}
use Rattle.namespace_model.specs.SetAccess.{Setting, set_access, set_access_of, access_put, pair_set, has_default}
use Rattle.namespace_model.specs.SetAccessRecursive.{set_access_recursive, batch_below, batch_page, batch_of, batched}
use Rattle.namespace_model.specs.LeaseNode.{act_on_lease, lease_node, lease_put}
use Rattle.namespace_model.specs.Step.{root_of, acts}
use Rattle.namespace_model.proofs.Lookups.{keys_among, among_keys}
use Rattle.namespace_model.proofs.Prefixes.{both, behind_front, front_of_append, child_name, parent_of_child}
use Rattle.namespace_model.proofs.WayLemmas.{IsPassed, IsMissing, IsShut, IsEndOf, way_ends, directory_there}
use Rattle.namespace_model.proofs.Successes.{IsBase, IsSuccess, a_filesystem_is_made, a_filesystem_is_shown, a_filesystem_is_set, a_filesystem_goes, filesystems_are_listed, paths_are_listed, nodes_are_made, a_node_moves, a_file_is_read, a_part_is_read, properties_are_shown, access_is_shown, a_right_is_there, a_file_is_appended_to, a_file_is_flushed, properties_are_set, access_is_set, a_batch_is_done, a_lease_is_acted_on, nodes_go}
use Rattle.namespace_model.proofs.Alikeness.{among_either}
use Rattle.namespace_model.proofs.ClosedPages.{among_above}

-- what a question refuses ends a step that has the law
pub record Asked (Q : Outcome → Type 0) (x : Option Reply) : Type 0 where
  pub asked : IfSome x (λ reply. Q (answered reply))

-- the code has another status than a denial
abbrev pub IsPlain : Code → Type 0
IsPlain c = (status_of c == 403) ≡ false

-- Reading keeps the law, and each success has it, each refusal that is no denial, and each denial by a question at a node that is there and in its place.
pub record IsLaw (t : Tree) (e : Entry) (Q : Outcome → Type 0) : Type 0 where
  pub reads : (ps : List Path) (o : Outcome) → Q o → Q (reading ps o)
  pub succeeds : (o : Outcome) → IsSuccess t e o → Q o
  pub refuses : (c : Code) → IsPlain c → Q (refused c)
  pub unmodified : Q (answered not_modified)
  pub shut : (to p : Path) (r : Refusal) → Among to (walks_to e.request.op) → IsShut t (caller_of e) (parent to) p r → Q (answered (denial r.rule p 1 r.have))
  pub rights : (want : ℕ) (p : Path) (x : Node) → (IsDirectoryAt t [] → at t p ≡ Some x) → IsWantedAt t (caller_of e) e.request.op p want → Asked Q (lacks (caller_of e) want p x)
  pub sticky : (dir : Node) (p : Path) (x : Node) → at t p ≡ Some x → (IsDirectoryAt t [] → at t (parent p) ≡ Some dir) → IsGuardedFrom t e.request.op p → Asked Q (is_guarded (caller_of e) dir p x)
  pub superuser : (p : Path) → IsForSuperuser e.request.op p → Asked Q (is_no_superuser (caller_of e) p)
  pub access : (p : Path) (x : Node) → at t p ≡ Some x → IsSetBy e.request.op p → Asked Q (may_not_set_access (caller_of e) p x)
  pub owner : (p : Path) (x : Node) (new : Option (List ℕ)) → at t p ≡ Some x → asked_owner e.request.op ≡ new → IsSetBy e.request.op p → Asked Q (may_not_set_owner (caller_of e) p x new)
  pub group : (p : Path) (x : Node) (new : Option (List ℕ)) → at t p ≡ Some x → asked_group e.request.op ≡ new → IsSetBy e.request.op p → Asked Q (may_not_set_group (caller_of e) p x new)

node_there : (o : Option Node) → is_some o ≡ true → o ≡ Some (unwrap_or o blank)
node_there None h = absurd (false≢true h)
node_there (Some x) h = refl

fault_plain : (f : LeaseFault) → IsPlain (code_of_fault f)
fault_plain fault.LeaseIdMissing = refl
fault_plain fault.LeaseIdMismatchWithBlobOperation = refl
fault_plain fault.LeaseLost = refl
fault_plain fault.LeaseAlreadyPresent = refl
fault_plain fault.LeaseIdMismatchWithLeaseOperation = refl
fault_plain fault.LeaseNotPresentWithLeaseOperation = refl
fault_plain fault.LeaseIsBreakingAndCannotBeAcquired = refl
fault_plain fault.LeaseIsBreakingAndCannotBeChanged = refl
fault_plain fault.LeaseIsBrokenAndCannotBeRenewed = refl

missing_plain : (p : Path) (c : Code) → IsPlain c → IsPlain (missing_code p c)
missing_plain p c plain = by_length (length p == 1)
  where
    by_length : (b : Bool) → IsPlain (if b then code.FilesystemNotFound else c)
    by_length true = refl
    by_length false = plain

module _ (t : Tree) (e : Entry) (Q : Outcome → Type 0) (law : IsLaw t e Q) where
  -- ---- questions

  none_asked : Asked Q None
  none_asked = record { asked = tt }

  refuse_asked : (b : Bool) (c : Code) → IsPlain c → Asked Q (refuse_if b c)
  refuse_asked true c plain = record { asked = law.refuses c plain }
  refuse_asked false c plain = none_asked

  or_asked : (x y : Option Reply) → Asked Q x → Asked Q y → Asked Q (or_else x y)
  or_asked None y h k = k
  or_asked (Some reply) y h k = h

  if_asked : (b : Bool) (x : Option Reply) → Asked Q x → Asked Q (if b then x else None)
  if_asked true x h = h
  if_asked false x h = none_asked

  change_asked : (r : Result Unit Unmet) → Asked Q (unmet_for_change r)
  change_asked (Ok met) = none_asked
  change_asked (Err part) = record { asked = law.refuses code.ConditionNotMet refl }

  look_asked : (r : Result Unit Unmet) → Asked Q (unmet_for_look r)
  look_asked (Ok met) = none_asked
  look_asked (Err unmet.Match) = record { asked = law.refuses code.ConditionNotMet refl }
  look_asked (Err unmet.Unmodified) = record { asked = law.refuses code.ConditionNotMet refl }
  look_asked (Err unmet.NoneMatch) = record { asked = law.unmodified }
  look_asked (Err unmet.Modified) = record { asked = law.unmodified }

  is_unmet_asked : (x : Node) → Asked Q (is_unmet e x)
  is_unmet_asked x = change_asked (conditions_of e.request.cond (Some (stamps_of x)))

  is_unmet_look_asked : (x : Node) → Asked Q (is_unmet_look e x)
  is_unmet_look_asked x = look_asked (conditions_of e.request.cond (Some (stamps_of x)))

  is_unmet_without_asked : Asked Q (is_unmet_without e)
  is_unmet_without_asked = change_asked (conditions_of e.request.cond None)

  exists_already_asked : Asked Q (exists_already e)
  exists_already_asked = refuse_asked (option_map_or (λ tags. tags.any) e.request.cond.none false) code.PathAlreadyExists refl

  by_lease_asked : (r : Result Unit LeaseFault) → Asked Q (refused_by_lease r)
  by_lease_asked (Ok allowed) = none_asked
  by_lease_asked (Err f) = record { asked = law.refuses (code_of_fault f) (fault_plain f) }

  lease_asked : (given : Option ℕ) (x : Node) → Asked Q (lease_refuses e given x)
  lease_asked given x = by_lease_asked (lease_may_write x.lease given e.moment)

  staging_asked : (r : Result Unit DataFault) → Asked Q (refused_staging r)
  staging_asked (Ok allowed) = none_asked
  staging_asked (Err data_fault.BelowLength) = record { asked = law.refuses code.PositionBelowLength refl }
  staging_asked (Err (data_fault.Gap at)) = none_asked
  staging_asked (Err (data_fault.Overlap at)) = none_asked
  staging_asked (Err data_fault.WrongPosition) = none_asked
  staging_asked (Err data_fault.TooLarge) = record { asked = law.refuses code.FileTooLarge refl }

  flush_asked : (r : Result Unit DataFault) → Asked Q (refused_flush r)
  flush_asked (Ok allowed) = none_asked
  flush_asked (Err f) = record { asked = law.refuses code.InvalidFlushPosition refl }

  flush_too_asked : (flush : Bool) (r : Result Unit DataFault) → Asked Q (refused_flush_too flush r)
  flush_too_asked true r = flush_asked r
  flush_too_asked false r = none_asked

  -- a question at each of these paths, which are there
  first_asked : (asks : Path → Node → Option Reply) (ps : List Path) → ((q : Path) → Among q ps → is_some (at t q) ≡ true)
      → ((q : Path) → Among q ps → (x : Node) → at t q ≡ Some x → Asked Q (asks q x)) → Asked Q (first_refusal asks t ps)
  first_asked asks [] there each = none_asked
  first_asked asks (p ∷ ps) there each =
      or_asked (asks p (node_at t p)) (first_refusal asks t ps) (each p (inl refl) (node_at t p) (node_there (at t p) (there p (inl refl))))
      (first_asked asks ps (λ q k. there q (inr k)) (λ q k. each q (inr k)))

  -- ---- the words of a step

  unless_holds : (x : Option Reply) (o : Outcome) → Asked Q x → Q o → Q (unless x o)
  unless_holds None o h k = k
  unless_holds (Some reply) o h k = h.asked

  noted_at : (u : Option Node) (p : Path) (none : Outcome) (f : Node → Outcome) → at t p ≡ u → Q none → ((x : Node) → at t p ≡ Some x → Q (f x)) → Q (noted u p none f)
  noted_at None p none f is h some = h
  noted_at (Some x) p none f is h some = law.reads (p ∷ []) (f x) (some x is)

  noted_holds : (p : Path) (none : Outcome) (f : Node → Outcome) → Q none → ((x : Node) → at t p ≡ Some x → Q (f x)) → Q (noted (at t p) p none f)
  noted_holds p none f = noted_at (at t p) p none f refl

  missing_holds : (c : Code) → IsPlain c → (d : Path) → Q (missing_below c d)
  missing_holds c plain [] = law.refuses code.FilesystemNotFound refl
  missing_holds c plain (fs ∷ names) = law.refuses c plain

  ended_holds : (p : Path) (lost : Path → Outcome) (c : Code) (o : Outcome) → Among p (walks_to e.request.op) → IsPlain c
      → ((d : Path) → way_of t (caller_of e) p ≡ missing d → IsMissing t (parent p) d → Q (lost d)) → (way_of t (caller_of e) p ≡ reached → IsPassed t (parent p) → Q o)
      → (w : Way) → way_of t (caller_of e) p ≡ w → IsEndOf t (caller_of e) (parent p) w → Q (ended lost c o w)
  ended_holds p lost c o walks plain none h reached is end = h is end
  ended_holds p lost c o walks plain none h (missing d) is end = none d is end
  ended_holds p lost c o walks plain none h (blocked q) is end = law.refuses c plain
  ended_holds p lost c o walks plain none h (closed q r) is end = law.shut p q r walks end

  walk_or_holds : (lost : Path → Node → Outcome) (c : Code) (p : Path) (next : Node → Outcome) → Among p (walks_to e.request.op) → IsPlain c
      → ((d : Path) → way_of t (caller_of e) p ≡ missing d → IsMissing t (parent p) d → Q (lost d (node_at t d))) → (way_of t (caller_of e) p ≡ reached → IsPassed t (parent p) → Q (next (node_at t (parent p))))
      → Q (walk_or t (caller_of e) lost c p next)
  walk_or_holds lost c p next walks plain none h =
      law.reads (read_on t (caller_of e) p) _
      (ended_holds p (λ d. lost d (node_at t d)) c (next (node_at t (parent p))) walks plain none h (way_of t (caller_of e) p) refl (way_ends t (caller_of e) [] (parent p) (λ here. here)))

  walk_holds : (c : Code) (p : Path) (next : Node → Outcome) → Among p (walks_to e.request.op) → IsPlain c → ((dir : Node) → (IsDirectoryAt t [] → at t (parent p) ≡ Some dir) → Q (next dir)) → Q (walk t (caller_of e) c p next)
  walk_holds c p next walks plain h =
      walk_or_holds (λ d dir. missing_below c d) c p next walks plain (λ d is gone. missing_holds c plain d)
      (λ is up. h (node_at t (parent p)) (λ root. directory_there t (parent p) (up root)))

  found_holds : (p : Path) (f : Node → Outcome) → Among p (walks_to e.request.op) → ((x : Node) → at t p ≡ Some x → Q (f x)) → Q (found t e p f)
  found_holds p f walks some =
      walk_holds code.PathNotFound p (λ dir. noted (at t p) p (refused (missing_code p code.PathNotFound)) f) walks refl (λ dir up.
      noted_holds p (refused (missing_code p code.PathNotFound)) f (law.refuses (missing_code p code.PathNotFound) (missing_plain p code.PathNotFound refl)) some)

  -- an operation walks to its path
  walks : (o : Op) (p : Path) → e.request.op ≡ o → Among p (walks_to o) → Among p (walks_to e.request.op)
  walks o p is h = subst (λ (x : Op). Among p (walks_to x)) (sym is) h

  -- what an operation wants on its node
  on : (o : Op) (p : Path) (want : ℕ) → e.request.op ≡ o → IsWantedOn o p want → IsWantedAt t (caller_of e) e.request.op p want
  on o p want is h = on_node (subst (λ (x : Op). IsWantedOn x p want) (sym is) h)

  below : (o : Op) (p : Path) (want : ℕ) → e.request.op ≡ o → IsWantedBelow t o p want → IsWantedAt t (caller_of e) e.request.op p want
  below o p want is h = below_node (subst (λ (x : Op). IsWantedBelow t x p want) (sym is) h)

  changes : (o : Op) (p : Path) → e.request.op ≡ o → Among p (changes_in t (caller_of e) o) → IsWantedAt t (caller_of e) e.request.op p 3
  changes o p is h = changing (subst (λ (x : Op). Among p (changes_in t (caller_of e) x)) (sym is) h) refl

  guarded : (o : Op) (p : Path) → e.request.op ≡ o → IsGuardedFrom t o p → IsGuardedFrom t e.request.op p
  guarded o p is h = subst (λ (x : Op). IsGuardedFrom t x p) (sym is) h

  for_superuser : (o : Op) (p : Path) → e.request.op ≡ o → IsForSuperuser o p → IsForSuperuser e.request.op p
  for_superuser o p is h = subst (λ (x : Op). IsForSuperuser x p) (sym is) h

  -- ---- calls on filesystems

  no_filesystem : Q (refused code.FilesystemNotFound)
  no_filesystem = law.refuses code.FilesystemNotFound refl

  create_filesystem_holds : (path : Path) (props : Option (List (List ℕ × List ℕ))) → e.request.op ≡ op.CreateFilesystem path props → Q (create_filesystem t e (root_of path) props)
  unfolding create_filesystem
  create_filesystem_holds path props is =
      unless_holds (is_no_superuser (caller_of e) (root_of path)) _ (law.superuser (root_of path) (for_superuser _ (root_of path) is refl))
      (law.reads ([] ∷ []) _
      (unless_holds (refuse_if (is_some (at t (root_of path))) code.FilesystemAlreadyExists) _ (refuse_asked (is_some (at t (root_of path))) code.FilesystemAlreadyExists refl)
      (law.succeeds (filesystem_made e (root_of path) props) (a_filesystem_is_made path props is refl))))

  get_filesystem_holds : (path : Path) → e.request.op ≡ op.GetFilesystem path → Q (get_filesystem t e (root_of path))
  unfolding get_filesystem
  get_filesystem_holds path is =
      unless_holds (is_no_superuser (caller_of e) (root_of path)) _ (law.superuser (root_of path) (for_superuser _ (root_of path) is refl))
      (law.reads ([] ∷ []) _
      (noted_holds (root_of path) (refused code.FilesystemNotFound) filesystem_shown no_filesystem (λ x there. law.succeeds (filesystem_shown x) (a_filesystem_is_shown path x is there refl))))

  set_filesystem_holds : (path : Path) (props : List (List ℕ × List ℕ)) → e.request.op ≡ op.SetFilesystem path props → Q (set_filesystem t e (root_of path) props)
  unfolding set_filesystem
  set_filesystem_holds path props is =
      unless_holds (is_no_superuser (caller_of e) (root_of path)) _ (law.superuser (root_of path) (for_superuser _ (root_of path) is refl))
      (law.reads ([] ∷ []) _
      (noted_holds (root_of path) (refused code.FilesystemNotFound) (filesystem_set e (root_of path) props) no_filesystem
      (λ x there. law.succeeds (filesystem_set e (root_of path) props x) (a_filesystem_is_set path props x is there refl))))

  delete_filesystem_holds : (path : Path) → e.request.op ≡ op.DeleteFilesystem path → Q (delete_filesystem t e (root_of path))
  unfolding delete_filesystem
  delete_filesystem_holds path is =
      unless_holds (is_no_superuser (caller_of e) (root_of path)) _ (law.superuser (root_of path) (for_superuser _ (root_of path) is refl))
      (law.reads ([] ∷ []) _
      (noted_holds (root_of path) (refused code.FilesystemNotFound) (filesystem_gone (subtree t (root_of path))) no_filesystem
      (λ x there. law.succeeds (filesystem_gone (subtree t (root_of path)) x) (a_filesystem_goes path x is refl))))

  list_filesystems_holds : (prefix : List ℕ) (token : Option Path) (max : ℕ) → e.request.op ≡ op.ListFilesystems prefix token max → Q (list_filesystems t e prefix token max)
  unfolding list_filesystems
  list_filesystems_holds prefix token max is =
      unless_holds (is_no_superuser (caller_of e) []) _ (law.superuser [] (for_superuser _ [] is refl))
      (law.reads ([] ∷ []) _
      (law.succeeds (filesystems_listed t (page_of max (above token (filesystems t prefix)))) (filesystems_are_listed prefix token max _ _ _ is refl)))

  -- ---- calls on one node

  bytes_read_holds : (path : Path) (asked : Option Range) (x : Node) (bytes : List ℕ) (range : Option Range) → e.request.op ≡ op.Read path asked → at t path ≡ Some x → Q (bytes_read e x bytes range)
  bytes_read_holds path asked x bytes None is there = law.succeeds (bytes_read e x bytes None) (a_file_is_read path asked x bytes is there refl)
  bytes_read_holds path asked x bytes (Some range) is there =
      unless_holds _ _ (refuse_asked (nat_le (length bytes) range.from) code.InvalidRange refl) (law.succeeds _ (a_part_is_read path asked x bytes _ _ is there refl))

  read_file_holds : (p : Path) (range : Option Range) → e.request.op ≡ op.Read p range → Q (read_file t e p range)
  unfolding read_file
  read_file_holds p range is = found_holds p (read_node e p range) (walks _ p is (inl refl)) (λ x there.
      unless_holds (lacks (caller_of e) 4 p x) _ (law.rights 4 p x (λ root. there) (on _ p 4 is (refl, refl)))
      (unless_holds (refuse_if (is_directory x) code.ResourceTypeMismatch) _ (refuse_asked (is_directory x) code.ResourceTypeMismatch refl)
      (unless_holds (is_unmet_look e x) _ (is_unmet_look_asked x)
      (bytes_read_holds p range x (bytes_in x.content) range is there))))

  get_properties_holds : (p : Path) (status : Bool) → e.request.op ≡ op.GetProperties p status → Q (get_properties t e p status)
  unfolding get_properties
  get_properties_holds p status is = found_holds p (properties_of e status) (walks _ p is (inl refl)) (λ x there.
      unless_holds (is_unmet_look e x) _ (is_unmet_look_asked x) (law.succeeds (properties_shown e status x) (properties_are_shown p status x is there refl)))

  get_access_holds : (p : Path) → e.request.op ≡ op.GetAccess p → Q (get_access t e p)
  unfolding get_access
  get_access_holds p is = found_holds p (access_of e) (walks _ p is (inl refl)) (λ x there.
      unless_holds (is_unmet_look e x) _ (is_unmet_look_asked x) (law.succeeds (access_shown x) (access_is_shown p x is there refl)))

  check_access_holds : (p : Path) (want : ℕ) → e.request.op ≡ op.CheckAccess p want → Q (check_access t e p want)
  unfolding check_access
  check_access_holds p want is = found_holds p (checked_on e p want) (walks _ p is (inl refl)) (λ x there.
      unless_holds (is_unmet_look e x) _ (is_unmet_look_asked x)
      (unless_holds (lacks (caller_of e) want p x) _ (law.rights want p x (λ root. there) (on _ p want is (refl, refl))) (law.succeeds _ (a_right_is_there p want is refl))))

  under_lease_holds : (answer : Result Lease LeaseFault) (next : Lease → Outcome) → ((after : Lease) → Q (next after)) → Q (under_lease answer next)
  under_lease_holds (Err f) next h = law.refuses (code_of_fault f) (fault_plain f)
  under_lease_holds (Ok after) next h = h after

  append_holds : (p : Path) (position : ℕ) (flush retain : Bool) (action : AppendLease) → e.request.op ≡ op.Append p position flush retain action
      → Q (append t e p (record { position = position; flush = flush; retain = retain; action = action }))
  unfolding append
  append_holds p position flush retain action is = found_holds p (append_node e p (record { position = position; flush = flush; retain = retain; action = action })) (walks _ p is (inl refl)) (λ x there.
      unless_holds (lacks (caller_of e) 6 p x) _ (law.rights 6 p x (λ root. there) (on _ p 6 is (refl, refl)))
      (unless_holds (refuse_if (is_directory x) code.ResourceTypeMismatch) _ (refuse_asked (is_directory x) code.ResourceTypeMismatch refl)
      (under_lease_holds (lease_act_append x.lease action e.request.lease e.moment) _ (λ after.
      unless_holds (refused_staging (stage_answer (data_of x.content) position e.request.body)) _ (staging_asked (stage_answer (data_of x.content) position e.request.body))
      (unless_holds (refused_flush_too flush (append_flush_answer (data_of x.content) position e.request.body)) _ (flush_too_asked flush (append_flush_answer (data_of x.content) position e.request.body))
      (law.succeeds _ (a_file_is_appended_to p position flush retain action x after is there refl)))))))

  flush_holds : (p : Path) (position : ℕ) (retain : Bool) → e.request.op ≡ op.Flush p position retain → Q (flush t e p position retain)
  unfolding flush
  flush_holds p position retain is = found_holds p (flush_node e p position retain) (walks _ p is (inl refl)) (λ x there.
      unless_holds (lacks (caller_of e) 6 p x) _ (law.rights 6 p x (λ root. there) (on _ p 6 is (refl, refl)))
      (unless_holds (refuse_if (is_directory x) code.ResourceTypeMismatch) _ (refuse_asked (is_directory x) code.ResourceTypeMismatch refl)
      (unless_holds (is_unmet e x) _ (is_unmet_asked x)
      (unless_holds (lease_refuses e e.request.lease x) _ (lease_asked e.request.lease x)
      (unless_holds (refused_flush (flush_answer (data_of x.content) position)) _ (flush_asked (flush_answer (data_of x.content) position))
      (law.succeeds (flushed_to e p position retain x) (a_file_is_flushed p position retain x is there refl)))))))

  set_properties_holds : (p : Path) (props : List (List ℕ × List ℕ)) → e.request.op ≡ op.SetProperties p props → Q (set_properties t e p props)
  unfolding set_properties
  set_properties_holds p props is = found_holds p (set_properties_of e p props) (walks _ p is (inl refl)) (λ x there.
      unless_holds (lacks (caller_of e) 2 p x) _ (law.rights 2 p x (λ root. there) (on _ p 2 is (refl, refl)))
      (unless_holds (is_unmet e x) _ (is_unmet_asked x)
      (unless_holds (lease_refuses e e.request.lease x) _ (lease_asked e.request.lease x)
      (law.succeeds (properties_set e p props x) (properties_are_set p props x is there refl)))))

  module _ (p : Path) (owner group : Option (List ℕ)) (permissions : Option ModeBits) (acl : Option (List (Scope × Who × ℕ))) (is : e.request.op ≡ op.SetAccess p owner group permissions acl) where
    abbrev setting : Setting
    setting = record { owner = owner; group = group; permissions = permissions; acl = acl }

    set_by : IsSetBy e.request.op p
    set_by = subst (λ (x : Op). IsSetBy x p) (sym is) refl

    access_put_holds : (x : Node) (pair : Result AclPair AclFault) → at t p ≡ Some x → Q (access_put e p setting x pair)
    access_put_holds x (Err f) there = law.refuses code.InvalidAcl refl
    access_put_holds x (Ok pair) there = law.succeeds (access_put e p setting x (Ok pair)) (access_is_set p owner group permissions acl x pair is there refl)

    set_access_holds : Q (set_access t e p (record { owner = owner; group = group; permissions = permissions; acl = acl }))
    unfolding set_access
    set_access_holds = found_holds p (set_access_of e p setting) (walks _ p is (inl refl)) (λ x there.
        unless_holds (may_not_set_access (caller_of e) p x) _ (law.access p x there set_by)
        (unless_holds (may_not_set_owner (caller_of e) p x owner) _ (law.owner p x owner there (ap asked_owner is) set_by)
        (unless_holds (may_not_set_group (caller_of e) p x group) _ (law.group p x group there (ap asked_group is) set_by)
        (unless_holds (is_unmet e x) _ (is_unmet_asked x)
        (unless_holds (lease_refuses e e.request.lease x) _ (lease_asked e.request.lease x)
        (unless_holds (refuse_if (not (is_directory x) && has_default acl) code.InvalidAcl) _ (refuse_asked (not (is_directory x) && has_default acl) code.InvalidAcl refl)
        (access_put_holds x (pair_set setting x.acl) there)))))))

  lease_put_holds : (p : Path) (a : LeaseAction) (x : Node) (new : Result Lease LeaseFault) → e.request.op ≡ op.Lease p a → at t p ≡ Some x → Q (lease_put e p a x new)
  lease_put_holds p a x (Err f) is there = law.refuses (code_of_fault f) (fault_plain f)
  lease_put_holds p a x (Ok new) is there = law.succeeds (lease_put e p a x (Ok new)) (a_lease_is_acted_on p a x new is there refl)

  act_on_lease_holds : (p : Path) (a : LeaseAction) → e.request.op ≡ op.Lease p a → Q (act_on_lease t e p a)
  unfolding act_on_lease
  act_on_lease_holds p a is = found_holds p (lease_node e p a) (walks _ p is (inl refl)) (λ x there.
      unless_holds (lacks (caller_of e) 2 p x) _ (law.rights 2 p x (λ root. there) (on _ p 2 is (refl, refl)))
      (unless_holds (is_unmet e x) _ (is_unmet_asked x)
      (lease_put_holds p a x (lease_act x.lease a e.moment) is there)))

  -- ---- create

  module _ (path : Path) (kind : Kind) (permissions umask : Option ModeBits) (props : Option (List (List ℕ × List ℕ))) (is : e.request.op ≡ op.Create path kind permissions umask props) where
    abbrev m : Making
    m = record { path = path; kind = kind; permissions = permissions; umask = umask; props = props }

    create_new_holds : (base : Path) (x : Node) → IsBase path base → Q (create_new e m base x)
    create_new_holds base x base_is = unless_holds (is_unmet_without e) _ is_unmet_without_asked (law.succeeds (made_below e m base x []) (nodes_are_made path kind permissions umask props base x [] is base_is refl))

    in_parent : IsBase path (parent path)
    in_parent = record { rest = []; parent_is = sym (append-nil (parent path)) }

    create_over_holds : (dir y : Node) → (IsDirectoryAt t [] → at t (parent path) ≡ Some dir) → at t path ≡ Some y → Q (create_over t e m dir y)
    create_over_holds dir y above there =
        unless_holds (is_guarded (caller_of e) dir path y) _ (law.sticky dir path y there above (guarded _ path is refl))
        (unless_holds (exists_already e) _ exists_already_asked
        (unless_holds (is_unmet e y) _ (is_unmet_asked y)
        (unless_holds (refuse_if (not (has_kind kind y)) code.ResourceTypeMismatch) _ (refuse_asked (not (has_kind kind y)) code.ResourceTypeMismatch refl)
        (unless_holds (refuse_if (is_directory y && not (is_bare t path)) code.DirectoryNotEmpty) _ (refuse_asked (is_directory y && not (is_bare t path)) code.DirectoryNotEmpty refl)
        (law.succeeds (made_below e m (parent path) dir (path ∷ [])) (nodes_are_made path kind permissions umask props (parent path) dir (path ∷ []) is in_parent refl))))))

    create_in_holds : way_of t (caller_of e) path ≡ reached → (dir : Node) → (IsDirectoryAt t [] → at t (parent path) ≡ Some dir) → Q (create_in t e m dir)
    create_in_holds way dir above =
        unless_holds (lacks (caller_of e) 3 (parent path) dir) _ (law.rights 3 (parent path) dir above (changes _ (parent path) is (inl (sym (ap (base_of path) way)))))
        (noted_holds path (create_new e m (parent path) dir) (create_over t e m dir) (create_new_holds (parent path) dir in_parent) (λ y there. create_over_holds dir y above there))

    create_from_holds : (d : Path) → way_of t (caller_of e) path ≡ missing d → IsMissing t (parent path) d → Q (create_from e m d (node_at t d))
    create_from_holds [] way gone = no_filesystem
    create_from_holds (fs ∷ names) way gone =
        unless_holds (lacks (caller_of e) 3 (fs ∷ names) (node_at t (fs ∷ names))) _
        (law.rights 3 (fs ∷ names) (node_at t (fs ∷ names)) (λ root. directory_there t (fs ∷ names) (gone.directory root)) (changes _ (fs ∷ names) is (inl (sym (ap (base_of path) way)))))
        (create_new_holds (fs ∷ names) (node_at t (fs ∷ names)) (record { rest = gone.name ∷ gone.rest; parent_is = gone.whole_is }))

    create_holds : Q (create t e (record { path = path; kind = kind; permissions = permissions; umask = umask; props = props }))
    unfolding create
    create_holds =
        walk_or_holds (create_from e m) code.ResourceTypeMismatch path (create_in t e m) (walks _ path is (inl refl)) refl create_from_holds
        (λ way up. create_in_holds way (node_at t (parent path)) (λ root. directory_there t (parent path) (up root)))

  -- ---- delete

  key_there : (test : Path → Bool) (q : Path) → Among q (keys_where t test) → is_some (at t q) ≡ true
  key_there test q k = (keys_among t test q k).1

  module _ (p : Path) (is : e.request.op ≡ op.Delete p true) where
    clear_if : (q : Path) (x : Node) → at t q ≡ Some x → Among q (subtree t p) → (b : Bool) → (is_directory x && not (is_bare t q)) ≡ b
        → Asked Q (if b then or_else (lacks (caller_of e) 7 q x) (first_refusal (is_guarded (caller_of e) x) t (children t q)) else None)
    clear_if q x there among false filled = none_asked
    clear_if q x there among true filled =
        let parts = both (is_directory x) (not (is_bare t q)) filled in
        or_asked (lacks (caller_of e) 7 q x) (first_refusal (is_guarded (caller_of e) x) t (children t q))
        (law.rights 7 q x (λ root. there) (below _ q 7 is (among, subst IsDirectory (sym there) parts.0, not_true (is_bare t q) parts.1, refl)))
        (first_asked (is_guarded (caller_of e) x) (children t q) (key_there (is_child q)) (λ c k y here.
        let name = child_name q c (keys_among t (is_child q) c k).0 in
        law.sticky x c y here (λ root. ap (at t) (ap parent name.1 ∙ parent_of_child q name.0) ∙ there) (guarded _ c is (inr (child_in q c among k)))))
      where
        not_true : (b : Bool) → not b ≡ true → b ≡ false
        not_true true h = sym h
        not_true false h = refl

        child_in : (q c : Path) → Among q (subtree t p) → Among c (children t q) → Among c (subtree t p)
        child_in q c in_tree k =
            let child = keys_among t (is_child q) c k in
            let name = child_name q c child.0 in
            let rest = behind_front p q (keys_among t (is_prefix p) q in_tree).0 in
            let whole : c ≡ p ++ (rest.0 ++ name.0 ∷ []) = name.1 ∙ ap (λ d. d ++ name.0 ∷ []) rest.1 ∙ append_assoc p rest.0 (name.0 ∷ []) in
            among_keys t (is_prefix p) c child.1 (subst (λ d. is_prefix p d ≡ true) (sym whole) (front_of_append p (rest.0 ++ name.0 ∷ [])))

    clearable_asked : (q : Path) (x : Node) → at t q ≡ Some x → Among q (subtree t p) → Asked Q (not_clearable t (caller_of e) q x)
    clearable_asked q x there among = clear_if q x there among (is_directory x && not (is_bare t q)) refl

  cleared_holds : (p : Path) (recursive : Bool) → e.request.op ≡ op.Delete p recursive → Q (cleared t e p recursive (subtree t p))
  cleared_holds p true is =
      law.reads (subtree t p) _
      (unless_holds (first_refusal (not_clearable t (caller_of e)) t (subtree t p)) _ (first_asked (not_clearable t (caller_of e)) (subtree t p) (key_there (is_prefix p)) (λ q k x there. clearable_asked p is q x there k))
      (law.succeeds (gone (parent p) (subtree t p)) (nodes_go p true is refl)))
  cleared_holds p false is = law.succeeds (gone (parent p) (subtree t p)) (nodes_go p false is refl)

  itself_guarded : (p : Path) (recursive : Bool) → IsGuardedFrom t (op.Delete p recursive) p
  itself_guarded p true = inl refl
  itself_guarded p false = refl

  delete_holds : (p : Path) (recursive : Bool) → e.request.op ≡ op.Delete p recursive → Q (delete t e p recursive)
  unfolding delete
  delete_holds p recursive is =
      walk_holds code.PathNotFound p (delete_in t e p recursive) (walks _ p is (inl refl)) refl (λ dir above.
      unless_holds (lacks (caller_of e) 3 (parent p) dir) _ (law.rights 3 (parent p) dir above (changes _ (parent p) is (inl refl)))
      (noted_holds p (refused (missing_code p code.PathNotFound)) (delete_node t e p recursive dir) (law.refuses (missing_code p code.PathNotFound) (missing_plain p code.PathNotFound refl)) (λ x there.
      unless_holds (is_guarded (caller_of e) dir p x) _ (law.sticky dir p x there above (guarded _ p is (itself_guarded p recursive)))
      (unless_holds (is_unmet e x) _ (is_unmet_asked x)
      (unless_holds (lease_refuses e e.request.lease x) _ (lease_asked e.request.lease x)
      (unless_holds (refuse_if (not recursive && (is_directory x && not (is_bare t p))) code.DirectoryNotEmpty) _ (refuse_asked (not recursive && (is_directory x && not (is_bare t p))) code.DirectoryNotEmpty refl)
      (cleared_holds p recursive is)))))))

  -- ---- rename

  module _ (path source : Path) (props : Option (List (List ℕ × List ℕ))) (is : e.request.op ≡ op.Rename path source props) where
    abbrev moving : Moving
    moving = record { source = source; path = path; props = props }

    shifts : (x : Node) (replaced : List Path) → Q (shifted e moving x replaced)
    shifts x replaced = law.succeeds (shifted e moving x replaced) (a_node_moves path source props x replaced is refl)

    fitted_if : (b : Bool) (x : Node) (replaced : List Path)
        → Q (if b then reading (subtree t source) (unless (refuse_if (some_too_long moving (subtree t source)) code.RenameTooLong) (shifted e moving x replaced)) else shifted e moving x replaced)
    fitted_if true x replaced =
        law.reads (subtree t source) _
        (unless_holds (refuse_if (some_too_long moving (subtree t source)) code.RenameTooLong) _ (refuse_asked (some_too_long moving (subtree t source)) code.RenameTooLong refl)
        (shifts x replaced))
    fitted_if false x replaced = shifts x replaced

    rename_over_holds : (x dir y : Node) → (IsDirectoryAt t [] → at t (parent path) ≡ Some dir) → at t path ≡ Some y → Q (rename_over t e moving x dir y)
    rename_over_holds x dir y above there =
        unless_holds (is_guarded (caller_of e) dir path y) _ (law.sticky dir path y there above (guarded _ path is (inr refl)))
        (unless_holds (exists_already e) _ exists_already_asked
        (unless_holds (is_unmet e y) _ (is_unmet_asked y)
        (unless_holds (lease_refuses e e.request.source_lease x) _ (lease_asked e.request.source_lease x)
        (unless_holds (refuse_if (not (has_kind (kind_of x) y)) code.ResourceTypeMismatch) _ (refuse_asked (not (has_kind (kind_of x) y)) code.ResourceTypeMismatch refl)
        (unless_holds (refuse_if (is_directory y && not (is_bare t path)) code.DirectoryNotEmpty) _ (refuse_asked (is_directory y && not (is_bare t path)) code.DirectoryNotEmpty refl)
        (fitted_if (is_directory x && grows moving) x (path ∷ [])))))))

    rename_new_holds : (x : Node) → Q (rename_new t e moving x)
    rename_new_holds x =
        unless_holds (is_unmet_without e) _ is_unmet_without_asked
        (unless_holds (lease_refuses e e.request.source_lease x) _ (lease_asked e.request.source_lease x)
        (fitted_if (is_directory x && grows moving) x []))

    rename_into_holds : (x dir : Node) → (IsDirectoryAt t [] → at t (parent path) ≡ Some dir) → Q (rename_into t e moving x dir)
    rename_into_holds x dir above =
        unless_holds (lacks (caller_of e) 3 (parent path) dir) _ (law.rights 3 (parent path) dir above (changes _ (parent path) is (inr (inl refl))))
        (noted_holds path (rename_new t e moving x) (rename_over t e moving x dir) (rename_new_holds x) (λ y there. rename_over_holds x dir y above there))

    rename_node_holds : (dir x : Node) → (IsDirectoryAt t [] → at t (parent source) ≡ Some dir) → at t source ≡ Some x → Q (rename_node t e moving dir x)
    rename_node_holds dir x above there =
        unless_holds (is_guarded (caller_of e) dir source x) _ (law.sticky dir source x there above (guarded _ source is (inl refl)))
        (walk_holds code.RenameDestinationParentPathNotFound path (rename_into t e moving x) (walks _ path is (inr (inl refl))) refl (λ into is_into.
        rename_into_holds x into is_into))

    rename_holds : Q (rename t e (record { source = source; path = path; props = props }))
    unfolding rename
    rename_holds =
        walk_holds code.SourcePathNotFound source (rename_out t e moving) (walks _ source is (inl refl)) refl (λ dir above.
        unless_holds (lacks (caller_of e) 3 (parent source) dir) _ (law.rights 3 (parent source) dir above (changes _ (parent source) is (inl refl)))
        (noted_holds source (refused (missing_code source code.SourcePathNotFound)) (rename_node t e moving dir) (law.refuses (missing_code source code.SourcePathNotFound) (missing_plain source code.SourcePathNotFound refl)) (λ x there.
        rename_node_holds dir x above there)))

  -- ---- pages and batches

  way_there : (test : Path → Bool) (token : Option Path) (q : Path) → Among q (on_the_way t test token) → is_some (at t q) ≡ true
  way_there test None q k = absurd k
  way_there test (Some token) q k = key_there (λ r. test r && is_prefix r token) q k

  closed_if : (dir : Path) (token : Option Path) (max : ℕ) → e.request.op ≡ op.List dir true token max → (q : Path) (x : Node) → at t q ≡ Some x
      → Among q (on_the_way t (is_below dir) token ++ (list_page t dir true token max).paths) → (b : Bool) → is_directory x ≡ b → Asked Q (if b then lacks (caller_of e) 5 q x else None)
  closed_if dir token max is q x there among true directory = law.rights 5 q x (λ root. there) (below _ q 5 is (among, subst IsDirectory (sym there) directory, refl))
  closed_if dir token max is q x there among false directory = none_asked

  paged_holds : (dir : Path) (recursive : Bool) (token : Option Path) (max : ℕ) → e.request.op ≡ op.List dir recursive token max → Q (paged t e dir recursive token (list_page t dir recursive token max))
  paged_holds dir true token max is =
      let page = list_page t dir true token max in
      let way = on_the_way t (is_below dir) token in
      law.reads (way ++ page.paths) (unless (first_refusal (is_closed (caller_of e)) t (way ++ page.paths)) (listed t dir page))
      (unless_holds (first_refusal (is_closed (caller_of e)) t (way ++ page.paths)) (listed t dir page) (first_asked (is_closed (caller_of e)) (way ++ page.paths) (λ q k. elim (among_either q way page.paths k) [
        | inl on ↦ way_there (is_below dir) token q on
        | inr in_page ↦ key_there (is_below dir) q (among_above token q (keys_where t (is_below dir)) (among_take max q (above token (keys_where t (is_below dir))) in_page))
      ]) (λ q k x there. closed_if dir token max is q x there k (is_directory x) refl))
      (law.succeeds (listed t dir page) (paths_are_listed dir true token max _ _ _ is refl)))
  paged_holds dir false token max is =
      law.reads (list_page t dir false token max).paths (listed t dir (list_page t dir false token max))
      (law.succeeds (listed t dir (list_page t dir false token max)) (paths_are_listed dir false token max _ _ _ is refl))

  list_paths_holds : (dir : Path) (recursive : Bool) (token : Option Path) (max : ℕ) → e.request.op ≡ op.List dir recursive token max → Q (list_paths t e dir recursive token max)
  unfolding list_paths
  list_paths_holds dir recursive token max is = found_holds dir (list_node t e dir recursive token max) (walks _ dir is (inl refl)) (λ x there.
      unless_holds (refuse_if (not (is_directory x)) code.ResourceTypeMismatch) _ (refuse_asked (not (is_directory x)) code.ResourceTypeMismatch refl)
      (unless_holds (lacks (caller_of e) 5 dir x) _ (law.rights 5 dir x (λ root. there) (on _ dir 5 is (refl, refl)))
      (paged_holds dir recursive token max is)))

  set_access_recursive_holds : (p : Path) (change : BatchChange) (token : Option Path) (max : ℕ) (force : Bool) → e.request.op ≡ op.SetAccessRecursive p change token max force → Q (set_access_recursive t e p change token max force)
  unfolding set_access_recursive
  set_access_recursive_holds p change token max force is = found_holds p (batch_below t e p change token force (batch_page t p token max)) (walks _ p is (inl refl)) (λ x there.
      law.reads (on_the_way t (is_prefix p) token) _
      (law.succeeds (batched e p force token (batch_page t p token max) (batch_of t e change force (batch_page t p token max).paths)) (a_batch_is_done p change token max force is refl)))

  -- ---- an entry

  -- the step of an entry has the law, where a refusal that decoding gives has it
  pub acts_holds : (o : Op) → e.request.op ≡ o → ((c : Code) → o ≡ op.Refused c → Q (refused c)) → Q (acts t e o)
  acts_holds (op.ListFilesystems prefix token max) is decoded = list_filesystems_holds prefix token max is
  acts_holds (op.CreateFilesystem path props) is decoded = create_filesystem_holds path props is
  acts_holds (op.GetFilesystem path) is decoded = get_filesystem_holds path is
  acts_holds (op.SetFilesystem path props) is decoded = set_filesystem_holds path props is
  acts_holds (op.DeleteFilesystem path) is decoded = delete_filesystem_holds path is
  acts_holds (op.List dir recursive token max) is decoded = list_paths_holds dir recursive token max is
  acts_holds (op.Create path kind permissions umask props) is decoded = create_holds path kind permissions umask props is
  acts_holds (op.Rename path source props) is decoded = rename_holds path source props is
  acts_holds (op.Read path range) is decoded = read_file_holds path range is
  acts_holds (op.GetProperties path status) is decoded = get_properties_holds path status is
  acts_holds (op.GetAccess path) is decoded = get_access_holds path is
  acts_holds (op.CheckAccess path want) is decoded = check_access_holds path want is
  acts_holds (op.Append path position flush retain action) is decoded = append_holds path position flush retain action is
  acts_holds (op.Flush path position retain) is decoded = flush_holds path position retain is
  acts_holds (op.SetProperties path props) is decoded = set_properties_holds path props is
  acts_holds (op.SetAccess path owner group permissions acl) is decoded = set_access_holds path owner group permissions acl is
  acts_holds (op.SetAccessRecursive path change token max force) is decoded = set_access_recursive_holds path change token max force is
  acts_holds (op.Lease path action) is decoded = act_on_lease_holds path action is
  acts_holds (op.Delete path recursive) is decoded = delete_holds path recursive is
  acts_holds (op.Refused code) is decoded = decoded code refl
