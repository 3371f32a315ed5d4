-- What is above a touched path is touched too: each operation, and the outcome of an entry.
use Rattle.std.proofs.Common.{◌≡◌, inl, inr, ℕ, Bool, true, false, not, ◌&&◌, List, [], ◌∷◌, ◌++◌, length, drop, map, take, Option, Some, None, is_some, Result, Ok, Err, refl, sym, subst}
use Rattle.acl_text.specs.declared.acl.AclPair.{AclPair}
use Rattle.acl_text.specs.declared.acl.AclFault.{AclFault}
use Rattle.file_data.specs.FileRecord.{stage_answer, flush_answer, append_flush_answer}
use Rattle.head_text.specs.declared.range.Range.{Range}
use Rattle.lease_state.specs.declared.lease.Lease.{Lease}
use Rattle.lease_state.specs.declared.lease.LeaseAction.{LeaseAction}
use Rattle.lease_state.specs.declared.lease.LeaseFault.{LeaseFault}
use Rattle.lease_state.specs.LeaseTable.{lease_act}
use Rattle.lease_state.specs.LeaseAppends.{lease_act_append}
use Rattle.path_text.specs.Paths.{is_prefix}
use Rattle.namespace_model.specs.declared.code.Code.{Code}
use Rattle.namespace_model.specs.declared.code.Code.TheVariants as code
use Rattle.namespace_model.specs.declared.op.BatchChange.{BatchChange}
use Rattle.namespace_model.specs.declared.op.Op.{Op}
use Rattle.namespace_model.specs.declared.op.Op.TheVariants as op
use Rattle.namespace_model.specs.declared.request.Entry.{Entry}
use Rattle.namespace_model.specs.Nodes.{Node, is_directory, kind_of, has_kind, bytes_in}
use Rattle.namespace_model.specs.Trees.{Path, Tree, at, parent, is_bare, is_child, is_below, keys_where, subtree, IsLaid}
use Rattle.namespace_model.specs.Effects.{Put}
use Rattle.namespace_model.specs.Outcomes.{Outcome, touched, refused, unless, without_repeats}
use Rattle.namespace_model.specs.Refusals.{caller_of, is_no_superuser, lacks, is_guarded, is_unmet, is_unmet_look, is_unmet_without, lease_refuses, exists_already, refuse_if, first_refusal, may_not_set_access, may_not_set_owner, may_not_set_group}
use Rattle.namespace_model.specs.Pages.{above, on_the_way}
use Rattle.namespace_model.specs.Walks.{missing_code}
use Rattle.namespace_model.specs.Locality.{Among, IsClosed}
use Rattle.namespace_model.specs.CreateFilesystem.{create_filesystem, filesystem_made}
use Rattle.namespace_model.specs.GetFilesystem.{get_filesystem, filesystem_shown}
use Rattle.namespace_model.specs.SetFilesystem.{set_filesystem, filesystem_set}
use Rattle.namespace_model.specs.DeleteFilesystem.{delete_filesystem, filesystem_gone}
use Rattle.namespace_model.specs.ListFilesystems.{list_filesystems, filesystems, begins_with}
use Rattle.namespace_model.specs.ListPaths.{list_paths, list_node, list_page, paged, listed, is_closed}
use Rattle.namespace_model.specs.Create.{Making, create, create_from, create_in, create_over, create_new, made_below, new_nodes, new_directory}
use Rattle.namespace_model.specs.Delete.{delete, delete_in, delete_node, cleared, gone, not_clearable}
use Rattle.namespace_model.specs.Rename.{Moving, rename, rename_out, rename_node, rename_into, rename_over, rename_new, fitted, shifted, grows, some_too_long}
use Rattle.namespace_model.specs.ReadFile.{read_file, read_node, bytes_read}
use Rattle.namespace_model.specs.GetProperties.{get_properties, properties_shown}
use Rattle.namespace_model.specs.GetAccess.{get_access, access_shown}
use Rattle.namespace_model.specs.CheckAccess.{check_access}
use Rattle.namespace_model.specs.Append.{Appending, append, append_data, appended, refused_flush_too, under_lease}
use Rattle.namespace_model.specs.Contents.{data_of, refused_staging, refused_flush}
use Rattle.namespace_model.specs.Flush.{flush, flushed_to}
use Rattle.namespace_model.specs.SetProperties.{set_properties, properties_set}
use Rattle.namespace_model.specs.SetAccess.{Setting, set_access, access_put, pair_set, has_default}
use Rattle.namespace_model.specs.SetAccessRecursive.{set_access_recursive, batch_below, batch_page, batch_of, batched}
use Rattle.namespace_model.specs.LeaseNode.{act_on_lease, lease_put}
use Rattle.namespace_model.specs.Step.{root_of, acts, outcome, with_close}
use Rattle.namespace_model.proofs.Lookups.{keys_among}
use Rattle.namespace_model.proofs.Prefixes.{both, parent_of_child}
use Rattle.namespace_model.proofs.Alikeness.{among_left, among_right, among_either}
use Rattle.namespace_model.proofs.PageOrder.{keys_ascend, among_take}
use Rattle.namespace_model.proofs.PageLooks.{over_test, above_keys, below_is_listing, at_or_below_is_listing}
use Rattle.namespace_model.proofs.ClosedSteps.{Closed, Rooted, Also, Unseen, rooted_append, seen_rooted, one_rooted, known_rooted, account_rooted, answered_closed, refused_closed, reading_closed, unless_closed, noted_closed, edited_closed, walk_or_closed, walk_closed, found_closed, subtree_rooted, rooted_up, once_among}
use Rattle.namespace_model.proofs.ClosedPages.{among_above, children_rooted, take_is_front, take_ascends, front_of_front, IsFront, batch_paths, on_the_way_rooted, page_rooted, front_rooted, batch_is_front}

-- a step before which nothing was seen
pub closed_whole : (f : Tree → Outcome) → ((t : Tree) → IsLaid t → Closed Unseen (f t)) → IsClosed f
closed_whole f closed t laid = rooted_up (touched (f t)) (closed t laid).hangs

-- ---- calls on filesystems

root_parent : (p : Path) → parent (root_of p) ≡ []
root_parent [] = refl
root_parent (fs ∷ names) = refl

-- the account was read, and it is above the root of each filesystem
Account : Path → Type 0
Account = Also Unseen ([] ∷ [])

account_seen : Account []
unfolding Account
account_seen = inr (inl refl)

root_seen : (p : Path) → Account (parent (root_of p))
root_seen p = subst Account (sym (root_parent p)) account_seen

pub create_filesystem_closed : (e : Entry) (p : Path) (props : Option (List (List ℕ × List ℕ))) → IsClosed (λ t. create_filesystem t e (root_of p) props)
unfolding create_filesystem Account
create_filesystem_closed e p props = closed_whole (λ t. create_filesystem t e (root_of p) props) (λ t laid.
    unless_closed Unseen (is_no_superuser (caller_of e) (root_of p)) _
    (reading_closed Unseen ([] ∷ []) _ (account_rooted Unseen)
    (unless_closed Account (refuse_if (is_some (at t (root_of p))) code.FilesystemAlreadyExists) (filesystem_made e (root_of p) props)
    (record { hangs = rooted_append Account ([] ∷ []) (root_of p ∷ []) (account_rooted Account) (one_rooted (Also Account ([] ∷ [])) (root_of p) (inl (root_seen p))) }))))

pub get_filesystem_closed : (e : Entry) (p : Path) → IsClosed (λ t. get_filesystem t e (root_of p))
unfolding get_filesystem Account
get_filesystem_closed e p = closed_whole (λ t. get_filesystem t e (root_of p)) (λ t laid.
    unless_closed Unseen (is_no_superuser (caller_of e) (root_of p)) _
    (reading_closed Unseen ([] ∷ []) _ (account_rooted Unseen)
    (noted_closed Account (at t (root_of p)) (root_of p) (refused code.FilesystemNotFound) filesystem_shown (root_seen p) (refused_closed Account code.FilesystemNotFound) (λ x. answered_closed _ _))))

pub set_filesystem_closed : (e : Entry) (p : Path) (props : List (List ℕ × List ℕ)) → IsClosed (λ t. set_filesystem t e (root_of p) props)
unfolding set_filesystem Account
set_filesystem_closed e p props = closed_whole (λ t. set_filesystem t e (root_of p) props) (λ t laid.
    unless_closed Unseen (is_no_superuser (caller_of e) (root_of p)) _
    (reading_closed Unseen ([] ∷ []) _ (account_rooted Unseen)
    (noted_closed Account (at t (root_of p)) (root_of p) (refused code.FilesystemNotFound) (filesystem_set e (root_of p) props) (root_seen p) (refused_closed Account code.FilesystemNotFound)
    (λ x. edited_closed (Also Account (root_of p ∷ [])) (root_of p) _ _ (inr (inl refl))))))

pub delete_filesystem_closed : (e : Entry) (p : Path) → IsClosed (λ t. delete_filesystem t e (root_of p))
unfolding delete_filesystem Account
delete_filesystem_closed e p = closed_whole (λ t. delete_filesystem t e (root_of p)) (λ t laid.
    unless_closed Unseen (is_no_superuser (caller_of e) (root_of p)) _
    (reading_closed Unseen ([] ∷ []) _ (account_rooted Unseen)
    (noted_closed Account (at t (root_of p)) (root_of p) (refused code.FilesystemNotFound) (filesystem_gone (subtree t (root_of p))) (root_seen p) (refused_closed Account code.FilesystemNotFound)
    (λ x. record {
      hangs = rooted_append (Also Account (root_of p ∷ [])) ([] ∷ []) (subtree t (root_of p)) (account_rooted (Also Account (root_of p ∷ [])))
          (subtree_rooted (Also (Also Account (root_of p ∷ [])) ([] ∷ [])) t laid (root_of p) (inl (inl (root_seen p))));
    }))))

pub list_filesystems_closed : (e : Entry) (prefix : List ℕ) (token : Option Path) (max : ℕ) → IsClosed (λ t. list_filesystems t e prefix token max)
unfolding list_filesystems Account
list_filesystems_closed e prefix token max = closed_whole (λ t. list_filesystems t e prefix token max) (λ t laid.
    unless_closed Unseen (is_no_superuser (caller_of e) []) _
    (reading_closed Unseen ([] ∷ []) _ (account_rooted Unseen)
    (reading_closed Account (take max (above token (filesystems t prefix))) _
    (children_rooted Account [] (take max (above token (filesystems t prefix))) account_seen (λ q k.
    (both _ _ (keys_among t (λ r. is_child [] r && begins_with prefix r) q (among_above token q (filesystems t prefix) (among_take max q (above token (filesystems t prefix)) k))).0).0))
    (answered_closed _ _))))

-- ---- calls on one node

bytes_read_closed : (S : Path → Type 0) (e : Entry) (x : Node) (bytes : List ℕ) (range : Option Range) → Closed S (bytes_read e x bytes range)
bytes_read_closed S e x bytes None = answered_closed S _
bytes_read_closed S e x bytes (Some range) = unless_closed S _ _ (answered_closed _ _)

pub read_file_closed : (e : Entry) (p : Path) (range : Option Range) → IsClosed (λ t. read_file t e p range)
unfolding read_file
read_file_closed e p range = closed_whole (λ t. read_file t e p range) (λ t laid. found_closed Unseen t e p (read_node e p range) (λ S keeps here x.
    unless_closed S (lacks (caller_of e) 4 p x) _
    (unless_closed S (refuse_if (is_directory x) code.ResourceTypeMismatch) _
    (unless_closed S (is_unmet_look e x) _
    (bytes_read_closed S e x (bytes_in x.content) range)))))

pub get_properties_closed : (e : Entry) (p : Path) (status : Bool) → IsClosed (λ t. get_properties t e p status)
unfolding get_properties
get_properties_closed e p status = closed_whole (λ t. get_properties t e p status) (λ t laid. found_closed Unseen t e p _ (λ S keeps here x.
    unless_closed S (is_unmet_look e x) (properties_shown e status x) (answered_closed _ _)))

pub get_access_closed : (e : Entry) (p : Path) → IsClosed (λ t. get_access t e p)
unfolding get_access
get_access_closed e p = closed_whole (λ t. get_access t e p) (λ t laid. found_closed Unseen t e p _ (λ S keeps here x.
    unless_closed S (is_unmet_look e x) (access_shown x) (answered_closed _ _)))

pub check_access_closed : (e : Entry) (p : Path) (want : ℕ) → IsClosed (λ t. check_access t e p want)
unfolding check_access
check_access_closed e p want = closed_whole (λ t. check_access t e p want) (λ t laid. found_closed Unseen t e p _ (λ S keeps here x.
    unless_closed S (is_unmet_look e x) _
    (unless_closed S (lacks (caller_of e) want p x) _ (answered_closed _ _))))

under_lease_closed : (S : Path → Type 0) (answer : Result Lease LeaseFault) (next : Lease → Outcome) → ((after : Lease) → Closed S (next after)) → Closed S (under_lease answer next)
under_lease_closed S (Err f) next h = answered_closed S _
under_lease_closed S (Ok after) next h = h after

pub append_closed : (e : Entry) (p : Path) (a : Appending) → IsClosed (λ t. append t e p a)
unfolding append
append_closed e p a = closed_whole (λ t. append t e p a) (λ t laid. found_closed Unseen t e p _ (λ S keeps here x.
    unless_closed S (lacks (caller_of e) 6 p x) _
    (unless_closed S (refuse_if (is_directory x) code.ResourceTypeMismatch) _
    (under_lease_closed S (lease_act_append x.lease a.action e.request.lease e.moment) (append_data e p a x) (λ after.
    unless_closed S (refused_staging (stage_answer (data_of x.content) a.position e.request.body)) _
    (unless_closed S (refused_flush_too a.flush (append_flush_answer (data_of x.content) a.position e.request.body)) (appended e p a x after)
    (edited_closed S p _ _ here)))))))

pub flush_closed : (e : Entry) (p : Path) (position : ℕ) (retain : Bool) → IsClosed (λ t. flush t e p position retain)
unfolding flush
flush_closed e p position retain = closed_whole (λ t. flush t e p position retain) (λ t laid. found_closed Unseen t e p _ (λ S keeps here x.
    unless_closed S (lacks (caller_of e) 6 p x) _
    (unless_closed S (refuse_if (is_directory x) code.ResourceTypeMismatch) _
    (unless_closed S (is_unmet e x) _
    (unless_closed S (lease_refuses e e.request.lease x) _
    (unless_closed S (refused_flush (flush_answer (data_of x.content) position)) (flushed_to e p position retain x)
    (edited_closed S p _ _ here)))))))

pub set_properties_closed : (e : Entry) (p : Path) (props : List (List ℕ × List ℕ)) → IsClosed (λ t. set_properties t e p props)
unfolding set_properties
set_properties_closed e p props = closed_whole (λ t. set_properties t e p props) (λ t laid. found_closed Unseen t e p _ (λ S keeps here x.
    unless_closed S (lacks (caller_of e) 2 p x) _
    (unless_closed S (is_unmet e x) _
    (unless_closed S (lease_refuses e e.request.lease x) (properties_set e p props x)
    (edited_closed S p _ _ here)))))

access_put_closed : (S : Path → Type 0) (e : Entry) (p : Path) (s : Setting) (x : Node) (pair : Result AclPair AclFault) → S p → Closed S (access_put e p s x pair)
access_put_closed S e p s x (Err f) here = refused_closed S code.InvalidAcl
access_put_closed S e p s x (Ok pair) here = edited_closed S p _ _ here

pub set_access_closed : (e : Entry) (p : Path) (setting : Setting) → IsClosed (λ t. set_access t e p setting)
unfolding set_access
set_access_closed e p s = closed_whole (λ t. set_access t e p s) (λ t laid. found_closed Unseen t e p _ (λ S keeps here x.
    unless_closed S (may_not_set_access (caller_of e) p x) _
    (unless_closed S (may_not_set_owner (caller_of e) p x s.owner) _
    (unless_closed S (may_not_set_group (caller_of e) p x s.group) _
    (unless_closed S (is_unmet e x) _
    (unless_closed S (lease_refuses e e.request.lease x) _
    (unless_closed S (refuse_if (not (is_directory x) && has_default s.acl) code.InvalidAcl) _
    (access_put_closed S e p s x (pair_set s x.acl) here))))))))

lease_put_closed : (S : Path → Type 0) (e : Entry) (p : Path) (a : LeaseAction) (x : Node) (new : Result Lease LeaseFault) → S p → Closed S (lease_put e p a x new)
lease_put_closed S e p a x (Err f) here = answered_closed S _
lease_put_closed S e p a x (Ok new) here = edited_closed S p _ _ here

pub act_on_lease_closed : (e : Entry) (p : Path) (action : LeaseAction) → IsClosed (λ t. act_on_lease t e p action)
unfolding act_on_lease
act_on_lease_closed e p a = closed_whole (λ t. act_on_lease t e p a) (λ t laid. found_closed Unseen t e p _ (λ S keeps here x.
    unless_closed S (lacks (caller_of e) 2 p x) _
    (unless_closed S (is_unmet e x) _
    (lease_put_closed S e p a x (lease_act x.lease a e.moment) here))))

-- ---- create

-- each new node is below the one before it
new_nodes_rooted : (S : Path → Type 0) (e : Entry) (m : Making) (x : Node) (done names : Path) → S done → Rooted S (map (λ (y : Path × Put). y.0) (new_nodes e m x done names))
new_nodes_rooted S e m x done [] s = λ q k. absurd k
new_nodes_rooted S e m x done (n ∷ []) s = one_rooted S (done ++ n ∷ []) (subst S (sym (parent_of_child done n)) s)
new_nodes_rooted S e m x done (n ∷ o ∷ names) s =
    rooted_append S ((done ++ n ∷ []) ∷ []) (map (λ (y : Path × Put). y.0) (new_nodes e m (new_directory e m x) (done ++ n ∷ []) (o ∷ names)))
    (one_rooted S (done ++ n ∷ []) (subst S (sym (parent_of_child done n)) s))
    (new_nodes_rooted (Also S ((done ++ n ∷ []) ∷ [])) e m (new_directory e m x) (done ++ n ∷ []) (o ∷ names) (inr (inl refl)))

made_below_closed : (S : Path → Type 0) (e : Entry) (m : Making) (base : Path) (x : Node) (replaced : List Path) → S base → Closed S (made_below e m base x replaced)
made_below_closed S e m base x replaced s =
    record {
      hangs = rooted_append S (base ∷ []) (map (λ (y : Path × Put). y.0) (new_nodes e m x base (drop (length base) m.path))) (known_rooted S base s)
          (new_nodes_rooted (Also S (base ∷ [])) e m x base (drop (length base) m.path) (inl s));
    }

module _ (t : Tree) (e : Entry) (m : Making) where
  create_new_closed : (S : Path → Type 0) (base : Path) (x : Node) → S base → Closed S (create_new e m base x)
  create_new_closed S base x s = unless_closed S (is_unmet_without e) (made_below e m base x []) (made_below_closed S e m base x [] s)

  create_over_closed : (S : Path → Type 0) (dir y : Node) → S (parent m.path) → Closed S (create_over t e m dir y)
  create_over_closed S dir y s =
      unless_closed S (is_guarded (caller_of e) dir m.path y) _
      (unless_closed S (exists_already e) _
      (unless_closed S (is_unmet e y) _
      (unless_closed S (refuse_if (not (has_kind m.kind y)) code.ResourceTypeMismatch) _
      (unless_closed S (refuse_if (is_directory y && not (is_bare t m.path)) code.DirectoryNotEmpty) (made_below e m (parent m.path) dir (m.path ∷ []))
      (made_below_closed S e m (parent m.path) dir (m.path ∷ []) s)))))

  create_in_closed : (S : Path → Type 0) (dir : Node) → S (parent m.path) → Closed S (create_in t e m dir)
  create_in_closed S dir s =
      unless_closed S (lacks (caller_of e) 3 (parent m.path) dir) _
      (noted_closed S (at t m.path) m.path (create_new e m (parent m.path) dir) (create_over t e m dir) s (create_new_closed S (parent m.path) dir s)
      (λ y. create_over_closed (Also S (m.path ∷ [])) dir y (inl s)))

  create_from_closed : (S : Path → Type 0) (d : Path) (x : Node) → S d → Closed S (create_from e m d x)
  create_from_closed S [] x s = refused_closed S code.FilesystemNotFound
  create_from_closed S (fs ∷ names) x s = unless_closed S (lacks (caller_of e) 3 (fs ∷ names) x) (create_new e m (fs ∷ names) x) (create_new_closed S (fs ∷ names) x s)

pub create_closed : (e : Entry) (m : Making) → IsClosed (λ t. create t e m)
unfolding create
create_closed e m = closed_whole (λ t. create t e m) (λ t laid.
    walk_or_closed Unseen t (caller_of e) (create_from e m) code.ResourceTypeMismatch m.path (create_in t e m)
    (λ S keeps d s x. create_from_closed t e m S d x s)
    (λ S keeps s dir. create_in_closed t e m S dir s))

-- ---- delete

module _ (t : Tree) (laid : IsLaid t) (e : Entry) (p : Path) where
  gone_closed : (S : Path → Type 0) (ps : List Path) → S (parent p) → Rooted S ps → Closed S (gone (parent p) ps)
  gone_closed S ps s rooted = record { hangs = rooted_append S (parent p ∷ []) ps (known_rooted S (parent p) s) (rooted_more rooted) }
    where
      rooted_more : Rooted S ps → Rooted (Also S (parent p ∷ [])) ps
      rooted_more h q k = elim (h q k) [ inl a ↦ inl (inl a) | inr b ↦ inr (elim b [ inl c ↦ inl (inl c) | inr d ↦ inr d ]) ]

  cleared_closed : (S : Path → Type 0) (recursive : Bool) → S (parent p) → Closed S (cleared t e p recursive (subtree t p))
  cleared_closed S true s =
      reading_closed S (subtree t p) _ (subtree_rooted S t laid p s)
      (unless_closed (Also S (subtree t p)) (first_refusal (not_clearable t (caller_of e)) t (subtree t p)) (gone (parent p) (subtree t p))
      (gone_closed (Also S (subtree t p)) (subtree t p) (inl s) (λ q k. inl (inr k))))
  cleared_closed S false s = gone_closed S (subtree t p) s (subtree_rooted S t laid p s)

  delete_node_closed : (S : Path → Type 0) (recursive : Bool) (dir x : Node) → S (parent p) → Closed S (delete_node t e p recursive dir x)
  delete_node_closed S recursive dir x s =
      unless_closed S (is_guarded (caller_of e) dir p x) _
      (unless_closed S (is_unmet e x) _
      (unless_closed S (lease_refuses e e.request.lease x) _
      (unless_closed S (refuse_if (not recursive && (is_directory x && not (is_bare t p))) code.DirectoryNotEmpty) _
      (cleared_closed S recursive s))))

pub delete_closed : (e : Entry) (p : Path) (recursive : Bool) → IsClosed (λ t. delete t e p recursive)
unfolding delete
delete_closed e p recursive = closed_whole (λ t. delete t e p recursive) (λ t laid.
    walk_closed Unseen t (caller_of e) code.PathNotFound p (delete_in t e p recursive) (λ S keeps s dir.
    unless_closed S (lacks (caller_of e) 3 (parent p) dir) _
    (noted_closed S (at t p) p (refused (missing_code p code.PathNotFound)) (delete_node t e p recursive dir) s (refused_closed S (missing_code p code.PathNotFound)) (λ x.
    delete_node_closed t laid e p (Also S (p ∷ [])) recursive dir x (inl s)))))

-- ---- rename

module _ (t : Tree) (laid : IsLaid t) (e : Entry) (m : Moving) where
  shifted_closed : (S : Path → Type 0) (x : Node) (replaced : List Path) → S (parent m.source) → S (parent m.path) → S m.source → ((q : Path) → Among q replaced → S q) → Closed S (shifted e m x replaced)
  shifted_closed S x replaced out into here over = record { hangs = seen_rooted S (parent m.source ∷ parent m.path ∷ m.source ∷ replaced) seen }
    where
      seen : (q : Path) → Among q (parent m.source ∷ parent m.path ∷ m.source ∷ replaced) → S q
      seen q (inl a) = subst S (sym a) out
      seen q (inr (inl a)) = subst S (sym a) into
      seen q (inr (inr (inl a))) = subst S (sym a) here
      seen q (inr (inr (inr k))) = over q k

  fitted_if : (S : Path → Type 0) (b : Bool) (x : Node) (replaced : List Path) → S (parent m.source) → S (parent m.path) → S m.source → ((q : Path) → Among q replaced → S q)
      → (is_directory x && grows m) ≡ b → Closed S (fitted t e m x replaced)
  fitted_if S true x replaced out into here over is = rw (is)
      (reading_closed S (subtree t m.source) _ (subtree_rooted S t laid m.source out)
      (unless_closed (Also S (subtree t m.source)) (refuse_if (some_too_long m (subtree t m.source)) code.RenameTooLong) (shifted e m x replaced)
      (shifted_closed (Also S (subtree t m.source)) x replaced (inl out) (inl into) (inl here) (λ q k. inl (over q k)))))
  fitted_if S false x replaced out into here over is = rw (is) (shifted_closed S x replaced out into here over)

  rename_over_closed : (S : Path → Type 0) (x dir y : Node) → S (parent m.source) → S (parent m.path) → S m.source → S m.path → Closed S (rename_over t e m x dir y)
  rename_over_closed S x dir y out into here over =
      unless_closed S (is_guarded (caller_of e) dir m.path y) _
      (unless_closed S (exists_already e) _
      (unless_closed S (is_unmet e y) _
      (unless_closed S (lease_refuses e e.request.source_lease x) _
      (unless_closed S (refuse_if (not (has_kind (kind_of x) y)) code.ResourceTypeMismatch) _
      (unless_closed S (refuse_if (is_directory y && not (is_bare t m.path)) code.DirectoryNotEmpty) (fitted t e m x (m.path ∷ []))
      (fitted_if S (is_directory x && grows m) x (m.path ∷ []) out into here (λ q k. elim k [ inl a ↦ subst S (sym a) over | inr none ↦ absurd none ]) refl))))))

  rename_new_closed : (S : Path → Type 0) (x : Node) → S (parent m.source) → S (parent m.path) → S m.source → Closed S (rename_new t e m x)
  rename_new_closed S x out into here =
      unless_closed S (is_unmet_without e) _
      (unless_closed S (lease_refuses e e.request.source_lease x) (fitted t e m x [])
      (fitted_if S (is_directory x && grows m) x [] out into here (λ q k. absurd k) refl))

  rename_into_closed : (S : Path → Type 0) (x dir : Node) → S (parent m.source) → S (parent m.path) → S m.source → Closed S (rename_into t e m x dir)
  rename_into_closed S x dir out into here =
      unless_closed S (lacks (caller_of e) 3 (parent m.path) dir) _
      (noted_closed S (at t m.path) m.path (rename_new t e m x) (rename_over t e m x dir) into (rename_new_closed S x out into here)
      (λ y. rename_over_closed (Also S (m.path ∷ [])) x dir y (inl out) (inl into) (inl here) (inr (inl refl))))

  rename_node_closed : (S : Path → Type 0) (dir x : Node) → S (parent m.source) → S m.source → Closed S (rename_node t e m dir x)
  rename_node_closed S dir x out here =
      unless_closed S (is_guarded (caller_of e) dir m.source x) _
      (walk_closed S t (caller_of e) code.RenameDestinationParentPathNotFound m.path (rename_into t e m x) (λ R keeps into dir.
      rename_into_closed R x dir (keeps (parent m.source) out) into (keeps m.source here)))

pub rename_closed : (e : Entry) (m : Moving) → IsClosed (λ t. rename t e m)
unfolding rename
rename_closed e m = closed_whole (λ t. rename t e m) (λ t laid.
    walk_closed Unseen t (caller_of e) code.SourcePathNotFound m.source (rename_out t e m) (λ S keeps s dir.
    unless_closed S (lacks (caller_of e) 3 (parent m.source) dir) _
    (noted_closed S (at t m.source) m.source (refused (missing_code m.source code.SourcePathNotFound)) (rename_node t e m dir) s (refused_closed S (missing_code m.source code.SourcePathNotFound)) (λ x.
    rename_node_closed t laid e m (Also S (m.source ∷ [])) dir x (inl s) (inr (inl refl))))))

-- ---- pages

paged_closed : (S : Path → Type 0) (t : Tree) (laid : IsLaid t) (e : Entry) (dir : Path) (recursive : Bool) (token : Option Path) (max : ℕ) → S dir
    → Closed S (paged t e dir recursive token (list_page t dir recursive token max))
paged_closed S t laid e dir true token max here =
    let page = list_page t dir true token max in
    let way = on_the_way t (is_below dir) token in
    reading_closed S (way ++ page.paths) (unless (first_refusal (is_closed (caller_of e)) t (way ++ page.paths)) (listed t dir page))
    (rooted_append S way page.paths (on_the_way_rooted t laid dir (is_below dir) (below_is_listing dir) S here token) (page_rooted t laid dir (is_below dir) (below_is_listing dir) S here token max))
    (unless_closed (Also S (way ++ page.paths)) (first_refusal (is_closed (caller_of e)) t (way ++ page.paths)) (listed t dir page) (answered_closed _ _))
paged_closed S t laid e dir false token max here =
    let page = list_page t dir false token max in
    reading_closed S page.paths (listed t dir page)
    (children_rooted S dir page.paths here (λ q k. (keys_among t (is_child dir) q (among_above token q (keys_where t (is_child dir)) (among_take max q (above token (keys_where t (is_child dir))) k))).0))
    (answered_closed _ _)

pub list_paths_closed : (e : Entry) (dir : Path) (recursive : Bool) (token : Option Path) (max : ℕ) → IsClosed (λ t. list_paths t e dir recursive token max)
unfolding list_paths
list_paths_closed e dir recursive token max = closed_whole (λ t. list_paths t e dir recursive token max) (λ t laid. found_closed Unseen t e dir (list_node t e dir recursive token max) (λ S keeps here x.
    unless_closed S (refuse_if (not (is_directory x)) code.ResourceTypeMismatch) _
    (unless_closed S (lacks (caller_of e) 5 dir x) _
    (paged_closed S t laid e dir recursive token max here))))

-- ---- batches

pub set_access_recursive_closed : (e : Entry) (p : Path) (change : BatchChange) (token : Option Path) (max : ℕ) (force : Bool) → IsClosed (λ t. set_access_recursive t e p change token max force)
unfolding set_access_recursive
set_access_recursive_closed e p change token max force = closed_whole (λ t. set_access_recursive t e p change token max force) (λ t laid.
    let xs = keys_where t (over_test (is_prefix p) token) in
    found_closed Unseen t e p (batch_below t e p change token force (batch_page t p token max)) (λ S keeps here x.
    reading_closed S (on_the_way t (is_prefix p) token) (batched e p force token (batch_page t p token max) (batch_of t e change force (take max (above token (subtree t p)))))
    (on_the_way_rooted t laid p (is_prefix p) (at_or_below_is_listing p) S here token)
    (record {
      hangs = front_rooted t laid p (is_prefix p) (at_or_below_is_listing p) S here token (batch_paths (batch_of t e change force (take max (above token (subtree t p)))))
          (subst (λ (ps : List Path). IsFront (batch_paths (batch_of t e change force (take max ps))) xs) (sym (above_keys t (is_prefix p) token))
          (front_of_front (batch_paths (batch_of t e change force (take max xs))) (take max xs) xs (batch_is_front t e change force (take max xs) (take_ascends max xs (keys_ascend t (over_test (is_prefix p) token))))
          (take_is_front max xs (keys_ascend t (over_test (is_prefix p) token)))));
    })))

-- ---- an entry

pub refused_is_closed : (c : Code) → IsClosed (λ t. refused c)
refused_is_closed c t laid p q k = absurd k

pub acts_closed : (e : Entry) (o : Op) → IsClosed (λ t. acts t e o)
acts_closed e (op.ListFilesystems prefix token max) = list_filesystems_closed e prefix token max
acts_closed e (op.CreateFilesystem path props) = create_filesystem_closed e path props
acts_closed e (op.GetFilesystem path) = get_filesystem_closed e path
acts_closed e (op.SetFilesystem path props) = set_filesystem_closed e path props
acts_closed e (op.DeleteFilesystem path) = delete_filesystem_closed e path
acts_closed e (op.List dir recursive token max) = list_paths_closed e dir recursive token max
acts_closed e (op.Create path kind permissions umask props) =
    create_closed e (record { path = path; kind = kind; permissions = permissions; umask = umask; props = props })
acts_closed e (op.Rename path source props) = rename_closed e (record { source = source; path = path; props = props })
acts_closed e (op.Read path range) = read_file_closed e path range
acts_closed e (op.GetProperties path status) = get_properties_closed e path status
acts_closed e (op.GetAccess path) = get_access_closed e path
acts_closed e (op.CheckAccess path want) = check_access_closed e path want
acts_closed e (op.Append path position flush retain action) =
    append_closed e path (record { position = position; flush = flush; retain = retain; action = action })
acts_closed e (op.Flush path position retain) = flush_closed e path position retain
acts_closed e (op.SetProperties path props) = set_properties_closed e path props
acts_closed e (op.SetAccess path owner group permissions acl) =
    set_access_closed e path (record { owner = owner; group = group; permissions = permissions; acl = acl })
acts_closed e (op.SetAccessRecursive path change token max force) = set_access_recursive_closed e path change token max force
acts_closed e (op.Lease path action) = act_on_lease_closed e path action
acts_closed e (op.Delete path recursive) = delete_closed e path recursive
acts_closed e (op.Refused code) = refused_is_closed code

-- each path once, and the same paths
touched_once : (o : Outcome) (p : Path) → Among p (touched o) → Among p (touched (without_repeats o))
touched_once o p h = elim (among_either p o.read o.written h) [
  | inl k ↦ among_left p (without_repeats o).read (without_repeats o).written ((once_among p o.read).0 k)
  | inr k ↦ among_right p (without_repeats o).read (without_repeats o).written ((once_among p o.written).0 k)
]

once_touched : (o : Outcome) (p : Path) → Among p (touched (without_repeats o)) → Among p (touched o)
once_touched o p h = elim (among_either p (without_repeats o).read (without_repeats o).written h) [
  | inl k ↦ among_left p o.read o.written ((once_among p o.read).1 k)
  | inr k ↦ among_right p o.read o.written ((once_among p o.written).1 k)
]

pub outcome_closed : (e : Entry) → IsClosed (λ t. outcome t e)
unfolding outcome
outcome_closed e t laid p q k =
    let o = with_close e.request.close (acts t e e.request.op) in
    touched_once o p (acts_closed e e.request.op t laid p q (once_touched o (p ++ q) k))
