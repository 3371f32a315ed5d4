-- Each operation but the pages is decided by what it reads and writes.
use Rattle.std.proofs.Common.{◌≡◌, inl, inr, ℕ, Bool, true, false, not, ◌&&◌, ◌==◌, List, [], ◌∷◌, ◌++◌, length, Option, is_some, refl, ap, sym, subst, ◌∙◌, append_assoc}
use Rattle.head_text.specs.declared.range.Range.{Range}
use Rattle.lease_state.specs.declared.lease.LeaseAction.{LeaseAction}
use Rattle.path_text.specs.Paths.{is_prefix}
use Rattle.namespace_model.specs.declared.caller.Caller.{Caller}
use Rattle.namespace_model.specs.declared.code.Code.TheVariants as code
use Rattle.namespace_model.specs.declared.request.Entry.{Entry}
use Rattle.namespace_model.specs.Nodes.{Node, is_directory, kind_of, has_kind}
use Rattle.namespace_model.specs.Trees.{Path, Tree, at, parent, is_child, subtree, children, IsLaid}
use Rattle.namespace_model.specs.Outcomes.{refused, unless}
use Rattle.namespace_model.specs.Refusals.{caller_of, is_no_superuser, lacks, is_guarded, is_unmet, is_unmet_without, lease_refuses, exists_already, refuse_if, first_refusal}
use Rattle.namespace_model.specs.Walks.{missing_code}
use Rattle.namespace_model.specs.Locality.{Among, Alike, IsLocal}
use Rattle.namespace_model.specs.CreateFilesystem.{create_filesystem, filesystem_made}
use Rattle.namespace_model.specs.GetFilesystem.{get_filesystem, filesystem_shown}
use Rattle.namespace_model.specs.SetFilesystem.{set_filesystem, filesystem_set}
use Rattle.namespace_model.specs.DeleteFilesystem.{delete_filesystem, filesystem_gone}
use Rattle.namespace_model.specs.Create.{Making, create, create_from, create_in, create_over, create_new}
use Rattle.namespace_model.specs.Delete.{delete, delete_in, delete_node, cleared, gone, not_clearable}
use Rattle.namespace_model.specs.Rename.{Moving, rename, rename_out, rename_node, rename_into, rename_over, rename_new, fitted, shifted, grows, some_too_long}
use Rattle.namespace_model.specs.ReadFile.{read_file}
use Rattle.namespace_model.specs.GetProperties.{get_properties}
use Rattle.namespace_model.specs.GetAccess.{get_access}
use Rattle.namespace_model.specs.CheckAccess.{check_access}
use Rattle.namespace_model.specs.Append.{Appending, append}
use Rattle.namespace_model.specs.Flush.{flush}
use Rattle.namespace_model.specs.SetProperties.{set_properties}
use Rattle.namespace_model.specs.SetAccess.{Setting, set_access}
use Rattle.namespace_model.specs.LeaseNode.{act_on_lease}
use Rattle.namespace_model.specs.Step.{root_of}
use Rattle.namespace_model.proofs.Alikeness.{AlikeOn, go_on, unless_same, noted_same, shown_from_parent, walk_or_same, walk_same, found_same, children_same, subtree_same, first_refusal_same, read_touched}
use Rattle.namespace_model.proofs.Lookups.{keys_among, among_keys}
use Rattle.namespace_model.proofs.Prefixes.{behind_front, child_name, front_of_append}

-- ---- calls on filesystems

-- the root of a filesystem shows where the account is alike
root_shown : (s t : Tree) (laid_s : IsLaid s) (laid_t : IsLaid t) (p : Path) → Alike s t [] → is_some (at s (root_of p)) ≡ is_some (at t (root_of p))
root_shown s t laid_s laid_t [] alike = ap is_some alike.node
root_shown s t laid_s laid_t (fs ∷ names) alike = alike.names fs

pub create_filesystem_local : (e : Entry) (p : Path) (props : Option (List (List ℕ × List ℕ))) → IsLocal (λ t. create_filesystem t e (root_of p) props)
unfolding create_filesystem
create_filesystem_local e p props s t laid_s laid_t =
    unless_same s t laid_s laid_t (is_no_superuser (caller_of e) (root_of p)) _ _ _ refl
    (go_on s t laid_s laid_t ([] ∷ []) _ _ (λ root.
    unless_same s t laid_s laid_t _ _ (filesystem_made e (root_of p) props) _ (ap (λ b. refuse_if b code.FilesystemAlreadyExists) (root_shown s t laid_s laid_t p (root [] (inl refl)))) (λ h. refl)))

pub get_filesystem_local : (e : Entry) (p : Path) → IsLocal (λ t. get_filesystem t e (root_of p))
unfolding get_filesystem
get_filesystem_local e p s t laid_s laid_t =
    unless_same s t laid_s laid_t (is_no_superuser (caller_of e) (root_of p)) _ _ _ refl
    (go_on s t laid_s laid_t ([] ∷ []) _ _ (λ root.
    noted_same s t laid_s laid_t (root_of p) (refused code.FilesystemNotFound) _ filesystem_shown filesystem_shown (root_shown s t laid_s laid_t p (root [] (inl refl))) (λ h. refl) (λ x alike is h. refl)))

pub set_filesystem_local : (e : Entry) (p : Path) (props : List (List ℕ × List ℕ)) → IsLocal (λ t. set_filesystem t e (root_of p) props)
unfolding set_filesystem
set_filesystem_local e p props s t laid_s laid_t =
    unless_same s t laid_s laid_t (is_no_superuser (caller_of e) (root_of p)) _ _ _ refl
    (go_on s t laid_s laid_t ([] ∷ []) _ _ (λ root.
    noted_same s t laid_s laid_t (root_of p) (refused code.FilesystemNotFound) _ (filesystem_set e (root_of p) props) (filesystem_set e (root_of p) props) (root_shown s t laid_s laid_t p (root [] (inl refl))) (λ h. refl) (λ x alike is h. refl)))

pub delete_filesystem_local : (e : Entry) (p : Path) → IsLocal (λ t. delete_filesystem t e (root_of p))
unfolding delete_filesystem
delete_filesystem_local e p s t laid_s laid_t =
    unless_same s t laid_s laid_t (is_no_superuser (caller_of e) (root_of p)) _ _ _ refl
    (go_on s t laid_s laid_t ([] ∷ []) _ _ (λ root.
    let shown = root_shown s t laid_s laid_t p (root [] (inl refl)) in
    noted_same s t laid_s laid_t (root_of p) (refused code.FilesystemNotFound) _ (filesystem_gone (subtree s (root_of p))) (filesystem_gone (subtree t (root_of p))) shown (λ h. refl)
    (λ x alike is h. ap (λ ps. filesystem_gone ps x) (subtree_same s t laid_s laid_t (root_of p) shown (λ q k. h q (inr k))))))

-- ---- calls on one node

pub read_file_local : (e : Entry) (p : Path) (range : Option Range) → IsLocal (λ t. read_file t e p range)
unfolding read_file
read_file_local e p range s t laid_s laid_t = found_same s t laid_s laid_t e p _ _ (λ x alike h. refl)

pub get_properties_local : (e : Entry) (p : Path) (status : Bool) → IsLocal (λ t. get_properties t e p status)
unfolding get_properties
get_properties_local e p status s t laid_s laid_t = found_same s t laid_s laid_t e p _ _ (λ x alike h. refl)

pub get_access_local : (e : Entry) (p : Path) → IsLocal (λ t. get_access t e p)
unfolding get_access
get_access_local e p s t laid_s laid_t = found_same s t laid_s laid_t e p _ _ (λ x alike h. refl)

pub check_access_local : (e : Entry) (p : Path) (want : ℕ) → IsLocal (λ t. check_access t e p want)
unfolding check_access
check_access_local e p want s t laid_s laid_t = found_same s t laid_s laid_t e p _ _ (λ x alike h. refl)

pub append_local : (e : Entry) (p : Path) (a : Appending) → IsLocal (λ t. append t e p a)
unfolding append
append_local e p a s t laid_s laid_t = found_same s t laid_s laid_t e p _ _ (λ x alike h. refl)

pub flush_local : (e : Entry) (p : Path) (position : ℕ) (retain : Bool) → IsLocal (λ t. flush t e p position retain)
unfolding flush
flush_local e p position retain s t laid_s laid_t = found_same s t laid_s laid_t e p _ _ (λ x alike h. refl)

pub set_properties_local : (e : Entry) (p : Path) (props : List (List ℕ × List ℕ)) → IsLocal (λ t. set_properties t e p props)
unfolding set_properties
set_properties_local e p props s t laid_s laid_t = found_same s t laid_s laid_t e p _ _ (λ x alike h. refl)

pub set_access_local : (e : Entry) (p : Path) (setting : Setting) → IsLocal (λ t. set_access t e p setting)
unfolding set_access
set_access_local e p setting s t laid_s laid_t = found_same s t laid_s laid_t e p _ _ (λ x alike h. refl)

pub act_on_lease_local : (e : Entry) (p : Path) (action : LeaseAction) → IsLocal (λ t. act_on_lease t e p action)
unfolding act_on_lease
act_on_lease_local e p action s t laid_s laid_t = found_same s t laid_s laid_t e p _ _ (λ x alike h. refl)

-- ---- create

module _ (s t : Tree) (laid_s : IsLaid s) (laid_t : IsLaid t) (e : Entry) (m : Making) where
  create_over_same : (dir y : Node) → Alike s t m.path → create_over s e m dir y ≡ create_over t e m dir y
  create_over_same dir y alike = rw (children_same s t laid_s laid_t m.path alike) refl

  create_in_same : Alike s t (parent m.path) → (dir : Node) → AlikeOn s t laid_s laid_t (create_in s e m dir) → create_in s e m dir ≡ create_in t e m dir
  create_in_same up dir =
      unless_same s t laid_s laid_t (lacks (caller_of e) 3 (parent m.path) dir) _ _ _ refl
      (noted_same s t laid_s laid_t m.path (create_new e m (parent m.path) dir) _ (create_over s e m dir) (create_over t e m dir) (shown_from_parent s t laid_s laid_t m.path up) (λ h. refl)
      (λ y alike is h. create_over_same dir y alike))

pub create_local : (e : Entry) (m : Making) → IsLocal (λ t. create t e m)
unfolding create
create_local e m s t laid_s laid_t =
    walk_or_same s t laid_s laid_t (caller_of e) (create_from e m) (create_from e m) code.ResourceTypeMismatch m.path (create_in s e m) (create_in t e m) (λ d x alike h. refl) (λ dir up. create_in_same s t laid_s laid_t e m up dir)

-- ---- delete

module _ (s t : Tree) (laid_s : IsLaid s) (laid_t : IsLaid t) where
  not_clearable_same : (caller : Caller) (p : Path) (x : Node) → Alike s t p → ((q : Path) → Among q (children s p) → Alike s t q) → not_clearable s caller p x ≡ not_clearable t caller p x
  not_clearable_same caller p x alike below =
      let same = children_same s t laid_s laid_t p alike in
      rw (first_refusal_same s t laid_s laid_t (is_guarded caller x) (is_guarded caller x) (children s p) (λ q k. (below q k, λ y. refl)), same) refl

  -- a child of something below is below
  deeper : (p q c : Path) → is_prefix p q ≡ true → is_child q c ≡ true → is_prefix p c ≡ true
  deeper p q c below child =
      let rest = behind_front p q below in
      let name = child_name q c child in
      let whole : c ≡ p ++ (rest.0 ++ name.0 ∷ []) = name.1 ∙ ap (λ d. d ++ name.0 ∷ []) rest.1 ∙ append_assoc p rest.0 (name.0 ∷ []) in
      subst (λ d. is_prefix p d ≡ true) (sym whole) (front_of_append p (rest.0 ++ name.0 ∷ []))

  clearing_same : (caller : Caller) (p : Path) → ((q : Path) → is_prefix p q ≡ true → is_some (at s q) ≡ true → Alike s t q)
      → first_refusal (not_clearable s caller) s (subtree s p) ≡ first_refusal (not_clearable t caller) t (subtree s p)
  clearing_same caller p alike =
      first_refusal_same s t laid_s laid_t (not_clearable s caller) (not_clearable t caller) (subtree s p) (λ q k.
      let here = keys_among s (is_prefix p) q k in
      let is = alike q here.0 here.1 in (
        is,
        λ x. not_clearable_same caller q x is (λ c j.
            let among = keys_among s (is_child q) c j in
            alike c (deeper p q c here.0 among.0) among.1),
      ))

  -- what stands at and below a path is alike where its list is
  all_below : (p : Path) → ((q : Path) → Among q (subtree s p) → Alike s t q) → (q : Path) → is_prefix p q ≡ true → is_some (at s q) ≡ true → Alike s t q
  all_below p alike q below there = alike q (among_keys s (is_prefix p) q there below)

  cleared_same : (e : Entry) (p : Path) (recursive : Bool) → is_some (at s p) ≡ is_some (at t p)
      → AlikeOn s t laid_s laid_t (cleared s e p recursive (subtree s p)) → cleared s e p recursive (subtree s p) ≡ cleared t e p recursive (subtree t p)
  cleared_same e p true shown h =
      let alike : (q : Path) → Among q (subtree s p) → Alike s t q = λ q k. h q (read_touched q (subtree s p) (unless (first_refusal (not_clearable s (caller_of e)) s (subtree s p)) (gone (parent p) (subtree s p))) k) in
      let same = subtree_same s t laid_s laid_t p shown alike in
      let kept = clearing_same (caller_of e) p (all_below p alike) in
      rw (kept, same) refl
  cleared_same e p false shown h =
      rw (subtree_same s t laid_s laid_t p shown (λ q k. h q (inr k))) refl

  delete_node_same : (e : Entry) (p : Path) (recursive : Bool) (dir x : Node) → is_some (at s p) ≡ is_some (at t p) → Alike s t p
      → AlikeOn s t laid_s laid_t (delete_node s e p recursive dir x) → delete_node s e p recursive dir x ≡ delete_node t e p recursive dir x
  delete_node_same e p recursive dir x shown alike =
      unless_same s t laid_s laid_t (is_guarded (caller_of e) dir p x) _ _ _ refl
      (unless_same s t laid_s laid_t (is_unmet e x) _ _ _ refl
      (unless_same s t laid_s laid_t (lease_refuses e e.request.lease x) _ _ _ refl
      (unless_same s t laid_s laid_t _ _ _ _ (ap (λ ps. refuse_if (not recursive && (is_directory x && not (length ps == 0))) code.DirectoryNotEmpty) (children_same s t laid_s laid_t p alike))
      (cleared_same e p recursive shown))))

  delete_in_same : (e : Entry) (p : Path) (recursive : Bool) (dir : Node) → Alike s t (parent p)
      → AlikeOn s t laid_s laid_t (delete_in s e p recursive dir) → delete_in s e p recursive dir ≡ delete_in t e p recursive dir
  delete_in_same e p recursive dir up =
      unless_same s t laid_s laid_t (lacks (caller_of e) 3 (parent p) dir) _ _ _ refl
      (noted_same s t laid_s laid_t p (refused (missing_code p code.PathNotFound)) _ (delete_node s e p recursive dir) (delete_node t e p recursive dir) (shown_from_parent s t laid_s laid_t p up) (λ h. refl)
      (λ x alike is. delete_node_same e p recursive dir x (shown_from_parent s t laid_s laid_t p up) alike))

pub delete_local : (e : Entry) (p : Path) (recursive : Bool) → IsLocal (λ t. delete t e p recursive)
unfolding delete
delete_local e p recursive s t laid_s laid_t =
    walk_same s t laid_s laid_t (caller_of e) code.PathNotFound p (delete_in s e p recursive) (delete_in t e p recursive) (λ dir up. delete_in_same s t laid_s laid_t e p recursive dir up)

-- ---- rename

module _ (s t : Tree) (laid_s : IsLaid s) (laid_t : IsLaid t) (e : Entry) (m : Moving) where
  fitted_if : (b : Bool) (x : Node) (replaced : List Path) → is_some (at s m.source) ≡ is_some (at t m.source) → (is_directory x && grows m) ≡ b
      → AlikeOn s t laid_s laid_t (fitted s e m x replaced) → fitted s e m x replaced ≡ fitted t e m x replaced
  fitted_if true x replaced shown is h =
      let looked = rw (is) at h in
      rw (is, subtree_same s t laid_s laid_t m.source shown (λ q k. looked q (read_touched q (subtree s m.source) (unless (refuse_if (some_too_long m (subtree s m.source)) code.RenameTooLong) (shifted e m x replaced)) k))) refl
  fitted_if false x replaced shown is h = rw (is) refl

  fitted_same : (x : Node) (replaced : List Path) → is_some (at s m.source) ≡ is_some (at t m.source)
      → AlikeOn s t laid_s laid_t (fitted s e m x replaced) → fitted s e m x replaced ≡ fitted t e m x replaced
  fitted_same x replaced shown = fitted_if (is_directory x && grows m) x replaced shown refl

  rename_over_same : (x dir y : Node) → is_some (at s m.source) ≡ is_some (at t m.source) → Alike s t m.path
      → AlikeOn s t laid_s laid_t (rename_over s e m x dir y) → rename_over s e m x dir y ≡ rename_over t e m x dir y
  rename_over_same x dir y shown alike =
      unless_same s t laid_s laid_t (is_guarded (caller_of e) dir m.path y) _ _ _ refl
      (unless_same s t laid_s laid_t (exists_already e) _ _ _ refl
      (unless_same s t laid_s laid_t (is_unmet e y) _ _ _ refl
      (unless_same s t laid_s laid_t (lease_refuses e e.request.source_lease x) _ _ _ refl
      (unless_same s t laid_s laid_t (refuse_if (not (has_kind (kind_of x) y)) code.ResourceTypeMismatch) _ _ _ refl
      (unless_same s t laid_s laid_t _ _ _ _ (ap (λ ps. refuse_if (is_directory y && not (length ps == 0)) code.DirectoryNotEmpty) (children_same s t laid_s laid_t m.path alike))
      (fitted_same x (m.path ∷ []) shown))))))

  rename_new_same : (x : Node) → is_some (at s m.source) ≡ is_some (at t m.source)
      → AlikeOn s t laid_s laid_t (rename_new s e m x) → rename_new s e m x ≡ rename_new t e m x
  rename_new_same x shown =
      unless_same s t laid_s laid_t (is_unmet_without e) _ _ _ refl
      (unless_same s t laid_s laid_t (lease_refuses e e.request.source_lease x) _ _ _ refl
      (fitted_same x [] shown))

  rename_into_same : (x dir : Node) → is_some (at s m.source) ≡ is_some (at t m.source) → Alike s t (parent m.path)
      → AlikeOn s t laid_s laid_t (rename_into s e m x dir) → rename_into s e m x dir ≡ rename_into t e m x dir
  rename_into_same x dir shown up =
      unless_same s t laid_s laid_t (lacks (caller_of e) 3 (parent m.path) dir) _ _ _ refl
      (noted_same s t laid_s laid_t m.path (rename_new s e m x) (rename_new t e m x) (rename_over s e m x dir) (rename_over t e m x dir) (shown_from_parent s t laid_s laid_t m.path up) (rename_new_same x shown)
      (λ y alike is. rename_over_same x dir y shown alike))

  rename_node_same : (dir x : Node) → is_some (at s m.source) ≡ is_some (at t m.source)
      → AlikeOn s t laid_s laid_t (rename_node s e m dir x) → rename_node s e m dir x ≡ rename_node t e m dir x
  rename_node_same dir x shown =
      unless_same s t laid_s laid_t (is_guarded (caller_of e) dir m.source x) _ _ _ refl
      (walk_same s t laid_s laid_t (caller_of e) code.RenameDestinationParentPathNotFound m.path (rename_into s e m x) (rename_into t e m x) (λ into up. rename_into_same x into shown up))

  rename_out_same : (dir : Node) → Alike s t (parent m.source)
      → AlikeOn s t laid_s laid_t (rename_out s e m dir) → rename_out s e m dir ≡ rename_out t e m dir
  rename_out_same dir up =
      let shown = shown_from_parent s t laid_s laid_t m.source up in
      unless_same s t laid_s laid_t (lacks (caller_of e) 3 (parent m.source) dir) _ _ _ refl
      (noted_same s t laid_s laid_t m.source (refused (missing_code m.source code.SourcePathNotFound)) _ (rename_node s e m dir) (rename_node t e m dir) shown (λ h. refl) (λ x alike is. rename_node_same dir x shown))

pub rename_local : (e : Entry) (m : Moving) → IsLocal (λ t. rename t e m)
unfolding rename
rename_local e m s t laid_s laid_t =
    walk_same s t laid_s laid_t (caller_of e) code.SourcePathNotFound m.source (rename_out s e m) (rename_out t e m) (λ dir up. rename_out_same s t laid_s laid_t e m dir up)
