-- The effect of each sound step lies on the tree as it has to.
use Rattle.std.proofs.Common.{◌≡◌, inl, inr, ℕ, suc, Bool, true, false, cond, not, ◌&&◌, List, [], ◌∷◌, ◌++◌, length, drop, nat_le, Option, Some, None, is_some, unwrap_or, Result, Ok, Err, refl, ap, sym, subst, ◌∙◌, append_assoc, arith}
use Rattle.namespace_model.proofs.PageOrder.{among_take}
use Rattle.std.proofs.lemmas.Bool.{false≢true}
use Rattle.std.proofs.lemmas.Option.{same_Some}
use Rattle.std.specs.Ordering.{eq_by_cmp}
use Rattle.std.specs.FinMap.{find}
use Rattle.acl_text.specs.declared.acl.AclPair.{AclPair}
use Rattle.acl_text.specs.declared.acl.AclFault.{AclFault}
use Rattle.head_text.specs.declared.range.Range.{Range}
use Rattle.lease_state.specs.declared.lease.Lease.{Lease}
use Rattle.lease_state.specs.declared.lease.LeaseAction.{LeaseAction}
use Rattle.lease_state.specs.declared.lease.LeaseFault.{LeaseFault}
use Rattle.lease_state.specs.LeaseAppends.{lease_act_append}
use Rattle.lease_state.specs.LeaseTable.{lease_act, lease_after_write}
use Rattle.file_data.specs.FileRecord.{stage_answer, flush_answer, append_flush_answer}
use Rattle.path_text.specs.Paths.{path_cmp, is_prefix}
use Rattle.path_text.specs.Texts.{KeepsLimits}
use Rattle.namespace_model.specs.declared.code.Code.{Code}
use Rattle.namespace_model.specs.declared.code.Code.TheVariants as code
use Rattle.namespace_model.specs.declared.op.BatchChange.{BatchChange}
use Rattle.namespace_model.specs.declared.reply.Reply.{Reply}
use Rattle.namespace_model.specs.declared.request.Entry.{Entry}
use Rattle.namespace_model.specs.Nodes.{Node, blank, is_directory, kind_of, has_kind, bytes_in}
use Rattle.namespace_model.specs.Trees.{Path, Tree, at, node_at, parent, subtree, is_bare, is_below, IsDirectoryAt, IsTree}
use Rattle.namespace_model.specs.Effects.{Put, stamp, keep}
use Rattle.namespace_model.specs.Outcomes.{Outcome, reading, answered, refused, unless, noted}
use Rattle.namespace_model.specs.Refusals.{caller_of, is_no_superuser, lacks, is_guarded, exists_already, is_unmet, is_unmet_look, is_unmet_without, lease_refuses, refuse_if, first_refusal, may_not_set_access, may_not_set_owner, may_not_set_group}
use Rattle.namespace_model.specs.Walks.{missing_code}
use Rattle.namespace_model.specs.Pages.{above, on_the_way}
use Rattle.namespace_model.specs.Locality.{Among}
use Rattle.namespace_model.specs.Shapes.{HasShape, IsShaped, KeepsKind}
use Rattle.namespace_model.specs.Sound.{IsRootPath, IsBelowRoot, CanBeMoved}
use Rattle.namespace_model.specs.CreateFilesystem.{create_filesystem, filesystem_made, new_root}
use Rattle.namespace_model.specs.GetFilesystem.{get_filesystem, filesystem_shown}
use Rattle.namespace_model.specs.SetFilesystem.{set_filesystem, filesystem_set}
use Rattle.namespace_model.specs.DeleteFilesystem.{delete_filesystem, filesystem_gone}
use Rattle.namespace_model.specs.ListFilesystems.{list_filesystems}
use Rattle.namespace_model.specs.ListPaths.{list_paths, list_node, list_page, paged, listed, is_closed}
use Rattle.namespace_model.specs.Create.{Making, create, create_from, create_in, create_over, create_new, made_below, new_nodes}
use Rattle.namespace_model.specs.Delete.{delete, delete_in, delete_node, cleared, gone, not_clearable}
use Rattle.namespace_model.specs.Rename.{Moving, rename, rename_out, rename_node, rename_into, rename_over, rename_new, fitted, shifted, grows, some_too_long}
use Rattle.namespace_model.specs.ReadFile.{read_file, read_node, bytes_read, part_read, last_byte}
use Rattle.namespace_model.specs.GetProperties.{get_properties, properties_of, properties_shown}
use Rattle.namespace_model.specs.GetAccess.{get_access, access_of, access_shown}
use Rattle.namespace_model.specs.CheckAccess.{check_access, checked_on}
use Rattle.namespace_model.specs.Append.{Appending, append, append_node, append_data, append_put, appended, appended_node, refused_flush_too}
use Rattle.namespace_model.specs.Contents.{data_of, refused_staging, refused_flush}
use Rattle.namespace_model.specs.Flush.{flush, flush_node, flushed_to}
use Rattle.namespace_model.specs.SetProperties.{set_properties, set_properties_of, properties_set}
use Rattle.namespace_model.specs.SetAccess.{Setting, set_access, set_access_of, access_put, pair_set, has_default, sticky_set}
use Rattle.namespace_model.specs.LeaseNode.{act_on_lease, lease_node, lease_put}
use Rattle.namespace_model.specs.SetAccessRecursive.{set_access_recursive, batch_below, batch_page, batch_of, Batch, turn_of, with_turn}
use Rattle.namespace_model.specs.Step.{root_of}
use Rattle.namespace_model.proofs.Lookups.{keys_among, path_from_eq}
use Rattle.namespace_model.proofs.Prefixes.{parent_name}
use Rattle.namespace_model.proofs.Alikeness.{nothing_below}
use Rattle.namespace_model.proofs.PageLooks.{above_keys, over_test}
use Rattle.namespace_model.proofs.Everywhere.{under_lease_has, unless_has, unless_if_has, noted_has, walk_or_has, walk_has, found_has}
use Rattle.namespace_model.proofs.Effected.{drop_front}
use Rattle.namespace_model.proofs.ShapedEdits.{none_some, still_shape, edit_shape, edits_shaped, gone_shaped, nothing_under}
use Rattle.namespace_model.proofs.ShapedMaking.{made_shaped, nothing_replaced, one_replaced, IsReplaced, paths_of}
use Rattle.namespace_model.proofs.ShapedMoving.{shifted_shaped, IsCleared, long_path, fits_unless, fits_looked}

module _ (t : Tree) (is : IsTree t) (e : Entry) where
  quiet : (reply : Reply) → IsShaped t (answered reply)
  quiet reply = still_shape t

  read : (ps : List Path) (o : Outcome) → IsShaped t o → IsShaped t (reading ps o)
  read ps o h = h

  go : (x : Option Reply) (o : Outcome) → IsShaped t o → IsShaped t (unless x o)
  go x o h = unless_has (IsShaped t) quiet read x o (λ k. h)

  if : (b : Bool) (c : Code) (o : Outcome) → (b ≡ false → IsShaped t o) → IsShaped t (unless (refuse_if b c) o)
  if = unless_if_has (IsShaped t) quiet read

  at_node : (p : Path) (some : Node → Outcome) → ((x : Node) → at t p ≡ Some x → IsShaped t (some x)) → IsShaped t (Rattle.namespace_model.specs.Looks.found t e p some)
  at_node p some = found_has (IsShaped t) quiet read t e p some is.root

  -- ---- filesystems

  root_is : (p : Path) → IsRootPath p → (fs : List ℕ) × (p ≡ fs ∷ [])
  root_is [] sound = absurd (let h = sound.parts in let l : length (nil_path) ≡ 0 = refl in omega arith)
    where
      nil_path : Path
      nil_path = []
  root_is (fs ∷ []) sound = (fs, refl)
  root_is (fs ∷ n ∷ p) sound = absurd (let h = sound.parts in let l : length (fs ∷ n ∷ p) ≡ suc (suc (length p)) = refl in omega arith)

  filesystem_made_shaped : (fs : List ℕ) (props : Option (List (List ℕ × List ℕ))) → KeepsLimits (fs ∷ []) → at t (fs ∷ []) ≡ None → IsShaped t (filesystem_made e (fs ∷ []) props)
  filesystem_made_shaped fs props limits none = record {
    writes = record {
      taken_too = λ p h. absurd h;
      put_too = λ p h. inr h;
      fresh_too = λ p h. inr h;
      above_taken = λ p h. absurd h;
      above_fresh = λ p h. elim h [ inl same ↦ inl (ap parent same) | inr k ↦ absurd k ];
      moved = tt;
    };
    placed = record {
      taken_below = λ p q h k. absurd h;
      put = λ p h. inr h;
      fresh_put = λ p h. h;
      fresh_free = λ p h. elim h [ inl same ↦ inl (ap (at t) same ∙ none) | inr k ↦ absurd k ];
    };
    growth = record {
      kinds = λ p put found stays. new_kind p (eq_by_cmp path_cmp p (fs ∷ [])) put refl found;
      limits = λ p h. elim h [ inl same ↦ subst KeepsLimits (sym same) limits | inr k ↦ absurd k ];
      above = λ p h. inl (record { there = elim h [ inl same ↦ subst (λ q. IsDirectoryAt t q) (sym (ap parent same)) is.root | inr k ↦ absurd k ]; stays = λ k. k });
      account_old = λ h. elim h [ inl same ↦ none_some fs (ap first same) | inr k ↦ k ];
      account_stays = λ h. h;
      moved = tt;
    };
  }
    where
      first : Path → Option (List ℕ)
      first [] = None
      first (n ∷ p) = Some n

      new_kind : (p : Path) (b : Bool) (put : Put) → eq_by_cmp path_cmp p (fs ∷ []) ≡ b → cond b (Some (stamp e.moment (new_root props))) None ≡ Some put → KeepsKind (at t p) put
      new_kind p true put same found = subst (λ (o : Option Node). KeepsKind o put) (sym (ap (at t) (path_from_eq p (fs ∷ []) same) ∙ none)) tt
      new_kind p false put same found = absurd (none_some put found)

  none_there : (o : Option Node) → is_some o ≡ false → o ≡ None
  none_there None h = refl
  none_there (Some x) h = absurd (false≢true (sym h))

  pub create_filesystem_shaped : (p : Path) (props : Option (List (List ℕ × List ℕ))) → IsRootPath p → IsShaped t (create_filesystem t e (root_of p) props)
  unfolding create_filesystem
  create_filesystem_shaped p props sound =
      let root = root_is p sound in
      subst (λ q. IsShaped t (unless (is_no_superuser (caller_of e) (root_of q)) (reading ([] ∷ []) (unless (refuse_if (is_some (at t (root_of q))) code.FilesystemAlreadyExists) (filesystem_made e (root_of q) props))))) (sym root.1)
      (go (is_no_superuser (caller_of e) (root.0 ∷ [])) _
      (if (is_some (at t (root.0 ∷ []))) code.FilesystemAlreadyExists _ (λ h. filesystem_made_shaped root.0 props (subst KeepsLimits root.1 sound.limits) (none_there (at t (root.0 ∷ [])) h))))

  pub get_filesystem_shaped : (p : Path) → IsShaped t (get_filesystem t e p)
  unfolding get_filesystem
  get_filesystem_shaped p =
      go (is_no_superuser (caller_of e) p) _ (noted_has (IsShaped t) quiet read (at t p) p (refused code.FilesystemNotFound) filesystem_shown (λ h. still_shape t) (λ x h. still_shape t))

  pub set_filesystem_shaped : (p : Path) (props : List (List ℕ × List ℕ)) → IsShaped t (set_filesystem t e p props)
  unfolding set_filesystem
  set_filesystem_shaped p props =
      go (is_no_superuser (caller_of e) p) _ (noted_has (IsShaped t) quiet read (at t p) p (refused code.FilesystemNotFound) (filesystem_set e p props) (λ h. still_shape t) (λ x h. edit_shape t p _ x h refl))

  pub delete_filesystem_shaped : (p : Path) → IsRootPath p → IsShaped t (delete_filesystem t e (root_of p))
  unfolding delete_filesystem
  delete_filesystem_shaped p sound =
      let root = root_is p sound in
      subst (λ q. IsShaped t (unless (is_no_superuser (caller_of e) (root_of q)) (reading ([] ∷ []) (noted (at t (root_of q)) (root_of q) (refused code.FilesystemNotFound) (filesystem_gone (subtree t (root_of q))))))) (sym root.1)
      (go (is_no_superuser (caller_of e) (root.0 ∷ [])) _
      (noted_has (IsShaped t) quiet read (at t (root.0 ∷ [])) (root.0 ∷ []) (refused code.FilesystemNotFound) (filesystem_gone (subtree t (root.0 ∷ []))) (λ h. still_shape t)
      (λ x h. gone_shaped t is (root.0 ∷ []) [] (λ same. none_some root.0 (sym (ap first same))) refl)))
    where
      first : Path → Option (List ℕ)
      first [] = None
      first (n ∷ p) = Some n

  pub list_filesystems_shaped : (prefix : List ℕ) (token : Option Path) (max : ℕ) → IsShaped t (list_filesystems t e prefix token max)
  unfolding list_filesystems
  list_filesystems_shaped prefix token max = go (is_no_superuser (caller_of e) []) _ (still_shape t)

  -- ---- looks

  pub read_file_shaped : (p : Path) (range : Option Range) → IsShaped t (read_file t e p range)
  unfolding read_file
  read_file_shaped p range =
      at_node p (read_node e p range) (λ x h.
      go (lacks (caller_of e) 4 p x) _ (if (is_directory x) code.ResourceTypeMismatch _ (λ file. go (is_unmet_look e x) _ (by_range x range))))
    where
      by_range : (x : Node) (range : Option Range) → IsShaped t (bytes_read e x (bytes_in x.content) range)
      by_range x None = still_shape t
      by_range x (Some r) = if (nat_le (length (bytes_in x.content)) r.from) code.InvalidRange (part_read e x (bytes_in x.content) r.from (last_byte r.to (length (bytes_in x.content)))) (λ k. still_shape t)

  pub get_properties_shaped : (p : Path) (status : Bool) → IsShaped t (get_properties t e p status)
  unfolding get_properties
  get_properties_shaped p status = at_node p (properties_of e status) (λ x h. go (is_unmet_look e x) (properties_shown e status x) (still_shape t))

  pub get_access_shaped : (p : Path) → IsShaped t (get_access t e p)
  unfolding get_access
  get_access_shaped p = at_node p (access_of e) (λ x h. go (is_unmet_look e x) (access_shown x) (still_shape t))

  pub check_access_shaped : (p : Path) (want : ℕ) → IsShaped t (check_access t e p want)
  unfolding check_access
  check_access_shaped p want = at_node p (checked_on e p want) (λ x h. go (is_unmet_look e x) _ (go (lacks (caller_of e) want p x) _ (still_shape t)))

  pub list_paths_shaped : (dir : Path) (recursive : Bool) (token : Option Path) (max : ℕ) → IsShaped t (list_paths t e dir recursive token max)
  unfolding list_paths
  list_paths_shaped dir recursive token max =
      at_node dir (list_node t e dir recursive token max) (λ x h. if (not (is_directory x)) code.ResourceTypeMismatch _ (λ k. go (lacks (caller_of e) 5 dir x) _ (by_depth recursive)))
    where
      by_depth : (deep : Bool) → IsShaped t (paged t e dir deep token (list_page t dir recursive token max))
      by_depth true = go (first_refusal (is_closed (caller_of e)) t (on_the_way t (is_below dir) token ++ (list_page t dir recursive token max).paths)) (listed t dir (list_page t dir recursive token max)) (still_shape t)
      by_depth false = still_shape t

  -- ---- edits

  pub append_shaped : (p : Path) (a : Appending) → IsShaped t (append t e p a)
  unfolding append
  append_shaped p a =
      at_node p (append_node e p a) (λ x h.
      go (lacks (caller_of e) 6 p x) _ (if (is_directory x) code.ResourceTypeMismatch _ (λ file.
      under_lease_has (IsShaped t) quiet read (lease_act_append x.lease a.action e.request.lease e.moment) (append_data e p a x) (λ after.
      go (refused_staging (stage_answer (data_of x.content) a.position e.request.body)) _
      (go (refused_flush_too a.flush (append_flush_answer (data_of x.content) a.position e.request.body)) (appended e p a x after)
      (edit_shape t p (append_put a.flush e.moment (appended_node e a x after)) x h (still_a_file a.flush (appended_node e a x after) refl ∙ sym file)))))))
    where
      still_a_file : (flush : Bool) (y : Node) → is_directory y ≡ false → is_directory (append_put flush e.moment y).node ≡ false
      still_a_file true y same = same
      still_a_file false y same = same

  pub flush_shaped : (p : Path) (position : ℕ) (retain : Bool) → IsShaped t (flush t e p position retain)
  unfolding flush
  flush_shaped p position retain =
      at_node p (flush_node e p position retain) (λ x h.
      go (lacks (caller_of e) 6 p x) _ (if (is_directory x) code.ResourceTypeMismatch _ (λ file.
      go (is_unmet e x) _ (go (lease_refuses e e.request.lease x) _ (go (refused_flush (flush_answer (data_of x.content) position)) (flushed_to e p position retain x) (edit_shape t p _ x h (sym file)))))))

  pub set_properties_shaped : (p : Path) (props : List (List ℕ × List ℕ)) → IsShaped t (set_properties t e p props)
  unfolding set_properties
  set_properties_shaped p props =
      at_node p (set_properties_of e p props) (λ x h.
      go (lacks (caller_of e) 2 p x) _ (go (is_unmet e x) _ (go (lease_refuses e e.request.lease x) (properties_set e p props x) (edit_shape t p _ x h refl))))

  pub set_access_shaped : (p : Path) (s : Setting) → IsShaped t (set_access t e p s)
  unfolding set_access
  set_access_shaped p s =
      at_node p (set_access_of e p s) (λ x h.
      go (may_not_set_access (caller_of e) p x) _ (go (may_not_set_owner (caller_of e) p x s.owner) _ (go (may_not_set_group (caller_of e) p x s.group) _
      (go (is_unmet e x) _ (go (lease_refuses e e.request.lease x) _ (if (not (is_directory x) && has_default s.acl) code.InvalidAcl _ (λ k. by_pair x h (pair_set s x.acl))))))))
    where
      by_pair : (x : Node) → at t p ≡ Some x → (pair : Result AclPair AclFault) → IsShaped t (access_put e p s x pair)
      by_pair x h (Ok pair) =
          edit_shape t p (stamp e.moment (record x { owner = unwrap_or s.owner x.owner; group = unwrap_or s.group x.group; acl = pair; sticky = sticky_set s.permissions x.sticky; lease = lease_after_write x.lease e.moment })) x h refl
      by_pair x h (Err f) = still_shape t

  pub act_on_lease_shaped : (p : Path) (action : LeaseAction) → IsShaped t (act_on_lease t e p action)
  unfolding act_on_lease
  act_on_lease_shaped p action =
      at_node p (lease_node e p action) (λ x h. go (lacks (caller_of e) 2 p x) _ (go (is_unmet e x) _ (by_answer x h (lease_act x.lease action e.moment))))
    where
      by_answer : (x : Node) → at t p ≡ Some x → (answer : Result Lease LeaseFault) → IsShaped t (lease_put e p action x answer)
      by_answer x h (Ok new) = edit_shape t p (keep (record x { lease = new })) x h refl
      by_answer x h (Err f) = still_shape t

  -- ---- delete

  pub delete_shaped : (p : Path) (recursive : Bool) → IsBelowRoot p → IsShaped t (delete t e p recursive)
  unfolding delete
  delete_shaped p recursive sound =
      walk_has (IsShaped t) quiet read t (caller_of e) code.PathNotFound p (delete_in t e p recursive) is.root (λ up.
      go (lacks (caller_of e) 3 (parent p) (node_at t (parent p))) _
      (noted_has (IsShaped t) quiet read (at t p) p (refused (missing_code p code.PathNotFound)) (delete_node t e p recursive (node_at t (parent p))) (λ h. still_shape t) (λ x h.
      go (is_guarded (caller_of e) (node_at t (parent p)) p x) _ (go (is_unmet e x) _ (go (lease_refuses e e.request.lease x) _ (if (not recursive && (is_directory x && not (is_bare t p))) code.DirectoryNotEmpty _ (λ k. by_depth recursive)))))))
    where
      by_depth : (deep : Bool) → IsShaped t (cleared t e p deep (subtree t p))
      by_depth true = go (first_refusal (not_clearable t (caller_of e)) t (subtree t p)) (gone (parent p) (subtree t p)) (gone_shaped t is p (parent p) (long_path p sound.parts) refl)
      by_depth false = gone_shaped t is p (parent p) (long_path p sound.parts) refl

  -- ---- create

  under_names : (m : Making) (base names : Path) → m.path ≡ base ++ names → drop (length base) m.path ≡ names
  under_names m base names whole = ap (drop (length base)) whole ∙ drop_front base names

  made_below_shaped : (m : Making) (base names : Path) (x : Node) (replaced : List Path) → m.path ≡ base ++ names → KeepsLimits m.path → IsReplaced t base names replaced → IsDirectoryAt t base
      → IsShaped t (made_below e m base x replaced)
  made_below_shaped m base names x replaced whole limits gone dir =
      subst (λ l. HasShape t (base ∷ paths_of (new_nodes e m x base l)) (paths_of (new_nodes e m x base l)) (record { taken = replaced; puts = new_nodes e m x base l; move = None })) (sym (under_names m base names whole))
      (made_shaped t is e m x base names replaced gone dir (subst KeepsLimits whole limits))

  module _ (m : Making) (sound : IsBelowRoot m.path) where
    last_name : (n : List ℕ) × (m.path ≡ parent m.path ++ n ∷ [])
    last_name = elim (parent_name m.path) [ inl none ↦ absurd (long_path m.path sound.parts none) | inr h ↦ h ]

    new_shaped : (base : Path) (n : List ℕ) (rest : Path) (x : Node) → m.path ≡ base ++ n ∷ rest → IsDirectoryAt t base → at t (base ++ n ∷ []) ≡ None → IsShaped t (create_new e m base x)
    new_shaped base n rest x whole dir none =
        go (is_unmet_without e) (made_below e m base x []) (made_below_shaped m base (n ∷ rest) x [] whole sound.limits (nothing_replaced t is.parents base n rest none) dir)

    from_shaped : (d : Path) (n : List ℕ) (rest : Path) (x : Node) → parent m.path ≡ d ++ n ∷ rest → IsDirectoryAt t d → at t (d ++ n ∷ []) ≡ None → IsShaped t (create_from e m d x)
    from_shaped [] n rest x up dir none = still_shape t
    from_shaped (fs ∷ names) n rest x up dir none =
        let name = last_name in
        let whole : m.path ≡ (fs ∷ names) ++ n ∷ (rest ++ name.0 ∷ []) = name.1 ∙ ap (λ p. p ++ name.0 ∷ []) up ∙ append_assoc (fs ∷ names) (n ∷ rest) (name.0 ∷ []) in
        go (lacks (caller_of e) 3 (fs ∷ names) x) (create_new e m (fs ∷ names) x) (new_shaped (fs ∷ names) n (rest ++ name.0 ∷ []) x whole dir none)

    over_shaped : (dir y : Node) → IsDirectoryAt t (parent m.path) → at t m.path ≡ Some y → IsShaped t (create_over t e m dir y)
    over_shaped dir y up there =
        let name = last_name in
        go (is_guarded (caller_of e) dir m.path y) _ (go (exists_already e) _ (go (is_unmet e y) _
        (if (not (has_kind m.kind y)) code.ResourceTypeMismatch _ (λ same_kind.
        if (is_directory y && not (is_bare t m.path)) code.DirectoryNotEmpty (made_below e m (parent m.path) dir (m.path ∷ [])) (λ bare.
        made_below_shaped m (parent m.path) (name.0 ∷ []) dir (m.path ∷ []) name.1 sound.limits
        (subst (λ p. IsReplaced t (parent m.path) (name.0 ∷ []) (p ∷ [])) (sym name.1)
        (one_replaced t (parent m.path) name.0 (λ k r. subst (λ p. is_some (at t (p ++ k ∷ r)) ≡ false) name.1 (nothing_under t is.parents m.path y there bare k r)))) up)))))

    in_shaped : (dir : Node) → IsDirectoryAt t (parent m.path) → IsShaped t (create_in t e m dir)
    in_shaped dir up =
        let name = last_name in
        go (lacks (caller_of e) 3 (parent m.path) dir) _
        (noted_has (IsShaped t) quiet read (at t m.path) m.path (create_new e m (parent m.path) dir) (create_over t e m dir)
        (λ none. new_shaped (parent m.path) name.0 [] dir name.1 up (ap (at t) (sym name.1) ∙ none)) (λ y there. over_shaped dir y up there))

  pub create_shaped : (m : Making) → IsBelowRoot m.path → IsShaped t (create t e m)
  unfolding create
  create_shaped m sound =
      walk_or_has (IsShaped t) quiet read t (caller_of e) (create_from e m) code.ResourceTypeMismatch m.path (create_in t e m) is.root
      (λ d gone. from_shaped m sound d gone.name gone.rest (node_at t d) gone.whole_is (gone.directory is.root) gone.none)
      (λ up. in_shaped m sound (node_at t (parent m.path)) up)

  -- ---- rename

  module _ (m : Moving) (from_sound : IsBelowRoot m.source) (to_sound : IsBelowRoot m.path) (can : CanBeMoved m.source m.path) (x : Node) (there : at t m.source ≡ Some x) (up : IsDirectoryAt t (parent m.path)) where
    fitted_shaped : (replaced : List Path) → IsCleared t m.path replaced → IsShaped t (fitted t e m x replaced)
    fitted_shaped replaced clear = by_test (is_directory x && grows m) refl
      where
        by_test : (b : Bool) → (is_directory x && grows m) ≡ b
            → IsShaped t (cond b (reading (subtree t m.source) (unless (refuse_if (some_too_long m (subtree t m.source)) code.RenameTooLong) (shifted e m x replaced))) (shifted e m x replaced))
        by_test true same =
            if (some_too_long m (subtree t m.source)) code.RenameTooLong (shifted e m x replaced) (λ short.
            shifted_shaped t is e m x there from_sound to_sound can replaced clear up (fits_looked t is m x there from_sound to_sound short))
        by_test false same = shifted_shaped t is e m x there from_sound to_sound can replaced clear up (fits_unless t is m x there from_sound to_sound same)

    none_cleared : at t m.path ≡ None → IsCleared t m.path []
    none_cleared none = record { free = inl none; only = λ p h. absurd h; bare = λ n r. nothing_below t is.parents m.path n r (ap is_some none) }

    one_cleared : (y : Node) → at t m.path ≡ Some y → (is_directory y && not (is_bare t m.path)) ≡ false → IsCleared t m.path (m.path ∷ [])
    one_cleared y here bare = record { free = inr (inl refl); only = λ p h. elim h [ inl same ↦ same | inr k ↦ absurd k ]; bare = nothing_under t is.parents m.path y here bare }

    rename_into_shaped : (dir : Node) → IsShaped t (rename_into t e m x dir)
    rename_into_shaped dir =
        go (lacks (caller_of e) 3 (parent m.path) dir) _
        (noted_has (IsShaped t) quiet read (at t m.path) m.path (rename_new t e m x) (rename_over t e m x dir)
        (λ none. go (is_unmet_without e) _ (go (lease_refuses e e.request.source_lease x) (fitted t e m x []) (fitted_shaped [] (none_cleared none))))
        (λ y here. go (is_guarded (caller_of e) dir m.path y) _ (go (exists_already e) _ (go (is_unmet e y) _ (go (lease_refuses e e.request.source_lease x) _
        (if (not (has_kind (kind_of x) y)) code.ResourceTypeMismatch _ (λ kind. if (is_directory y && not (is_bare t m.path)) code.DirectoryNotEmpty (fitted t e m x (m.path ∷ [])) (λ bare. fitted_shaped (m.path ∷ []) (one_cleared y here bare)))))))))

  pub rename_shaped : (m : Moving) → IsBelowRoot m.path → IsBelowRoot m.source → CanBeMoved m.source m.path → IsShaped t (rename t e m)
  unfolding rename
  rename_shaped m to_sound from_sound can =
      walk_has (IsShaped t) quiet read t (caller_of e) code.SourcePathNotFound m.source (rename_out t e m) is.root (λ up.
      go (lacks (caller_of e) 3 (parent m.source) (node_at t (parent m.source))) _
      (noted_has (IsShaped t) quiet read (at t m.source) m.source (refused (missing_code m.source code.SourcePathNotFound)) (rename_node t e m (node_at t (parent m.source))) (λ k. still_shape t) (λ x there.
      go (is_guarded (caller_of e) (node_at t (parent m.source)) m.source x) _
      (walk_has (IsShaped t) quiet read t (caller_of e) code.RenameDestinationParentPathNotFound m.path (rename_into t e m x) is.root (λ into_up.
      rename_into_shaped m from_sound to_sound can x there into_up (node_at t (parent m.path)))))))

  -- ---- batches

  same_kind_turn : (change : BatchChange) (force : Bool) (p : Path) (turn : Result AclPair Code) (rest : Batch) (q : Path) (put : Put)
      → ((found : find path_cmp q rest.changed ≡ Some put) → is_directory put.node ≡ is_directory (node_at t q))
      → find path_cmp q (with_turn e force p (node_at t p) turn rest).changed ≡ Some put → is_directory put.node ≡ is_directory (node_at t q)
  same_kind_turn change force p (Ok pair) rest q put more found = by_test (eq_by_cmp path_cmp q p) refl found
    where
      by_test : (b : Bool) → eq_by_cmp path_cmp q p ≡ b → cond b (Some (stamp e.moment (record (node_at t p) { acl = pair }))) (find path_cmp q rest.changed) ≡ Some put → is_directory put.node ≡ is_directory (node_at t q)
      by_test true same found = ap (λ (y : Put). is_directory y.node) (sym (same_Some (stamp e.moment (record (node_at t p) { acl = pair })) put found)) ∙ ap (λ r. is_directory (node_at t r)) (sym (path_from_eq q p same))
      by_test false same found = more found
  same_kind_turn change true p (Err c) rest q put more found = more found
  same_kind_turn change false p (Err c) rest q put more found = absurd (none_some put found)

  same_kinds : (change : BatchChange) (force : Bool) (ps : List Path) (q : Path) (put : Put) → find path_cmp q (batch_of t e change force ps).changed ≡ Some put → is_directory put.node ≡ is_directory (node_at t q)
  same_kinds change force [] q put found = absurd (none_some put found)
  same_kinds change force (p ∷ ps) q put found =
      same_kind_turn change force p (turn_of (caller_of e) change (node_at t p)) (batch_of t e change force ps) q put (same_kinds change force ps q put) found

  changed_turn : (change : BatchChange) (force : Bool) (p : Path) (turn : Result AclPair Code) (rest : Batch) (q : Path) (ps : List Path)
      → (Among q (paths_of rest.changed) → Among q ps) → Among q (paths_of (with_turn e force p (node_at t p) turn rest).changed) → Among q (p ∷ ps)
  changed_turn change force p (Ok pair) rest q ps more (inl same) = inl same
  changed_turn change force p (Ok pair) rest q ps more (inr h) = inr (more h)
  changed_turn change true p (Err c) rest q ps more h = inr (more h)
  changed_turn change false p (Err c) rest q ps more h = absurd h

  -- what a batch changes is of its page
  changed_of : (change : BatchChange) (force : Bool) (ps : List Path) (q : Path) → Among q (paths_of (batch_of t e change force ps).changed) → Among q ps
  changed_of change force [] q h = h
  changed_of change force (p ∷ ps) q h =
      changed_turn change force p (turn_of (caller_of e) change (node_at t p)) (batch_of t e change force ps) q ps (changed_of change force ps q) h

  page_there : (p : Path) (token : Option Path) (max : ℕ) (q : Path) → Among q (batch_page t p token max).paths → is_some (at t q) ≡ true
  page_there p token max q h =
      (keys_among t (over_test (is_prefix p) token) q (subst (λ (l : List Path). Among q l) (above_keys t (is_prefix p) token) (among_take max q (above token (subtree t p)) h))).1

  kind_there : (q : Path) (put : Put) → is_directory put.node ≡ is_directory (node_at t q) → KeepsKind (at t q) put
  kind_there q put same = by_node (at t q) same
    where
      by_node : (o : Option Node) → is_directory put.node ≡ is_directory (unwrap_or o blank) → KeepsKind o put
      by_node None k = tt
      by_node (Some x) k = k

  pub set_access_recursive_shaped : (p : Path) (change : BatchChange) (token : Option Path) (max : ℕ) (force : Bool) → IsShaped t (set_access_recursive t e p change token max force)
  unfolding set_access_recursive
  set_access_recursive_shaped p change token max force =
      at_node p (batch_below t e p change token force (batch_page t p token max)) (λ x h.
      edits_shaped t (batch_of t e change force (batch_page t p token max).paths).changed (record {
        there = λ q k. page_there p token max q (changed_of change force (batch_page t p token max).paths q k);
        kinds = λ q put found. kind_there q put (same_kinds change force (batch_page t p token max).paths q put found);
      }))

  pub changed_among : (change : BatchChange) (force : Bool) (ps : List Path) (q : Path) → Among q (paths_of (batch_of t e change force ps).changed) → Among q ps
  changed_among = changed_of
