-- What a step comes to on two trees that are alike on a filesystem, exactly or but for numbers: the words of a step one by one.
use Rattle.std.proofs.Common.{◌≡◌, ◌⊎◌, inl, inr, ℕ, Bool, true, false, cond, not, ◌&&◌, ◌==◌, ◌+◌, nat_le, List, [], ◌∷◌, ◌++◌, length, drop, slice_range, slice_get, codes, Option, Some, None, is_some, option_map, unwrap_or, Result, Ok, Err, refl, ap, sym, subst, ◌∙◌, append_assoc}
use Rattle.std.proofs.lemmas.Bool.{false≢true}
use Rattle.path_text.specs.Paths.{is_prefix}
use Rattle.namespace_model.specs.declared.caller.Caller.{Caller}
use Rattle.namespace_model.specs.declared.code.Code.{Code}
use Rattle.namespace_model.specs.declared.code.Code.TheVariants.{PathNotFound}
use Rattle.namespace_model.specs.declared.denied.Refusal.{Refusal}
use Rattle.namespace_model.specs.declared.reply.Reply.{Reply}
use Rattle.namespace_model.specs.declared.request.Entry.{Entry}
use Rattle.namespace_model.specs.Nodes.{Node, is_directory, kind_of, has_kind, bytes_in, blank}
use Rattle.namespace_model.specs.Trees.{Path, Tree, at, node_at, parent, keys_where, is_child, is_below, is_bare, children, subtree}
use Rattle.namespace_model.specs.Effects.{Put, stamp, keep}
use Rattle.namespace_model.specs.Refusals.{caller_of, or_else, first_refusal, is_no_superuser, lacks, is_guarded, exists_already, is_unmet, is_unmet_look, is_unmet_without, unmet_for_change, unmet_for_look, lease_refuses, refuse_if, may_not_set_access, may_not_set_owner, may_not_set_group}
use Rattle.namespace_model.specs.Outcomes.{Outcome, reading, answered, refused, unless, noted, edited, without_repeats}
use Rattle.namespace_model.specs.Walks.{walk_or, walk, ended, missing_below, missing_code}
use Rattle.namespace_model.specs.Ways.{Way, reached, missing, blocked, closed, may_enter, passed, met, way_from, behind, seen, read_from, way_of, read_on}
use Rattle.namespace_model.specs.Looks.{found}
use Rattle.namespace_model.specs.Locality.{Among}
use Rattle.namespace_model.specs.Apart.{IsIn, IsOn, is_listing, unnumbered, AskNoNumber}
use Rattle.namespace_model.proofs.Lookups.{keys_same, keys_among}
use Rattle.namespace_model.proofs.Prefixes.{both}
use Rattle.head_text.specs.declared.range.Range.{Range}
use Rattle.acl_text.specs.declared.acl.AclPair.{AclPair}
use Rattle.acl_text.specs.declared.acl.AclFault.{AclFault}
use Rattle.lease_state.specs.declared.lease.Lease.{Lease}
use Rattle.lease_state.specs.declared.lease.LeaseAction.{LeaseAction}
use Rattle.lease_state.specs.declared.lease.LeaseFault.{LeaseFault}
use Rattle.lease_state.specs.LeaseAppends.{lease_act_append}
use Rattle.lease_state.specs.LeaseTable.{lease_act, lease_after_write}
use Rattle.file_data.specs.FileRecord.{stage_answer, flush_answer, append_flush_answer, flushed}
use Rattle.namespace_model.specs.declared.code.Code.TheVariants as code
use Rattle.namespace_model.specs.declared.field.Field.{Field}
use Rattle.namespace_model.specs.declared.field.Field.TheVariants.{NamespaceEnabled, AcceptRanges, ContentRange, ResourceType, Acl}
use Rattle.namespace_model.specs.declared.op.BatchChange.{BatchChange}
use Rattle.namespace_model.specs.declared.op.Kind.{Kind}
use Rattle.namespace_model.specs.declared.op.Kind.TheVariants.{File, Directory}
use Rattle.acl_text.specs.AclWriting.{acl_text}
use Rattle.namespace_model.specs.Replies.{success, with_body, stamp_fields, node_fields, property_fields, lease_fields, page_fields}
use Rattle.serde_json.specs.Data.{object, member, no_members, array, item}
use Rattle.serde_json.specs.Written.{compact_text}
use Rattle.namespace_model.specs.declared.op.Op.{Op}
use Rattle.namespace_model.specs.declared.op.Op.TheVariants as op
use Rattle.namespace_model.proofs.Alikeness.{among_either}
use Rattle.namespace_model.specs.Pages.{Page, page_of, above, on_the_way}
use Rattle.namespace_model.specs.CreateFilesystem.{create_filesystem}
use Rattle.namespace_model.specs.GetFilesystem.{get_filesystem, filesystem_shown}
use Rattle.namespace_model.specs.SetFilesystem.{set_filesystem, filesystem_set}
use Rattle.namespace_model.specs.DeleteFilesystem.{delete_filesystem, filesystem_gone}
use Rattle.namespace_model.specs.ListPaths.{list_paths, list_node, list_page, is_listed, paged, listed_below, listed, is_closed, path_items, paths_body, path_data}
use Rattle.namespace_model.specs.Create.{Making, create, create_from, create_in, create_over, create_new, made, made_below, new_nodes, new_directory}
use Rattle.namespace_model.specs.Delete.{delete, delete_in, delete_node, cleared, gone, not_clearable}
use Rattle.namespace_model.specs.Rename.{Moving, rename, rename_out, rename_node, rename_into, rename_over, rename_new, fitted, shifted, grows, some_too_long}
use Rattle.namespace_model.specs.ReadFile.{read_file, read_node, bytes_read, last_byte, content_fields}
use Rattle.namespace_model.specs.GetProperties.{get_properties, properties_of, access_fields, user_fields, length_fields}
use Rattle.namespace_model.specs.GetAccess.{get_access, access_of}
use Rattle.namespace_model.specs.CheckAccess.{check_access, checked_on}
use Rattle.namespace_model.specs.Append.{Appending, append, append_node, append_data, append_put, appended_node, refused_flush_too, under_lease, flush_fields, append_lease_fields}
use Rattle.namespace_model.specs.Contents.{data_of, content_of, refused_staging, refused_flush}
use Rattle.namespace_model.specs.Flush.{flush, flush_node}
use Rattle.namespace_model.specs.SetProperties.{set_properties, set_properties_of}
use Rattle.namespace_model.specs.SetAccess.{Setting, set_access, set_access_of, access_put, pair_set, has_default, sticky_set}
use Rattle.namespace_model.specs.LeaseNode.{act_on_lease, lease_node, lease_put, action_status, action_fields}
use Rattle.namespace_model.specs.SetAccessRecursive.{set_access_recursive, batch_below, batch_page, batch_of, batched, Batch, turn_of, with_turn}
use Rattle.namespace_model.specs.Step.{root_of, acts, with_close, outcome}
use Rattle.namespace_model.proofs.ShapedMaking.{paths_of}
use Rattle.namespace_model.proofs.ClosedPages.{among_above}
use Rattle.namespace_model.proofs.PageOrder.{among_take}
use Rattle.namespace_model.proofs.ApartViews.{unnumbered_put, unnumbered_reply, unnumbered_outcome, shown, view, LiesIn, still, unnumbered_batch, shown_batch, batched_free, over, over_view, conditions_same, shown_blank, some_mapped, inside_Some, Sees, sees, sees_front, sees_parent, in_below}

-- ---- the words

module _ (exact kept : Bool) (fs : List ℕ) (s t : Tree) (agree : (q : Path) → Sees fs q → option_map (shown exact) (at s q) ≡ option_map (shown exact) (at t q))
    (e : Entry) (asks : exact ≡ false → AskNoNumber e.request.cond) where
  -- the two outcomes show alike, and the first one changes nothing outside
  abbrev pub Like : Outcome → Outcome → Type 0
  Like a b = (view exact kept a ≡ view exact kept b) × LiesIn fs a.effect

  abbrev pub Same : Node → Node → Type 0
  Same x y = shown exact x ≡ shown exact y

  pub there : (q : Path) → Sees fs q → is_some (at s q) ≡ is_some (at t q)
  there q h = sym (some_mapped (shown exact) (at s q)) ∙ ap is_some (agree q h) ∙ some_mapped (shown exact) (at t q)

  pub node_same : (q : Path) → Sees fs q → Same (node_at s q) (node_at t q)
  node_same q h = sym (shown_blank exact (at s q)) ∙ ap (λ (o : Option Node). unwrap_or o blank) (agree q h) ∙ shown_blank exact (at t q)

  pub keys_in : (test : Path → Bool) → ((q : Path) → test q ≡ true → IsIn fs q) → keys_where s test ≡ keys_where t test
  keys_in test inside = keys_same s t test (λ q e. there q (sees fs q (inside q e)))

  pub children_in : (d : Path) → IsIn fs d → children s d ≡ children t d
  children_in d h = keys_in (is_child d) (λ q e. in_below fs d q h (both _ _ e).0)

  pub subtree_in : (d : Path) → IsIn fs d → subtree s d ≡ subtree t d
  subtree_in d h = keys_in (is_prefix d) (λ q e. in_below fs d q h e)

  pub among_subtree : (d q : Path) → IsIn fs d → Among q (subtree s d) → IsIn fs q
  among_subtree d q h k = in_below fs d q h (keys_among s (is_prefix d) q k).0

  pub answered_like : (reply : Reply) → Like (answered reply) (answered reply)
  answered_like reply = (refl, still fs reply)

  view_reading : (x : Bool) (ps : List Path) (a b : Outcome) → view x kept a ≡ view x kept b → view x kept (reading ps a) ≡ view x kept (reading ps b)
  view_reading true ps a b h = ap (reading ps) h
  view_reading false ps a b h = ap (reading ps) h

  pub reading_like : (ps qs : List Path) (a b : Outcome) → ps ≡ qs → Like a b → Like (reading ps a) (reading qs b)
  reading_like ps qs a b e h = (view_reading exact ps a b h.0 ∙ ap (λ (l : List Path). view exact kept (reading l b)) e, record { taken = h.1.taken; puts = h.1.puts; move = h.1.move })

  unless_is : (r : Option Reply) (a b : Outcome) → Like a b → Like (unless r a) (unless r b)
  unless_is None a b h = h
  unless_is (Some reply) a b h = answered_like reply

  pub unless_like : (r q : Option Reply) (a b : Outcome) → r ≡ q → Like a b → Like (unless r a) (unless q b)
  unless_like r q a b e h = subst (λ z. Like (unless r a) (unless z b)) e (unless_is r a b h)

  noted_of : (u v : Option Node) (p : Path) (none none' : Outcome) (f g : Node → Outcome) → option_map (shown exact) u ≡ option_map (shown exact) v → Like none none'
      → ((x y : Node) → Same x y → Like (f x) (g y)) → Like (noted u p none f) (noted v p none' g)
  noted_of None None p none none' f g e h k = h
  noted_of None (Some y) p none none' f g e h k = absurd (false≢true (ap is_some e))
  noted_of (Some x) None p none none' f g e h k = absurd (false≢true (sym (ap is_some e)))
  noted_of (Some x) (Some y) p none none' f g e h k = reading_like (p ∷ []) (p ∷ []) (f x) (g y) refl (k x y (inside_Some (shown exact) x y e))

  pub noted_like : (p : Path) (none none' : Outcome) (f g : Node → Outcome) → Sees fs p → Like none none'
      → ((x y : Node) → Same x y → Like (f x) (g y)) → Like (noted (at s p) p none f) (noted (at t p) p none' g)
  noted_like p none none' f g h = noted_of (at s p) (at t p) p none none' f g (agree p h)

  -- ---- the way

  met_by : (caller : Caller) (done q : Path) (x y : Node) (one other : Way) (ps qs : List Path) → Same x y → one ≡ other → ps ≡ qs
      → (met caller done q (Some x) one ≡ met caller done q (Some y) other) × (seen caller q (Some x) ps ≡ seen caller q (Some y) qs)
  met_by caller done q x y one other ps qs h e f =
      let kind = over exact is_directory (λ z. refl) x y h in
      let check = over exact (may_enter caller) (λ z. refl) x y h in (
        ap (λ (w : Way). cond (is_directory x) (passed q (may_enter caller x) w) (blocked q)) e
            ∙ ap (λ (b : Bool). cond b (passed q (may_enter caller x) other) (blocked q)) kind
            ∙ ap (λ (r : Result Unit Refusal). cond (is_directory y) (passed q r other) (blocked q)) check,
        ap (λ (l : List Path). q ∷ cond (is_directory x) (behind (may_enter caller x) l) []) f
            ∙ ap (λ (b : Bool). q ∷ cond b (behind (may_enter caller x) qs) []) kind
            ∙ ap (λ (r : Result Unit Refusal). q ∷ cond (is_directory y) (behind r qs) []) check,
      )

  met_same : (caller : Caller) (done q : Path) (u v : Option Node) (one other : Way) (ps qs : List Path) → option_map (shown exact) u ≡ option_map (shown exact) v → one ≡ other → ps ≡ qs
      → (met caller done q u one ≡ met caller done q v other) × (seen caller q u ps ≡ seen caller q v qs)
  met_same caller done q None None one other ps qs h e f = (refl, refl)
  met_same caller done q None (Some y) one other ps qs h e f = absurd (false≢true (ap is_some h))
  met_same caller done q (Some x) None one other ps qs h e f = absurd (false≢true (sym (ap is_some h)))
  met_same caller done q (Some x) (Some y) one other ps qs h e f = met_by caller done q x y one other ps qs (inside_Some (shown exact) x y h) e f

  way_same : (caller : Caller) (done names : Path) → Sees fs (done ++ names)
      → (way_from s caller done names ≡ way_from t caller done names) × (read_from s caller done names ≡ read_from t caller done names)
  way_same caller done [] h = (refl, refl)
  way_same caller done (n ∷ names) h =
      let further : Sees fs ((done ++ n ∷ []) ++ names) = subst (λ q. Sees fs q) (sym (append_assoc done (n ∷ []) names)) h in
      let rest = way_same caller (done ++ n ∷ []) names further in
      met_same caller done (done ++ n ∷ []) (at s (done ++ n ∷ [])) (at t (done ++ n ∷ [])) (way_from s caller (done ++ n ∷ []) names) (way_from t caller (done ++ n ∷ []) names)
      (read_from s caller (done ++ n ∷ []) names) (read_from t caller (done ++ n ∷ []) names) (agree (done ++ n ∷ []) (sees_front fs (done ++ n ∷ []) names further)) rest.0 rest.1

  -- the last directory before a name that is missing
  abbrev MissesIn : Way → Type 0
  MissesIn reached = Unit {0}
  MissesIn (missing d) = Sees fs d
  MissesIn (blocked p) = Unit {0}
  MissesIn (closed p r) = Unit {0}

  met_misses : (caller : Caller) (done q : Path) (u : Option Node) (on : Way) → Sees fs done → MissesIn on → MissesIn (met caller done q u on)
  met_misses caller done q None on h k = h
  met_misses caller done q (Some x) on h k = by_kind (is_directory x) (may_enter caller x)
    where
      by_kind : (d : Bool) (c : Result Unit Refusal) → MissesIn (cond d (passed q c on) (blocked q))
      by_kind true (Ok allowed) = k
      by_kind true (Err r) = tt
      by_kind false c = tt

  way_misses : (caller : Caller) (done names : Path) → Sees fs (done ++ names) → MissesIn (way_from s caller done names)
  way_misses caller done [] h = tt
  way_misses caller done (n ∷ names) h =
      met_misses caller done (done ++ n ∷ []) (at s (done ++ n ∷ [])) (way_from s caller (done ++ n ∷ []) names) (sees_front fs done (n ∷ names) h)
      (way_misses caller (done ++ n ∷ []) names (subst (λ q. Sees fs q) (sym (append_assoc done (n ∷ []) names)) h))

  ended_like : (lost lost' : Path → Outcome) (code : Code) (a b : Outcome) → ((d : Path) → Sees fs d → Like (lost d) (lost' d)) → Like a b
      → (w : Way) → MissesIn w → Like (ended lost code a w) (ended lost' code b w)
  ended_like lost lost' code a b h k reached m = k
  ended_like lost lost' code a b h k (missing d) m = h d m
  ended_like lost lost' code a b h k (blocked p) m = answered_like _
  ended_like lost lost' code a b h k (closed p r) m = answered_like _

  pub walk_or_like : (caller : Caller) (lost lost' : Path → Node → Outcome) (code : Code) (p : Path) (next next' : Node → Outcome) → IsIn fs p
      → ((d : Path) (x y : Node) → Sees fs d → Same x y → Like (lost d x) (lost' d y)) → ((x y : Node) → Same x y → Like (next x) (next' y))
      → Like (walk_or s caller lost code p next) (walk_or t caller lost' code p next')
  walk_or_like caller lost lost' code p next next' h k j =
      let way = way_same caller [] (parent p) (sees_parent fs p h) in
      reading_like (read_on s caller p) (read_on t caller p) _ _ (ap (λ (l : List Path). [] ∷ l) way.1)
      (subst (λ w. Like (ended (λ d. lost d (node_at s d)) code (next (node_at s (parent p))) (way_of s caller p)) (ended (λ d. lost' d (node_at t d)) code (next' (node_at t (parent p))) w)) way.0
      (ended_like (λ d. lost d (node_at s d)) (λ d. lost' d (node_at t d)) code (next (node_at s (parent p))) (next' (node_at t (parent p)))
      (λ d m. k d (node_at s d) (node_at t d) m (node_same d m)) (j (node_at s (parent p)) (node_at t (parent p)) (node_same (parent p) (sees_parent fs p h)))
      (way_of s caller p) (way_misses caller [] (parent p) (sees_parent fs p h))))

  lost_like : (code : Code) (d : Path) → Like (missing_below code d) (missing_below code d)
  lost_like code [] = answered_like _
  lost_like code (n ∷ names) = answered_like _

  pub walk_like : (caller : Caller) (code : Code) (p : Path) (next next' : Node → Outcome) → IsIn fs p → ((x y : Node) → Same x y → Like (next x) (next' y))
      → Like (walk s caller code p next) (walk t caller code p next')
  walk_like caller code p next next' h j = walk_or_like caller (λ d dir. missing_below code d) (λ d dir. missing_below code d) code p next next' h (λ d x y m k. lost_like code d) j

  pub found_like : (p : Path) (f g : Node → Outcome) → IsIn fs p → ((x y : Node) → Same x y → Like (f x) (g y)) → Like (found s e p f) (found t e p g)
  found_like p f g h k =
      walk_like (caller_of e) PathNotFound p (λ dir. noted (at s p) p (refused (missing_code p PathNotFound)) f) (λ dir. noted (at t p) p (refused (missing_code p PathNotFound)) g) h
      (λ x y m. noted_like p (refused (missing_code p PathNotFound)) (refused (missing_code p PathNotFound)) f g (sees fs p h) (answered_like _) k)

  -- ---- leaves

  -- a reply that tells of a node
  pub told_like : (f : Node → Reply) → ((x : Node) → unnumbered_reply kept (f (unnumbered x)) ≡ unnumbered_reply kept (f x)) → (x y : Node) → Same x y → Like (answered (f x)) (answered (f y))
  told_like f free x y h = (over_view exact kept (λ z. answered (f z)) (λ z. ap answered (free z)) x y h, still fs (f x))

  -- one node is put
  pub edited_like : (p : Path) (put : Node → Put) (reply : Node → Reply) → IsIn fs p
      → ((x : Node) → unnumbered_put (put (unnumbered x)) ≡ unnumbered_put (put x)) → ((x : Node) → unnumbered_reply kept (reply (unnumbered x)) ≡ unnumbered_reply kept (reply x))
      → (x y : Node) → Same x y → Like (edited p (put x) (reply x)) (edited p (put y) (reply y))
  edited_like p put reply h free told x y k = (
    over_view exact kept (λ z. edited p (put z) (reply z)) (λ z. ap (λ (u : Put). edited p u (unnumbered_reply kept (reply (unnumbered z)))) (free z) ∙ ap (edited p (unnumbered_put (put z))) (told z)) x y k,
    record { taken = λ q j. absurd j; puts = λ q j. elim j [ inl same ↦ subst (λ r. IsIn fs r) (sym same) h | inr none ↦ absurd none ]; move = tt },
  )

  pub first_same : (asks asks' : Path → Node → Option Reply) (ps : List Path) → ((q : Path) → Among q ps → IsIn fs q × ((x y : Node) → Same x y → asks q x ≡ asks' q y))
      → first_refusal asks s ps ≡ first_refusal asks' t ps
  first_same asks asks' [] h = refl
  first_same asks asks' (p ∷ ps) h =
      let here = h p (inl refl) in
      ap (λ r. or_else r (first_refusal asks s ps)) (here.1 (node_at s p) (node_at t p) (node_same p (sees fs p here.0))) ∙ ap (or_else (asks' p (node_at t p))) (first_same asks asks' ps (λ q k. h q (inr k)))

  -- ---- what several steps ask

  unmet_same : (x y : Node) → Same x y → is_unmet e x ≡ is_unmet e y
  unmet_same x y h = ap unmet_for_change (conditions_same exact e.request.cond asks x y h)

  unmet_look_same : (x y : Node) → Same x y → is_unmet_look e x ≡ is_unmet_look e y
  unmet_look_same x y h = ap unmet_for_look (conditions_same exact e.request.cond asks x y h)

  lacks_same : (want : ℕ) (p : Path) (x y : Node) → Same x y → lacks (caller_of e) want p x ≡ lacks (caller_of e) want p y
  lacks_same want p x y h = over exact (lacks (caller_of e) want p) (λ z. refl) x y h

  guarded_same : (p : Path) (dir dir' x y : Node) → Same dir dir' → Same x y → is_guarded (caller_of e) dir p x ≡ is_guarded (caller_of e) dir' p y
  guarded_same p dir dir' x y h k = over exact (λ z. is_guarded (caller_of e) z p x) (λ z. refl) dir dir' h ∙ over exact (λ z. is_guarded (caller_of e) dir' p z) (λ z. refl) x y k

  lease_same : (given : Option ℕ) (x y : Node) → Same x y → lease_refuses e given x ≡ lease_refuses e given y
  lease_same given x y h = over exact (lease_refuses e given) (λ z. refl) x y h

  kind_same : (x y : Node) → Same x y → is_directory x ≡ is_directory y
  kind_same x y h = over exact is_directory (λ z. refl) x y h

  root_in : (p : Path) → IsIn fs p → IsIn fs (root_of p)
  root_in [] h = absurd h
  root_in (n ∷ p) h = h

  -- ---- calls on filesystems

  pub create_filesystem_like : (path : Path) (props : Option (List (List ℕ × List ℕ))) → IsIn fs path → Like (create_filesystem s e (root_of path) props) (create_filesystem t e (root_of path) props)
  unfolding create_filesystem
  create_filesystem_like path props h =
      unless_like (is_no_superuser (caller_of e) (root_of path)) _ _ _ refl
      (reading_like ([] ∷ []) ([] ∷ []) _ _ refl
      (unless_like _ _ _ _ (ap (λ b. refuse_if b code.FilesystemAlreadyExists) (there (root_of path) (sees fs (root_of path) (root_in path h))))
      (refl, record { taken = λ q j. absurd j; puts = λ q j. elim j [ inl same ↦ subst (λ r. IsIn fs r) (sym same) (root_in path h) | inr none ↦ absurd none ]; move = tt })))

  pub get_filesystem_like : (path : Path) → IsIn fs path → Like (get_filesystem s e (root_of path)) (get_filesystem t e (root_of path))
  unfolding get_filesystem
  get_filesystem_like path h =
      unless_like (is_no_superuser (caller_of e) (root_of path)) _ _ _ refl
      (reading_like ([] ∷ []) ([] ∷ []) _ _ refl
      (noted_like (root_of path) (refused code.FilesystemNotFound) _ filesystem_shown filesystem_shown (sees fs (root_of path) (root_in path h)) (answered_like _)
      (λ x y k. told_like (λ z. success 200 (node_fields z ++ property_fields z.props ++ NamespaceEnabled ∷ [])) (λ z. refl) x y k)))

  pub set_filesystem_like : (path : Path) (props : List (List ℕ × List ℕ)) → IsIn fs path → Like (set_filesystem s e (root_of path) props) (set_filesystem t e (root_of path) props)
  unfolding set_filesystem
  set_filesystem_like path props h =
      unless_like (is_no_superuser (caller_of e) (root_of path)) _ _ _ refl
      (reading_like ([] ∷ []) ([] ∷ []) _ _ refl
      (noted_like (root_of path) (refused code.FilesystemNotFound) _ (filesystem_set e (root_of path) props) (filesystem_set e (root_of path) props) (sees fs (root_of path) (root_in path h)) (answered_like _)
      (λ x y k. edited_like (root_of path) (λ z. stamp e.moment (record z { props = props })) (λ z. success 200 (stamp_fields e.moment)) (root_in path h) (λ z. refl) (λ z. refl) x y k)))

  pub delete_filesystem_like : (path : Path) → IsIn fs path → Like (delete_filesystem s e (root_of path)) (delete_filesystem t e (root_of path))
  unfolding delete_filesystem
  delete_filesystem_like path h =
      unless_like (is_no_superuser (caller_of e) (root_of path)) _ _ _ refl
      (reading_like ([] ∷ []) ([] ∷ []) _ _ refl
      (noted_like (root_of path) (refused code.FilesystemNotFound) _ (filesystem_gone (subtree s (root_of path))) (filesystem_gone (subtree t (root_of path))) (sees fs (root_of path) (root_in path h)) (answered_like _)
      (λ x y k. (
        ap (λ ps. view exact kept (filesystem_gone ps x)) (subtree_in (root_of path) (root_in path h)),
        record { taken = λ q j. among_subtree (root_of path) q (root_in path h) j; puts = λ q j. absurd j; move = tt },
      ))))

  -- ---- calls on one node

  bytes_like : (range : Option Range) (x y : Node) → Same x y → Like (bytes_read e x (bytes_in x.content) range) (bytes_read e y (bytes_in y.content) range)
  bytes_like None x y h = told_like (λ z. with_body 200 (node_fields z ++ AcceptRanges ∷ content_fields z e.moment) (bytes_in z.content)) (λ z. refl) x y h
  bytes_like (Some range) x y h =
      unless_like _ _ _ _ (over exact (λ z. refuse_if (nat_le (length (bytes_in z.content)) range.from) code.InvalidRange) (λ z. refl) x y h)
      (told_like (λ z. with_body 206 (node_fields z ++ AcceptRanges ∷ ContentRange range.from (last_byte range.to (length (bytes_in z.content))) (length (bytes_in z.content)) ∷ content_fields z e.moment)
      (slice_range (bytes_in z.content) range.from (last_byte range.to (length (bytes_in z.content)) + 1))) (λ z. refl) x y h)

  pub read_file_like : (p : Path) (range : Option Range) → IsIn fs p → Like (read_file s e p range) (read_file t e p range)
  unfolding read_file
  read_file_like p range h =
      found_like p (read_node e p range) (read_node e p range) h (λ x y k.
      unless_like _ _ _ _ (lacks_same 4 p x y k)
      (unless_like _ _ _ _ (ap (λ b. refuse_if b code.ResourceTypeMismatch) (kind_same x y k))
      (unless_like _ _ _ _ (unmet_look_same x y k)
      (bytes_like range x y k))))

  properties_free : (status : Bool) (z : Node)
      → unnumbered_reply kept (success 200 (node_fields (unnumbered z) ++ ResourceType (kind_of z) ∷ (access_fields z ++ (user_fields status (unnumbered z) ++ (lease_fields z.lease e.moment ++ length_fields z.content)))))
      ≡ unnumbered_reply kept (success 200 (node_fields z ++ ResourceType (kind_of z) ∷ (access_fields z ++ (user_fields status z ++ (lease_fields z.lease e.moment ++ length_fields z.content)))))
  properties_free true z = refl
  properties_free false z = refl

  pub get_properties_like : (p : Path) (status : Bool) → IsIn fs p → Like (get_properties s e p status) (get_properties t e p status)
  unfolding get_properties
  get_properties_like p status h =
      found_like p (properties_of e status) (properties_of e status) h (λ x y k.
      unless_like _ _ _ _ (unmet_look_same x y k)
      (told_like (λ z. success 200 (node_fields z ++ ResourceType (kind_of z) ∷ (access_fields z ++ (user_fields status z ++ (lease_fields z.lease e.moment ++ length_fields z.content))))) (properties_free status) x y k))

  pub get_access_like : (p : Path) → IsIn fs p → Like (get_access s e p) (get_access t e p)
  unfolding get_access
  get_access_like p h =
      found_like p (access_of e) (access_of e) h (λ x y k.
      unless_like _ _ _ _ (unmet_look_same x y k)
      (told_like (λ z. success 200 (node_fields z ++ (access_fields z ++ Acl (acl_text z.acl) ∷ []))) (λ z. refl) x y k))

  pub check_access_like : (p : Path) (want : ℕ) → IsIn fs p → Like (check_access s e p want) (check_access t e p want)
  unfolding check_access
  check_access_like p want h =
      found_like p (checked_on e p want) (checked_on e p want) h (λ x y k.
      unless_like _ _ _ _ (unmet_look_same x y k)
      (unless_like _ _ _ _ (lacks_same want p x y k)
      (answered_like _)))

  under_lease_is : (r : Result Lease LeaseFault) (a b : Lease → Outcome) → ((after : Lease) → Like (a after) (b after)) → Like (under_lease r a) (under_lease r b)
  under_lease_is (Err f) a b h = answered_like _
  under_lease_is (Ok after) a b h = h after

  under_lease_like : (r q : Result Lease LeaseFault) (a b : Lease → Outcome) → r ≡ q → ((after : Lease) → Like (a after) (b after)) → Like (under_lease r a) (under_lease q b)
  under_lease_like r q a b same h = subst (λ z. Like (under_lease r a) (under_lease z b)) same (under_lease_is r a b h)

  append_free : (flushes : Bool) (a : Appending) (after : Lease) (z : Node) → unnumbered_put (append_put flushes e.moment (appended_node e a (unnumbered z) after)) ≡ unnumbered_put (append_put flushes e.moment (appended_node e a z after))
  append_free true a after z = refl
  append_free false a after z = refl

  pub append_like : (p : Path) (a : Appending) → IsIn fs p → Like (append s e p a) (append t e p a)
  unfolding append
  append_like p a h =
      found_like p (append_node e p a) (append_node e p a) h (λ x y k.
      unless_like _ _ _ _ (lacks_same 6 p x y k)
      (unless_like _ _ _ _ (ap (λ b. refuse_if b code.ResourceTypeMismatch) (kind_same x y k))
      (under_lease_like _ _ (append_data e p a x) (append_data e p a y) (over exact (λ z. lease_act_append z.lease a.action e.request.lease e.moment) (λ z. refl) x y k) (λ after.
      unless_like _ _ _ _ (over exact (λ z. refused_staging (stage_answer (data_of z.content) a.position e.request.body)) (λ z. refl) x y k)
      (unless_like _ _ _ _ (over exact (λ z. refused_flush_too a.flush (append_flush_answer (data_of z.content) a.position e.request.body)) (λ z. refl) x y k)
      (edited_like p (λ z. append_put a.flush e.moment (appended_node e a z after)) (λ z. success 202 (flush_fields a.flush e.moment ++ append_lease_fields a.action after)) h (append_free a.flush a after) (λ z. refl) x y k))))))

  pub flush_like : (p : Path) (position : ℕ) (retain : Bool) → IsIn fs p → Like (flush s e p position retain) (flush t e p position retain)
  unfolding flush
  flush_like p position retain h =
      found_like p (flush_node e p position retain) (flush_node e p position retain) h (λ x y k.
      unless_like _ _ _ _ (lacks_same 6 p x y k)
      (unless_like _ _ _ _ (ap (λ b. refuse_if b code.ResourceTypeMismatch) (kind_same x y k))
      (unless_like _ _ _ _ (unmet_same x y k)
      (unless_like _ _ _ _ (lease_same e.request.lease x y k)
      (unless_like _ _ _ _ (over exact (λ z. refused_flush (flush_answer (data_of z.content) position)) (λ z. refl) x y k)
      (edited_like p (λ z. stamp e.moment (record z { content = content_of (flushed (data_of z.content) position retain); lease = lease_after_write z.lease e.moment })) (λ z. success 200 (stamp_fields e.moment)) h (λ z. refl) (λ z. refl) x y k))))))

  pub set_properties_like : (p : Path) (props : List (List ℕ × List ℕ)) → IsIn fs p → Like (set_properties s e p props) (set_properties t e p props)
  unfolding set_properties
  set_properties_like p props h =
      found_like p (set_properties_of e p props) (set_properties_of e p props) h (λ x y k.
      unless_like _ _ _ _ (lacks_same 2 p x y k)
      (unless_like _ _ _ _ (unmet_same x y k)
      (unless_like _ _ _ _ (lease_same e.request.lease x y k)
      (edited_like p (λ z. stamp e.moment (record z { props = props; lease = lease_after_write z.lease e.moment })) (λ z. success 200 (stamp_fields e.moment)) h (λ z. refl) (λ z. refl) x y k))))

  owner_free : (p : Path) (given : Option (List ℕ)) (z : Node) → may_not_set_owner (caller_of e) p (unnumbered z) given ≡ may_not_set_owner (caller_of e) p z given
  owner_free p None z = refl
  owner_free p (Some new) z = refl

  group_free : (p : Path) (given : Option (List ℕ)) (z : Node) → may_not_set_group (caller_of e) p (unnumbered z) given ≡ may_not_set_group (caller_of e) p z given
  group_free p None z = refl
  group_free p (Some new) z = refl

  access_put_is : (p : Path) (setting : Setting) (x y : Node) (r : Result AclPair AclFault) → IsIn fs p → Same x y → Like (access_put e p setting x r) (access_put e p setting y r)
  access_put_is p setting x y (Err f) h k = answered_like _
  access_put_is p setting x y (Ok pair) h k =
      edited_like p (λ z. stamp e.moment (record z {
        owner = unwrap_or setting.owner z.owner;
        group = unwrap_or setting.group z.group;
        acl = pair;
        sticky = sticky_set setting.permissions z.sticky;
        lease = lease_after_write z.lease e.moment;
      })) (λ z. success 200 (stamp_fields e.moment)) h (λ z. refl) (λ z. refl) x y k

  access_put_like : (p : Path) (setting : Setting) (x y : Node) (r q : Result AclPair AclFault) → r ≡ q → IsIn fs p → Same x y → Like (access_put e p setting x r) (access_put e p setting y q)
  access_put_like p setting x y r q same h k = subst (λ z. Like (access_put e p setting x r) (access_put e p setting y z)) same (access_put_is p setting x y r h k)

  pub set_access_like : (p : Path) (setting : Setting) → IsIn fs p → Like (set_access s e p setting) (set_access t e p setting)
  unfolding set_access
  set_access_like p setting h =
      found_like p (set_access_of e p setting) (set_access_of e p setting) h (λ x y k.
      unless_like _ _ _ _ (over exact (may_not_set_access (caller_of e) p) (λ z. refl) x y k)
      (unless_like _ _ _ _ (over exact (λ z. may_not_set_owner (caller_of e) p z setting.owner) (owner_free p setting.owner) x y k)
      (unless_like _ _ _ _ (over exact (λ z. may_not_set_group (caller_of e) p z setting.group) (group_free p setting.group) x y k)
      (unless_like _ _ _ _ (unmet_same x y k)
      (unless_like _ _ _ _ (lease_same e.request.lease x y k)
      (unless_like _ _ _ _ (over exact (λ z. refuse_if (not (is_directory z) && has_default setting.acl) code.InvalidAcl) (λ z. refl) x y k)
      (access_put_like p setting x y _ _ (over exact (λ z. pair_set setting z.acl) (λ z. refl) x y k) h k)))))))

  lease_put_is : (p : Path) (a : LeaseAction) (x y : Node) (r : Result Lease LeaseFault) → IsIn fs p → Same x y → Like (lease_put e p a x r) (lease_put e p a y r)
  lease_put_is p a x y (Err f) h k = answered_like _
  lease_put_is p a x y (Ok new) h k =
      edited_like p (λ z. keep (record z { lease = new })) (λ z. success (action_status a) (node_fields z ++ action_fields a new e.moment)) h (λ z. refl) (λ z. refl) x y k

  lease_put_like : (p : Path) (a : LeaseAction) (x y : Node) (r q : Result Lease LeaseFault) → r ≡ q → IsIn fs p → Same x y → Like (lease_put e p a x r) (lease_put e p a y q)
  lease_put_like p a x y r q same h k = subst (λ z. Like (lease_put e p a x r) (lease_put e p a y z)) same (lease_put_is p a x y r h k)

  pub act_on_lease_like : (p : Path) (a : LeaseAction) → IsIn fs p → Like (act_on_lease s e p a) (act_on_lease t e p a)
  unfolding act_on_lease
  act_on_lease_like p a h =
      found_like p (lease_node e p a) (lease_node e p a) h (λ x y k.
      unless_like _ _ _ _ (lacks_same 2 p x y k)
      (unless_like _ _ _ _ (unmet_same x y k)
      (lease_put_like p a x y _ _ (over exact (λ z. lease_act z.lease a e.moment) (λ z. refl) x y k) h k)))

  -- ---- create

  new_free : (m : Making) (base names : Path) (z : Node) → new_nodes e m (unnumbered z) base names ≡ new_nodes e m z base names
  new_free m base [] z = refl
  new_free m base (n ∷ []) z = refl
  new_free m base (n ∷ o ∷ names) z = refl

  in_front : (done : Path) (n : List ℕ) (rest : Path) → IsIn fs (done ++ n ∷ rest) → IsIn fs (done ++ n ∷ [])
  in_front [] n rest h = h
  in_front (k ∷ done) n rest h = h

  new_in : (m : Making) (x : Node) (done names q : Path) → IsIn fs (done ++ names) → Among q (paths_of (new_nodes e m x done names)) → IsIn fs q
  new_in m x done [] q h j = absurd j
  new_in m x done (n ∷ []) q h j = elim j [ inl same ↦ subst (λ r. IsIn fs r) (sym same) (in_front done n [] h) | inr none ↦ absurd none ]
  new_in m x done (n ∷ o ∷ names) q h j = elim j [
    | inl same ↦ subst (λ r. IsIn fs r) (sym same) (in_front done n (o ∷ names) h)
    | inr more ↦ new_in m (new_directory e m x) (done ++ n ∷ []) (o ∷ names) q (subst (λ r. IsIn fs r) (sym (append_assoc done (n ∷ []) (o ∷ names))) h) more
  ]

  base_in : (base path : Path) → Sees fs base → IsIn fs path → IsIn fs (base ++ drop (length base) path)
  base_in [] path h k = k
  base_in (n ∷ base) path h k = h

  made_like : (m : Making) (base : Path) (x y : Node) (replaced : List Path) → IsIn fs m.path → Sees fs base → ((q : Path) → Among q replaced → IsIn fs q) → Same x y
      → Like (made_below e m base x replaced) (made_below e m base y replaced)
  made_like m base x y replaced h k goes same = (
    ap (λ puts. view exact kept (made e m base replaced puts)) (over exact (λ z. new_nodes e m z base (drop (length base) m.path)) (new_free m base (drop (length base) m.path)) x y same),
    record { taken = goes; puts = λ q j. new_in m x base (drop (length base) m.path) q (base_in base m.path k h) j; move = tt },
  )

  create_new_like : (m : Making) (base : Path) (x y : Node) → IsIn fs m.path → Sees fs base → Same x y → Like (create_new e m base x) (create_new e m base y)
  create_new_like m base x y h k same = unless_like (is_unmet_without e) _ _ _ refl (made_like m base x y [] h k (λ q j. absurd j) same)

  one_in : (p : Path) → IsIn fs p → (q : Path) → Among q (p ∷ []) → IsIn fs q
  one_in p h q j = elim j [ inl same ↦ subst (λ r. IsIn fs r) (sym same) h | inr none ↦ absurd none ]

  has_kind_free : (kind : Kind) (z : Node) → has_kind kind (unnumbered z) ≡ has_kind kind z
  has_kind_free File z = refl
  has_kind_free Directory z = refl

  bare_same : (p : Path) (x y : Node) → IsIn fs p → Same x y → (is_directory x && not (is_bare s p)) ≡ (is_directory y && not (is_bare t p))
  bare_same p x y h k = ap (λ b. b && not (is_bare s p)) (kind_same x y k) ∙ ap (λ (ps : List Path). is_directory y && not (length ps == 0)) (children_in p h)

  create_over_like : (m : Making) (dir dir' x y : Node) → IsIn fs m.path → Same dir dir' → Same x y → Like (create_over s e m dir x) (create_over t e m dir' y)
  create_over_like m dir dir' x y h j k =
      unless_like _ _ _ _ (guarded_same m.path dir dir' x y j k)
      (unless_like (exists_already e) _ _ _ refl
      (unless_like _ _ _ _ (unmet_same x y k)
      (unless_like _ _ _ _ (over exact (λ z. refuse_if (not (has_kind m.kind z)) code.ResourceTypeMismatch) (λ z. ap (λ b. refuse_if (not b) code.ResourceTypeMismatch) (has_kind_free m.kind z)) x y k)
      (unless_like _ _ _ _ (ap (λ b. refuse_if b code.DirectoryNotEmpty) (bare_same m.path x y h k))
      (made_like m (parent m.path) dir dir' (m.path ∷ []) h (sees_parent fs m.path h) (one_in m.path h) j)))))

  create_from_like : (m : Making) (d : Path) (x y : Node) → IsIn fs m.path → Sees fs d → Same x y → Like (create_from e m d x) (create_from e m d y)
  create_from_like m [] x y h k same = answered_like _
  create_from_like m (n ∷ names) x y h k same =
      unless_like _ _ _ _ (lacks_same 3 (n ∷ names) x y same)
      (create_new_like m (n ∷ names) x y h k same)

  pub create_like : (m : Making) → IsIn fs m.path → Like (create s e m) (create t e m)
  unfolding create
  create_like m h =
      walk_or_like (caller_of e) (create_from e m) (create_from e m) code.ResourceTypeMismatch m.path (create_in s e m) (create_in t e m) h (λ d x y k same. create_from_like m d x y h k same)
      (λ dir dir' j. unless_like _ _ _ _ (lacks_same 3 (parent m.path) dir dir' j)
      (noted_like m.path _ _ (create_over s e m dir) (create_over t e m dir') (sees fs m.path h) (create_new_like m (parent m.path) dir dir' h (sees_parent fs m.path h) j)
      (λ x y k. create_over_like m dir dir' x y h j k)))

  -- ---- delete

  gone_like : (dir : Path) (ps qs : List Path) → ps ≡ qs → ((q : Path) → Among q ps → IsIn fs q) → Like (gone dir ps) (gone dir qs)
  gone_like dir ps qs same h = (ap (λ l. view exact kept (gone dir l)) same, record { taken = h; puts = λ q j. absurd j; move = tt })

  among_children : (d q : Path) → IsIn fs d → Among q (children s d) → IsIn fs q
  among_children d q h k = in_below fs d q h (both _ _ (keys_among s (is_child d) q k).0).0

  clearable_same : (p : Path) (x y : Node) → IsIn fs p → Same x y → not_clearable s (caller_of e) p x ≡ not_clearable t (caller_of e) p y
  clearable_same p x y h k =
      let question : or_else (lacks (caller_of e) 7 p x) (first_refusal (is_guarded (caller_of e) x) s (children s p)) ≡ or_else (lacks (caller_of e) 7 p y) (first_refusal (is_guarded (caller_of e) y) t (children t p)) =
      ap (λ r. or_else r (first_refusal (is_guarded (caller_of e) x) s (children s p))) (lacks_same 7 p x y k)
      ∙ ap (or_else (lacks (caller_of e) 7 p y)) (first_same (is_guarded (caller_of e) x) (is_guarded (caller_of e) y) (children s p) (λ q j. (among_children p q h j, λ u v i. guarded_same q x y u v k i))
      ∙ ap (first_refusal (is_guarded (caller_of e) y) t) (children_in p h)) in
      ap (λ b. cond b (or_else (lacks (caller_of e) 7 p x) (first_refusal (is_guarded (caller_of e) x) s (children s p))) None) (bare_same p x y h k)
      ∙ ap (λ r. cond (is_directory y && not (is_bare t p)) r None) question

  cleared_like : (p : Path) (recursive : Bool) → IsIn fs p → Like (cleared s e p recursive (subtree s p)) (cleared t e p recursive (subtree t p))
  cleared_like p true h =
      reading_like _ _ _ _ (subtree_in p h)
      (unless_like _ _ _ _ (first_same (not_clearable s (caller_of e)) (not_clearable t (caller_of e)) (subtree s p) (λ q j. (among_subtree p q h j, λ u v i. clearable_same q u v (among_subtree p q h j) i))
      ∙ ap (first_refusal (not_clearable t (caller_of e)) t) (subtree_in p h))
      (gone_like (parent p) _ _ (subtree_in p h) (λ q j. among_subtree p q h j)))
  cleared_like p false h = gone_like (parent p) _ _ (subtree_in p h) (λ q j. among_subtree p q h j)

  pub delete_like : (p : Path) (recursive : Bool) → IsIn fs p → Like (delete s e p recursive) (delete t e p recursive)
  unfolding delete
  delete_like p recursive h =
      walk_like (caller_of e) code.PathNotFound p (delete_in s e p recursive) (delete_in t e p recursive) h (λ dir dir' j.
      unless_like _ _ _ _ (lacks_same 3 (parent p) dir dir' j)
      (noted_like p (refused (missing_code p code.PathNotFound)) _ (delete_node s e p recursive dir) (delete_node t e p recursive dir') (sees fs p h) (answered_like _) (λ x y k.
      unless_like _ _ _ _ (guarded_same p dir dir' x y j k)
      (unless_like _ _ _ _ (unmet_same x y k)
      (unless_like _ _ _ _ (lease_same e.request.lease x y k)
      (unless_like _ _ _ _ (ap (λ b. refuse_if (not recursive && b) code.DirectoryNotEmpty) (bare_same p x y h k))
      (cleared_like p recursive h)))))))

  -- ---- rename

  shifted_like : (m : Moving) (x y : Node) (replaced : List Path) → IsIn fs m.path → IsIn fs m.source → ((q : Path) → Among q replaced → IsIn fs q) → Same x y → Like (shifted e m x replaced) (shifted e m y replaced)
  shifted_like m x y replaced h j goes k = (
    over_view exact kept (λ z. shifted e m z replaced) (λ z. refl) x y k,
    record { taken = goes; puts = one_in m.source j; move = (j, h) },
  )

  cond_like : (b c : Bool) (o o' q q' : Outcome) → b ≡ c → Like o o' → Like q q' → Like (cond b o q) (cond c o' q')
  cond_like true true o o' q q' same h k = h
  cond_like false false o o' q q' same h k = k
  cond_like true false o o' q q' same h k = absurd (false≢true (sym same))
  cond_like false true o o' q q' same h k = absurd (false≢true same)

  fitted_like : (m : Moving) (x y : Node) (replaced : List Path) → IsIn fs m.path → IsIn fs m.source → ((q : Path) → Among q replaced → IsIn fs q) → Same x y → Like (fitted s e m x replaced) (fitted t e m y replaced)
  fitted_like m x y replaced h j goes k =
      cond_like (is_directory x && grows m) (is_directory y && grows m) _ _ _ _ (ap (λ b. b && grows m) (kind_same x y k))
      (reading_like _ _ _ _ (subtree_in m.source j)
      (unless_like _ _ _ _ (ap (λ (ps : List Path). refuse_if (some_too_long m ps) code.RenameTooLong) (subtree_in m.source j))
      (shifted_like m x y replaced h j goes k)))
      (shifted_like m x y replaced h j goes k)

  kinds_free : (x : Node) (z : Node) → has_kind (kind_of x) (unnumbered z) ≡ has_kind (kind_of x) z
  kinds_free x z = has_kind_free (kind_of x) z

  kinds_same : (x x' y y' : Node) → Same x x' → Same y y' → refuse_if (not (has_kind (kind_of x) y)) code.ResourceTypeMismatch ≡ refuse_if (not (has_kind (kind_of x') y')) code.ResourceTypeMismatch
  kinds_same x x' y y' h k =
      over exact (λ z. refuse_if (not (has_kind (kind_of z) y)) code.ResourceTypeMismatch) (λ z. refl) x x' h
      ∙ over exact (λ z. refuse_if (not (has_kind (kind_of x') z)) code.ResourceTypeMismatch) (λ z. ap (λ b. refuse_if (not b) code.ResourceTypeMismatch) (kinds_free x' z)) y y' k

  rename_over_like : (m : Moving) (x x' dir dir' y y' : Node) → IsIn fs m.path → IsIn fs m.source → Same x x' → Same dir dir' → Same y y' → Like (rename_over s e m x dir y) (rename_over t e m x' dir' y')
  rename_over_like m x x' dir dir' y y' h j k i l =
      unless_like _ _ _ _ (guarded_same m.path dir dir' y y' i l)
      (unless_like (exists_already e) _ _ _ refl
      (unless_like _ _ _ _ (unmet_same y y' l)
      (unless_like _ _ _ _ (lease_same e.request.source_lease x x' k)
      (unless_like _ _ _ _ (kinds_same x x' y y' k l)
      (unless_like _ _ _ _ (ap (λ b. refuse_if b code.DirectoryNotEmpty) (bare_same m.path y y' h l))
      (fitted_like m x x' (m.path ∷ []) h j (one_in m.path h) k))))))

  rename_new_like : (m : Moving) (x x' : Node) → IsIn fs m.path → IsIn fs m.source → Same x x' → Like (rename_new s e m x) (rename_new t e m x')
  rename_new_like m x x' h j k =
      unless_like (is_unmet_without e) _ _ _ refl
      (unless_like _ _ _ _ (lease_same e.request.source_lease x x' k)
      (fitted_like m x x' [] h j (λ q i. absurd i) k))

  rename_into_like : (m : Moving) (x x' dir dir' : Node) → IsIn fs m.path → IsIn fs m.source → Same x x' → Same dir dir' → Like (rename_into s e m x dir) (rename_into t e m x' dir')
  rename_into_like m x x' dir dir' h j k i =
      unless_like _ _ _ _ (lacks_same 3 (parent m.path) dir dir' i)
      (noted_like m.path (rename_new s e m x) (rename_new t e m x') (rename_over s e m x dir) (rename_over t e m x' dir') (sees fs m.path h) (rename_new_like m x x' h j k)
      (λ y y' l. rename_over_like m x x' dir dir' y y' h j k i l))

  rename_node_like : (m : Moving) (dir dir' x x' : Node) → IsIn fs m.path → IsIn fs m.source → Same dir dir' → Same x x' → Like (rename_node s e m dir x) (rename_node t e m dir' x')
  rename_node_like m dir dir' x x' h j i k =
      unless_like _ _ _ _ (guarded_same m.source dir dir' x x' i k)
      (walk_like (caller_of e) code.RenameDestinationParentPathNotFound m.path (rename_into s e m x) (rename_into t e m x') h (λ into into' l. rename_into_like m x x' into into' h j k l))

  pub rename_like : (m : Moving) → IsIn fs m.path → IsIn fs m.source → Like (rename s e m) (rename t e m)
  unfolding rename
  rename_like m h j =
      walk_like (caller_of e) code.SourcePathNotFound m.source (rename_out s e m) (rename_out t e m) j (λ dir dir' i.
      unless_like _ _ _ _ (lacks_same 3 (parent m.source) dir dir' i)
      (noted_like m.source (refused (missing_code m.source code.SourcePathNotFound)) _ (rename_node s e m dir) (rename_node t e m dir') (sees fs m.source j) (answered_like _)
      (λ x x' k. rename_node_like m dir dir' x x' h j i k)))

  -- ---- pages of paths

  listing_in : (dir : Path) (recursive : Bool) → IsIn fs dir → (q : Path) → is_listed recursive dir q ≡ true → IsIn fs q
  listing_in dir true h q j = in_below fs dir q h (both _ _ j).0
  listing_in dir false h q j = in_below fs dir q h (both _ _ j).0

  way_in : (token : Option Path) (test : Path → Bool) → ((q : Path) → test q ≡ true → IsIn fs q) → on_the_way s test token ≡ on_the_way t test token
  way_in None test h = refl
  way_in (Some token) test h = keys_in (λ q. test q && is_prefix q token) (λ q j. h q (both _ _ j).0)

  among_way : (token : Option Path) (test : Path → Bool) → ((q : Path) → test q ≡ true → IsIn fs q) → (q : Path) → Among q (on_the_way s test token) → IsIn fs q
  among_way None test h q j = absurd j
  among_way (Some token) test h q j = h q (both _ _ (keys_among s (λ r. test r && is_prefix r token) q j).0).0

  among_page : (token : Option Path) (max : ℕ) (test : Path → Bool) → ((q : Path) → test q ≡ true → IsIn fs q) → (q : Path) → Among q (page_of max (above token (keys_where s test))).paths → IsIn fs q
  among_page token max test h q j = h q (keys_among s test q (among_above token q (keys_where s test) (among_take max q (above token (keys_where s test)) j))).0

  closed_same : (p : Path) (x y : Node) → Same x y → is_closed (caller_of e) p x ≡ is_closed (caller_of e) p y
  closed_same p x y k = over exact (is_closed (caller_of e) p) (λ z. refl) x y k

  exactly : (x : Bool) → x ≡ true → (a b : Node) → shown x a ≡ shown x b → a ≡ b
  exactly true is a b h = h
  exactly false is a b h = absurd (false≢true is)

  items_same : exact ≡ true → (ps : List Path) → ((q : Path) → Among q ps → IsIn fs q) → path_items s ps ≡ path_items t ps
  items_same is [] h = refl
  items_same is (p ∷ ps) h =
      ap (λ z. item (path_data p z) (path_items s ps)) (exactly exact is (node_at s p) (node_at t p) (node_same p (sees fs p (h p (inl refl)))))
      ∙ ap (item (path_data p (node_at t p))) (items_same is ps (λ q j. h q (inr j)))

  bodiless : (x k : Bool) → (x ≡ false) × (k ≡ false) → (status : ℕ) (fields : List Field) (one other : List ℕ) → view x k (answered (with_body status fields one)) ≡ view x k (answered (with_body status fields other))
  bodiless true k h status fields one other = absurd (false≢true (sym h.0))
  bodiless false true h status fields one other = absurd (false≢true (sym h.1))
  bodiless false false h status fields one other = refl

  listed_like : (exact ≡ true) ⊎ ((exact ≡ false) × (kept ≡ false)) → (dir : Path) (page : Page) → ((q : Path) → Among q page.paths → IsIn fs q) → Like (listed s dir page) (listed t dir page)
  listed_like how dir page h = (by_how how, still fs (with_body 200 (page_fields (slice_get dir 0) page.next) (paths_body s page.paths)))
    where
      by_how : (exact ≡ true) ⊎ ((exact ≡ false) × (kept ≡ false)) → view exact kept (listed s dir page) ≡ view exact kept (listed t dir page)
      by_how (inl is) = ap (λ items. view exact kept (answered (with_body 200 (page_fields (slice_get dir 0) page.next) (compact_text (object (member (codes "paths") (array items) no_members)))))) (items_same is page.paths h)
      by_how (inr bare) = bodiless exact kept bare 200 (page_fields (slice_get dir 0) page.next) (paths_body s page.paths) (paths_body t page.paths)

  listed_below_like : (exact ≡ true) ⊎ ((exact ≡ false) × (kept ≡ false)) → (dir : Path) (seen : List Path) (page : Page) → ((q : Path) → Among q seen → IsIn fs q) → ((q : Path) → Among q page.paths → IsIn fs q)
      → Like (listed_below s e dir seen page) (listed_below t e dir seen page)
  listed_below_like how dir seen page h k =
      reading_like seen seen _ _ refl
      (unless_like _ _ _ _ (first_same (is_closed (caller_of e)) (is_closed (caller_of e)) seen (λ q j. (h q j, closed_same q)))
      (listed_like how dir page k))

  page_in : (dir : Path) (recursive : Bool) (token : Option Path) (max : ℕ) → IsIn fs dir → list_page s dir recursive token max ≡ list_page t dir recursive token max
  page_in dir recursive token max h = ap (λ (l : List Path). page_of max (above token l)) (keys_in (is_listed recursive dir) (listing_in dir recursive h))

  paged_like : (exact ≡ true) ⊎ ((exact ≡ false) × (kept ≡ false)) → (dir : Path) (recursive : Bool) (token : Option Path) (max : ℕ) → IsIn fs dir
      → Like (paged s e dir recursive token (list_page s dir recursive token max)) (paged t e dir recursive token (list_page t dir recursive token max))
  paged_like how dir true token max h =
      let page = list_page s dir true token max in
      let inside : (q : Path) → Among q page.paths → IsIn fs q = among_page token max (is_listed true dir) (listing_in dir true h) in
      let below : (q : Path) → is_below dir q ≡ true → IsIn fs q = listing_in dir true h in
      subst (λ (g : Page). Like (paged s e dir true token page) (listed_below t e dir (on_the_way t (is_below dir) token ++ g.paths) g)) (page_in dir true token max h)
      (subst (λ (w : List Path). Like (paged s e dir true token page) (listed_below t e dir (w ++ page.paths) page)) (way_in token (is_below dir) below)
      (listed_below_like how dir (on_the_way s (is_below dir) token ++ page.paths) page
      (λ q j. elim (among_either q (on_the_way s (is_below dir) token) page.paths j) [ inl w ↦ among_way token (is_below dir) below q w | inr p ↦ inside q p ]) inside))
  paged_like how dir false token max h =
      let page = list_page s dir false token max in
      subst (λ (g : Page). Like (paged s e dir false token page) (reading g.paths (listed t dir g))) (page_in dir false token max h)
      (reading_like page.paths page.paths _ _ refl (listed_like how dir page (among_page token max (is_listed false dir) (listing_in dir false h))))

  pub list_paths_like : (exact ≡ true) ⊎ ((exact ≡ false) × (kept ≡ false)) → (dir : Path) (recursive : Bool) (token : Option Path) (max : ℕ) → IsIn fs dir
      → Like (list_paths s e dir recursive token max) (list_paths t e dir recursive token max)
  unfolding list_paths
  list_paths_like how dir recursive token max h =
      found_like dir (list_node s e dir recursive token max) (list_node t e dir recursive token max) h (λ x y k.
      unless_like _ _ _ _ (ap (λ b. refuse_if (not b) code.ResourceTypeMismatch) (kind_same x y k))
      (unless_like _ _ _ _ (lacks_same 5 dir x y k)
      (paged_like how dir recursive token max h)))

  -- ---- batches

  with_turn_same : (change : BatchChange) (x : Bool) (force : Bool) (p : Path) (a b : Node) (r : Result AclPair Code) (rest rest' : Batch) → shown x a ≡ shown x b → shown_batch x rest ≡ shown_batch x rest'
      → shown_batch x (with_turn e force p a r rest) ≡ shown_batch x (with_turn e force p b r rest')
  with_turn_same change true force p a b r rest rest' h k = ap (λ z. with_turn e force p z r rest) h ∙ ap (with_turn e force p b r) k
  with_turn_same change false force p a b (Ok pair) rest rest' h k =
      ap (λ (z : Node). record { changed = (p, unnumbered_put (stamp e.moment (record z { acl = pair }))) ∷ (unnumbered_batch rest).changed; failed = (unnumbered_batch rest).failed }) h
      ∙ ap (λ (z : Batch). record { changed = (p, unnumbered_put (stamp e.moment (record b { acl = pair }))) ∷ z.changed; failed = z.failed }) k
  with_turn_same change false true p a b (Err c) rest rest' h k =
      ap (λ (z : Node). record { changed = (unnumbered_batch rest).changed; failed = record { path = p; node = z; code = c } ∷ (unnumbered_batch rest).failed }) h
      ∙ ap (λ (z : Batch). record { changed = z.changed; failed = record { path = p; node = unnumbered b; code = c } ∷ z.failed }) k
  with_turn_same change false false p a b (Err c) rest rest' h k = ap (λ (z : Node). record { changed = []; failed = record { path = p; node = z; code = c } ∷ [] }) h

  batch_same : (change : BatchChange) (force : Bool) (ps : List Path) → ((q : Path) → Among q ps → IsIn fs q) → shown_batch exact (batch_of s e change force ps) ≡ shown_batch exact (batch_of t e change force ps)
  batch_same change force [] h = refl
  batch_same change force (p ∷ ps) h =
      let here = node_same p (sees fs p (h p (inl refl))) in
      let turn = over exact (turn_of (caller_of e) change) (λ z. refl) (node_at s p) (node_at t p) here in
      with_turn_same change exact force p (node_at s p) (node_at t p) (turn_of (caller_of e) change (node_at s p)) (batch_of s e change force ps) (batch_of t e change force ps) here (batch_same change force ps (λ q j. h q (inr j)))
      ∙ ap (λ r. shown_batch exact (with_turn e force p (node_at t p) r (batch_of t e change force ps))) turn

  changed_turn : (force : Bool) (p : Path) (x : Node) (turn : Result AclPair Code) (rest : Batch) (q : Path) (ps : List Path)
      → (Among q (paths_of rest.changed) → Among q ps) → Among q (paths_of (with_turn e force p x turn rest).changed) → Among q (p ∷ ps)
  changed_turn force p x (Ok pair) rest q ps more (inl same) = inl same
  changed_turn force p x (Ok pair) rest q ps more (inr j) = inr (more j)
  changed_turn true p x (Err c) rest q ps more j = inr (more j)
  changed_turn false p x (Err c) rest q ps more j = absurd j

  changed_of : (change : BatchChange) (force : Bool) (ps : List Path) (q : Path) → Among q (paths_of (batch_of s e change force ps).changed) → Among q ps
  changed_of change force [] q j = j
  changed_of change force (p ∷ ps) q j = changed_turn force p (node_at s p) (turn_of (caller_of e) change (node_at s p)) (batch_of s e change force ps) q ps (changed_of change force ps q) j

  batch_view : (x : Bool) (p : Path) (force : Bool) (token : Option Path) (page : Page) (b c : Batch) → shown_batch x b ≡ shown_batch x c → view x kept (batched e p force token page b) ≡ view x kept (batched e p force token page c)
  batch_view true p force token page b c h = ap (batched e p force token page) h
  batch_view false p force token page b c h =
      sym (batched_free kept e p force token page b) ∙ ap (λ z. unnumbered_outcome kept (batched e p force token page z)) h ∙ batched_free kept e p force token page c

  pub set_access_recursive_like : (p : Path) (change : BatchChange) (token : Option Path) (max : ℕ) (force : Bool) → IsIn fs p → Like (set_access_recursive s e p change token max force) (set_access_recursive t e p change token max force)
  unfolding set_access_recursive
  set_access_recursive_like p change token max force h =
      let below : (q : Path) → is_prefix p q ≡ true → IsIn fs q = λ q j. in_below fs p q h j in
      let page = batch_page s p token max in
      let inside : (q : Path) → Among q page.paths → IsIn fs q = among_page token max (is_prefix p) below in
      let same_page : page ≡ batch_page t p token max = ap (λ (l : List Path). page_of max (above token l)) (subtree_in p h) in
      found_like p (batch_below s e p change token force page) (batch_below t e p change token force (batch_page t p token max)) h (λ x y k.
      subst (λ (g : Page). Like (batch_below s e p change token force page x) (batch_below t e p change token force g y)) same_page
      (reading_like _ _ _ _ (way_in token (is_prefix p) below) (
        batch_view exact p force token page (batch_of s e change force page.paths) (batch_of t e change force page.paths) (batch_same change force page.paths inside),
        record { taken = λ q j. absurd j; puts = λ q j. inside q (changed_of change force page.paths q j); move = tt },
      )))

  -- ---- by operation

  -- of a page of paths the body has numbers
  abbrev pub Bodied : Op → Type 0
  Bodied o = is_listing o ≡ true → (exact ≡ true) ⊎ ((exact ≡ false) × (kept ≡ false))

  pub acts_like : (o : Op) → IsOn fs o → Bodied o → Like (acts s e o) (acts t e o)
  acts_like (op.ListFilesystems prefix token max) h b = absurd h
  acts_like (op.CreateFilesystem path props) h b = create_filesystem_like path props h
  acts_like (op.GetFilesystem path) h b = get_filesystem_like path h
  acts_like (op.SetFilesystem path props) h b = set_filesystem_like path props h
  acts_like (op.DeleteFilesystem path) h b = delete_filesystem_like path h
  acts_like (op.List dir recursive token max) h b = list_paths_like (b refl) dir recursive token max h
  acts_like (op.Create path kind permissions umask props) h b = create_like (record { path = path; kind = kind; permissions = permissions; umask = umask; props = props }) h
  acts_like (op.Rename path source props) h b = rename_like (record { source = source; path = path; props = props }) h.0 h.1
  acts_like (op.Read path range) h b = read_file_like path range h
  acts_like (op.GetProperties path status) h b = get_properties_like path status h
  acts_like (op.GetAccess path) h b = get_access_like path h
  acts_like (op.CheckAccess path want) h b = check_access_like path want h
  acts_like (op.Append path position flush retain action) h b = append_like path (record { position = position; flush = flush; retain = retain; action = action }) h
  acts_like (op.Flush path position retain) h b = flush_like path position retain h
  acts_like (op.SetProperties path props) h b = set_properties_like path props h
  acts_like (op.SetAccess path owner group permissions acl) h b = set_access_like path (record { owner = owner; group = group; permissions = permissions; acl = acl }) h
  acts_like (op.SetAccessRecursive path change token max force) h b = set_access_recursive_like path change token max force h
  acts_like (op.Lease path action) h b = act_on_lease_like path action h
  acts_like (op.Delete path recursive) h b = delete_like path recursive h
  acts_like (op.Refused code) h b = answered_like _

  close_view : (x close : Bool) (a b : Outcome) → view x kept a ≡ view x kept b → view x kept (without_repeats (with_close close a)) ≡ view x kept (without_repeats (with_close close b))
  close_view true close a b h = ap (λ o. without_repeats (with_close close o)) h
  close_view false true a b h = ap (λ o. without_repeats (with_close true o)) h
  close_view false false a b h = ap (λ o. without_repeats (with_close false o)) h

  pub outcome_like : IsOn fs e.request.op → Bodied e.request.op → Like (outcome s e) (outcome t e)
  unfolding outcome
  outcome_like h b =
      let acts_are = acts_like e.request.op h b in
      (close_view exact e.request.close (acts s e e.request.op) (acts t e e.request.op) acts_are.0, record { taken = acts_are.1.taken; puts = acts_are.1.puts; move = acts_are.1.move })
