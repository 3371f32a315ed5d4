-- The steps of the calls that show, change and delete a filesystem, and what they make of its root.
use Rattle.std.proofs.Common.{◌≡◌, ◌≢◌, inr, ℕ, true, List, [], ◌∷◌, ◌++◌, length, is_some, Some, None, Err, refl, sym, ap, subst, ◌∙◌, append-nil, arith}
use Rattle.namespace_model.specs.declared.op.Op.{Op}
use Rattle.namespace_model.specs.declared.op.Op.TheVariants as op
use Rattle.namespace_model.specs.declared.reply.Reply.{Reply}
use Rattle.namespace_model.specs.declared.request.Entry.{Entry}
use Rattle.namespace_model.specs.declared.request.Request.{Request}
use Rattle.namespace_model.specs.DeleteFilesystem.{delete_filesystem, filesystem_gone}
use Rattle.namespace_model.specs.Effects.{Put, stamp}
use Rattle.namespace_model.specs.GetFilesystem.{get_filesystem, filesystem_shown}
use Rattle.namespace_model.specs.Locality.{Among}
use Rattle.namespace_model.specs.Looks as looks
use Rattle.namespace_model.specs.Nodes.{Node}
use Rattle.namespace_model.specs.Outcomes.{Outcome, answered, edited, reading, touched, unless}
use Rattle.namespace_model.specs.Refusals.{caller_of, is_no_superuser}
use Rattle.namespace_model.specs.Replies.{success, stamp_fields}
use Rattle.namespace_model.specs.SetFilesystem.{set_filesystem, filesystem_set}
use Rattle.namespace_model.specs.Sound.{IsOperation}
use Rattle.namespace_model.specs.Step.{acts, outcome, root_of}
use Rattle.namespace_model.specs.Trees.{Path, Tree, at, is_below, parent, subtree}
use Rattle.namespace_model.proofs.Alikeness.{among_right}
use Rattle.namespace_model.proofs.Lookups.{among_keys, keys_among}
use Rattle.namespace_model.proofs.Prefixes.{both}
use Rattle.namespace_model.proofs.StepLocality.{among_once}
use Rattle.path_text.specs.Paths.{is_prefix}
use Rattle.namespace_model.specs.Ways.{reached, way_of}
use Rattle.inode_tree.specs.declared.change.Edit.{Edit}
use Rattle.inode_tree.specs.declared.change.Edit.TheVariants as edit
use Rattle.inode_tree.specs.declared.draft.EvalStop.TheVariants as stop
use Rattle.inode_tree.specs.declared.id.NodeId.{NodeId}
use Rattle.inode_tree.specs.declared.need.Need.{Need}
use Rattle.inode_tree.specs.After.{known}
use Rattle.inode_tree.specs.Footprints.{ids_of}
use Rattle.inode_tree.specs.Inodes.{BareInode, node_of}
use Rattle.inode_tree.specs.Parts.{follow, id_at}
use Rattle.inode_tree.specs.Promises.{numbers_of, is_one_of}
use Rattle.inode_tree.specs.Views.{Held, Shown}
use Rattle.inode_tree.proofs.FrameLemmas.{short_id}
use Rattle.inode_tree.proofs.IndexLemmas.{reached_short}
use Rattle.inode_tree.proofs.PairLemmas.{known_has}
use Rattle.path_walk.specs.declared.call.Call.{Call}
use Rattle.path_walk.specs.declared.edits.Verdict.{Verdict}
use Rattle.path_walk.specs.declared.edits.Verdict.TheVariants as verdict
use Rattle.path_walk.specs.declared.removals.Removal.{Removal}
use Rattle.path_walk.specs.Calls.{IsCall, Answers, GoesOn}
use Rattle.path_walk.specs.Edits.{AreEdits, IsSeat, Leave}
use Rattle.path_walk.specs.Finds.{read_to}
use Rattle.path_walk.specs.Removals.{taken_out}
use Rattle.path_walk.specs.Settles.{LooksAs, IsVerdictOf, IsRemovalOf}
use Rattle.path_walk.proofs.CallLemmas.{agrees_earlier, looked_later}
use Rattle.path_walk.proofs.EditLemmas.{meta_leaves}
use Rattle.path_walk.proofs.LookAnswers.{node_is}
use Rattle.path_walk.proofs.SetLemmas.{one_has, one_lies}
use Rattle.path_walk.proofs.TouchLemmas.{touched_need}
use Rattle.path_order.specs.declared.cursor.Seen.{Seen}
use Rattle.path_order.specs.declared.whole.Subtree.{Subtree}
use Rattle.path_order.specs.PagesBelow.{ids_in}
use Rattle.path_order.specs.Subtrees.{IsTop, IsSubtree, NeedsSubtree}
use Rattle.op_filesystem.specs.Roots.{AsksRoot, IsRootReached, shown_reply}
use Rattle.op_filesystem.proofs.RootLemmas.{behind_root, looks_at}
use Rattle.op_filesystem.proofs.SuperuserLemmas.{called_by}

abbrev Given : Type 0
Given = List (List ℕ × List ℕ)

-- a call on a filesystem names its root
whole_path : (path : Path) → length path ≡ 1 → root_of path ≡ path
whole_path [] h = refl
whole_path (fs ∷ []) h = refl
whole_path (fs ∷ n ∷ names) h = absurd (omega arith)

get_is : (t : Tree) (e : Entry) (p : Path) → get_filesystem t e p ≡ unless (is_no_superuser (caller_of e) p) (behind_root p (λ t e. filesystem_shown) t e)
unfolding get_filesystem
get_is t e p = refl

set_is : (t : Tree) (e : Entry) (p : Path) (props : Given) → set_filesystem t e p props ≡ unless (is_no_superuser (caller_of e) p) (behind_root p (λ t e. filesystem_set e p props) t e)
unfolding set_filesystem
set_is t e p props = refl

delete_is : (t : Tree) (e : Entry) (p : Path) → delete_filesystem t e p ≡ unless (is_no_superuser (caller_of e) p) (behind_root p (λ t e. filesystem_gone (subtree t p)) t e)
unfolding delete_filesystem
delete_is t e p = refl

module _ (call : Call) (is : IsCall call) where
  abbrev path : Path
  path = call.path.now

  acts_as : (o : Op) → call.request.now.op ≡ o → (t : Tree) (e : Entry) → e.request ≡ call.request.now → acts t e e.request.op ≡ acts t e o
  acts_as o asked t e asks = ap (λ (r : Request). acts t e r.op) asks ∙ ap (acts t e) asked

  -- ---- it is shown

  module _ (asked : call.request.now.op ≡ op.GetFilesystem path) where
    get_root : length path ≡ 1
    get_root = (subst (λ o. IsOperation o (length call.request.now.body)) asked is.sound.operation).parts

    pub get_asks : AsksRoot call
    get_asks = record {
      root = get_root;
      some = λ t e. filesystem_shown;
      asks = λ t e asks. acts_as (op.GetFilesystem path) asked t e asks ∙ ap (get_filesystem t e) (whole_path path get_root) ∙ get_is t e path;
    }

    pub get_looks : is_no_superuser call.caller.now path ≡ None → LooksAs call (λ e. filesystem_shown)
    unfolding get_asks
    get_looks allowed t e asks = looks_at call is get_asks allowed t e asks

  pub get_says : (x : BareInode) (reply : Reply) → reply ≡ shown_reply (node_of x) → IsVerdictOf call (λ e. filesystem_shown) x (verdict.Answer reply)
  get_says x reply same e asks moment = ap answered (sym same)

  -- ---- it has other properties

  module _ (props : Given) (asked : call.request.now.op ≡ op.SetFilesystem path props) where
    set_root : length path ≡ 1
    set_root = (subst (λ o. IsOperation o (length call.request.now.body)) asked is.sound.operation).parts

    pub set_asks : AsksRoot call
    set_asks = record {
      root = set_root;
      some = λ t e. filesystem_set e path props;
      asks = λ t e asks. acts_as (op.SetFilesystem path props) asked t e asks ∙ ap (λ p. set_filesystem t e p props) (whole_path path set_root) ∙ set_is t e path props;
    }

    pub set_looks : is_no_superuser call.caller.now path ≡ None → LooksAs call (λ e. filesystem_set e path props)
    unfolding set_asks
    set_looks allowed t e asks = looks_at call is set_asks allowed t e asks

  pub set_says : (props : Given) (x : BareInode) (v : Verdict) → AreEdits (edit.Meta (record x.meta { props = props; moment = call.moment }) true ∷ []) (success 200 (stamp_fields call.moment)) v
      → IsVerdictOf call (λ e. filesystem_set e path props) x v
  set_says props x (verdict.Answer reply) are e asks moment = absurd are
  set_says props x (verdict.Edits given told) are e asks moment =
      let put : Put = stamp e.moment (record (node_of x) { props = props }) in (
        put,
        ap (λ m. edited path put (success 200 (stamp_fields m))) moment ∙ ap (edited path put) (sym are.1),
        subst (λ (l : List Edit). Leave l put x) (sym are.0) (meta_leaves x (record x.meta { props = props; moment = call.moment }) put (ap (λ m. record x.meta { props = props; moment = m }) (sym moment)) refl),
      )

  -- ---- it goes

  module _ (asked : call.request.now.op ≡ op.DeleteFilesystem path) where
    delete_root : length path ≡ 1
    delete_root = (subst (λ o. IsOperation o (length call.request.now.body)) asked is.sound.operation).parts

    pub some_path : path ≢ []
    some_path e = absurd (let l = delete_root in let k : length path ≡ 0 = ap (λ (p : Path). length p) e in omega arith)

    pub delete_asks : AsksRoot call
    delete_asks = record {
      root = delete_root;
      some = λ t e. filesystem_gone (subtree t path);
      asks = λ t e asks. acts_as (op.DeleteFilesystem path) asked t e asks ∙ ap (delete_filesystem t e) (whole_path path delete_root) ∙ delete_is t e path;
    }

    delete_looks : is_no_superuser call.caller.now path ≡ None → (t : Tree) (e : Entry) → e.request ≡ call.request.now → acts t e e.request.op ≡ looks.found t e path (filesystem_gone (subtree t path))
    unfolding delete_asks
    delete_looks allowed t e asks = looks_at call is delete_asks allowed t e asks

    above : parent path ≡ []
    above = by_path path delete_root
      where
        by_path : (p : Path) → length p ≡ 1 → parent p ≡ []
        by_path [] h = refl
        by_path (fs ∷ []) h = refl
        by_path (fs ∷ n ∷ names) h = absurd (omega arith)

    -- what the step writes is touched
    writes_them : (t : Tree) (e : Entry) (o : Outcome) → acts t e e.request.op ≡ o → (p : Path) → Among p o.written → Among p (touched (outcome t e))
    unfolding outcome
    writes_them t e o same p h =
        among_right p (outcome t e).read (outcome t e).written (among_once p (acts t e e.request.op).written (subst (λ (x : Outcome). Among p x.written) (sym same) h))

    module _ (held : Held) (shown : Shown) (reads : List NodeId) (root : Seen) (is_root_reached : IsRootReached held shown call reads root) where
      seat : IsSeat held shown call.caller.now path reads root.id root.node
      seat = is_root_reached.seat

      pub is_top : IsTop shown path root
      is_top parts t stands agrees = let here = seat.is_seat parts t stands agrees in record { leads = here.leads; there = here.there }

      goes : (t : Tree) (e : Entry) → e.request ≡ call.request.now → (x : Node) → way_of t call.caller.now path ≡ reached → at t path ≡ Some x
          → acts t e e.request.op ≡ reading (read_to t call.caller.now path) (filesystem_gone (subtree t path) x)
      goes t e asks x passes there =
          delete_looks is_root_reached.allowed t e asks ∙ node_is t e path (filesystem_gone (subtree t path)) call.caller.now (called_by call is e asks) x passes there

      -- a stripe in which a node of the filesystem lies is needed
      pub below_needed : (n : Need) → NeedsSubtree held shown path n → Answers held shown call (Err (stop.Need n))
      below_needed n needs =
          touched_need held shown call.request.now call.moment call.fresh n needs.within needs.asks needs.lacks (λ parts t e possible of.
          let here = seat.is_seat parts t possible.stands possible.agrees in
          let one = needs.needed parts t possible.stands possible.agrees in
          let key = keys_among t (is_below path) one.0 one.1.1.0 in
          let among : Among one.0 (subtree t path) = among_keys t (is_prefix path) one.0 key.1 (both _ _ key.0).0 in
          let id : id_at parts one.0 ≡ Some one.1.0 = short_id parts one.0 (reached_short parts t possible.stands one.0 one.1.0 one.1.1.1.0) ∙ one.1.1.1.0 in (
            subtree t path,
            λ p h. writes_them t e.entry (reading (read_to t call.caller.now path) (filesystem_gone (subtree t path) (node_of root.node)))
                (goes t e.entry of.asks (node_of root.node) here.passes here.holds) p (inr h),
            one_lies n.stripe one.1.0 (ids_of parts (subtree t path)) (one_has (known parts (subtree t path)) (one.0, one.1.0) (known_has parts (subtree t path) one.0 one.1.0 among id)) (sym one.1.1.1.1),
          ))

      -- all of it goes
      pub all_go : (s : Subtree) (removal : Removal) (reply : Reply) → reply ≡ success 202 [] → IsSubtree held shown path s → path ≡ parent path ++ removal.name ∷ [] → removal.base.0 ≡ 0
          → numbers_of removal.taken.items ≡ ids_in (s.top ∷ s.below.items) → IsRemovalOf shown call reads removal reply
      all_go s removal reply same whole named base taken e asks moment = record {
        named = named;
        is_removal = λ parts t stands agrees.
            let here = seat.is_seat parts t stands agrees in
            record {
              paths = read_to t call.caller.now path ++ [];
              acts_so = goes t e asks (node_of root.node) here.passes here.holds
                  ∙ ap (λ (d : Path). record (reading (read_to t call.caller.now path) (filesystem_gone (subtree t path) (node_of root.node))) { written = d ∷ subtree t path }) (sym above)
                  ∙ ap (taken_out (read_to t call.caller.now path ++ []) (parent path) (subtree t path)) (sym same);
              reads_are = λ id. ap (is_one_of id) here.read ∙ ap (λ (l : List Path). is_one_of id (ids_of parts l)) (sym (append-nil (read_to t call.caller.now path)));
              stands_in = ap (follow parts 0) above ∙ ap Some (sym base);
              there = ap is_some here.holds;
              takes = λ id. ap (is_one_of id) (taken ∙ sym (whole.ids parts t stands agrees));
            };
      }

-- a root that was reached is so at a later view too
pub root_later : {O : Type 0} {held later : Held} {over over_later : O} {shown shown_later : Shown} → GoesOn held later over over_later shown shown_later → (call : Call) (reads : List NodeId) (root : Seen)
    → IsRootReached held shown call reads root → IsRootReached later shown_later call reads root
root_later on call reads root is = record {
  allowed = is.allowed;
  seat = record {
    is_seat = λ parts t stands agrees. is.seat.is_seat parts t stands (agrees_earlier on parts agrees);
    looked = looked_later on reads is.seat.looked;
  };
}
