-- Replaced properties, and an owner, a group, permissions or lists that are set, leave what the model puts.
use Rattle.std.proofs.Common.{◌≡◌, ℕ, true, List, [], ◌∷◌, Result, Ok, Err, refl, sym, subst, ◌∙◌}
use Rattle.std.specs.Prelude.{IfOk}
use Rattle.acl_text.specs.declared.acl.AclPair.{AclPair}
use Rattle.lease_state.specs.declared.lease.Lease.{Lease}
use Rattle.lease_state.specs.LeaseTable.{lease_after_write}
use Rattle.namespace_model.specs.declared.reply.Reply.{Reply}
use Rattle.namespace_model.specs.declared.request.Entry.{Entry}
use Rattle.namespace_model.specs.Effects.{Put, stamp}
use Rattle.namespace_model.specs.Outcomes.{Outcome}
use Rattle.namespace_model.specs.Replies.{success, stamp_fields}
use Rattle.namespace_model.specs.SetAccess.{Setting, access_put, sticky_set}
use Rattle.namespace_model.specs.SetProperties.{properties_set}
use Rattle.namespace_model.specs.Trees.{Path}
use Rattle.inode_tree.specs.declared.change.Edit.{Edit}
use Rattle.inode_tree.specs.declared.change.Edit.TheVariants as edit
use Rattle.inode_tree.specs.declared.meta.Meta.{Meta}
use Rattle.inode_tree.specs.Inodes.{BareInode, node_of}
use Rattle.path_walk.specs.declared.edits.Verdict.{Verdict}
use Rattle.path_walk.specs.declared.edits.Verdict.TheVariants as verdict
use Rattle.path_walk.specs.Edits.{AreEdits, IsEditOf, IsVerdict}
use Rattle.path_walk.proofs.EditLemmas.{meta_leaves}
use Rattle.op_meta.specs.Metas.{access_meta}

-- what is kept of a node, with these properties, this lease and this moment
abbrev pub with_properties : Meta → List (List ℕ × List ℕ) → Lease → ℕ → Meta
with_properties m props lease moment = record m { props = props; lease = lease; moment = moment }

abbrev pub stamped_at : Meta → ℕ → Meta
stamped_at m moment = record m { moment = moment }

module _ (e : Entry) (p : Path) (x : BareInode) where
  pub properties_edit : (props : List (List ℕ × List ℕ))
      → IsEditOf (properties_set e p props (node_of x)) p x
      (edit.Meta (with_properties x.meta props (lease_after_write x.meta.lease e.moment) e.moment) true ∷ []) (success 200 (stamp_fields e.moment))
  properties_edit props =
      let put : Put = stamp e.moment (record (node_of x) { props = props; lease = lease_after_write x.meta.lease e.moment }) in
      (put, refl, meta_leaves x (with_properties x.meta props (lease_after_write x.meta.lease e.moment) e.moment) put refl refl)

  pub access_edit : (s : Setting) (pair : AclPair)
      → IsEditOf (access_put e p s (node_of x) (Ok pair)) p x (edit.Meta (stamped_at (access_meta s pair e.moment x.meta) e.moment) true ∷ []) (success 200 (stamp_fields e.moment))
  access_edit s pair =
      let put : Put = stamp e.moment (record (node_of x) {
        owner = (access_meta s pair e.moment x.meta).owner;
        group = (access_meta s pair e.moment x.meta).group;
        acl = pair;
        sticky = sticky_set s.permissions x.meta.sticky;
        lease = lease_after_write x.meta.lease e.moment;
      }) in
      (put, refl, meta_leaves x (stamped_at (access_meta s pair e.moment x.meta) e.moment) put refl refl)

-- a verdict that is these edits alone
pub edits_say : {E : Type 0} (o : Outcome) (p : Path) (x : BareInode) (edits others : List Edit) (reply told : Reply) (r : Result Verdict E) → others ≡ edits → told ≡ reply → IsEditOf o p x edits reply
    → IfOk r (AreEdits others told) → IfOk r (IsVerdict o p x)
edits_say o p x edits others reply told (Ok (verdict.Answer answer)) same same_reply is are = absurd are
edits_say o p x edits others reply told (Ok (verdict.Edits given with_reply)) same same_reply is are =
    subst (λ (l : List Edit). IsEditOf o p x l with_reply) (sym (are.0 ∙ same)) (subst (λ (r : Reply). IsEditOf o p x edits r) (sym (are.1 ∙ same_reply)) is)
edits_say o p x edits others reply told (Err error) same same_reply is are = are
