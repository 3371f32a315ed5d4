-- The edits of an append and of a flush leave what the model puts.
use Rattle.std.proofs.Common.{◌≡◌, ℕ, suc, ◌<◌, ◌==◌, Bool, true, false, List, [], ◌∷◌, ◌++◌, length, Result, Ok, Err, refl, ap, sym, subst, ◌∙◌, arith}
use Rattle.std.specs.Prelude.{IfOk}
use Rattle.std.proofs.lemmas.Bool.{false≢true}
use Rattle.std.proofs.lemmas.Bool.Decides.{nat_tests}
use Rattle.file_data.specs.FileRecord.{file_of, stage_answer, append_flush_answer, flush_answer, staged_with, flushed, end_at, and_then}
use Rattle.lease_state.specs.declared.lease.AppendLease.{AppendLease}
use Rattle.lease_state.specs.declared.lease.Lease.{Lease}
use Rattle.lease_state.specs.LeaseTable.{lease_after_write}
use Rattle.namespace_model.specs.declared.reply.Reply.{Reply}
use Rattle.namespace_model.specs.declared.request.Entry.{Entry}
use Rattle.namespace_model.specs.Append.{appended, appended_node, append_lease_fields}
use Rattle.namespace_model.specs.Contents.{data_of, content_of}
use Rattle.namespace_model.specs.Effects.{Put, stamp, keep}
use Rattle.namespace_model.specs.Flush.{flushed_to}
use Rattle.namespace_model.specs.Nodes.{is_directory, is_directory_content}
use Rattle.namespace_model.specs.Outcomes.{Outcome}
use Rattle.namespace_model.specs.Replies.{success, stamp_fields}
use Rattle.namespace_model.specs.Trees.{Path}
use Rattle.inode_tree.specs.declared.change.Edit.{Edit}
use Rattle.inode_tree.specs.declared.change.Edit.TheVariants as edit
use Rattle.inode_tree.specs.declared.meta.Meta.{Meta}
use Rattle.inode_tree.specs.Inodes.{BareContent, directory, file, BareInode, node_content, node_of}
use Rattle.path_walk.specs.declared.edits.Verdict.{Verdict}
use Rattle.path_walk.specs.declared.edits.Verdict.TheVariants as verdict
use Rattle.path_walk.specs.Edits.{AreEdits, IsEditOf, IsVerdict}
use Rattle.path_walk.proofs.EditLemmas.{stage_leaves, flush_leaves, stage_flush_leaves}
use Rattle.op_data.specs.declared.task.Appending.{Appending}
use Rattle.op_data.specs.Tasks.{appending}

some_length : (l : List ℕ) → 0 < length l → (length l == 0) ≡ false
some_length [] h = absurd (omega arith)
some_length (x ∷ l) h = not_zero (length l)
  where
    not_zero : (n : ℕ) → (suc n == 0) ≡ false
    not_zero n = grind (arith, nat_tests)

abbrev pub with_lease : Meta → Lease → Meta
with_lease meta lease = record meta { lease = lease }

abbrev pub stamped_with : Meta → Lease → ℕ → Meta
stamped_with meta lease moment = record meta { lease = lease; moment = moment }

abbrev inode : Meta → BareContent → BareInode
inode meta c = record { meta = meta; content = c }

abbrev asked : ℕ → Bool → Bool → AppendLease → Appending
asked position flush retain action = record { position = position; flush = flush; retain = retain; action = action }

-- ---- by the content

module _ (e : Entry) (p : Path) (meta : Meta) where
  flush_by : (c : BareContent) (position : ℕ) (retain : Bool) → is_directory_content (node_content c) ≡ false
      → flush_answer (data_of (node_content c)) position ≡ Ok tt
      → IsEditOf (flushed_to e p position retain (node_of (inode meta c))) p (inode meta c)
      (edit.Flush position retain ∷ edit.Meta (stamped_with meta (lease_after_write meta.lease e.moment) e.moment) true ∷ []) (success 200 (stamp_fields e.moment))
  flush_by (directory links) position retain is allowed = absurd (false≢true (sym is))
  flush_by (file bytes staged) position retain is allowed =
      let put : Put = stamp e.moment (record (node_of (inode meta (file bytes staged))) { content = content_of (flushed (data_of (node_content (file bytes staged))) position retain); lease = lease_after_write meta.lease e.moment }) in
      (put, refl, flush_leaves (inode meta (file bytes staged)) bytes staged refl (stamped_with meta (lease_after_write meta.lease e.moment) e.moment) put refl position retain allowed refl)

  stage_by : (c : BareContent) (position : ℕ) (retain : Bool) (action : AppendLease) (lease : Lease) → is_directory_content (node_content c) ≡ false
      → 0 < length e.request.body → stage_answer (data_of (node_content c)) position e.request.body ≡ Ok tt
      → IsEditOf (appended e p (appending (asked position false retain action)) (node_of (inode meta c)) lease) p (inode meta c)
      (edit.Stage position e.request.body ∷ edit.Meta (with_lease meta lease) false ∷ []) (success 202 (append_lease_fields action lease))
  stage_by (directory links) position retain action lease is some allowed = absurd (false≢true (sym is))
  stage_by (file bytes staged) position retain action lease is some allowed =
      let put : Put = keep (appended_node e (appending (asked position false retain action)) (node_of (inode meta (file bytes staged))) lease) in
      (put, refl, stage_leaves (inode meta (file bytes staged)) bytes staged refl (with_lease meta lease) put refl position e.request.body (some_length e.request.body some) allowed refl)

  stage_flush_by : (c : BareContent) (position : ℕ) (retain : Bool) (action : AppendLease) (lease : Lease) → is_directory_content (node_content c) ≡ false
      → 0 < length e.request.body → stage_answer (data_of (node_content c)) position e.request.body ≡ Ok tt
      → append_flush_answer (data_of (node_content c)) position e.request.body ≡ Ok tt
      → IsEditOf (appended e p (appending (asked position true retain action)) (node_of (inode meta c)) lease) p (inode meta c)
      (edit.Stage position e.request.body ∷ edit.Flush (end_at position e.request.body) retain ∷ edit.Meta (stamped_with meta lease e.moment) true ∷ [])
      (success 202 (stamp_fields e.moment ++ append_lease_fields action lease))
  stage_flush_by (directory links) position retain action lease is some allowed allowed_too = absurd (false≢true (sym is))
  stage_flush_by (file bytes staged) position retain action lease is some allowed allowed_too =
      let put : Put = stamp e.moment (appended_node e (appending (asked position true retain action)) (node_of (inode meta (file bytes staged))) lease) in
      let then_flushed : flush_answer (staged_with (file_of bytes staged) position e.request.body) (end_at position e.request.body) ≡ Ok tt =
      sym (ap (λ r. and_then r (flush_answer (staged_with (file_of bytes staged) position e.request.body) (end_at position e.request.body))) allowed) ∙ allowed_too in (
        put,
        refl,
        stage_flush_leaves (inode meta (file bytes staged)) bytes staged refl (stamped_with meta lease e.moment) put refl position e.request.body (end_at position e.request.body) retain
            (some_length e.request.body some) allowed then_flushed refl,
      )

-- ---- of an inode

module _ (e : Entry) (p : Path) (x : BareInode) where
  pub flush_edits : (position : ℕ) (retain : Bool) → is_directory (node_of x) ≡ false → flush_answer (data_of (node_of x).content) position ≡ Ok tt
      → IsEditOf (flushed_to e p position retain (node_of x)) p x
      (edit.Flush position retain ∷ edit.Meta (stamped_with x.meta (lease_after_write x.meta.lease e.moment) e.moment) true ∷ []) (success 200 (stamp_fields e.moment))
  flush_edits position retain is allowed = flush_by e p x.meta x.content position retain is allowed

  module _ (a : Appending) (lease : Lease) (is : is_directory (node_of x) ≡ false) (some : 0 < length e.request.body)
      (allowed : stage_answer (data_of (node_of x).content) a.position e.request.body ≡ Ok tt) where
    abbrev edit_for : Bool → List Edit → Reply → Type 0
    edit_for flush edits reply = IsEditOf (appended e p (appending (asked a.position flush a.retain a.action)) (node_of x) lease) p x edits reply

    pub stage_edits : a.flush ≡ false
        → IsEditOf (appended e p (appending a) (node_of x) lease) p x
        (edit.Stage a.position e.request.body ∷ edit.Meta (with_lease x.meta lease) false ∷ []) (success 202 (append_lease_fields a.action lease))
    stage_edits plain = subst (λ b. edit_for b (edit.Stage a.position e.request.body ∷ edit.Meta (with_lease x.meta lease) false ∷ []) (success 202 (append_lease_fields a.action lease))) (sym plain)
        (stage_by e p x.meta x.content a.position a.retain a.action lease is some allowed)

    pub stage_flush_edits : a.flush ≡ true → append_flush_answer (data_of (node_of x).content) a.position e.request.body ≡ Ok tt
        → IsEditOf (appended e p (appending a) (node_of x) lease) p x
        (edit.Stage a.position e.request.body ∷ edit.Flush (end_at a.position e.request.body) a.retain ∷ edit.Meta (stamped_with x.meta lease e.moment) true ∷ [])
        (success 202 (stamp_fields e.moment ++ append_lease_fields a.action lease))
    stage_flush_edits flushes allowed_too =
        subst (λ b. edit_for b (edit.Stage a.position e.request.body ∷ edit.Flush (end_at a.position e.request.body) a.retain ∷ edit.Meta (stamped_with x.meta lease e.moment) true ∷ [])
        (success 202 (stamp_fields e.moment ++ append_lease_fields a.action lease))) (sym flushes)
        (stage_flush_by e p x.meta x.content a.position a.retain a.action lease is some allowed allowed_too)

-- ---- verdicts

-- the same edits, and the same reply
pub same_edits : (o : Outcome) (p : Path) (x : BareInode) (edits others : List Edit) (reply told : Reply) → others ≡ edits → told ≡ reply → IsEditOf o p x edits reply → IsEditOf o p x others told
same_edits o p x edits others reply told same same_reply is =
    subst (λ (l : List Edit). IsEditOf o p x l told) (sym same) (subst (λ (r : Reply). IsEditOf o p x edits r) (sym same_reply) is)

-- a verdict that is these edits alone
pub edits_say : {E : Type 0} (o : Outcome) (p : Path) (x : BareInode) (edits others : List Edit) (reply told : Reply) (r : Result Verdict E) → others ≡ edits → told ≡ reply → IsEditOf o p x edits reply
    → IfOk r (AreEdits others told) → IfOk r (IsVerdict o p x)
edits_say o p x edits others reply told (Ok (verdict.Answer answer)) same same_reply is are = absurd are
edits_say o p x edits others reply told (Ok (verdict.Edits given with_reply)) same same_reply is are =
    same_edits o p x edits given.items reply with_reply (are.0 ∙ same) (are.1 ∙ same_reply) is
edits_say o p x edits others reply told (Err error) same same_reply is are = are
