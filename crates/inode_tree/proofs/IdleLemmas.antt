-- What a change leaves as it was.
use Rattle.std.proofs.Common.{◌≡◌, ◌≢◌, inl, inr, ℕ, ◌%◌, ◌==◌, Bool, true, false, cond, List, [], ◌∷◌, length, Option, None, Some, Result, Ok, Err, refl, sym, ap, ◌∙◌, arith}
use Rattle.std.specs.Prelude.{IsErr}
use Rattle.std.proofs.lemmas.Bool.Decides.{nat_tests}
use Rattle.std.specs.Ordering.{nat_cmp, eq_by_cmp}
use Rattle.std.specs.Cmp.{nat_cmp_total}
use Rattle.std.specs.Cmp.Lexicographic.{nat_list_cmp_total}
use Rattle.std.specs.FinMap as fin
use Rattle.std.specs.FinMap.{nat_cmp-IsAntisymmetric}
use Rattle.file_data.specs.declared.fault.DataFault.{DataFault}
use Rattle.file_data.specs.FileRecord.{file_of, FileRecord, stage_answer, staged_with, flush_answer, flushed}
use Rattle.inode_tree.specs.declared.change.Edit.TheVariants as edit
use Rattle.inode_tree.specs.declared.change.Change.{Change}
use Rattle.inode_tree.specs.declared.change.Change.TheVariants as change
use Rattle.inode_tree.specs.ChildLists.{name_cmp}
use Rattle.inode_tree.specs.Inodes.{Links, BareContent, directory, file, BareInode}
use Rattle.inode_tree.specs.Changes.{Part, where_allowed, asked_by, id_of, is_own, node_after, changed, linked, unlinked, staged_in, flushed_in}
use Rattle.inode_tree.specs.Idle.{Lacks, IsFileContent, IsIdleStage, IsIdleFlush, IsIdle, IsIdleAt, IdleChangesNothing, OthersStay, StripesAreApart}
use Rattle.inode_tree.proofs.MapLemmas.{name_cmp-IsAntisymmetric}
use Rattle.inode_tree.proofs.DraftLemmas.{get-with_node, equal_where}

-- a part in which an id gets what it has
same_node : (part : Part) (id : ℕ) (x : Option BareInode) → x ≡ fin.get part id → (q : ℕ) → cond (eq_by_cmp nat_cmp q id) x (fin.get part q) ≡ fin.get part q
same_node part id x e q =
    elim (eq_by_cmp nat_cmp q id) as (λ b. eq_by_cmp nat_cmp q id ≡ b → cond b x (fin.get part q) ≡ fin.get part q) [
      | true ↦ λ h. e ∙ sym (ap (fin.get part) (nat_cmp-IsAntisymmetric q id (equal_where (nat_cmp q id) h)))
      | false ↦ λ h. refl
    ] refl

unchanged : (number : ℕ) (part : Part) (c : Change) → node_after number c (fin.get part (id_of c)) ≡ fin.get part (id_of c) → changed number part c ≡ part
unchanged number part c e =
    fin.same_map nat_cmp_total nat_cmp-IsAntisymmetric _ _ (λ q. get-with_node part (id_of c) q (node_after number c (fin.get part (id_of c))) ∙ same_node part (id_of c) _ e q)

without_none : (links : Links) (name : List ℕ) → fin.get links name ≡ None → fin.remove links name ≡ links
without_none links name none =
    fin.same_map nat_list_cmp_total name_cmp-IsAntisymmetric _ _ (λ q. fin.get-remove nat_list_cmp_total links name q
    ∙ elim (eq_by_cmp name_cmp q name) as (λ b. eq_by_cmp name_cmp q name ≡ b → cond b None (fin.get links q) ≡ fin.get links q) [
      | true ↦ λ h. sym (ap (fin.get links) (name_cmp-IsAntisymmetric q name (equal_where (name_cmp q name) h)) ∙ none)
      | false ↦ λ h. refl
    ] refl)

idle_unlink : (name : List ℕ) (content : BareContent) → Lacks name content → unlinked name content ≡ content
idle_unlink name (directory links) h = ap directory (without_none links name h)
idle_unlink name (file bytes staged) h = refl

where_refused : (r : Result Unit DataFault) (after : FileRecord) (before : BareContent) → IsErr r → where_allowed r after before ≡ before
where_refused (Ok _) after before h = (cc)
where_refused (Err fault) after before h = refl

idle_stage : (position : ℕ) (piece : List ℕ) (content : BareContent) → IsIdleStage position piece content → staged_in position piece content ≡ content
idle_stage position piece (directory links) h = refl
idle_stage position piece (file bytes staged) (inl none) = rw none refl
idle_stage position piece (file bytes staged) (inr refused) =
    elim (length piece == 0) as (λ b. cond b (file bytes staged) (where_allowed (stage_answer (file_of bytes staged) position piece) (staged_with (file_of bytes staged) position piece) (file bytes staged)) ≡ file bytes staged) [
      | true ↦ refl
      | false ↦ where_refused (stage_answer (file_of bytes staged) position piece) (staged_with (file_of bytes staged) position piece) (file bytes staged) refused
    ]

idle_flush : (position : ℕ) (retain : Bool) (content : BareContent) → IsIdleFlush position content → flushed_in position retain content ≡ content
idle_flush position retain (directory links) h = refl
idle_flush position retain (file bytes staged) refused =
    where_refused (flush_answer (file_of bytes staged) position) (flushed (file_of bytes staged) position retain) (file bytes staged) refused

idle_link : (name : List ℕ) (child : ℕ) (content : BareContent) → IsFileContent content → linked name child content ≡ content
idle_link name child (directory links) h = absurd h
idle_link name child (file bytes staged) h = refl

with_same : (x : BareInode) (content : BareContent) → content ≡ x.content → Some (record x { content = content }) ≡ Some x
with_same x content e = ap (λ (c : BareContent). Some (record x { content = c })) e

idle_at : (number : ℕ) (c : Change) (x : BareInode) → IsIdleAt c x → node_after number c (Some x) ≡ Some x
idle_at number (change.Put id inode) x h = absurd h
idle_at number (change.Drop id) x h = absurd h
idle_at number (change.Link id name child) x h = with_same x _ (idle_link name child.0 x.content h)
idle_at number (change.Unlink id name) x h = with_same x _ (idle_unlink name x.content h)
idle_at number (change.Edit id (edit.Meta meta asks)) x h = ap (λ b. Some (cond b (asked_by number asks (record x { meta = meta })) x)) h
idle_at number (change.Edit id (edit.Stage position piece)) x h = with_same x _ (idle_stage position piece x.content h)
idle_at number (change.Edit id (edit.Flush position retain)) x h = with_same x _ (idle_flush position retain x.content h)

idle_node : (number : ℕ) (c : Change) (x : Option BareInode) → IsIdle c x → node_after number c x ≡ x
idle_node number (change.Put id inode) None h = absurd h
idle_node number (change.Drop id) None h = refl
idle_node number (change.Link id name child) None h = refl
idle_node number (change.Unlink id name) None h = refl
idle_node number (change.Edit id edit) None h = refl
idle_node number c (Some x) h = idle_at number c x h

pub idle_changes_nothing : IdleChangesNothing
idle_changes_nothing number part c h = unchanged number part c (idle_node number c (fin.get part (id_of c)) h)

pub others_stay : OthersStay
others_stay number id part c h =
    get-with_node part (id_of c) id (node_after number c (fin.get part (id_of c)))
    ∙ elim (eq_by_cmp nat_cmp id (id_of c)) as (λ b. eq_by_cmp nat_cmp id (id_of c) ≡ b → cond b (node_after number c (fin.get part (id_of c))) (fin.get part id) ≡ fin.get part id) [
      | true ↦ λ e. absurd (h (nat_cmp-IsAntisymmetric id (id_of c) (equal_where (nat_cmp id (id_of c)) e)))
      | false ↦ λ e. refl
    ] refl

own_is : (a b : ℕ) → (a == b) ≡ true → a ≡ b
own_is a b e = grind (arith, nat_tests)

not_own : (stripe id : ℕ) (c : Change) → is_own stripe c ≡ true → id % 64 ≢ stripe → id ≢ id_of c
not_own stripe id c own other same = other (ap (λ k. k % 64) same ∙ own_is (id_of c % 64) stripe own)

pub stripes_are_apart : StripesAreApart
stripes_are_apart stripe number id [] part h = refl
stripes_are_apart stripe number id (c ∷ changes) part h =
    stripes_are_apart stripe number id changes (cond (is_own stripe c) (changed number part c) part) h
    ∙ elim (is_own stripe c) as (λ b. is_own stripe c ≡ b → fin.get (cond b (changed number part c) part) id ≡ fin.get part id) [
      | true ↦ λ own. others_stay number id part c (not_own stripe id c own h)
      | false ↦ λ other. refl
    ] refl
