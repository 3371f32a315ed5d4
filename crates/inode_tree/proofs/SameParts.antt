-- Two lists of parts with one index for one tree are one list.
use Rattle.std.proofs.Common.{◌≡◌, ◌≢◌, ◌⊎◌, inl, inr, ℕ, suc, ◌%◌, ◌==◌, pred, Bool, true, false, List, [], ◌∷◌, length, slice_get, Option, Some, None, option_and_then, refl, ap, ap₂, sym, ◌∙◌, arith}
use Rattle.std.proofs.lemmas.Bool.{false≢true}
use Rattle.std.specs.Cmp.{nat_cmp_total, unsigned_Decides}
use Rattle.std.specs.Cmp.Lexicographic.{nat_list_cmp_total}
use Rattle.std.specs.FinMap as fin
use Rattle.std.specs.FinMap.{nat_cmp-IsAntisymmetric}
use Rattle.namespace_model.specs.Nodes as model
use Rattle.namespace_model.specs.Nodes.{Node, is_directory_content, kind_of}
use Rattle.namespace_model.specs.Trees.{Path, Tree}
use Rattle.inode_tree.specs.Inodes.{BareContent, directory, file, BareInode, links_in, node_content, node_of}
use Rattle.inode_tree.specs.Changes.{Part}
use Rattle.inode_tree.specs.Parts.{Parts, inode_at, child_of}
use Rattle.inode_tree.specs.Stands.{AreStriped}
use Rattle.inode_tree.specs.Index.{IsIndex}
use Rattle.inode_tree.proofs.MapLemmas.{name_cmp-IsAntisymmetric}
use Rattle.inode_tree.proofs.IndexLemmas.{same_some, some_there}

eq_or : (a b : ℕ) → (a ≡ b) ⊎ (a ≢ b)
eq_or a b = by_test (a == b) refl
  where
    by_test : (t : Bool) → (a == b) ≡ t → (a ≡ b) ⊎ (a ≢ b)
    by_test true e = inl ((unsigned_Decides a b).0 e)
    by_test false e = inr (λ h. false≢true (sym e ∙ (unsigned_Decides a b).1 h))

same_content : (c d : BareContent) → node_content c ≡ node_content d → ((n : List ℕ) → fin.get (links_in c) n ≡ fin.get (links_in d) n) → c ≡ d
same_content (directory l) (directory m) e h = ap directory (fin.same_map nat_list_cmp_total name_cmp-IsAntisymmetric l m h)
same_content (file b s) (file c t) e h = ap₂ file (ap model.bytes_in e) (ap model.staged_in e)
same_content (directory l) (file c t) e h = absurd (false≢true (sym (ap is_directory_content e)))
same_content (file b s) (directory m) e h = absurd (false≢true (ap is_directory_content e))

same_inodes : (x y : BareInode) → node_of x ≡ node_of y → x.meta.kind ≡ y.meta.kind → ((n : List ℕ) → child_of x n ≡ child_of y n) → x ≡ y
same_inodes x y e k h =
    let c : x.content ≡ y.content = same_content x.content y.content (ap (λ (n : Node). n.content) e) h in
    λ i. record {
      meta = record {
        kind = k i;
        owner = ap (λ (n : Node). n.owner) e i;
        group = ap (λ (n : Node). n.group) e i;
        acl = ap (λ (n : Node). n.acl) e i;
        sticky = ap (λ (n : Node). n.sticky) e i;
        moment = ap (λ (n : Node). n.moment) e i;
        number = ap (λ (n : Node). n.number) e i;
        props = ap (λ (n : Node). n.props) e i;
        lease = ap (λ (n : Node). n.lease) e i;
      };
      content = c i;
    }

pub same_lists : (xs ys : List Part) → length xs ≡ length ys → ((i : ℕ) (x y : Part) → slice_get xs i ≡ Some x → slice_get ys i ≡ Some y → x ≡ y) → xs ≡ ys
same_lists [] [] e h = refl
same_lists [] (y ∷ ys) e h = absurd (omega arith)
same_lists (x ∷ xs) [] e h = absurd (omega arith)
same_lists (x ∷ xs) (y ∷ ys) e h = ap₂ (λ p ps. p ∷ ps) (h 0 x y refl refl) (same_lists xs ys (ap pred e) (λ i u v a b. h (suc i) u v a b))

module _ (xs ys : Parts) (t : Tree) (ids : Path → Option ℕ) (first : IsIndex xs t ids) (second : IsIndex ys t ids) where
  same_placed : (p : Path) (id : ℕ) → ids p ≡ Some id → inode_at xs id ≡ inode_at ys id
  same_placed p id e =
      let here = first.places p id e in
      let other = second.places p id e in
      let node : node_of here.inode ≡ node_of other.inode = same_some (sym here.shows ∙ other.shows) in
      here.found
      ∙ ap Some (same_inodes here.inode other.inode node (here.kind ∙ ap kind_of node ∙ sym other.kind) (λ n. here.links n ∙ sym (other.links n)))
      ∙ sym other.found

  same_inode_at : (id : ℕ) → inode_at xs id ≡ inode_at ys id
  same_inode_at id = by_first (inode_at xs id) refl
    where
      by_second : (i : Option BareInode) → inode_at ys id ≡ i → inode_at xs id ≡ None → inode_at xs id ≡ inode_at ys id
      by_second None e f = f ∙ sym e
      by_second (Some y) e f = let reached = second.kept id (some_there e) in same_placed reached.0 id reached.1

      by_first : (i : Option BareInode) → inode_at xs id ≡ i → inode_at xs id ≡ inode_at ys id
      by_first None e = by_second (inode_at ys id) refl e
      by_first (Some x) e = let reached = first.kept id (some_there e) in same_placed reached.0 id reached.1

  pub same_parts : AreStriped xs → AreStriped ys → xs ≡ ys
  same_parts striped others = same_lists xs ys (striped.long ∙ sym others.long) same
    where
      inside : (parts : Parts) (stripe q : ℕ) (part : Part) → slice_get parts stripe ≡ Some part → q % 64 ≡ stripe → inode_at parts q ≡ fin.get part q
      inside parts stripe q part e h = ap (λ o. option_and_then (λ (p : Part). fin.get p q) o) (ap (slice_get parts) h ∙ e)

      outside : (parts : Parts) → AreStriped parts → (stripe q : ℕ) (part : Part) → slice_get parts stripe ≡ Some part → q % 64 ≢ stripe → fin.get part q ≡ None
      outside parts s stripe q part e h = by_value (fin.get part q) refl
        where
          by_value : (o : Option BareInode) → fin.get part q ≡ o → o ≡ None
          by_value None k = refl
          by_value (Some x) k = absurd (h (s.own stripe q part e (some_there k)))

      same : (i : ℕ) (x y : Part) → slice_get xs i ≡ Some x → slice_get ys i ≡ Some y → x ≡ y
      same i x y e f = fin.same_map nat_cmp_total nat_cmp-IsAntisymmetric x y at_each
        where
          at_each : (q : ℕ) → fin.get x q ≡ fin.get y q
          at_each q = elim (eq_or (q % 64) i) [
            | inl h ↦ sym (inside xs i q x e h) ∙ same_inode_at q ∙ inside ys i q y f h
            | inr h ↦ outside xs striped i q x e h ∙ sym (outside ys others i q y f h)
          ]
