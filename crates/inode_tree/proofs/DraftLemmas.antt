-- What drafts show, one change after another.
use Rattle.std.proofs.Common.{◌≡◌, ℕ, Bool, true, false, cond, is_ok, List, [], ◌∷◌, ◌++◌, Option, None, Some, option_map, Result, Ok, Err, OnOk, refl, sym, ap, ◌∙◌}
use Rattle.std.specs.declared.cmp.Ordering.{Ordering}
use Rattle.std.specs.declared.cmp.Ordering.TheVariants.{Less, Equal, Greater}
use Rattle.std.specs.Ordering.{nat_cmp, is_eq, eq_by_cmp}
use Rattle.std.specs.Cmp.{nat_cmp_total, tied_itself}
use Rattle.std.proofs.lemmas.List.Sums.{fold-append}
use Rattle.std.specs.FinMap as fin
use Rattle.std.specs.FinMap.{nat_cmp-IsAntisymmetric, find, put}
use Rattle.std.specs.FinMap.Entries.{where_key, find-put}
use Rattle.inode_tree.specs.declared.inode.Inode.{Inode}
use Rattle.inode_tree.specs.declared.change.Change.{Change}
use Rattle.inode_tree.specs.Ascending.{differs}
use Rattle.inode_tree.specs.Inodes.{BareInode}
use Rattle.inode_tree.specs.Changes.{Part, id_of, is_own, node_after, with_node, changed, applied}
use Rattle.inode_tree.specs.Stripes.{outcome_by, put_in}
use Rattle.inode_tree.specs.Drafts.{bare_draft, shown, SameButAt, AreDrafts, IsDrafted}
use Rattle.inode_tree.proofs.MapLemmas.{find-without}

module _ {X : Type 0} where
  -- a key is found once it was put, and each other one as before
  pub find_put_same : (k : ℕ) (v : X) (es : List (ℕ × X)) → find nat_cmp k (put nat_cmp k v es) ≡ Some v
  find_put_same k v es =
      find-put nat_cmp nat_cmp_total k k v es ∙ ap (λ r. cond (is_eq r) (Some v) (find nat_cmp k es)) (tied_itself nat_cmp_total k)

  pub find_put_other : (k q : ℕ) (v : X) (es : List (ℕ × X)) → eq_by_cmp nat_cmp q k ≡ false → find nat_cmp q (put nat_cmp k v es) ≡ find nat_cmp q es
  find_put_other k q v es h = find-put nat_cmp nat_cmp_total q k v es ∙ ap (λ b. cond b (Some v) (find nat_cmp q es)) h

  pub find_without_other : (k q : ℕ) (es new : List (ℕ × X)) → new ≡ where_key nat_cmp (differs nat_cmp k) es → eq_by_cmp nat_cmp q k ≡ false
      → find nat_cmp q new ≡ find nat_cmp q es
  find_without_other k q es new e h =
      ap (find nat_cmp q) e ∙ find-without nat_cmp nat_cmp_total k q es ∙ ap (λ b. cond b None (find nat_cmp q es)) h

abbrev Drafts : Type 0
Drafts = List (ℕ × Option (Inode × Bool))

abbrev Nodes : Type 0
Nodes = List (ℕ × BareInode)

-- a draft was put in the place of the one before
pub drafted_is : (nodes : Nodes) (change : Change) (old mid new : Drafts) (draft : Option (Inode × Bool))
    → ((number : ℕ) → outcome_by number (bare_draft draft) ≡ node_after number change (shown number nodes old (id_of change)))
    → SameButAt (id_of change) old mid → new ≡ put nat_cmp (id_of change) draft mid → IsDrafted nodes change old new
drafted_is nodes change old mid new draft after same e =
    let id = id_of change in (
      λ number. ap (λ o. put_in number (option_map bare_draft o) (find nat_cmp id nodes)) (ap (find nat_cmp id) e ∙ find_put_same id draft mid) ∙ after number,
      λ q h. ap (find nat_cmp q) e ∙ find_put_other id q draft mid h ∙ same q h,
    )

pub drafted_where_ok : {E : Type 0} (r : Result Unit E) (nodes : Nodes) (change : Change) (old mid new : Drafts) (id : ℕ) (draft : Option (Inode × Bool))
    → id ≡ id_of change
    → ((number : ℕ) → outcome_by number (bare_draft draft) ≡ node_after number change (shown number nodes old (id_of change)))
    → SameButAt (id_of change) old mid → new ≡ cond (is_ok r) (put nat_cmp id draft mid) mid → OnOk r (IsDrafted nodes change old new)
drafted_where_ok (Ok _) nodes change old mid new id draft is after same e =
    drafted_is nodes change old mid new draft after same (e ∙ ap (λ k. put nat_cmp k draft mid) is)
drafted_where_ok (Err _) nodes change old mid new id draft is after same e = tt

-- ---- the part

pub equal_where : (r : Ordering) → is_eq r ≡ true → r ≡ Equal
equal_where Less h = (cc)
equal_where Equal h = refl
equal_where Greater h = (cc)

pub get-with_node : (part : Part) (id q : ℕ) (x : Option BareInode) → fin.get (with_node part id x) q ≡ cond (eq_by_cmp nat_cmp q id) x (fin.get part q)
get-with_node part id q None = fin.get-remove nat_cmp_total part id q
get-with_node part id q (Some x) = fin.get-insert nat_cmp_total part id x q

applied_more : (stripe number : ℕ) (cs : List Change) (c : Change) (part : Part)
    → applied stripe number (cs ++ c ∷ []) part ≡ cond (is_own stripe c) (changed number (applied stripe number cs part) c) (applied stripe number cs part)
applied_more stripe number cs c part = fold-append (λ before x. cond (is_own stripe x) (changed number before x) before) part cs (c ∷ [])

-- no change so far
pub no_drafts : (stripe : ℕ) (nodes : Nodes) → AreDrafts stripe nodes [] []
no_drafts stripe nodes number q = sym (fin.get-from_entries nat_cmp_total nodes q)

-- one of the stripe's own
pub own_more : (stripe : ℕ) (nodes : Nodes) (cs : List Change) (c : Change) (old new : Drafts) → AreDrafts stripe nodes cs old → is_own stripe c ≡ true
    → IsDrafted nodes c old new → AreDrafts stripe nodes (cs ++ c ∷ []) new
own_more stripe nodes cs c old new so_far own drafted number q =
    let id = id_of c in
    let before : Part = applied stripe number cs (fin.from_entries nodes) in
    let after : fin.get (applied stripe number (cs ++ c ∷ []) (fin.from_entries nodes)) q ≡ cond (eq_by_cmp nat_cmp q id) (node_after number c (fin.get before id)) (fin.get before q) =
    ap (λ p. fin.get p q) (applied_more stripe number cs c (fin.from_entries nodes) ∙ ap (λ b. cond b (changed number before c) before) own)
    ∙ get-with_node before id q (node_after number c (fin.get before id)) in
    elim (eq_by_cmp nat_cmp q id) as (λ b. eq_by_cmp nat_cmp q id ≡ b → shown number nodes new q ≡ cond b (node_after number c (fin.get before id)) (fin.get before q)) [
      | true ↦ λ h. let here : q ≡ id = nat_cmp-IsAntisymmetric q id (equal_where (nat_cmp q id) h) in
          ap (shown number nodes new) here ∙ drafted.0 number ∙ ap (node_after number c) (so_far number id)
      | false ↦ λ h. ap (λ o. put_in number (option_map bare_draft o) (find nat_cmp q nodes)) (drafted.1 q h) ∙ so_far number q
    ] refl ∙ sym after

-- one of another stripe's
pub other_more : (stripe : ℕ) (nodes : Nodes) (cs : List Change) (c : Change) (old : Drafts) → AreDrafts stripe nodes cs old → is_own stripe c ≡ false
    → AreDrafts stripe nodes (cs ++ c ∷ []) old
other_more stripe nodes cs c old so_far other number q =
    let before : Part = applied stripe number cs (fin.from_entries nodes) in
    so_far number q
    ∙ sym (ap (λ p. fin.get p q) (applied_more stripe number cs c (fin.from_entries nodes) ∙ ap (λ b. cond b (changed number before c) before) other))
