-- What is ready in a stripe, and what the stripe keeps once it was put in.
use Rattle.std.proofs.Common.{◌≡◌, ℕ, Bool, true, false, cond, List, [], ◌∷◌, ◌++◌, map, Option, None, Some, option_map, refl, sym, ap, ◌∙◌}
use Rattle.std.specs.Ordering.{nat_cmp, eq_by_cmp}
use Rattle.std.specs.Cmp.{nat_cmp_total}
use Rattle.std.specs.FinMap as fin
use Rattle.std.specs.FinMap.{nat_cmp-IsAntisymmetric, find}
use Rattle.inode_tree.specs.declared.inode.Inode.{Inode}
use Rattle.inode_tree.specs.declared.change.Change.{Change}
use Rattle.inode_tree.specs.Inodes.{BareInode}
use Rattle.inode_tree.specs.Changes.{applied}
use Rattle.inode_tree.specs.Stripes.{Prepared, StripeRecord, outcome_by, put_in, IsReady}
use Rattle.inode_tree.specs.Drafts.{bare_draft, sealed_entry, AreDrafts, IsPutIn}

abbrev Nodes : Type 0
Nodes = List (ℕ × BareInode)

abbrev AllPrepared : Type 0
AllPrepared = List (ℕ × Prepared)

-- the last outcome is put in first
pub put_more : (number q id : ℕ) (outcome : Prepared) (rest : AllPrepared) (old new : Nodes) → IsPutIn number id outcome old new
    → put_in number (find nat_cmp q rest) (find nat_cmp q new) ≡ put_in number (find nat_cmp q (rest ++ (id, outcome) ∷ [])) (find nat_cmp q old)
put_more number q id outcome [] old new is =
    is q ∙ elim (eq_by_cmp nat_cmp q id) as (λ b. cond b (outcome_by number outcome) (find nat_cmp q old) ≡ put_in number (cond b (Some outcome) None) (find nat_cmp q old)) [
      | true ↦ refl
      | false ↦ refl
    ]
put_more number q id outcome (e ∷ rest) old new is =
    elim (eq_by_cmp nat_cmp q e.0) as (λ b. put_in number (cond b (Some e.1) (find nat_cmp q rest)) (find nat_cmp q new)
    ≡ put_in number (cond b (Some e.1) (find nat_cmp q (rest ++ (id, outcome) ∷ []))) (find nat_cmp q old)) [
      | true ↦ refl
      | false ↦ put_more number q id outcome rest old new is
    ]

-- what is found in lists is in their maps
as_maps : (number q : ℕ) (ready : AllPrepared) (nodes : Nodes)
    → put_in number (find nat_cmp q ready) (find nat_cmp q nodes) ≡ put_in number (fin.get (fin.from_entries {R = nat_cmp} ready) q) (fin.get (fin.from_entries {R = nat_cmp} nodes) q)
as_maps number q ready nodes =
    ap (λ o. put_in number o (find nat_cmp q nodes)) (sym (fin.get-from_entries nat_cmp_total ready q))
    ∙ ap (put_in number (fin.get (fin.from_entries {R = nat_cmp} ready) q)) (sym (fin.get-from_entries nat_cmp_total nodes q))

-- with all that is ready, the part is the one after the changes
pub all_put_in : (s t : StripeRecord) (number : ℕ) (changes : List Change) (ready : AllPrepared) (nodes new : Nodes)
    → s ≡ t → s.part ≡ fin.from_entries nodes → s.ready ≡ fin.from_entries ready → IsReady t changes
    → ((q : ℕ) → find nat_cmp q new ≡ put_in number (find nat_cmp q ready) (find nat_cmp q nodes))
    → fin.from_entries new ≡ applied t.stripe number changes t.part
all_put_in s t number changes ready nodes new is part outcomes made found =
    fin.same_map nat_cmp_total nat_cmp-IsAntisymmetric _ _ (λ q. fin.get-from_entries nat_cmp_total new q ∙ found q ∙ as_maps number q ready nodes
    ∙ ap (λ m. put_in number (fin.get m q) (fin.get (fin.from_entries {R = nat_cmp} nodes) q)) (sym outcomes)
    ∙ ap (λ m. put_in number (fin.get s.ready q) (fin.get m q)) (sym part)
    ∙ ap (λ (r : StripeRecord). put_in number (fin.get r.ready q) (fin.get r.part q)) is ∙ made number q)

find_sealed : (q : ℕ) (drafts : List (ℕ × Option (Inode × Bool))) → find nat_cmp q (map sealed_entry drafts) ≡ option_map bare_draft (find nat_cmp q drafts)
find_sealed q [] = refl
find_sealed q (e ∷ drafts) =
    elim (eq_by_cmp nat_cmp q e.0) as (λ b. cond b (Some (bare_draft e.1)) (find nat_cmp q (map sealed_entry drafts)) ≡ option_map bare_draft (cond b (Some e.1) (find nat_cmp q drafts))) [
      | true ↦ refl
      | false ↦ find_sealed q drafts
    ]

-- sealed drafts are ready
pub sealed_is_ready : (stripe : ℕ) (changes : List Change) (drafts : List (ℕ × Option (Inode × Bool))) (ready : AllPrepared) (nodes : Nodes)
    → ready ≡ map sealed_entry drafts → AreDrafts stripe nodes changes drafts
    → IsReady (record { stripe = stripe; part = fin.from_entries nodes; ready = fin.from_entries ready }) changes
sealed_is_ready stripe changes drafts ready nodes is made number q =
    sym (as_maps number q ready nodes)
    ∙ ap (λ o. put_in number o (find nat_cmp q nodes)) (ap (find nat_cmp q) is ∙ find_sealed q drafts) ∙ made number q
