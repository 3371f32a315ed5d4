-- The next ids of a pass, one after the other.
use Rattle.std.proofs.Common.{◌≡◌, ℕ, zero, suc, ◌+◌, [], ◌∷◌, ◌++◌, ap, ◌∙◌, arith}
use Rattle.inode_tree.specs.declared.id.NodeId.{NodeId}
use Rattle.inode_tree.specs.Drawing.{next_ids}
use Rattle.inode_tree.specs.Rows.{fresh_id}

-- one id more
pub next_push : (pass used many : ℕ) → next_ids pass used (many + 1) ≡ next_ids pass used many ++ (record { 0 = fresh_id pass (used + many) }) ∷ []
next_push pass used zero = ap (λ (u : ℕ). (let i : NodeId = record { 0 = fresh_id pass u } in i) ∷ []) (let e : used ≡ used + 0 = omega arith in e)
next_push pass used (suc many) =
    let next : suc many + 1 ≡ suc (many + 1) = omega arith in
    let place : suc used + many ≡ used + suc many = omega arith in
    ap (next_ids pass used) next
    ∙ ap (λ l. (let i : NodeId = record { 0 = fresh_id pass used } in i) ∷ l) (next_push pass (suc used) many)
    ∙ ap (λ (u : ℕ). (let i : NodeId = record { 0 = fresh_id pass used } in i) ∷ (next_ids pass (suc used) many ++ (let j : NodeId = record { 0 = fresh_id pass u } in j) ∷ [])) place
