-- One entry more at the end of a journal.
use Rattle.std.proofs.Common.{◌≡◌, ℕ, suc, ◌+◌, List, [], ◌∷◌, ◌++◌, length, refl, ap, arith}
use Rattle.namespace_model.specs.declared.request.Entry.{Entry}
use Rattle.namespace_model.specs.Trees.{Tree, opening_tree}
use Rattle.namespace_model.specs.Step.{step, tree_from, replies_from, tree_after, replies_of}

tree_from_push : (t : Tree) (n : ℕ) (es : List Entry) (e : Entry) → tree_from t n (es ++ e ∷ []) ≡ (step (tree_from t n es) e (length es + n)).tree
unfolding tree_from
tree_from_push t n [] e = let place : 0 + n ≡ n = omega arith in rw place refl
tree_from_push t n (x ∷ es) e =
    let place : suc (length es) + n ≡ length es + suc n = omega arith in
    rw place (tree_from_push (step t x n).tree (suc n) es e)

replies_from_push : (t : Tree) (n : ℕ) (es : List Entry) (e : Entry)
    → replies_from t n (es ++ e ∷ []) ≡ replies_from t n es ++ (step (tree_from t n es) e (length es + n)).reply ∷ []
unfolding tree_from replies_from
replies_from_push t n [] e = refl
replies_from_push t n (x ∷ es) e = ap (λ rs. (step t x n).reply ∷ rs) (replies_from_push (step t x n).tree (suc n) es e)

-- the tree after one entry more is that of its step, under the number of its place
pub tree_push : (es : List Entry) (e : Entry) → tree_after (es ++ e ∷ []) ≡ (step (tree_after es) e (length es + 1)).tree
unfolding tree_after
tree_push es e = tree_from_push opening_tree 1 es e

-- the earlier replies stay, and the last one is that of its step
pub replies_push : (es : List Entry) (e : Entry) → replies_of (es ++ e ∷ []) ≡ replies_of es ++ (step (tree_after es) e (length es + 1)).reply ∷ []
unfolding tree_after replies_of
replies_push es e = replies_from_push opening_tree 1 es e

length-replies_from : (t : Tree) (n : ℕ) (es : List Entry) → length (replies_from t n es) ≡ length es
unfolding replies_from
length-replies_from t n [] = refl
length-replies_from t n (x ∷ es) = ap suc (length-replies_from (step t x n).tree (suc n) es)

-- each entry has one reply
pub length-replies_of : (es : List Entry) → length (replies_of es) ≡ length es
unfolding replies_of
length-replies_of es = length-replies_from opening_tree 1 es

-- no entry leaves the opening tree
pub tree_after-nil : tree_after [] ≡ opening_tree
unfolding tree_after tree_from
tree_after-nil = refl
