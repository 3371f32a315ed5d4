-- The children above a name, where none is given.
use Rattle.std.proofs.Common.{◌≡◌, ℕ, List, [], ◌∷◌, None, refl, ap}
use Rattle.std.specs.List.{filter}
use Rattle.inode_tree.specs.ChildLists.{is_above}

pub all_above : (es : List (List ℕ × ℕ)) → filter (λ (e : List ℕ × ℕ). is_above None e.0) es ≡ es
all_above [] = refl
all_above (e ∷ es) = ap (λ r. e ∷ r) (all_above es)
