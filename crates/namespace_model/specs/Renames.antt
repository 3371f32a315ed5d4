-- What a rename makes of the tree.
use Rattle.std.specs.Prelude.{◌≡◌, ℕ, false, List, ◌∷◌, ◌++◌, Option, Some, None, unwrap_or}
use Rattle.path_text.specs.Paths.{is_prefix}
use Rattle.namespace_model.specs.declared.request.Entry.{Entry}
use Rattle.namespace_model.specs.Nodes.{Node}
use Rattle.namespace_model.specs.Trees.{Path, Tree, at}

-- the source's own node afterwards: stamped, and with the properties that were given
abbrev pub renamed_node : Entry → ℕ → Option (List (List ℕ × List ℕ)) → Node → Node
renamed_node e number props x = record x { props = unwrap_or props x.props; moment = e.moment; number = number }

-- The source and all below it stand at the destination, the source's own node alone changed; nothing stands at the source; what stood at the
-- destination is gone; and every other path is as it was.
pub record IsRenamed (e : Entry) (number : ℕ) (a b : Path) (props : Option (List (List ℕ × List ℕ))) (old new : Tree) : Type 0 where
  pub node : Node
  pub there : at old a ≡ Some node
  pub source : at new b ≡ Some (renamed_node e number props node)
  pub below : (n : List ℕ) (r : Path) → at new (b ++ n ∷ r) ≡ at old (a ++ n ∷ r)
  pub gone : (r : Path) → at new (a ++ r) ≡ None
  pub others : (q : Path) → is_prefix a q ≡ false → is_prefix b q ≡ false → at new q ≡ at old q
