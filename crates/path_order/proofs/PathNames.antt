-- A path, name by name.
use Rattle.std.proofs.Common.{◌≡◌, ℕ, suc, ◌+◌, ◌<◌, Bool, true, false, List, [], ◌∷◌, ◌++◌, length, take, refl, sym, ap, ◌∙◌, append_assoc, arith}
use Rattle.std.proofs.lemmas.Bool.{false≢true}
use Rattle.std.proofs.Math.Seq.{take-suc}
use Rattle.std.specs.Prelude.{slice_index_or}
use Rattle.namespace_model.specs.Trees.{Path}

pub not_empty : (p names : Path) → (p ≡ [] → ⊥) → p ++ names ≡ [] → ⊥
not_empty [] names some e = some refl
not_empty (n ∷ p) names some e = absurd (false≢true (sym (ap is_any e)))
  where
    is_any : Path → Bool
    is_any [] = false
    is_any (n ∷ p) = true

pub names_next : (path names : Path) (i : ℕ) (name : List ℕ) (whole longer : Path) → i < length names → name ≡ slice_index_or names i name → whole ≡ path ++ take i names → longer ≡ whole ++ name ∷ []
    → longer ≡ path ++ take (i + 1) names
names_next path names i name whole longer within item so_far is =
    is ∙ ap (λ l. l ++ name ∷ []) so_far ∙ append_assoc path (take i names) (name ∷ [])
    ∙ ap (λ l. path ++ l) (ap (λ x. take i names ++ x ∷ []) item ∙ sym (take-suc names i name within) ∙ ap (λ k. take k names) (let h : suc i ≡ i + 1 = omega arith in h))
