-- Lines that are put one behind another.
use Rattle.std.proofs.Common.{◌≡◌, List, [], ◌∷◌, ◌++◌, append_assoc, ap, ◌∙◌}
use Rattle.namespace_model.specs.declared.field.Field.{Field}

-- three lines behind those that are there
pub three_more : (old one two new : List Field) (a b c x y z : Field) → one ≡ old ++ a ∷ [] → two ≡ one ++ b ∷ [] → new ≡ two ++ c ∷ [] → a ≡ x → b ≡ y → c ≡ z → new ≡ old ++ x ∷ y ∷ z ∷ []
three_more old one two new a b c x y z e f g h i j =
    g ∙ ap (λ l. l ++ c ∷ []) (f ∙ ap (λ l. l ++ b ∷ []) e) ∙ ap (λ l. l ++ c ∷ []) (append_assoc old (a ∷ []) (b ∷ [])) ∙ append_assoc old (a ∷ b ∷ []) (c ∷ [])
    ∙ ap (λ k. old ++ k ∷ b ∷ c ∷ []) h ∙ ap (λ k. old ++ x ∷ k ∷ c ∷ []) i ∙ ap (λ k. old ++ x ∷ y ∷ k ∷ []) j
