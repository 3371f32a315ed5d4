-- What it is to trim a text of spaces and tabs.
use Rattle.std.specs.Prelude.{◌≡◌, ℕ, false, IsTrue, List, [], ◌∷◌, ◌++◌}
use Rattle.std.specs.List.{list_all}
use Rattle.head_text.specs.ETags.{is_blank}

-- the text is the inner one with spaces and tabs round it, and the inner one neither begins nor ends with one
pub record IsTrimmed (text inner : List ℕ) : Type 0 where
  pub front : List ℕ
  pub back : List ℕ
  pub parts : text ≡ front ++ (inner ++ back)
  pub blank_front : IsTrue (list_all is_blank front)
  pub blank_back : IsTrue (list_all is_blank back)
  pub first : (b : ℕ) (rest : List ℕ) → inner ≡ b ∷ rest → is_blank b ≡ false
  pub last : (rest : List ℕ) (b : ℕ) → inner ≡ rest ++ b ∷ [] → is_blank b ≡ false
