-- The place of an entry among entries in printed order.
use Rattle.std.specs.Prelude.{ℕ, suc, Bool, true, false, List, [], ◌∷◌}
use Rattle.std.specs.FinMap.Entries.{by_order}
use Rattle.acl_text.specs.declared.who.Who.{Who}
use Rattle.acl_text.specs.Whos.{who_cmp}

-- how many entries at the front stand before one
abbrev pub place_of : Who → List (Who × ℕ) → ℕ
place_of who [] = 0
place_of who (e ∷ es) = by_order (who_cmp who e.0) 0 0 (suc (place_of who es))

-- whether the entry at that place is its own
abbrev pub stands_in : Who → List (Who × ℕ) → Bool
stands_in who [] = false
stands_in who (e ∷ es) = by_order (who_cmp who e.0) false true (stands_in who es)
