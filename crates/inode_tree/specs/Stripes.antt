-- What contracts see of a stripe: the inodes that it keeps, and what is ready to be put in.
use Rattle.std.specs.Prelude.{◌≡◌, ℕ, Bool, List, Option, Some, None, option_map, refl}
use Rattle.std.specs.Coded.{Coded, code_by, coded×, coded_option, coded_bool, coded_ℕ}
use Rattle.std.specs.Ordering.{nat_cmp}
use Rattle.std.specs.FinMap as fin
use Rattle.std.specs.FinMap.{FinMap}
use Rattle.inode_tree.specs.declared.meta.Meta.{Meta}
use Rattle.inode_tree.specs.declared.change.Change.{Change}
use Rattle.inode_tree.specs.Inodes.{BareInode, inode_code}
use Rattle.inode_tree.specs.Changes.{Part, asked_by, applied}

-- what is to stand at an id: no inode, or this one, and whether it asks for the number of the entry
abbrev pub Prepared : Type 0
Prepared = Option (BareInode × Bool)

-- the number of the stripe, its part, and what is ready
pub record StripeRecord : Type 0 where
  pub stripe : ℕ
  pub part : Part
  pub ready : FinMap nat_cmp Prepared

-- the inode of an outcome, put in by the entry with this number
abbrev pub outcome_by : ℕ → Prepared → Option BareInode
outcome_by number outcome = option_map (λ (x : BareInode × Bool). asked_by number x.1 x.0) outcome

-- what stands at an id once what is ready was put in
abbrev pub put_in : ℕ → Option Prepared → Option BareInode → Option BareInode
put_in number None before = before
put_in number (Some outcome) before = outcome_by number outcome

-- What is ready is what these changes make of the part, whatever the number of their entry will be.
abbrev pub IsReady : StripeRecord → List Change → Type 0
IsReady s changes =
    (number id : ℕ) → put_in number (fin.get s.ready id) (fin.get s.part id) ≡ fin.get (applied s.stripe number changes s.part) id

abbrev pub stripe_code : Coded Meta → Coded StripeRecord
stripe_code meta_code =
    code_by (ℕ × (Part × FinMap nat_cmp Prepared))
    (coded× coded_ℕ (coded× (fin.code coded_ℕ (inode_code meta_code)) (fin.code coded_ℕ (coded_option (coded× (inode_code meta_code) coded_bool)))))
    (λ s. (s.stripe, (s.part, s.ready)))
    (λ p. record { stripe = p.0; part = p.1.0; ready = p.1.1 })
    (λ _. refl)
