-- The stripes at the start: the account alone.
use Rattle.std.specs.Prelude.{◌≡◌, ℕ, zero, suc, ◌<◌, List, [], ◌∷◌, ◌++◌, length, slice_get, Some}
use Rattle.std.specs.FinMap as fin
use Rattle.namespace_model.specs.Nodes.{account}
use Rattle.inode_tree.specs.Inodes.{BareInode}
use Rattle.inode_tree.specs.After.{inode_with}
use Rattle.inode_tree.specs.Changes.{Part}
use Rattle.inode_tree.specs.Parts.{Parts}
use Rattle.inode_tree.specs.Stripes.{StripeRecord}

-- a stripe with nothing ready
abbrev pub bare_stripe : StripeRecord → StripeRecord
bare_stripe s = record s { ready = fin.empty }

-- the account, without a filesystem
abbrev pub account_inode : BareInode
account_inode = inode_with account fin.empty

abbrev pub account_part : Part
account_part = fin.insert fin.empty 0 account_inode

-- the account is in the first of 64 parts, and nothing else is there
pub record AreOpening (parts : Parts) : Type 0 where
  pub long : length parts ≡ 64
  pub first : slice_get parts 0 ≡ Some account_part
  pub others : (k : ℕ) (part : Part) → 0 < k → slice_get parts k ≡ Some part → part ≡ fin.empty

-- the part of a stripe at the start
abbrev pub opening_part : ℕ → Part
opening_part zero = account_part
opening_part (suc k) = fin.empty

-- each stripe has its place as its number
abbrev pub opening_stripe : ℕ → StripeRecord
opening_stripe k = record { stripe = k; part = opening_part k; ready = fin.empty }

-- the first so many stripes
unfoldable pub opening_below : ℕ → List StripeRecord
opening_below zero = []
opening_below (suc k) = opening_below k ++ opening_stripe k ∷ []

abbrev pub opening_stripes : List StripeRecord
opening_stripes = opening_below 64
