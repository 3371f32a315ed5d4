-- What a contract sees of the sequential engine: its journal, and the 64 parts of the namespace.
use Rattle.std.specs.Prelude.{◌≡◌, ℕ, suc, ◌+◌, ◌*◌, ◌≤◌, List, [], ◌∷◌, length, None, refl}
use Rattle.std.specs.Coded.{Coded, code_by, coded×, coded_list, coded_ℕ}
use Rattle.commit_journal.specs.Journal.{JournalView}
use Rattle.commit_journal.specs.Limits.{LimitNumbers}
use Rattle.namespace_model.specs.declared.request.Entry.{Entry}
use Rattle.namespace_model.specs.declared.request.Request.{Request}
use Rattle.namespace_model.specs.Step.{step, tree_after, new_paths}
use Rattle.namespace_model.specs.Trees.{Tree, opening_tree}
use Rattle.inode_tree.specs.declared.meta.Meta.{Meta}
use Rattle.inode_tree.specs.declared.placed.Placed.{Placed}
use Rattle.inode_tree.specs.Drawing.{next_ids}
use Rattle.inode_tree.specs.Parts.{Parts, inode_at}
use Rattle.inode_tree.specs.Rows.{fresh_id}
use Rattle.inode_tree.specs.Stands.{Stands}
use Rattle.inode_tree.specs.Stripes.{StripeRecord, stripe_code}
use Rattle.inode_tree.specs.Views.{HasDates}
use Rattle.parted_namespace.specs.Namespace.{parts_of}

pub record SoloView : Type 0 where
  -- the journal: its entries, its limits, and for how many more entries there is memory
  pub entries : List Entry
  pub limits : LimitNumbers
  pub spare : ℕ
  -- the stripes of nodes, by number
  pub stripes : List StripeRecord
  -- how many ids of pass 0 are used
  pub used : ℕ

abbrev pub journal_in : SoloView → JournalView Entry
journal_in s = record { entries = s.entries; limits = s.limits; spare = s.spare }

abbrev pub parts_in : SoloView → Parts
parts_in s = parts_of s.stripes

-- what is entered into the journal for a request: the request itself
abbrev pub as_asked : Request → Request
as_asked request = request

-- ---- codes

abbrev pub stripes_code : Coded Meta → Coded (List StripeRecord)
stripes_code meta_code = coded_list (stripe_code meta_code)

abbrev pub solo_code : Coded (List Entry) → Coded LimitNumbers → Coded Meta → Coded SoloView
solo_code entries_code limits_code meta_code =
    code_by (List Entry × (LimitNumbers × (ℕ × (List StripeRecord × ℕ))))
    (coded× entries_code (coded× limits_code (coded× coded_ℕ (coded× (stripes_code meta_code) coded_ℕ))))
    (λ s. (s.entries, (s.limits, (s.spare, (s.stripes, s.used)))))
    (λ p. record { entries = p.0; limits = p.1.0; spare = p.1.1.0; stripes = p.1.1.1.0; used = p.1.1.1.1 })
    (λ _. refl)

-- ---- what is kept

-- An entry of the sequential engine, with the ids that its new nodes get: the next ones of the row of pass 0, from the top of the path.
abbrev pub placed_behind : SoloView → Entry → Placed
placed_behind s e = record { entry = e; pass = 0; ids = next_ids 0 s.used (length (new_paths (tree_after s.entries) e)) }

-- how many nodes entries make, with numbers from this one on
unfoldable pub made_from : Tree → ℕ → List Entry → ℕ
made_from t number [] = 0
made_from t number (e ∷ es) = length (new_paths t e) + made_from (step t e number).tree (suc number) es

-- how many nodes the entries of a journal make
unfoldable pub made_by : List Entry → ℕ
made_by journal = made_from opening_tree 1 journal

-- The parts stand for the tree of the run of the journal, each of whose nodes has a date. As many ids are used as the entries made nodes, at most 60
-- for each of them on the whole, and the ids behind those are free.
pub record IsKept (s : SoloView) : Type 0 where
  pub stands : Stands (parts_in s) (tree_after s.entries)
  pub dates : HasDates (tree_after s.entries)
  pub made : s.used ≡ made_by s.entries
  pub few : s.used ≤ 60 * length s.entries
  pub free : (k : ℕ) → s.used ≤ k → inode_at (parts_in s) (fresh_id 0 k) ≡ None
