-- The summary that `hns serve` ends with.
use Rattle.std.specs.Prelude.{ℕ, List, ◌++◌, codes, decimal, length, sum_by, true}
use Rattle.inode_tree.specs.declared.placed.Placed.{Placed}
use Rattle.reply_marks.specs.declared.tally.Tally.{Tally}
use Rattle.reply_marks.specs.Tallies.{tally_of}
use Rattle.service_workers.specs.Drafts.{body_in}
use Rattle.conn_workers.specs.Counted.{entry_in}

-- a word with its space, a number and a line feed
abbrev pub line_of : List ℕ → ℕ → List ℕ
line_of name number = name ++ decimal number ++ codes "\n"

abbrev pub summary_text : (entries : ℕ) → Tally → (bytes : ℕ) → List ℕ
summary_text entries tally bytes =
    line_of (codes "entries ") entries ++ line_of (codes "ok ") tally.ok ++ line_of (codes "refused ") tally.refused ++ line_of (codes "denied ") tally.denied
    ++ line_of (codes "bytes ") bytes

-- that of a journal, by its run
abbrev pub summary_of : List Placed → List ℕ
summary_of journal = summary_text (length journal) (tally_of entry_in (λ x. true) journal) (sum_by body_in journal)
