-- A pass that counts the replies to its entries.
use Rattle.std.specs.Prelude.{◌≡◌, ℕ, Bool, nat_eq, filter}
use Rattle.namespace_model.specs.declared.request.Entry.{Entry}
use Rattle.inode_tree.specs.declared.placed.Placed.{Placed}
use Rattle.striped_store.specs.Views.{number_of_pass, seen_by, made_by}
use Rattle.reply_marks.specs.declared.tally.Tally.{Tally}
use Rattle.reply_marks.specs.Tallies.{tally_of}
use Rattle.service_workers.specs.Looks.{NamespacePass}

-- the entry as the model sees it
abbrev pub entry_in : Placed → Entry
entry_in placed = placed.entry

-- whether the entry is by the pass of this number
abbrev pub is_by : ℕ → Placed → Bool
is_by number placed = nat_eq placed.pass number

module _ {K : Type 0} where
  -- the replies to the pass's entries, by the run of the journal as far as the pass has seen it
  abbrev pub tally_by : NamespacePass K → Tally
  tally_by pass = tally_of entry_in (is_by (number_of_pass pass)) (seen_by pass)

-- the pass, and the tally
pub record Counted (K : Type 0) : Type 0 where
  pub pass : NamespacePass K
  pub tally : Tally

module _ {K : Type 0} where
  -- the pass's own entries are those of what it has seen
  abbrev pub OwnsWhatItSaw : NamespacePass K → Type 0
  OwnsWhatItSaw pass = made_by pass ≡ filter (is_by (number_of_pass pass)) (seen_by pass)

  -- the tally is that of the pass's entries, all of which it has seen
  pub record IsCounted (pass : NamespacePass K) (tally : Tally) : Type 0 where
    pub tally_is : tally ≡ tally_by pass
    pub own : OwnsWhatItSaw pass
