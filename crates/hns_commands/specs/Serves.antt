-- What `hns serve` does.
use Rattle.std.specs.Prelude.{◌≡◌, ◌⊎◌, ℕ, ◌≤◌, Bool, true, false, List, [], Option, Some, None, String}
use Rattle.std.specs.Io.KnownBytes.{Appends}
use Rattle.std.specs.declared.alloc.Global.{Global}
use Rattle.std.specs.Prelude as std
use Rattle.lock_core.specs.Sound.{AllFit}
use Rattle.commit_journal.specs.Journal.{JournalView}
use Rattle.conn_queue.specs.declared.queue.Shut.{Shut}
use Rattle.conn_queue.specs.declared.queue.Shut.TheVariants as shut
use Rattle.inode_tree.specs.declared.placed.Placed.{Placed}
use Rattle.serving.specs.Written.{BreaksOff}
use Rattle.striped_store.specs.Views.{number_of_pass, seen_by, made_by}
use Rattle.parted_namespace.specs.Namespace.{namespace}
use Rattle.service_workers.specs.Looks.{NamespacePass}
use Rattle.command_words.specs.Words.{ServeGiven, serve_given}
use Rattle.hns_commands.specs.Summary.{summary_of}

-- the words ask for `serve`, with so many workers
pub record AsksFor (words : List (String Global)) (workers : ℕ) : Type 0 where
  pub given : ServeGiven
  pub words_are : serve_given words ≡ Some given
  pub many : given.limits.passes ≡ workers

-- as many connections were taken as the words ask for
abbrev pub HasTaken : List (String Global) → ℕ → Type 0
HasTaken words count = (given : ServeGiven) → serve_given words ≡ Some given → given.connections ≤ count

-- by why no connection is taken any more, and whether the summary is out whole
abbrev pub serve_status : Shut → Bool → ℕ
serve_status shut.Failed written = 7
serve_status shut.Most true = 0
serve_status shut.Most false = 4
serve_status shut.Ended true = 0
serve_status shut.Ended false = 4

-- The summary of the journal is out whole at 0, and a proper front of it at 4; one or the other at 7.
abbrev pub IsOut : Option (List ℕ) → Option (List ℕ) → ℕ → List ℕ → Type 0
IsOut out out' status text = ((status ≡ 0) × Appends out out' text) ⊎ ((status ≡ 4) × BreaksOff out out' text)
    ⊎ ((status ≡ 7) × (Appends out out' text ⊎ BreaksOff out out' text))

-- the journal of a service that was closed, and its summary
pub record LeavesJournal (out out' : Option (List ℕ)) (status : ℕ) (journal : JournalView Placed) : Type 0 where
  pub fit : AllFit namespace journal.entries
  pub summary : IsOut out out' status (summary_of journal.entries)

-- Where there is no journal, nothing is out.
abbrev pub LeavesBehind : Option (List ℕ) → Option (List ℕ) → ℕ → Option (JournalView Placed) → Type 0
LeavesBehind out out' status None = ((status ≡ 2) ⊎ (status ≡ 5)) × Appends out out' []
LeavesBehind out out' status (Some journal) = LeavesJournal out out' status journal

module _ {K : Type 0} where
  -- the pass has seen and made no entry
  pub record IsUnused (pass : NamespacePass K) : Type 0 where
    pub seen : seen_by pass ≡ []
    pub made : made_by pass ≡ []

  -- each pass stands at its number
  abbrev pub AreInOrder : List (NamespacePass K) → Type 0
  AreInOrder passes = (k : ℕ) (pass : NamespacePass K) → std.slice_get passes k ≡ Some pass → number_of_pass pass ≡ k
