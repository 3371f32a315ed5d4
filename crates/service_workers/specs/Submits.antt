-- One submit.
use Rattle.std.specs.Prelude.{◌≡◌, ◌⊎◌, ℕ, ◌-◌, ◌≤◌, ⊤, [], ◌∷◌, ◌++◌, length, Option}
use Rattle.conn_io.specs.Moments.{IsForetold}
use Rattle.commit_journal.specs.Journal.{IsFull, IsFullFor}
use Rattle.commit_journal.specs.Keeper.{IsAbove}
use Rattle.commit_journal.specs.declared.limits.Full.TheVariants as limit
use Rattle.lease_state.specs.declared.lease.TheConstants.{LAST_MOMENT}
use Rattle.lock_core.specs.Object.{replay}
use Rattle.lock_core.specs.Sound.{StartsWith}
use Rattle.namespace_model.specs.declared.request.Entry.{Entry}
use Rattle.namespace_model.specs.Step.{tree_after}
use Rattle.inode_tree.specs.declared.placed.Placed.{Placed}
use Rattle.inode_tree.specs.Stands.{Stands}
use Rattle.striped_store.specs.declared.receipt.CommitRefusal.{CommitRefusal}
use Rattle.striped_store.specs.declared.receipt.CommitRefusal.TheVariants as refusal
use Rattle.striped_store.specs.Commits.{GrewBy}
use Rattle.striped_store.specs.Receipts.{TellsFootprint}
use Rattle.striped_store.specs.Views.{number_of_pass, seen_by, made_by, taken_by, tape_by, journal_seen}
use Rattle.parted_namespace.specs.Journals.{entries_of}
use Rattle.parted_namespace.specs.Namespace.{parts_of, namespace}
use Rattle.engine.specs.declared.solo.Answer.{Answer}
use Rattle.serving.specs.Texts.{next_text}
use Rattle.reply_marks.specs.Marks.{next_mark}
use Rattle.service_workers.specs.declared.asked.Asked.{Asked}
use Rattle.service_workers.specs.Drafts.{body_in}
use Rattle.service_workers.specs.Looks.{NamespacePass}

-- the entry of what is asked, at a moment
abbrev pub entry_at : Asked → ℕ → Entry
entry_at asked moment = record { conn = asked.conn; index = asked.index; moment = moment; request = asked.request }

module _ {K : Type 0} where
  -- An entry of this request is the last of the journal, and of the pass's own. The journal before stands for the tree of its run; on it
  -- the entry's reply has the text and the mark, and the receipt has the stripes of what the entry writes, and of what it reads alone.
  pub record Commits (old new : NamespacePass K) (entry : Entry) (answer : Answer) : Type 0 where
    pub placed : Placed
    pub entry_is : placed.entry ≡ entry
    pub by : placed.pass ≡ number_of_pass old
    pub seen : GrewBy placed (seen_by old) (seen_by new)
    pub mine : made_by new ≡ made_by old ++ placed ∷ []
    pub number : answer.receipt.number ≡ length (seen_by new)
    pub stands : Stands (parts_of (replay namespace seen.before)) (tree_after (entries_of seen.before))
    pub text : answer.bytes.items ≡ next_text (entries_of seen.before) entry
    pub mark : answer.mark ≡ next_mark (entries_of seen.before) entry
    pub footprint : TellsFootprint namespace (replay namespace seen.before) placed answer.receipt

  -- What is asked was committed, and its moment is the clock's answer in the last round.
  pub record Submits (old new : NamespacePass K) (ahead : Option (ℕ → ℕ)) (asked : Asked) (answer : Answer) : Type 0 where
    pub moment : ℕ
    pub foretold : IsForetold ahead (answer.receipt.rounds - 1) moment
    pub in_range : moment ≤ LAST_MOMENT
    pub commits : Commits old new (entry_at asked moment) answer

  -- the pass has made no entry, and how wide its last commit was is as before; it may have seen more
  pub record IsRefused (old new : NamespacePass K) : Type 0 where
    pub seen : StartsWith (seen_by new) (seen_by old)
    pub mine : made_by new ≡ made_by old
    pub wide : new.wide ≡ old.wide

  -- the keeper's count rose while the pass had the journal, which it took after the call began
  pub record HasFaulted (old new : NamespacePass K) : Type 0 where
    pub above : IsAbove (tape_by new) (taken_by new)
    pub since : tape_by old ≤ taken_by new

  -- The cause of a refusal, for a body of so many bytes, by the journal that the pass has seen: want of memory may come at any time.
  abbrev pub HasCause : (old new : NamespacePass K) → ℕ → CommitRefusal → Type 0
  HasCause old new bytes (refusal.Full limit.JournalFull) = IsFull (journal_seen new.seat)
  HasCause old new bytes (refusal.Full limit.JournalBytesFull) = IsFullFor body_in (journal_seen new.seat) bytes
  HasCause old new bytes refusal.Tape = HasFaulted old new
  HasCause old new bytes refusal.NoMemory = ⊤

  -- A refusal with its cause; and where a limit of the journal stands against the body, it is that refusal or want of memory.
  pub record IsCaused (old new : NamespacePass K) (bytes : ℕ) (answer : CommitRefusal) : Type 0 where
    pub cause : HasCause old new bytes answer
    pub full : IsFull (journal_seen new.seat) → (answer ≡ refusal.Full limit.JournalFull) ⊎ (answer ≡ refusal.NoMemory)
    pub bytes_full : IsFullFor body_in (journal_seen new.seat) bytes → (answer ≡ refusal.Full limit.JournalBytesFull) ⊎ (answer ≡ refusal.NoMemory)
