-- How a round of a submit ends.
use Rattle.std.specs.Prelude.{◌≡◌, ℕ, ◌<◌, ◌≤◌, false, length, Option}
use Rattle.conn_io.specs.Moments.{IsForetold}
use Rattle.commit_journal.specs.Journal.{IsWithin}
use Rattle.lease_state.specs.declared.lease.TheConstants.{LAST_MOMENT}
use Rattle.inode_tree.specs.declared.need.Need.{Need}
use Rattle.inode_tree.specs.declared.placed.Placed.{Placed}
use Rattle.inode_tree.specs.Views.{covers}
use Rattle.path_locks.specs.Views.{TableView, HoldsNothing}
use Rattle.striped_store.specs.declared.receipt.CommitRefusal.{CommitRefusal}
use Rattle.striped_store.specs.Views.{journal_seen}
use Rattle.engine.specs.declared.solo.Answer.{Answer}
use Rattle.service_workers.specs.declared.asked.Asked.{Asked}
use Rattle.service_workers.specs.declared.round.Round.{Round}
use Rattle.service_workers.specs.declared.round.Round.TheVariants as round
use Rattle.service_workers.specs.declared.rounds.Holding.{Holding}
use Rattle.service_workers.specs.Drafts.{body_in}
use Rattle.service_workers.specs.Looks.{NamespacePass, mode_in}
use Rattle.service_workers.specs.Rounds.{IsHolding}
use Rattle.service_workers.specs.Submits.{entry_at, Commits, IsRefused, IsCaused}

module _ {K : Type 0} (store : TableView Placed) (old new : NamespacePass K) where
  -- what is asked was committed with the clock's next answer as its moment
  pub record IsAnswered (ahead : Option (ℕ → ℕ)) (wide : ℕ) (asked : Asked) (answer : Answer) : Type 0 where
    pub nothing : HoldsNothing new.seat
    pub within : IsWithin body_in (journal_seen new.seat)
    pub last : new.wide ≡ wide
    pub moment : ℕ
    pub foretold : IsForetold ahead 0 moment
    pub in_range : moment ≤ LAST_MOMENT
    pub commits : Commits old new (entry_at asked moment) answer

  -- there is no entry, for a cause
  pub record IsTurnedAway (asked : Asked) (refusal : CommitRefusal) : Type 0 where
    pub nothing : HoldsNothing new.seat
    pub refused : IsRefused old new
    pub caused : IsCaused old new (length asked.request.body) refusal

  -- what was asked and what is held are as before, and a stripe isn't held so
  pub record IsLacking (holding : Holding K) (asked : Asked) (again : Asked) (still : Holding K) (need : Need) : Type 0 where
    pub asks : again ≡ asked
    pub plan : still.plan ≡ holding.plan
    pub holds : IsHolding store old new still.held still.plan
    pub within : need.stripe < 64
    pub lacks : covers (mode_in still.held need.stripe) need.mode ≡ false

  abbrev pub EndsRound : Option (ℕ → ℕ) → Holding K → Asked → Round K → Type 0
  EndsRound ahead holding asked (round.Answered answer) = IsAnswered ahead holding.held.wide asked answer
  EndsRound ahead holding asked (round.Refused refusal) = IsTurnedAway asked refusal
  EndsRound ahead holding asked (round.Lacks again still need) = IsLacking holding asked again still need
