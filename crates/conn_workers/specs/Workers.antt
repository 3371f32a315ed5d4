-- Connections, one after the other.
use Rattle.std.specs.Prelude.{◌≡◌, ℕ, ◌<◌, List, [], ◌∷◌, length, slice_index_or, Option}
use Rattle.commit_journal.specs.Limits.{LimitNumbers}
use Rattle.inode_tree.specs.declared.placed.Placed.{Placed}
use Rattle.path_locks.specs.Alike.{limits_of}
use Rattle.path_locks.specs.Views.{TableView, HoldsNothing, IsSeatAgain}
use Rattle.engine.specs.Solos.{as_asked}
use Rattle.serving.specs.declared.end.End.{End}
use Rattle.serving.specs.Known.{Known}
use Rattle.serving.specs.Moments.{Paced}
use Rattle.serving.specs.Served.{Served}
use Rattle.striped_store.specs.Views.{IsOf, number_of_pass}
use Rattle.service_workers.specs.Looks.{NamespacePass}
use Rattle.conn_workers.specs.Counted.{entry_in, is_by}
use Rattle.conn_workers.specs.Desks.{AsksLast, known_by}

-- what was served of one connection, whatever its streams and its clock, by a pass of this number
pub record IsOfConnection (number : ℕ) (limits : LimitNumbers) (old new : Known Placed) : Type 0 where
  pub conn : ℕ
  pub left : Option (List ℕ)
  pub left' : Option (List ℕ)
  pub out : Option (List ℕ)
  pub out' : Option (List ℕ)
  pub ahead : Option (ℕ → ℕ)
  pub answered : ℕ
  pub end : End
  pub served : Served entry_in (is_by number) as_asked (Paced AsksLast 0) conn limits left left' out out' ahead old new answered end

-- connections one after the other: what was known of the journal behind each of them
abbrev pub ServesInTurn : ℕ → LimitNumbers → (old : Known Placed) → List (Known Placed) → (new : Known Placed) → Type 0
ServesInTurn number limits old [] new = new ≡ old
ServesInTurn number limits old (mid ∷ states) new = IsOfConnection number limits old mid × ServesInTurn number limits mid states new

module _ {K : Type 0} where
  -- the pass is one of the service, with its limits, and holds nothing
  pub record IsReady (service : TableView Placed) (pass : NamespacePass K) : Type 0 where
    pub own : IsOf service pass
    pub nothing : HoldsNothing pass.seat
    pub limits : limits_of pass.seat ≡ service.limits

  -- the pass served connections, and did nothing else
  pub record HasWorked (limits : LimitNumbers) (old new : NamespacePass K) : Type 0 where
    pub again : IsSeatAgain old.seat new.seat
    pub states : List (Known Placed)
    pub in_turn : ServesInTurn (number_of_pass old) limits (known_by old) states (known_by new)

-- each element stands in this relation to the one at its place in the other list
abbrev pub EachPair : {X : Type 0} → (X → X → Type 0) → List X → List X → Type 0
EachPair {X} related xs ys = (k : ℕ) (d : X) → k < length xs → related (slice_index_or xs k d) (slice_index_or ys k d)
