-- What a desk owes for one request.
use Rattle.std.specs.Prelude.{◌≡◌, ℕ, ◌≤◌, ⊤, Bool, List, [], ◌∷◌, Option}
use Rattle.conn_io.specs.Moments.{HasTicked, IsForetold}
use Rattle.commit_journal.specs.Journal.{JournalView, IsFull, IsFullFor}
use Rattle.commit_journal.specs.Limits.{LimitNumbers}
use Rattle.commit_journal.specs.declared.limits.Full.{Full}
use Rattle.commit_journal.specs.declared.limits.Full.TheVariants.{JournalFull, JournalBytesFull}
use Rattle.commit_journal.specs.declared.journal.ReserveStop.{ReserveStop}
use Rattle.commit_journal.specs.declared.journal.ReserveStop.TheVariants as stop
use Rattle.lease_state.specs.declared.lease.TheConstants.{LAST_MOMENT}
use Rattle.namespace_model.specs.declared.request.Entry.{Entry}
use Rattle.namespace_model.specs.declared.request.Request.{Request}
use Rattle.serving.specs.declared.refusal.SubmitRefusal.{SubmitRefusal}
use Rattle.serving.specs.declared.refusal.SubmitRefusal.TheVariants as refusal
use Rattle.serving.specs.Known.{Known, Grew, own_texts}
use Rattle.serving.specs.Texts.{body_of}

-- The journal has one own entry more, of this request as it is entered, on this connection at this place, with one of the clock's answers in this call as
-- its moment. The text is that of its reply in the run of the whole journal.
pub record Answered {X : Type 0} (entry_of : X → Entry) (is_own : X → Bool) (entered : Request → Request) (rule : ℕ → ℕ → Type 0) (conn : ℕ) (old new : Known X)
    (ahead ahead' : Option (ℕ → ℕ)) (index : ℕ) (request : Request) (text : List ℕ) : Type 0 where
  pub entry : X
  pub answer : ℕ
  pub times : ℕ
  pub asks : (entry_of entry).request ≡ entered request
  pub closes : (entry_of entry).request.close ≡ request.close
  pub on : (entry_of entry).conn ≡ conn
  pub place : (entry_of entry).index ≡ index
  pub moment : IsForetold ahead answer (entry_of entry).moment
  pub in_range : (entry_of entry).moment ≤ LAST_MOMENT
  pub ruled : rule answer times
  pub ticked : HasTicked ahead ahead' times
  pub history : Grew is_own old new (entry ∷ [])
  pub text_is : own_texts entry_of is_own old.seen new.seen ≡ text ∷ []

-- a journal of these entries under these limits; the memory that it has ready decides nothing
abbrev pub journal_of : List Entry → LimitNumbers → JournalView Entry
journal_of entries limits = record { entries = entries; limits = limits; spare = 0 }

-- the journal has no room for a further entry, or it has, but not for a body of so many bytes
abbrev pub IsFullOf : Full → List Entry → LimitNumbers → ℕ → Type 0
IsFullOf JournalFull entries limits bytes = IsFull (journal_of entries limits)
IsFullOf JournalBytesFull entries limits bytes = IsFullFor body_of (journal_of entries limits) bytes

-- a request is refused as full only where the journal is
abbrev pub HasFull : SubmitRefusal → List Entry → LimitNumbers → ℕ → Type 0
HasFull (refusal.Full kind) entries limits bytes = IsFullOf kind entries limits bytes
HasFull refusal.NoMemory entries limits bytes = ⊤

-- why a request is not taken for which the journal has no room
abbrev pub refusal_for : ReserveStop → SubmitRefusal
refusal_for (stop.Full full) = refusal.Full full
refusal_for stop.NoMemory = refusal.NoMemory
