-- How the serving of a connection ends, and why.
use Rattle.std.specs.Prelude.{◌≡◌, ◌≢◌, ◌⊎◌, ℕ, ◌<◌, ◌≤◌, Bool, true, false, List, [], length, Option, ⊤}
use Rattle.std.specs.Io.KnownBytes.{IsAtEnd}
use Rattle.conn_io.specs.Causes.{Rose}
use Rattle.conn_io.specs.Crowded.{Crowded}
use Rattle.commit_journal.specs.Limits.{LimitNumbers}
use Rattle.commit_journal.specs.declared.limits.Full.{Full}
use Rattle.http_front.specs.declared.limits.TheConstants.{HEAD_MOST}
use Rattle.http_front.specs.declared.answers.BadHttp.{BadHttp}
use Rattle.http_front.specs.Requests.{RequestText, Begins, BeginsWithNone}
use Rattle.http_front.specs.Reads.{IsBad, IsShown, IsHeadFault, IsUnfinished, HasOnlyLongHeads}
use Rattle.namespace_model.specs.declared.request.Entry.{Entry}
use Rattle.reply_text.specs.declared.last.Last.{Last}
use Rattle.reply_text.specs.declared.last.Last.TheVariants as last
use Rattle.reply_text.specs.LastReply.{last_reply_text}
use Rattle.serving.specs.declared.end.End.{End}
use Rattle.serving.specs.declared.end.End.TheVariants.{Done, Spent, CutShort, BadRequest, Busy, ReadFault, WriteFault, NoMemory}
use Rattle.serving.specs.Answered.{IsFullOf}

-- the last reply of an end, nothing where it has none
abbrev pub last_text : End → List ℕ
last_text Done = []
last_text Spent = []
last_text (CutShort count) = []
last_text (BadRequest bad) = last_reply_text (last.Bad bad)
last_text (Busy kind) = last_reply_text last.Busy
last_text ReadFault = []
last_text WriteFault = []
last_text NoMemory = []

-- One more request might have been answered: fewer were than may be, and the last one did not close the connection.
pub record GoesOn (closed : Bool) (answered most : ℕ) : Type 0 where
  pub short : answered < most
  pub is_open : closed ≡ false

-- between two requests nothing more came
pub record EndsDone (closed : Bool) (answered most : ℕ) (rest : List ℕ) (left : Option (List ℕ)) : Type 0 where
  pub goes_on : GoesOn closed answered most
  pub none : rest ≡ []
  pub at_end : IsAtEnd left

-- as many requests were answered as may be, and the last one did not close the connection
pub record EndsSpent (closed : Bool) (answered most : ℕ) : Type 0 where
  pub all : answered ≡ most
  pub is_open : closed ≡ false

-- so many bytes came that are the beginning of a request, and nothing more
pub record EndsCutShort (cut : ℕ) (closed : Bool) (answered most : ℕ) (rest : List ℕ) (left : Option (List ℕ)) : Type 0 where
  pub goes_on : GoesOn closed answered most
  pub cut_is : cut ≡ length rest
  pub some : 1 ≤ cut
  pub unfinished : IsUnfinished rest
  pub at_end : IsAtEnd left

-- bytes came that begin with no complete request and show why none is taken
pub record EndsRefused (bad : BadHttp) (closed : Bool) (answered most : ℕ) (rest : List ℕ) : Type 0 where
  pub goes_on : GoesOn closed answered most
  pub some : 1 ≤ length rest
  pub begins_with_none : BeginsWithNone rest
  pub cause : IsBad bad rest

-- a further request came whole, and the journal as far as it is known is full for it
pub record EndsBusy (kind : Full) (closed : Bool) (answered : ℕ) (limits : LimitNumbers) (rest : List ℕ) (journal : List Entry) : Type 0 where
  pub goes_on : GoesOn closed answered limits.requests_max
  pub text : RequestText
  pub behind : List ℕ
  pub begins : Begins rest text behind
  pub full : IsFullOf kind journal limits (length text.body)

-- Where each end comes: so many replies of at most `requests_max` are out whole, `closed` says whether the last entry asks for the
-- connection to be closed, the rest is what was taken behind the entries' requests, `left` is what the source tells afterwards, and
-- `journal` what is known of the journal. Behind an entry that closes only Done comes, or WriteFault at its reply.
abbrev pub Ends : End → (closed : Bool) → (answered : ℕ) → LimitNumbers → (rest : List ℕ) → (left : Option (List ℕ)) → (journal : List Entry) → Type 0
Ends Done closed answered limits rest left journal = (closed ≡ true) ⊎ EndsDone closed answered limits.requests_max rest left
Ends Spent closed answered limits rest left journal = EndsSpent closed answered limits.requests_max
Ends (CutShort cut) closed answered limits rest left journal = EndsCutShort cut closed answered limits.requests_max rest left
Ends (BadRequest bad) closed answered limits rest left journal = EndsRefused bad closed answered limits.requests_max rest
Ends (Busy kind) closed answered limits rest left journal = EndsBusy kind closed answered limits rest journal
Ends ReadFault closed answered limits rest left journal = GoesOn closed answered limits.requests_max
Ends WriteFault closed answered limits rest left journal = answered < limits.requests_max
Ends NoMemory closed answered limits rest left journal = GoesOn closed answered limits.requests_max

-- the cause of a last reply
abbrev pub IsLastFor : Last → (closed : Bool) → (answered : ℕ) → LimitNumbers → (rest : List ℕ) → (journal : List Entry) → Type 0
IsLastFor (last.Bad bad) closed answered limits rest journal = EndsRefused bad closed answered limits.requests_max rest
IsLastFor last.Busy closed answered limits rest journal = (kind : Full) × EndsBusy kind closed answered limits rest journal

-- the ends that the outside or want of memory bring
abbrev pub IsOutside : End → Type 0
IsOutside Done = ⊥
IsOutside Spent = ⊥
IsOutside (CutShort cut) = ⊥
IsOutside (BadRequest bad) = ⊥
IsOutside (Busy kind) = ⊥
IsOutside ReadFault = ⊤
IsOutside WriteFault = ⊤
IsOutside NoMemory = ⊤

-- the journal was full
abbrev pub IsBusy : End → Type 0
IsBusy Done = ⊥
IsBusy Spent = ⊥
IsBusy (CutShort cut) = ⊥
IsBusy (BadRequest bad) = ⊥
IsBusy (Busy kind) = ⊤
IsBusy ReadFault = ⊥
IsBusy WriteFault = ⊥
IsBusy NoMemory = ⊥

-- the bytes were refused before a whole head
abbrev pub IsHeadEnd : End → Type 0
IsHeadEnd Done = ⊥
IsHeadEnd Spent = ⊥
IsHeadEnd (CutShort cut) = ⊥
IsHeadEnd (BadRequest bad) = IsHeadFault bad
IsHeadEnd (Busy kind) = ⊥
IsHeadEnd ReadFault = ⊥
IsHeadEnd WriteFault = ⊥
IsHeadEnd NoMemory = ⊥

-- The causes read the other way. Whether the last entry closes, `answered` and the rest decide the end, unless the outside or want of
-- memory brought another one.
pub record Forces (closed : Bool) (answered : ℕ) (limits : LimitNumbers) (rest : List ℕ) (end : End) : Type 0 where
  pub closing : closed ≡ true → (end ≡ Done) ⊎ (end ≡ WriteFault)
  pub spent : answered ≡ limits.requests_max → closed ≡ false → end ≡ Spent
  pub done : GoesOn closed answered limits.requests_max → rest ≡ [] → (end ≡ Done) ⊎ IsOutside end
  pub busy : GoesOn closed answered limits.requests_max → (text : RequestText) (behind : List ℕ) → Begins rest text behind → IsBusy end ⊎ IsOutside end
  pub cut_short : GoesOn closed answered limits.requests_max → rest ≢ [] → IsUnfinished rest
      → (end ≡ CutShort (length rest)) ⊎ (IsHeadEnd end ⊎ IsOutside end)
  -- of the faults before a whole head which one comes is left open
  pub long : GoesOn closed answered limits.requests_max → HEAD_MOST ≤ length rest → HasOnlyLongHeads rest → IsHeadEnd end ⊎ IsOutside end
  pub crowded : GoesOn closed answered limits.requests_max → Crowded rest → IsHeadEnd end ⊎ IsOutside end
  pub refused : GoesOn closed answered limits.requests_max → (bad : BadHttp) → IsShown bad rest → (end ≡ BadRequest bad) ⊎ IsOutside end

-- The source's count rose at a read fault, and is as before at every other end.
abbrev pub ReadCounts : ℕ → ℕ → End → Type 0
ReadCounts before now Done = now ≡ before
ReadCounts before now Spent = now ≡ before
ReadCounts before now (CutShort cut) = now ≡ before
ReadCounts before now (BadRequest bad) = now ≡ before
ReadCounts before now (Busy kind) = now ≡ before
ReadCounts before now ReadFault = Rose before now
ReadCounts before now WriteFault = now ≡ before
ReadCounts before now NoMemory = now ≡ before

-- The sink's count rose at a write fault, and is as before at every other end.
abbrev pub WriteCounts : ℕ → ℕ → End → Type 0
WriteCounts before now Done = now ≡ before
WriteCounts before now Spent = now ≡ before
WriteCounts before now (CutShort cut) = now ≡ before
WriteCounts before now (BadRequest bad) = now ≡ before
WriteCounts before now (Busy kind) = now ≡ before
WriteCounts before now ReadFault = now ≡ before
WriteCounts before now WriteFault = Rose before now
WriteCounts before now NoMemory = now ≡ before
