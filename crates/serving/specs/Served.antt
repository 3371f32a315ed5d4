-- The serving of one connection.
use Rattle.std.specs.Prelude.{◌≡◌, ◌≢◌, ℕ, suc, ◌≤◌, ◌⊎◌, ⊤, Bool, true, false, List, [], ◌∷◌, ◌++◌, length, map, drop, All, Option}
use Rattle.std.specs.List.{concat, flat_map}
use Rattle.std.specs.Io.KnownBytes.{Consumes, Appends}
use Rattle.conn_io.specs.Moments.{IsForetold}
use Rattle.commit_journal.specs.Limits.{LimitNumbers}
use Rattle.lease_state.specs.declared.lease.TheConstants.{LAST_MOMENT}
use Rattle.http_front.specs.Requests.{RequestText, print_text, IsComplete, raw_of}
use Rattle.namespace_model.specs.declared.request.Request.{Request}
use Rattle.namespace_model.specs.declared.request.Entry.{Entry}
use Rattle.op_decode.specs.Decoded.{decoded}
use Rattle.reply_text.specs.declared.last.Last.{Last}
use Rattle.reply_text.specs.LastReply.{last_reply_text}
use Rattle.serving.specs.declared.end.End.{End}
use Rattle.serving.specs.declared.end.End.TheVariants.{Done, Spent, CutShort, BadRequest, Busy, ReadFault, WriteFault, NoMemory}
use Rattle.serving.specs.Ends.{last_text, IsLastFor, Ends, Forces}
use Rattle.serving.specs.Known.{Known, Grew, own_texts}
use Rattle.serving.specs.Moments.{FollowOn}

-- the request that a text is decoded to
abbrev pub request_in : RequestText → Request
request_in text = decoded (raw_of text)

-- and what is entered into the journal for it
abbrev pub entered_in : (Request → Request) → RequestText → Request
entered_in entered text = entered (request_in text)

abbrev pub request_of : Entry → Request
request_of entry = entry.request

-- The bytes begin with complete requests, one for each entry and its request, and the rest follows them.
pub record TakesRequests (entered : Request → Request) (taken : List ℕ) (entries : List Entry) (rest : List ℕ) : Type 0 where
  pub texts : List RequestText
  pub whole : taken ≡ flat_map print_text texts ++ rest
  pub each : All IsComplete texts
  pub decodes : map request_of entries ≡ map (entered_in entered) texts

-- an entry of the connection, at its place there, with the answer number `k` of the clock
pub record IsPlaced (ahead : Option (ℕ → ℕ)) (conn place k : ℕ) (entry : Entry) : Type 0 where
  pub on : entry.conn ≡ conn
  pub index : entry.index ≡ place
  pub moment : IsForetold ahead k entry.moment
  pub in_range : entry.moment ≤ LAST_MOMENT

-- the entries from a place on, and the numbers of the clock's answers that are their moments
abbrev pub ArePlaced : Option (ℕ → ℕ) → (conn place : ℕ) → List ℕ → List Entry → Type 0
ArePlaced ahead conn place [] [] = ⊤
ArePlaced ahead conn place (k ∷ ks) (e ∷ es) = IsPlaced ahead conn place k e × ArePlaced ahead conn (suc place) ks es
ArePlaced ahead conn place ks es = ⊥

-- no entry but the last asks for the connection to be closed
abbrev pub ClosesLast : List Entry → Type 0
ClosesLast [] = ⊤
ClosesLast (e ∷ []) = ⊤
ClosesLast (e ∷ f ∷ es) = (e.request.close ≡ false) × ClosesLast (f ∷ es)

-- whether the last entry asks for the connection to be closed
abbrev pub is_closed : List Entry → Bool
is_closed [] = false
is_closed (e ∷ []) = e.request.close
is_closed (e ∷ f ∷ es) = is_closed (f ∷ es)

-- the replies and the last reply are out whole
pub record IsWritten (end : End) (answered : ℕ) (written : List ℕ) (replies : List (List ℕ)) : Type 0 where
  pub bytes : written ≡ concat replies ++ last_text end
  pub all : answered ≡ length replies

-- the replies but the last are out whole, and of the last one a proper front
pub record IsCutOff (answered : ℕ) (written : List ℕ) (replies : List (List ℕ)) : Type 0 where
  pub whole : List (List ℕ)
  pub last : List ℕ
  pub front : List ℕ
  pub missing : List ℕ
  pub replies_are : replies ≡ whole ++ last ∷ []
  pub last_is : last ≡ front ++ missing
  pub some_missing : missing ≢ []
  pub bytes : written ≡ concat whole ++ front
  pub all_but_one : answered ≡ length whole

-- the replies are out whole, and a proper front of a last reply, whose cause holds
pub record IsCutOffLast (closed : Bool) (answered : ℕ) (limits : LimitNumbers) (written : List ℕ) (replies : List (List ℕ)) (rest : List ℕ)
    (journal : List Entry) : Type 0 where
  pub last : Last
  pub front : List ℕ
  pub missing : List ℕ
  pub last_is : last_reply_text last ≡ front ++ missing
  pub some_missing : missing ≢ []
  pub bytes : written ≡ concat replies ++ front
  pub all : answered ≡ length replies
  pub cause : IsLastFor last closed answered limits rest journal

-- What is out at each end. `answered` counts the replies that are out whole.
abbrev pub Writes : End → (closed : Bool) → (answered : ℕ) → LimitNumbers → (written : List ℕ) → (replies : List (List ℕ)) → (rest : List ℕ)
    → (journal : List Entry) → Type 0
Writes Done closed answered limits written replies rest journal = IsWritten Done answered written replies
Writes Spent closed answered limits written replies rest journal = IsWritten Spent answered written replies
Writes (CutShort cut) closed answered limits written replies rest journal = IsWritten (CutShort cut) answered written replies
Writes (BadRequest bad) closed answered limits written replies rest journal = IsWritten (BadRequest bad) answered written replies
Writes (Busy kind) closed answered limits written replies rest journal = IsWritten (Busy kind) answered written replies
Writes ReadFault closed answered limits written replies rest journal = IsWritten ReadFault answered written replies
Writes WriteFault closed answered limits written replies rest journal =
    IsCutOff answered written replies ⊎ IsCutOffLast closed answered limits written replies rest journal
Writes NoMemory closed answered limits written replies rest journal = IsWritten NoMemory answered written replies

-- The serving theorem. What was taken begins with the requests of the new own entries, in their order; what was written spells the
-- replies that the run of the whole journal gives at their places. `entered` says what is entered into the journal for a request,
-- `paced` which of the clock's answers the moments are.
pub record Served {X : Type 0} (entry_of : X → Entry) (is_own : X → Bool) (entered : Request → Request) (paced : List ℕ → Type 0) (conn : ℕ)
    (limits : LimitNumbers) (left left' out out' : Option (List ℕ)) (ahead : Option (ℕ → ℕ)) (old new : Known X) (answered : ℕ) (end : End) : Type 0 where
  pub taken : List ℕ
  pub written : List ℕ
  pub entries : List X
  pub asked : List ℕ
  pub rest : List ℕ
  pub consumes : Consumes left left' taken
  pub appends : Appends out out' written
  pub requests : TakesRequests entered taken (map entry_of entries) rest
  pub placed : ArePlaced ahead conn 0 asked (map entry_of entries)
  pub pace : paced asked
  pub history : Grew is_own old new entries
  pub text : Writes end (is_closed (map entry_of entries)) answered limits written (own_texts entry_of is_own old.seen new.seen) rest (map entry_of new.seen)
  pub closing : ClosesLast (map entry_of entries)
  pub few : length entries ≤ limits.requests_max
  pub ends : Ends end (is_closed (map entry_of entries)) answered limits rest left' (map entry_of new.seen)
  pub forces : Forces (is_closed (map entry_of entries)) answered limits rest end

-- a journal that is all its server's own
abbrev pub all_own : {X : Type 0} → X → Bool
all_own x = true

abbrev pub known_alone : {X : Type 0} → List X → Known X
known_alone journal = record { seen = journal; mine = journal }

abbrev pub itself : Entry → Entry
itself entry = entry

-- The same of a server whose journal is all its own, which serves connection 0 and asks the clock once a request.
abbrev pub ServedAlone : (entered : Request → Request) → LimitNumbers → (left left' out out' : Option (List ℕ)) → Option (ℕ → ℕ) → (old new : List Entry) → (answered : ℕ) → End → Type 0
ServedAlone entered limits left left' out out' ahead old new answered end =
    Served itself all_own entered (FollowOn 0) 0 limits left left' out out' ahead (known_alone old) (known_alone new) answered end
