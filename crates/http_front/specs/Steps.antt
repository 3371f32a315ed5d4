-- The steps of a call of the reader.
use Rattle.std.specs.Prelude.{◌≡◌, ◌⊎◌, ℕ, ◌+◌, ◌<◌, ◌≤◌, Bool, true, false, List, [], ◌++◌, length, drop, Option, Some, None, Result, Ok, Err, ⊤}
use Rattle.std.specs.Io.KnownBytes.{Consumes, IsAtEnd}
use Rattle.http_front.specs.declared.answers.FrontFault.{FrontFault}
use Rattle.http_front.specs.declared.answers.FrontFault.TheVariants.{Bad, CutShort, ReadFault, NoMemory}
use Rattle.http_front.specs.declared.answers.Next.{Next}
use Rattle.http_front.specs.declared.find.Head.{Head}
use Rattle.http_front.specs.Reads.{GivesEnd, GivesBad, GivesCutShort, Answers}
use Rattle.http_front.specs.Finds.{FindsHead}

-- What a wait for a head says of all the bytes at hand.
abbrev pub MeetsHead : List ℕ → Option (List ℕ) → Result (Option Head) FrontFault → Type 0
MeetsHead bytes left (Ok (Some head)) = FindsHead bytes head
MeetsHead bytes left (Ok None) = GivesEnd bytes left
MeetsHead bytes left (Err (Bad bad)) = GivesBad bad bytes
MeetsHead bytes left (Err (CutShort count)) = GivesCutShort bytes left count
MeetsHead bytes left (Err ReadFault) = ⊤
MeetsHead bytes left (Err NoMemory) = ⊤

-- bytes were read up to a head, or up to an answer that there is none
pub record AwaitsMeeting (left left' : Option (List ℕ)) (old new : List ℕ) (result : Result (Option Head) FrontFault) : Type 0 where
  pub taken : List ℕ
  pub consumes : Consumes left left' taken
  pub grown : new ≡ old ++ taken
  pub meets : MeetsHead new left' result

-- bytes were added to a body, and no more than are missing
pub record GrowsBody (left left' : Option (List ℕ)) (old new : List ℕ) (many : ℕ) : Type 0 where
  pub taken : List ℕ
  pub consumes : Consumes left left' taken
  pub grown : new ≡ old ++ taken
  pub few : length new ≤ many

-- all of the body is there
pub record FillsWhole (left left' : Option (List ℕ)) (old new : List ℕ) (many : ℕ) : Type 0 where
  pub grows : GrowsBody left left' old new many
  pub whole : length new ≡ many

-- some of the body is missing, and the source gives no more
pub record FillsShort (left left' : Option (List ℕ)) (old new : List ℕ) (many : ℕ) : Type 0 where
  pub grows : GrowsBody left left' old new many
  pub missing : length new < many
  pub at_end : IsAtEnd left'

abbrev pub FillsBody : Option (List ℕ) → Option (List ℕ) → List ℕ → List ℕ → ℕ → Result Bool FrontFault → Type 0
FillsBody left left' old new many (Ok true) = FillsWhole left left' old new many
FillsBody left left' old new many (Ok false) = FillsShort left left' old new many
FillsBody left left' old new many (Err (Bad bad)) = ⊥
FillsBody left left' old new many (Err (CutShort count)) = ⊥
FillsBody left left' old new many (Err ReadFault) = GrowsBody left left' old new many
FillsBody left left' old new many (Err NoMemory) = GrowsBody left left' old new many

-- the bytes kept behind a head begin with these of its body, as many of them as there are, and the others stay
pub record TakesKept (old new : List ℕ) (head_bytes body_bytes : ℕ) (body : List ℕ) : Type 0 where
  pub parts : drop head_bytes old ≡ body ++ new
  pub few : length body ≤ body_bytes
  pub all : length body < body_bytes → new ≡ []

-- behind the head at the front of the bytes kept its body was read, no more of it than was missing
pub record Finishes (left left' : Option (List ℕ)) (old new : List ℕ) (head : Head) (result : Result Next FrontFault) : Type 0 where
  pub taken : List ℕ
  pub consumes : Consumes left left' taken
  pub no_more : (taken ≡ []) ⊎ (length (drop head.head_bytes old) + length taken ≤ head.body_bytes)
  pub answers : Answers (old ++ taken) left' new result

-- what is said where no more bytes come
abbrev pub EndsWith : List ℕ → Result (Option Head) FrontFault → Type 0
EndsWith bytes (Ok (Some head)) = ⊥
EndsWith bytes (Ok None) = bytes ≡ []
EndsWith bytes (Err (Bad bad)) = ⊥
EndsWith bytes (Err (CutShort count)) = (count ≡ length bytes) × (1 ≤ count)
EndsWith bytes (Err ReadFault) = ⊥
EndsWith bytes (Err NoMemory) = ⊥
