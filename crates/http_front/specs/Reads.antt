-- What one call of the reader answers, and why.
use Rattle.std.specs.Prelude.{◌≡◌, ◌≢◌, ◌⊎◌, ℕ, ◌+◌, ◌<◌, ◌≤◌, Bool, true, false, List, [], ◌++◌, length, All, Option, Some, None, Result, Ok, Err, ⊤}
use Rattle.std.specs.Io.KnownBytes.{Consumes, IsAtEnd}
use Rattle.std.specs.List.{flat_map}
use Rattle.httparse.specs.Grammar.{RequestHead, print_request, ReadsRequest, HasNoRequest, NeverHasRequest, MayBecomeRequest}
use Rattle.conn_io.specs.Causes.{Rose}
use Rattle.conn_io.specs.Crowded.{Crowded}
use Rattle.http_front.specs.declared.limits.TheConstants.{HEAD_MOST, HEADERS_MOST}
use Rattle.http_front.specs.declared.raw.Raw.{Raw}
use Rattle.http_front.specs.declared.answers.BadHttp.{BadHttp}
use Rattle.http_front.specs.declared.answers.BadHttp.TheVariants.{NoHead, HeadTooLong, TooManyHeaders, BadLength, NoLength, BodyTooLarge}
use Rattle.http_front.specs.declared.answers.FrontFault.{FrontFault}
use Rattle.http_front.specs.declared.answers.FrontFault.TheVariants.{Bad, CutShort, ReadFault, NoMemory}
use Rattle.http_front.specs.declared.answers.Next.{Next}
use Rattle.http_front.specs.declared.answers.Next.TheVariants.{Request, Ended}
use Rattle.http_front.specs.Requests.{RequestText, print_text, headers_in, TellsBody, IsComplete, raw_of, Begins, BeginsWithNone}
use Rattle.http_front.specs.Framings.{IsCoded, HasBadLength, HasLargeBody}

-- What a contract sees of a reader: the bytes that were taken from the source and belong to no request yet, and that the reader
-- has answered its last.
pub record Kept : Type 0 where
  pub bytes : List ℕ
  pub over : Bool

-- each head at the front of the bytes has more headers than are taken
abbrev pub HasOnlyManyHeaders : List ℕ → Type 0
HasOnlyManyHeaders bytes =
    (head : RequestHead) (rest : List ℕ) → ReadsRequest bytes head rest → HEADERS_MOST < length head.fields

-- each head at the front of the bytes is longer than is taken
abbrev pub HasOnlyLongHeads : List ℕ → Type 0
HasOnlyLongHeads bytes =
    (head : RequestHead) (rest : List ℕ) → ReadsRequest bytes head rest → HEAD_MOST < length (print_request head)

-- a head within the limits stands at the front of the bytes, and this follows it
pub record BeginsWithHead (bytes : List ℕ) (head : RequestHead) (rest : List ℕ) : Type 0 where
  pub reads : ReadsRequest bytes head rest
  pub short : length (print_request head) ≤ HEAD_MOST
  pub few : length head.fields ≤ HEADERS_MOST

-- what a whole head says against its request: the first of these in this order
abbrev pub ShowsFault : BadHttp → RequestHead → Type 0
ShowsFault NoLength head = IsCoded (headers_in head)
ShowsFault BadLength head = HasBadLength (headers_in head)
ShowsFault BodyTooLarge head = HasLargeBody (headers_in head)
ShowsFault NoHead head = ⊥
ShowsFault HeadTooLong head = ⊥
ShowsFault TooManyHeaders head = ⊥

-- a whole head stands at the front of the bytes, and shows this fault
pub record IsShown (bad : BadHttp) (bytes : List ℕ) : Type 0 where
  pub head : RequestHead
  pub rest : List ℕ
  pub begins : BeginsWithHead bytes head rest
  pub shows : ShowsFault bad head

-- What is said of bytes that are refused for this.
abbrev pub IsBad : BadHttp → List ℕ → Type 0
IsBad NoHead bytes = NeverHasRequest bytes
IsBad TooManyHeaders bytes = Crowded bytes × HasOnlyManyHeaders bytes
IsBad HeadTooLong bytes = (HEAD_MOST ≤ length bytes) × HasOnlyLongHeads bytes
IsBad NoLength bytes = IsShown NoLength bytes
IsBad BadLength bytes = IsShown BadLength bytes
IsBad BodyTooLarge bytes = IsShown BodyTooLarge bytes

-- a fault of bytes that have no whole head
abbrev pub IsHeadFault : BadHttp → Type 0
IsHeadFault NoHead = ⊤
IsHeadFault TooManyHeaders = ⊤
IsHeadFault HeadTooLong = ⊤
IsHeadFault NoLength = ⊥
IsHeadFault BadLength = ⊥
IsHeadFault BodyTooLarge = ⊥

-- Bytes that have no whole head at their front, and that show no reason why none comes: they are fewer than a head may have, they
-- are not crowded, and, where there are any, some bytes can follow that make them a head, or they end inside a target.
pub record AwaitsHead (bytes : List ℕ) : Type 0 where
  pub no_head : HasNoRequest bytes
  pub short : length bytes < HEAD_MOST
  pub not_crowded : Crowded bytes → ⊥
  pub goes_on : 1 ≤ length bytes → MayBecomeRequest bytes

-- bytes that have a whole head at their front that is taken, and not all of the body that it tells
pub record AwaitsBody (bytes : List ℕ) : Type 0 where
  pub head : RequestHead
  pub rest : List ℕ
  pub begins : BeginsWithHead bytes head rest
  pub many : ℕ
  pub tells : TellsBody (headers_in head) many
  pub missing : length rest < many

-- the bytes are the beginning of a request at most, and show nothing against it
abbrev pub IsUnfinished : List ℕ → Type 0
IsUnfinished bytes = AwaitsHead bytes ⊎ AwaitsBody bytes

-- the bytes begin with a complete request, whose parts are handed out, and what follows it is kept
pub record GivesRequest (bytes kept : List ℕ) (raw : Raw) : Type 0 where
  pub text : RequestText
  pub complete : IsComplete text
  pub whole : bytes ≡ print_text text ++ kept
  pub is_raw : raw ≡ raw_of text

-- no byte is at hand, and none is left
pub record GivesEnd (bytes : List ℕ) (left : Option (List ℕ)) : Type 0 where
  pub none : bytes ≡ []
  pub at_end : IsAtEnd left

-- bytes begin with no complete request and show why none is taken
pub record GivesBad (bad : BadHttp) (bytes : List ℕ) : Type 0 where
  pub some : 1 ≤ length bytes
  pub begins_with_none : BeginsWithNone bytes
  pub cause : IsBad bad bytes

-- so many bytes are the beginning of a request, so they begin with no complete one, and none is left
pub record GivesCutShort (bytes : List ℕ) (left : Option (List ℕ)) (count : ℕ) : Type 0 where
  pub count_is : count ≡ length bytes
  pub some : 1 ≤ count
  pub unfinished : IsUnfinished bytes
  pub begins_with_none : BeginsWithNone bytes
  pub at_end : IsAtEnd left

-- What an answer says. `bytes` are those kept before and those taken in this call, `left` is what the source tells afterwards,
-- `kept` what is kept behind a request. Behind every other answer nothing is kept.
abbrev pub Answers : (bytes : List ℕ) (left : Option (List ℕ)) (kept : List ℕ) → Result Next FrontFault → Type 0
Answers bytes left kept (Ok (Request raw)) = GivesRequest bytes kept raw
Answers bytes left kept (Ok Ended) = GivesEnd bytes left
Answers bytes left kept (Err (Bad bad)) = GivesBad bad bytes
Answers bytes left kept (Err (CutShort count)) = GivesCutShort bytes left count
Answers bytes left kept (Err ReadFault) = ⊤
Answers bytes left kept (Err NoMemory) = ⊤

-- of what was taken the first bytes are those of a head, and the others are missing of the body whose length it tells
pub record TakesBody (kept taken : List ℕ) : Type 0 where
  pub first : List ℕ
  pub more : List ℕ
  pub parts : taken ≡ first ++ more
  pub few : length (kept ++ first) ≤ HEAD_MOST
  pub head : RequestHead
  pub rest : List ℕ
  pub begins : BeginsWithHead (kept ++ first) head rest
  pub many : ℕ
  pub tells : TellsBody (headers_in head) many
  pub missing : length rest + length more ≤ many

-- What a call takes is no more than the rest of the bytes that a head may have, and then the missing bytes of its body.
abbrev pub TakesNoMore : List ℕ → List ℕ → Type 0
TakesNoMore kept taken = (length (kept ++ taken) ≤ HEAD_MOST) ⊎ TakesBody kept taken

-- One call of a reader that is not over: the bytes that it took, and what its answer says of them and of those kept before.
pub record Reads (left left' : Option (List ℕ)) (kept kept' : List ℕ) (result : Result Next FrontFault) : Type 0 where
  pub taken : List ℕ
  pub consumes : Consumes left left' taken
  pub no_more : TakesNoMore kept taken
  pub answers : Answers (kept ++ taken) left' kept' result

-- every answer but a request is the last one
abbrev pub is_last : Result Next FrontFault → Bool
is_last (Ok (Request raw)) = false
is_last (Ok Ended) = true
is_last (Err fault) = true

-- the source's count of faults rose where a read fault is answered, and is as before at every other answer
abbrev pub Counts : {T : Type 0} → ℕ → ℕ → Result T FrontFault → Type 0
Counts before now (Ok answer) = now ≡ before
Counts before now (Err (Bad cause)) = now ≡ before
Counts before now (Err (CutShort count)) = now ≡ before
Counts before now (Err ReadFault) = (before ≤ now) × Rose before now
Counts before now (Err NoMemory) = now ≡ before

-- a read fault or want of memory
abbrev pub IsOutsideFault : FrontFault → Type 0
IsOutsideFault (Bad cause) = ⊥
IsOutsideFault (CutShort count) = ⊥
IsOutsideFault ReadFault = ⊤
IsOutsideFault NoMemory = ⊤

-- the answer is these parts of a request, unless the outside failed
abbrev pub IsRequestUnlessOutside : Result Next FrontFault → Raw → Type 0
IsRequestUnlessOutside (Ok (Request raw)) wanted = raw ≡ wanted
IsRequestUnlessOutside (Ok Ended) wanted = ⊥
IsRequestUnlessOutside (Err fault) wanted = IsOutsideFault fault

-- the answer is that the input ended, unless the outside failed
abbrev pub IsEndUnlessOutside : Result Next FrontFault → Type 0
IsEndUnlessOutside (Ok (Request raw)) = ⊥
IsEndUnlessOutside (Ok Ended) = ⊤
IsEndUnlessOutside (Err fault) = IsOutsideFault fault

-- the answer is that so many bytes are cut short or that they are refused, unless the outside failed
abbrev pub IsCutUnlessOutside : Result Next FrontFault → ℕ → Type 0
IsCutUnlessOutside (Ok next) count = ⊥
IsCutUnlessOutside (Err (Bad cause)) count = ⊤
IsCutUnlessOutside (Err (CutShort n)) count = n ≡ count
IsCutUnlessOutside (Err ReadFault) count = ⊤
IsCutUnlessOutside (Err NoMemory) count = ⊤

-- the answer is that so many bytes are cut short, unless the outside failed
abbrev pub IsOnlyCutUnlessOutside : Result Next FrontFault → ℕ → Type 0
IsOnlyCutUnlessOutside (Ok next) count = ⊥
IsOnlyCutUnlessOutside (Err (Bad cause)) count = ⊥
IsOnlyCutUnlessOutside (Err (CutShort n)) count = n ≡ count
IsOnlyCutUnlessOutside (Err ReadFault) count = ⊤
IsOnlyCutUnlessOutside (Err NoMemory) count = ⊤

-- the answer is a fault of bytes without a whole head, unless the outside failed
abbrev pub IsHeadFaultUnlessOutside : Result Next FrontFault → Type 0
IsHeadFaultUnlessOutside (Ok next) = ⊥
IsHeadFaultUnlessOutside (Err (Bad bad)) = IsHeadFault bad
IsHeadFaultUnlessOutside (Err (CutShort count)) = ⊥
IsHeadFaultUnlessOutside (Err ReadFault) = ⊤
IsHeadFaultUnlessOutside (Err NoMemory) = ⊤

-- the answer is this fault, unless the outside failed
abbrev pub IsFaultUnlessOutside : Result Next FrontFault → BadHttp → Type 0
IsFaultUnlessOutside (Ok next) wanted = ⊥
IsFaultUnlessOutside (Err (Bad bad)) wanted = bad ≡ wanted
IsFaultUnlessOutside (Err (CutShort count)) wanted = ⊥
IsFaultUnlessOutside (Err ReadFault) wanted = ⊤
IsFaultUnlessOutside (Err NoMemory) wanted = ⊤

-- What all the bytes, those kept and all that the source has left, make of the answer.
pub record Foretells (bytes : List ℕ) (result : Result Next FrontFault) : Type 0 where
  pub request : (t : RequestText) (rest : List ℕ) → Begins bytes t rest → IsRequestUnlessOutside result (raw_of t)
  pub ended : bytes ≡ [] → IsEndUnlessOutside result
  pub cut : bytes ≢ [] → BeginsWithNone bytes → IsCutUnlessOutside result (length bytes)
  pub cut_body : AwaitsBody bytes → IsOnlyCutUnlessOutside result (length bytes)
  pub crowded : Crowded bytes → IsHeadFaultUnlessOutside result
  pub long : HEAD_MOST ≤ length bytes → HasOnlyLongHeads bytes → IsHeadFaultUnlessOutside result
  pub shown : (bad : BadHttp) (head : RequestHead) (rest : List ℕ) → BeginsWithHead bytes head rest → ShowsFault bad head
      → IsFaultUnlessOutside result bad

-- the same, where the source tells what it has left
abbrev pub IsForetold : List ℕ → Option (List ℕ) → Result Next FrontFault → Type 0
IsForetold kept None result = ⊤
IsForetold kept (Some left) result = Foretells (kept ++ left) result

-- Bytes that go on to be complete requests and nothing else are not refused, and are not cut short where nothing more comes.
pub record LeavesNoFault (bytes more : List ℕ) : Type 0 where
  pub not_bad : (bad : BadHttp) → IsBad bad bytes → ⊥
  pub not_cut : more ≡ [] → BeginsWithNone bytes → ⊥

abbrev pub IsFaultless : Type 0
IsFaultless =
    (bytes more : List ℕ) (texts : List RequestText) → bytes ++ more ≡ flat_map print_text texts → All IsComplete texts
    → bytes ≢ [] → LeavesNoFault bytes more
