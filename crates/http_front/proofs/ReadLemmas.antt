-- What a reader has read so far, and how its answers follow.
use Rattle.std.proofs.Common.{◌≡◌, ◌⊎◌, inl, inr, ℕ, ◌+◌, ◌≤◌, Bool, true, false, List, [], ◌++◌, length, drop, refl, sym, ap, ◌∙◌, subst, append_assoc, append-nil, Option, Some, None, Result, Ok, Err}
use Rattle.std.specs.Io.KnownBytes.{Consumes, IsAtEnd}
use Rattle.std.proofs.lemmas.Bool.{false≢true}
use Rattle.std.proofs.KnownBytes.{Consumes-trans}
use Rattle.http_front.specs.declared.limits.TheConstants.{HEAD_MOST}
use Rattle.http_front.specs.declared.answers.FrontFault.{FrontFault}
use Rattle.http_front.specs.declared.answers.FrontFault.TheVariants.{Bad, CutShort, ReadFault, NoMemory}
use Rattle.http_front.specs.declared.answers.Next.{Next}
use Rattle.http_front.specs.declared.find.Head.{Head}
use Rattle.http_front.specs.Reads.{Reads, Answers, AwaitsHead, BeginsWithHead, TakesNoMore, GivesEnd}
use Rattle.http_front.specs.Finds.{FindsHead}
use Rattle.http_front.specs.Steps.{MeetsHead, AwaitsMeeting, Finishes, EndsWith}
use Rattle.http_front.specs.Fills.{Outside, Fills, FillsNone}
use Rattle.http_front.proofs.CauseLemmas.{unfinished_begins_none}

-- bytes were read
pub record HasRead (before after : Outside) (old new : List ℕ) : Type 0 where
  pub taken : List ℕ
  pub consumes : Consumes before.left after.left taken
  pub grown : new ≡ old ++ taken
  pub counted : after.faults ≡ before.faults

-- one read that gave nothing
pub HasRead-ended : (before middle after : Outside) (old kept new : List ℕ) → HasRead before middle old kept → FillsNone middle after kept new
    → HasRead before after old new
HasRead-ended before middle after old kept new so_far none = record {
  taken = so_far.taken ++ [];
  consumes = Consumes-trans before.left middle.left after.left so_far.taken [] so_far.consumes none.consumes;
  grown = none.stays ∙ so_far.grown ∙ ap (λ (t : List ℕ). old ++ t) (sym (append-nil so_far.taken));
  counted = none.counted ∙ so_far.counted;
}

-- what was taken behind a fault of the read
pub record HasTaken (left left' : Option (List ℕ)) (old new : List ℕ) : Type 0 where
  pub taken : List ℕ
  pub consumes : Consumes left left' taken
  pub grown : new ≡ old ++ taken

pub HasTaken-read : (before after : Outside) (old new : List ℕ) → HasRead before after old new → HasTaken before.left after.left old new
HasTaken-read before after old new so_far = record { taken = so_far.taken; consumes = so_far.consumes; grown = so_far.grown }

-- ---- the wait for a head

pub Awaits-taken : (left left' : Option (List ℕ)) (old new : List ℕ) (result : Result (Option Head) FrontFault) → HasTaken left left' old new
    → MeetsHead new left' result → AwaitsMeeting left left' old new result
Awaits-taken left left' old new result so_far meets =
    record { taken = so_far.taken; consumes = so_far.consumes; grown = so_far.grown; meets = meets }

-- the end of the source is one
pub MeetsHead-end : (bytes : List ℕ) (left : Option (List ℕ)) (result : Result (Option Head) FrontFault) → AwaitsHead bytes → IsAtEnd left
    → EndsWith bytes result → MeetsHead bytes left result
MeetsHead-end bytes left (Ok (Some head)) awaits at_end ends = absurd ends
MeetsHead-end bytes left (Ok None) awaits at_end ends = record { none = ends; at_end = at_end }
MeetsHead-end bytes left (Err (Bad bad)) awaits at_end ends = absurd ends
MeetsHead-end bytes left (Err (CutShort count)) awaits at_end ends = record {
  count_is = ends.0;
  some = ends.1;
  unfinished = inl awaits;
  begins_with_none = unfinished_begins_none bytes (inl awaits);
  at_end = at_end;
}
MeetsHead-end bytes left (Err ReadFault) awaits at_end ends = absurd ends
MeetsHead-end bytes left (Err NoMemory) awaits at_end ends = absurd ends

pub Awaits-end : (before middle after : Outside) (old kept new : List ℕ) (room : ℕ) (some : Bool) (result : Result (Option Head) FrontFault)
    → HasRead before middle old kept → some ≡ false → Fills middle after kept new room (Ok some) → AwaitsHead kept → EndsWith new result
    → AwaitsMeeting before.left after.left old new result
Awaits-end before middle after old kept new room true result so_far is fills awaits ends = absurd (false≢true (sym is))
Awaits-end before middle after old kept new room false result so_far is fills awaits ends =
    Awaits-taken before.left after.left old new result (HasTaken-read before after old new (HasRead-ended before middle after old kept new so_far fills))
    (MeetsHead-end new after.left result (subst (λ (t : List ℕ). AwaitsHead t) (sym fills.stays) awaits) fills.at_end ends)

-- ---- the answers

-- a fault of the wait is the answer
pub Answers-meets : (bytes : List ℕ) (left : Option (List ℕ)) (kept : List ℕ) (fault : FrontFault) → MeetsHead bytes left (Err fault)
    → Answers bytes left kept (Err fault)
Answers-meets bytes left kept (Bad bad) meets = meets
Answers-meets bytes left kept (CutShort count) meets = meets
Answers-meets bytes left kept ReadFault meets = tt
Answers-meets bytes left kept NoMemory meets = tt

takes_no_more : (old kept first more : List ℕ) (head : Head) → kept ≡ old ++ first → length kept ≤ HEAD_MOST → FindsHead kept head
    → (more ≡ []) ⊎ (length (drop head.head_bytes kept) + length more ≤ head.body_bytes) → TakesNoMore old (first ++ more)
takes_no_more old kept first more head grown few finds (inl none) =
    let same : old ++ (first ++ more) ≡ kept = ap (λ (t : List ℕ). old ++ (first ++ t)) none ∙ ap (λ (t : List ℕ). old ++ t) (append-nil first) ∙ sym grown in
    inl (subst (λ (t : List ℕ). length t ≤ HEAD_MOST) (sym same) few)
takes_no_more old kept first more head grown few finds (inr missing) = inr (record {
  first = first;
  more = more;
  parts = refl;
  few = subst (λ (t : List ℕ). length t ≤ HEAD_MOST) grown few;
  head = finds.text;
  rest = drop head.head_bytes kept;
  begins = subst (λ (t : List ℕ). BeginsWithHead t finds.text (drop head.head_bytes kept)) grown finds.begins;
  many = head.body_bytes;
  tells = finds.tells;
  missing = missing;
})

-- what follows a head is the answer
pub Reads-finish : (left middle left' : Option (List ℕ)) (old kept new : List ℕ) (head : Head) (result : Result Next FrontFault)
    → AwaitsMeeting left middle old kept (Ok (Some head)) → length kept ≤ HEAD_MOST → Finishes middle left' kept new head result
    → Reads left left' old new result
Reads-finish left middle left' old kept new head result awaits few finishes =
    let all : kept ++ finishes.taken ≡ old ++ (awaits.taken ++ finishes.taken) =
    ap (λ (t : List ℕ). t ++ finishes.taken) awaits.grown ∙ append_assoc old awaits.taken finishes.taken in
    record {
      taken = awaits.taken ++ finishes.taken;
      consumes = Consumes-trans left middle left' awaits.taken finishes.taken awaits.consumes finishes.consumes;
      no_more = takes_no_more old kept awaits.taken finishes.taken head awaits.grown few awaits.meets finishes.no_more;
      answers = subst (λ (t : List ℕ). Answers t left' new result) all finishes.answers;
    }

-- where nothing was read
pub kept_end : (left left' : Option (List ℕ)) (old new : List ℕ) → AwaitsMeeting left left' old new (Ok None) → new ≡ old → GivesEnd old left'
kept_end left left' old new awaits same = subst (λ (t : List ℕ). GivesEnd t left') same awaits.meets

pub kept_fault : (left left' : Option (List ℕ)) (old new kept : List ℕ) (fault : FrontFault) → AwaitsMeeting left left' old new (Err fault) → new ≡ old
    → Answers old left' kept (Err fault)
kept_fault left left' old new kept fault awaits same =
    subst (λ (t : List ℕ). Answers t left' kept (Err fault)) same (Answers-meets new left' kept fault awaits.meets)
