-- The causes of the faults: they exclude one another, complete requests, and the beginnings of requests.
use Rattle.std.proofs.Common.{◌≡◌, inl, inr, ℕ, ◌≤◌, List, [], ◌∷◌, ◌++◌, length, refl, sym, ap, ◌∙◌, subst, arith, append-nil, length-append, Some}
use Rattle.std.specs.List.{flat_map}
use Rattle.httparse.specs.Grammar.{RequestHead, print_request}
use Rattle.httparse.proofs.GrammarLemmas.{request_unique, ReadsRequest-append}
use Rattle.conn_io.specs.Crowded.{Crowded}
use Rattle.http_front.specs.declared.limits.TheConstants.{HEAD_MOST}
use Rattle.http_front.specs.declared.answers.BadHttp.{BadHttp}
use Rattle.http_front.specs.declared.answers.BadHttp.TheVariants.{NoHead, HeadTooLong, TooManyHeaders, BadLength, NoLength, BodyTooLarge}
use Rattle.http_front.specs.Requests.{RequestText, headers_in, TellsBody, Begins, BeginsWithNone}
use Rattle.http_front.specs.Reads.{BeginsWithHead, ShowsFault, IsBad, IsHeadFault, AwaitsBody, IsUnfinished, HasOnlyLongHeads}
use Rattle.http_front.proofs.TextLemmas.{Begins-reads, tells_once, tells_of}
use Rattle.http_front.proofs.HeadLines.{crowded_excludes}

-- ---- one head

-- it shows one fault
pub one_fault : (h : RequestHead) (a b : BadHttp) → ShowsFault a h → ShowsFault b h → a ≡ b
one_fault h NoLength NoLength x y = refl
one_fault h NoLength BadLength x y = absurd (x y.no_coding)
one_fault h NoLength BodyTooLarge x y = absurd (x y.no_coding)
one_fault h BadLength NoLength x y = absurd (y x.no_coding)
one_fault h BadLength BadLength x y = refl
one_fault h BadLength BodyTooLarge x y = absurd (let e = sym x.none_told ∙ y.length_is in cc)
one_fault h BodyTooLarge NoLength x y = absurd (y x.no_coding)
one_fault h BodyTooLarge BadLength x y = absurd (let e = sym y.none_told ∙ x.length_is in cc)
one_fault h BodyTooLarge BodyTooLarge x y = refl
one_fault h NoHead b x y = absurd x
one_fault h HeadTooLong b x y = absurd x
one_fault h TooManyHeaders b x y = absurd x
one_fault h a NoHead x y = absurd y
one_fault h a HeadTooLong x y = absurd y
one_fault h a TooManyHeaders x y = absurd y

some_same : (m n : ℕ) → Some m ≡ Some n → m ≡ n
some_same m n e = cc

-- one that tells a body shows no fault
pub no_fault : (h : RequestHead) (a : BadHttp) (n : ℕ) → TellsBody (headers_in h) n → ShowsFault a h → ⊥
no_fault h NoLength n x y = y x.no_coding
no_fault h BadLength n x y = let e = sym y.none_told ∙ x.length_is in absurd (cc)
no_fault h BodyTooLarge n x y =
    let same : y.many ≡ n = some_same y.many n (sym y.length_is ∙ x.length_is) in
    let no : ⊥ = omega (arith, y.too_large, x.within, same) in no
no_fault h NoHead n x y = y
no_fault h HeadTooLong n x y = y
no_fault h TooManyHeaders n x y = y

-- ---- a whole head at the front

-- the head of a complete request stands at the front
pub Begins-head : (bytes : List ℕ) (t : RequestText) (rest : List ℕ) → Begins bytes t rest → BeginsWithHead bytes t.head (t.body ++ rest)
Begins-head bytes t rest begins = record { reads = Begins-reads bytes t rest begins; short = begins.0.short; few = begins.0.few }

-- and whatever follows the bytes
pub BeginsWithHead-append : (bytes more : List ℕ) (h : RequestHead) (rest : List ℕ) → BeginsWithHead bytes h rest → BeginsWithHead (bytes ++ more) h (rest ++ more)
BeginsWithHead-append bytes more h rest at = record { reads = ReadsRequest-append bytes h rest more at.reads; short = at.short; few = at.few }

-- one head stands there
pub heads_same : (bytes : List ℕ) (h k : RequestHead) (r q : List ℕ) → BeginsWithHead bytes h r → BeginsWithHead bytes k q → (h ≡ k) × (r ≡ q)
heads_same bytes h k r q x y = request_unique bytes h k r q x.reads y.reads

-- a front that is no longer than the first part lies in it
front_within : (p a b r : List ℕ) → a ++ b ≡ p ++ r → length p ≤ length a → (q : List ℕ) × (a ≡ p ++ q)
front_within [] a b r e fits = (a, refl)
front_within (x ∷ p) [] b r e fits = absurd (omega arith)
front_within (x ∷ p) (y ∷ a) b r e fits =
    let rest = front_within p a b r (cc) (omega arith) in
    let first : y ≡ x = cc in
    (rest.0, λ i. first i ∷ rest.1 i)

-- a head that is too long is none within the limits, whatever follows the bytes
pub long_excludes : (bytes more : List ℕ) (h : RequestHead) (rest : List ℕ) → HEAD_MOST ≤ length bytes → HasOnlyLongHeads bytes
    → BeginsWithHead (bytes ++ more) h rest → ⊥
long_excludes bytes more h rest long only at =
    let front = front_within (print_request h) bytes more rest at.reads.1 (omega (arith, at.short)) in
    let longer = only h front.0 (at.reads.0, front.1) in
    let no : ⊥ = omega (arith, at.short) in no

shown_again : (bad : BadHttp) (bytes more : List ℕ) (h k : RequestHead) (r q : List ℕ) → BeginsWithHead bytes h r → ShowsFault bad h
    → BeginsWithHead (bytes ++ more) k q → ShowsFault bad k
shown_again bad bytes more h k r q at shows other =
    subst (λ (x : RequestHead). ShowsFault bad x) (heads_same (bytes ++ more) h k (r ++ more) q (BeginsWithHead-append bytes more h r at) other).0 shows

-- Where bytes are refused and go on to have a whole head at the front, that head shows the fault.
pub bad_shows : (bad : BadHttp) (bytes more : List ℕ) (h : RequestHead) (rest : List ℕ) → IsBad bad bytes → BeginsWithHead (bytes ++ more) h rest
    → ShowsFault bad h
bad_shows NoHead bytes more h rest bad at = absurd (bad more h rest at.reads)
bad_shows TooManyHeaders bytes more h rest bad at = absurd (crowded_excludes bytes more h rest bad.0 at.few at.reads)
bad_shows HeadTooLong bytes more h rest bad at = absurd (long_excludes bytes more h rest bad.0 bad.1 at)
bad_shows NoLength bytes more h rest bad at = shown_again NoLength bytes more bad.head h bad.rest rest bad.begins bad.shows at
bad_shows BadLength bytes more h rest bad at = shown_again BadLength bytes more bad.head h bad.rest rest bad.begins bad.shows at
bad_shows BodyTooLarge bytes more h rest bad at = shown_again BodyTooLarge bytes more bad.head h bad.rest rest bad.begins bad.shows at

-- refused bytes begin no complete request, whatever follows them
pub bad_begins_none : (bad : BadHttp) (bytes more : List ℕ) → IsBad bad bytes → BeginsWithNone (bytes ++ more)
bad_begins_none bad bytes more cause t rest begins =
    no_fault t.head bad (length t.body) begins.0.body (bad_shows bad bytes more t.head (t.body ++ rest) cause (Begins-head (bytes ++ more) t rest begins))

-- they are no request whose body is missing
pub bad_awaits_none : (bad : BadHttp) (bytes more : List ℕ) → IsBad bad bytes → AwaitsBody (bytes ++ more) → ⊥
bad_awaits_none bad bytes more cause awaits =
    no_fault awaits.head bad awaits.many awaits.tells (bad_shows bad bytes more awaits.head awaits.rest cause awaits.begins)

-- unfinished bytes begin no complete request
pub unfinished_begins_none : (bytes : List ℕ) → IsUnfinished bytes → BeginsWithNone bytes
unfinished_begins_none bytes (inl awaits) t rest begins = awaits.no_head t.head (t.body ++ rest) (Begins-reads bytes t rest begins)
unfinished_begins_none bytes (inr awaits) t rest begins =
    let same = heads_same bytes t.head awaits.head (t.body ++ rest) awaits.rest (Begins-head bytes t rest begins) awaits.begins in
    let many : awaits.many ≡ length t.body = tells_once (headers_in awaits.head) awaits.many (length t.body) awaits.tells (tells_of awaits.head t same.0 begins.0) in
    let no : ⊥ = omega (arith, awaits.missing, many, ap length same.1, length-append t.body rest) in no

-- a head that shows a fault is of no unfinished bytes
pub unfinished_shows_none : (bytes : List ℕ) (bad : BadHttp) (h : RequestHead) (rest : List ℕ) → IsUnfinished bytes → BeginsWithHead bytes h rest
    → ShowsFault bad h → ⊥
unfinished_shows_none bytes bad h rest (inl awaits) at shows = awaits.no_head h rest at.reads
unfinished_shows_none bytes bad h rest (inr awaits) at shows =
    let same = heads_same bytes awaits.head h awaits.rest rest awaits.begins at in
    no_fault h bad awaits.many (subst (λ (k : RequestHead). TellsBody (headers_in k) awaits.many) same.0 awaits.tells) shows

-- nor of a complete request
pub complete_shows_none : (bytes : List ℕ) (bad : BadHttp) (h : RequestHead) (rest : List ℕ) (t : RequestText) (behind : List ℕ) → Begins bytes t behind
    → BeginsWithHead bytes h rest → ShowsFault bad h → ⊥
complete_shows_none bytes bad h rest t behind begins at shows =
    let same = heads_same bytes t.head h (t.body ++ behind) rest (Begins-head bytes t behind begins) at in
    no_fault h bad (length t.body) (tells_of h t same.0 begins.0) shows

-- ---- no whole head

-- where no whole head can stand at the front, the fault is one of bytes without a head
pub head_fault : (bad : BadHttp) (bytes more : List ℕ) → IsBad bad bytes
    → ((h : RequestHead) (rest : List ℕ) → BeginsWithHead (bytes ++ more) h rest → ⊥) → IsHeadFault bad
head_fault NoHead bytes more bad none = tt
head_fault TooManyHeaders bytes more bad none = tt
head_fault HeadTooLong bytes more bad none = tt
head_fault NoLength bytes more bad none = none bad.head (bad.rest ++ more) (BeginsWithHead-append bytes more bad.head bad.rest bad.begins)
head_fault BadLength bytes more bad none = none bad.head (bad.rest ++ more) (BeginsWithHead-append bytes more bad.head bad.rest bad.begins)
head_fault BodyTooLarge bytes more bad none = none bad.head (bad.rest ++ more) (BeginsWithHead-append bytes more bad.head bad.rest bad.begins)

-- crowded bytes have no whole head
pub crowded_no_head : (bytes : List ℕ) → Crowded bytes → (h : RequestHead) (rest : List ℕ) → BeginsWithHead bytes h rest → ⊥
crowded_no_head bytes crowded h rest at = crowded_excludes bytes [] h rest crowded at.few (at.reads.0, append-nil bytes ∙ at.reads.1)

-- nor have those with long heads alone
pub long_no_head : (bytes : List ℕ) → HasOnlyLongHeads bytes → (h : RequestHead) (rest : List ℕ) → BeginsWithHead bytes h rest → ⊥
long_no_head bytes only h rest at = let longer = only h rest at.reads in let no : ⊥ = omega (arith, at.short) in no

-- crowded bytes have a byte
pub crowded_some : (bytes : List ℕ) → Crowded bytes → 1 ≤ length bytes
crowded_some bytes crowded =
    omega (arith, ap length crowded.whole, length-append (flat_map (λ line. line) crowded.empty_lines ++ flat_map (λ line. line) crowded.full_lines) (crowded.next ∷ crowded.more))
