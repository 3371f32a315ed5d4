-- What the definitions of a request say of its text.
use Rattle.std.proofs.Common.{◌≡◌, ℕ, ◌≤◌, List, [], ◌∷◌, ◌++◌, length, refl, sym, ap, ◌∙◌, subst, arith, append_assoc, append-nil, length-append, Some}
use Rattle.std.specs.List.{flat_map}
use Rattle.std.proofs.lemmas.List.Elements.{All-head, All-tail}
use Rattle.httparse.specs.Grammar.{RequestHead, IsRequestHead, print_request, print_blank, print_version, print_end, print_section, ReadsRequest, HasNoRequest}
use Rattle.httparse.proofs.GrammarLemmas.{request_unique, print_request-append}
use Rattle.http_front.specs.Reads.{AwaitsHead}
use Rattle.http_front.specs.Requests.{RequestText, print_text, headers_in, TellsBody, IsComplete, Begins, BeginsWithNone, IsUnique}

-- the head of a complete request is read from its bytes
pub Begins-reads : (bytes : List ℕ) (t : RequestText) (rest : List ℕ) → Begins bytes t rest → ReadsRequest bytes t.head (t.body ++ rest)
unfolding print_text
Begins-reads bytes t rest begins = (begins.0.head, begins.1 ∙ append_assoc (print_request t.head) t.body rest)

-- two fronts of one length are one
split_same : (a b r q : List ℕ) → length a ≡ length b → a ++ r ≡ b ++ q → (a ≡ b) × (r ≡ q)
split_same [] [] r q n e = (refl, e)
split_same [] (y ∷ b) r q n e = absurd (omega arith)
split_same (x ∷ a) [] r q n e = absurd (omega arith)
split_same (x ∷ a) (y ∷ b) r q n e =
    let less : length a ≡ length b = omega arith in
    let tails = split_same a b r q less (cc) in
    let first : x ≡ y = cc in
    (λ i. first i ∷ tails.0 i, tails.1)

some_same : (m n : ℕ) → Some m ≡ Some n → m ≡ n
some_same m n e = cc

-- headers tell one length
pub tells_once : (headers : List (List ℕ × List ℕ)) (m n : ℕ) → TellsBody headers m → TellsBody headers n → m ≡ n
tells_once headers m n x y = some_same m n (sym x.length_is ∙ y.length_is)

-- the body that the head of a complete request tells
pub tells_of : (head : RequestHead) (t : RequestText) → t.head ≡ head → IsComplete t → TellsBody (headers_in head) (length t.body)
tells_of head t same complete = subst (λ (h : RequestHead). TellsBody (headers_in h) (length t.body)) same complete.body

-- bytes begin with one complete request at most
pub Begins_unique : (bytes : List ℕ) (t u : RequestText) (r q : List ℕ) → Begins bytes t r → Begins bytes u q → (t ≡ u) × (r ≡ q)
Begins_unique bytes t u r q x y =
    let heads = request_unique bytes t.head u.head (t.body ++ r) (u.body ++ q) (Begins-reads bytes t r x) (Begins-reads bytes u q y) in
    let first = tells_of u.head t heads.0 x.0 in
    let bodies = split_same t.body u.body r q (tells_once (headers_in u.head) (length t.body) (length u.body) first y.0.body) heads.1 in
    (λ i. record { head = heads.0 i; body = bodies.0 i }, bodies.1)

-- a head has at least one byte
pub print_request_some : (h : RequestHead) (rest : List ℕ) → IsRequestHead h → 1 ≤ length (print_request h ++ rest)
print_request_some h rest is_head =
    let tail = h.target ++ 32 ∷ (print_version h.minor ++ (print_end h.line_end ++ (print_section h.fields h.last ++ rest))) in
    omega (arith, ap length (print_request-append h rest), length-append (print_blank h.blank) (h.method ++ 32 ∷ tail), length-append h.method (32 ∷ tail))

-- a request has at least one byte
pub print_text_some : (t : RequestText) (rest : List ℕ) → IsComplete t → 1 ≤ length (print_text t ++ rest)
unfolding print_text
print_text_some t rest complete =
    omega (arith, print_request_some t.head [] complete.head, ap length (append-nil (print_request t.head)), length-append (print_request t.head ++ t.body) rest, length-append (print_request t.head) t.body)

-- no bytes begin with no request
pub BeginsWithNone-nil : BeginsWithNone []
BeginsWithNone-nil t rest begins =
    let some = print_text_some t rest begins.0 in
    let none : ◌≡◌ {A = ℕ} 0 (length (print_text t ++ rest)) = ap length begins.1 in
    omega arith

-- bytes split in one way only
pub unique : IsUnique
unique bytes [] [] r q x y = (refl, sym x.whole ∙ y.whole)
unique bytes [] (u ∷ us) r q x y =
    absurd (x.last u (flat_map print_text us ++ q) (All-head IsComplete u us y.each, sym x.whole ∙ y.whole ∙ append_assoc (print_text u) (flat_map print_text us) q))
unique bytes (t ∷ ts) [] r q x y =
    absurd (y.last t (flat_map print_text ts ++ r) (All-head IsComplete t ts x.each, sym y.whole ∙ x.whole ∙ append_assoc (print_text t) (flat_map print_text ts) r))
unique bytes (t ∷ ts) (u ∷ us) r q x y =
    let first = Begins_unique bytes t u (flat_map print_text ts ++ r) (flat_map print_text us ++ q)
    (All-head IsComplete t ts x.each, x.whole ∙ append_assoc (print_text t) (flat_map print_text ts) r)
    (All-head IsComplete u us y.each, y.whole ∙ append_assoc (print_text u) (flat_map print_text us) q) in
    let tails = unique (flat_map print_text ts ++ r) ts us r q
    (record { whole = refl; each = All-tail IsComplete t ts x.each; last = x.last })
    (record { whole = first.1; each = All-tail IsComplete u us y.each; last = y.last }) in
    (λ i. first.0 i ∷ tails.0 i, tails.1)

no_head : HasNoRequest []
no_head h rest reads =
    let some = print_request_some h rest reads.0 in
    let none : ◌≡◌ {A = ℕ} 0 (length (print_request h ++ rest)) = ap length reads.1 in
    omega arith

-- without a byte there is room and no request
pub AwaitsHead-empty : (bytes : List ℕ) → length bytes ≡ 0 → AwaitsHead bytes
AwaitsHead-empty [] none = record {
  no_head = no_head;
  short = omega arith;
  not_crowded = λ crowded. let no : ⊥ = omega (arith, ap length crowded.whole, length-append (flat_map (λ line. line) crowded.empty_lines ++ flat_map (λ line. line) crowded.full_lines) (crowded.next ∷ crowded.more)) in no;
  goes_on = λ some. absurd (omega arith);
}
AwaitsHead-empty (b ∷ bytes) none = absurd (omega arith)
