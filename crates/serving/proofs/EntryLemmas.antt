-- One entry more at the end.
use Rattle.std.proofs.Common.{◌≡◌, ℕ, false, refl, suc, ◌+◌, List, [], ◌∷◌, ◌++◌, length, map, Option, sym, ap, ◌∙◌, append_assoc, append-nil, length-append, arith, rules}
use Rattle.std.specs.Prelude.{All}
use Rattle.std.specs.List.{flat_map}
use Rattle.std.proofs.lemmas.List.{map-append}
use Rattle.std.proofs.lemmas.List.Elements.{All-nil, All-append, All-head, All-tail}
use Rattle.namespace_model.specs.declared.request.Request.{Request}
use Rattle.std.proofs.lemmas.Grind.{flat_map-append}
use Rattle.http_front.specs.Requests.{RequestText, print_text, IsComplete, raw_of}
use Rattle.namespace_model.specs.declared.request.Entry.{Entry}
use Rattle.op_decode.specs.Decoded.{decoded}
use Rattle.serving.specs.Served.{TakesRequests, IsPlaced, ArePlaced, ClosesLast, is_closed, entered_in, request_of}

-- the entry asks for no close
abbrev pub StaysOpen : Entry → Type 0
StaysOpen e = e.request.close ≡ false

All-one : {X : Type 0} (P : X → Type 0) (x : X) → P x → All P (x ∷ [])
All-one P x h = search (rules, All-nil)

-- bytes that were read come behind those kept
pub takes-more : (entered : Request → Request) (taken kept more : List ℕ) (entries : List Entry) → TakesRequests entered taken entries kept → TakesRequests entered (taken ++ more) entries (kept ++ more)
takes-more entered taken kept more entries takes = record {
  texts = takes.texts;
  whole = ap (λ (l : List ℕ). l ++ more) takes.whole ∙ append_assoc (flat_map print_text takes.texts) kept more;
  each = takes.each;
  decodes = takes.decodes;
}

-- the request at the front of the rest is answered
pub takes-request : (entered : Request → Request) (taken rest kept : List ℕ) (entries : List Entry) (t : RequestText) (e : Entry) → TakesRequests entered taken entries rest → IsComplete t
    → rest ≡ print_text t ++ kept → e.request ≡ entered (decoded (raw_of t)) → TakesRequests entered taken (entries ++ e ∷ []) kept
takes-request entered taken rest kept entries t e takes complete front is = record {
  texts = takes.texts ++ t ∷ [];
  whole =
      takes.whole ∙ ap (λ (l : List ℕ). flat_map print_text takes.texts ++ l) front ∙ sym (append_assoc (flat_map print_text takes.texts) (print_text t) kept)
      ∙ ap (λ (l : List ℕ). l ++ kept) (sym (flat_map-append print_text takes.texts (t ∷ []) ∙ ap (λ (l : List ℕ). flat_map print_text takes.texts ++ l) (append-nil (print_text t))));
  each = All-append IsComplete takes.texts (t ∷ []) takes.each (All-one IsComplete t complete);
  decodes =
      map-append request_of entries (e ∷ []) ∙ ap (λ (l : List Request). l ++ request_of e ∷ []) takes.decodes
      ∙ ap (λ (r : Request). map (entered_in entered) takes.texts ++ r ∷ []) is ∙ sym (map-append (entered_in entered) takes.texts (t ∷ []));
}

pub placed-push : (ahead : Option (ℕ → ℕ)) (conn place : ℕ) (ks : List ℕ) (k : ℕ) (es : List Entry) (e : Entry) → ArePlaced ahead conn place ks es
    → IsPlaced ahead conn (length es + place) k e → ArePlaced ahead conn place (ks ++ k ∷ []) (es ++ e ∷ [])
placed-push ahead conn place [] k [] e are is = let at : 0 + place ≡ place = omega arith in (rw at at is, tt)
placed-push ahead conn place [] k (x ∷ es) e are is = absurd are
placed-push ahead conn place (j ∷ ks) k [] e are is = absurd are
placed-push ahead conn place (j ∷ ks) k (x ∷ es) e are is =
    let at : suc (length es) + place ≡ length es + suc place = omega arith in
    (are.0, placed-push ahead conn (suc place) ks k es e are.1 (rw at at is))

pub open-push : (es : List Entry) (e : Entry) → All StaysOpen es → StaysOpen e → All StaysOpen (es ++ e ∷ [])
open-push es e are is = All-append StaysOpen es (e ∷ []) are (All-one StaysOpen e is)

-- where no entry closes, none but the last does
pub closes-last : (es : List Entry) → All StaysOpen es → ClosesLast es
closes-last [] are = tt
closes-last (e ∷ []) are = tt
closes-last (e ∷ f ∷ es) are =
    let rest = All-tail StaysOpen e (f ∷ es) are in
    (All-head StaysOpen e (f ∷ es) are, closes-last (f ∷ es) rest)

-- nor does the last
pub none-closed : (es : List Entry) → All StaysOpen es → is_closed es ≡ false
none-closed [] are = refl
none-closed (e ∷ []) are = All-head StaysOpen e [] are
none-closed (e ∷ f ∷ es) are = none-closed (f ∷ es) (All-tail StaysOpen e (f ∷ es) are)

-- behind entries of which none closes one more may close
pub closes-last-push : (es : List Entry) (e : Entry) → All StaysOpen es → ClosesLast (es ++ e ∷ [])
closes-last-push [] e are = tt
closes-last-push (x ∷ []) e are = (All-head StaysOpen x [] are, tt)
closes-last-push (x ∷ y ∷ es) e are =
    let rest = All-tail StaysOpen x (y ∷ es) are in
    (All-head StaysOpen x (y ∷ es) are, closes-last-push (y ∷ es) e rest)

-- and it says whether the last closes
pub closed-push : (es : List Entry) (e : Entry) → is_closed (es ++ e ∷ []) ≡ e.request.close
closed-push [] e = refl
closed-push (x ∷ []) e = refl
closed-push (x ∷ y ∷ es) e = closed-push (y ∷ es) e
