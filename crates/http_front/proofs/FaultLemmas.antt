-- What all the bytes of a source say of an answer.
use Rattle.std.proofs.Common.{◌≡◌, ℕ, ◌≤◌, List, [], ◌∷◌, ◌++◌, length, refl, sym, ap, ◌∙◌, subst, arith, append_assoc, append-nil, inl, inr, Option, Some, None, Result, Ok, Err}
use Rattle.std.specs.List.{flat_map}
use Rattle.std.proofs.lemmas.List.Elements.{All-head}
use Rattle.http_front.specs.declared.limits.TheConstants.{HEAD_MOST}
use Rattle.http_front.specs.declared.answers.FrontFault.{FrontFault}
use Rattle.http_front.specs.declared.answers.FrontFault.TheVariants.{Bad, CutShort, ReadFault, NoMemory}
use Rattle.http_front.specs.declared.answers.Next.{Next}
use Rattle.http_front.specs.declared.answers.Next.TheVariants.{Request, Ended}
use Rattle.http_front.specs.Requests.{print_text, IsComplete, raw_of, Begins}
use Rattle.httparse.specs.Grammar.{RequestHead}
use Rattle.http_front.specs.Reads.{Reads, Answers, Foretells, IsForetold, IsFaultless, AwaitsBody, IsUnfinished, BeginsWithHead, HasOnlyLongHeads}
use Rattle.http_front.proofs.TextLemmas.{Begins_unique, BeginsWithNone-nil, print_text_some, print_request_some}
use Rattle.conn_io.specs.Crowded.{Crowded}
use Rattle.http_front.proofs.CauseLemmas.{Begins-head, bad_shows, bad_begins_none, bad_awaits_none, head_fault, crowded_no_head, long_no_head, crowded_some, one_fault, complete_shows_none, unfinished_shows_none, unfinished_begins_none}

-- no bytes are no byte
none_some : (bytes : List ℕ) → bytes ≡ [] → 1 ≤ length bytes → ⊥
none_some bytes none some = let zero : length bytes ≡ 0 = ap length none in let no : ⊥ = omega arith in no

-- the front of no bytes is no bytes
front_none : (a b : List ℕ) → a ++ b ≡ [] → a ≡ []
front_none [] b e = refl
front_none (x ∷ a) b e = absurd (none_some ((x ∷ a) ++ b) e (omega arith))

-- a head has a byte
head_some : (bytes : List ℕ) (head : RequestHead) (rest : List ℕ) → BeginsWithHead bytes head rest → 1 ≤ length bytes
head_some bytes head rest at = omega (arith, print_request_some head rest at.reads.0, ap length at.reads.1)

-- unfinished bytes are not crowded
unfinished_crowded : (bytes : List ℕ) → IsUnfinished bytes → Crowded bytes → ⊥
unfinished_crowded bytes (inl awaits) crowded = awaits.not_crowded crowded
unfinished_crowded bytes (inr awaits) crowded = crowded_no_head bytes crowded awaits.head awaits.rest awaits.begins

-- nor are they without a head that is short enough, where they are as many as a head may have
unfinished_long : (bytes : List ℕ) → IsUnfinished bytes → HEAD_MOST ≤ length bytes → HasOnlyLongHeads bytes → ⊥
unfinished_long bytes (inl awaits) long only = let no : ⊥ = omega (arith, long, awaits.short) in no
unfinished_long bytes (inr awaits) long only = long_no_head bytes only awaits.head awaits.rest awaits.begins

foretells : (all bytes left kept : List ℕ) (result : Result Next FrontFault) → all ≡ bytes ++ left → Answers bytes (Some left) kept result
    → Foretells all result
foretells all bytes left kept (Ok (Request raw)) whole given =
    let begins : Begins all given.text (kept ++ left) =
    (given.complete, whole ∙ ap (λ (t : List ℕ). t ++ left) given.whole ∙ append_assoc (print_text given.text) kept left) in
    let head = Begins-head all given.text (kept ++ left) begins in
    record {
      request = λ t rest other. given.is_raw ∙ ap raw_of (Begins_unique all given.text t (kept ++ left) rest begins other).0;
      ended = λ none. none_some (print_text given.text ++ (kept ++ left)) (sym begins.1 ∙ none) (print_text_some given.text (kept ++ left) given.complete);
      cut = λ some none. none given.text (kept ++ left) begins;
      cut_body = λ awaits. unfinished_begins_none all (inr awaits) given.text (kept ++ left) begins;
      crowded = λ crowded. crowded_no_head all crowded given.text.head (given.text.body ++ (kept ++ left)) head;
      long = λ long only. long_no_head all only given.text.head (given.text.body ++ (kept ++ left)) head;
      shown = λ bad h rest at shows. complete_shows_none all bad h rest given.text (kept ++ left) begins at shows;
    }
foretells all bytes left kept (Ok Ended) whole given =
    let none : all ≡ [] = whole ∙ ap (λ (t : List ℕ). t ++ left) given.none ∙ given.at_end in
    record {
      request = λ t rest begins. BeginsWithNone-nil t rest (begins.0, sym none ∙ begins.1);
      ended = λ _. tt;
      cut = λ some _. some none;
      cut_body = λ awaits. none_some all none (head_some all awaits.head awaits.rest awaits.begins);
      crowded = λ crowded. none_some all none (crowded_some all crowded);
      long = λ long _. none_some all none (omega (arith, long));
      shown = λ bad h rest at _. none_some all none (head_some all h rest at);
    }
foretells all bytes left kept (Err (Bad bad)) whole given = record {
  request = λ t rest begins. bad_begins_none bad bytes left given.cause t rest (begins.0, sym whole ∙ begins.1);
  ended = λ none. none_some bytes (front_none bytes left (sym whole ∙ none)) given.some;
  cut = λ _ _. tt;
  cut_body = λ awaits. bad_awaits_none bad bytes left given.cause (subst (λ (t : List ℕ). AwaitsBody t) whole awaits);
  crowded = λ crowded. head_fault bad bytes left given.cause (crowded_no_head (bytes ++ left) (subst (λ (t : List ℕ). Crowded t) whole crowded));
  long = λ long only. head_fault bad bytes left given.cause (λ h rest at. long_no_head all only h rest (subst (λ (t : List ℕ). BeginsWithHead t h rest) (sym whole) at));
  shown = λ other h rest at shows. one_fault h bad other (bad_shows bad bytes left h rest given.cause (subst (λ (t : List ℕ). BeginsWithHead t h rest) whole at)) shows;
}
foretells all bytes left kept (Err (CutShort count)) whole given =
    let same : all ≡ bytes = whole ∙ ap (λ (t : List ℕ). bytes ++ t) given.at_end ∙ append-nil bytes in
    let unfinished : IsUnfinished all = subst (λ (t : List ℕ). IsUnfinished t) (sym same) given.unfinished in
    record {
      request = λ t rest begins. given.begins_with_none t rest (begins.0, sym same ∙ begins.1);
      ended = λ none. none_some bytes (sym same ∙ none) (omega (arith, given.some, given.count_is));
      cut = λ _ _. given.count_is ∙ ap length (sym same);
      cut_body = λ _. given.count_is ∙ ap length (sym same);
      crowded = λ crowded. unfinished_crowded all unfinished crowded;
      long = λ long only. unfinished_long all unfinished long only;
      shown = λ bad h rest at shows. unfinished_shows_none all bad h rest unfinished at shows;
    }
foretells all bytes left kept (Err ReadFault) whole given = record { request = λ _ _ _. tt; ended = λ _. tt; cut = λ _ _. tt; cut_body = λ _. tt; crowded = λ _. tt; long = λ _ _. tt; shown = λ _ _ _ _ _. tt }
foretells all bytes left kept (Err NoMemory) whole given = record { request = λ _ _ _. tt; ended = λ _. tt; cut = λ _ _. tt; cut_body = λ _. tt; crowded = λ _. tt; long = λ _ _. tt; shown = λ _ _ _ _ _. tt }

-- what a call answers is what all the bytes foretell
pub foretold : (left left' : Option (List ℕ)) (kept kept' : List ℕ) (result : Result Next FrontFault) → Reads left left' kept kept' result
    → IsForetold kept left result
foretold None left' kept kept' result reads = tt
foretold (Some xs) None kept kept' result reads = absurd reads.consumes
foretold (Some xs) (Some ys) kept kept' result reads =
    foretells (kept ++ xs) (kept ++ reads.taken) ys kept' result
    (ap (λ (t : List ℕ). kept ++ t) reads.consumes ∙ sym (append_assoc kept reads.taken ys)) reads.answers

-- bytes that go on to be complete requests meet no fault
pub faultless : IsFaultless
faultless bytes more [] whole each some = absurd (some (front_none bytes more whole))
faultless bytes more (t ∷ ts) whole each some =
    let begins : Begins (bytes ++ more) t (flat_map print_text ts) = (All-head IsComplete t ts each, whole) in
    record {
      not_bad = λ bad cause. bad_begins_none bad bytes more cause t (flat_map print_text ts) begins;
      not_cut = λ none begins_none. begins_none t (flat_map print_text ts)
          (begins.0, sym (append-nil bytes) ∙ ap (λ (m : List ℕ). bytes ++ m) (sym none) ∙ begins.1);
    }
