-- A head and what was read of its body.
use Rattle.std.proofs.Common.{◌≡◌, ◌⊎◌, inl, inr, ℕ, ◌+◌, ◌<◌, ◌≤◌, Bool, true, false, List, [], ◌∷◌, ◌++◌, length, drop, refl, sym, ap, ◌∙◌, subst, arith, append_assoc, append-nil, length-append, length-drop, Option, Result, Ok, Err}
use Rattle.std.specs.Io.KnownBytes.{IsAtEnd}
use Rattle.std.proofs.lemmas.Bool.{false≢true}
use Rattle.httparse.specs.Grammar.{print_request}
use Rattle.http_front.specs.declared.raw.Raw.{Raw}
use Rattle.http_front.specs.declared.raw.Parts.{Parts}
use Rattle.http_front.specs.declared.answers.FrontFault.{FrontFault}
use Rattle.http_front.specs.declared.answers.FrontFault.TheVariants.{Bad, CutShort, ReadFault, NoMemory}
use Rattle.http_front.specs.declared.answers.Next.{Next}
use Rattle.http_front.specs.declared.answers.Next.TheVariants.{Request}
use Rattle.http_front.specs.declared.find.Head.{Head}
use Rattle.http_front.specs.Requests.{RequestText, print_text, raw_of, headers_in, TellsBody, Begins}
use Rattle.http_front.specs.Reads.{Answers, IsUnfinished, GivesRequest, GivesCutShort}
use Rattle.http_front.specs.Finds.{FindsHead, raw_from, parts_of}
use Rattle.http_front.specs.Steps.{TakesKept, GrowsBody, FillsBody, Finishes}
use Rattle.http_front.proofs.TextLemmas.{print_request_some, tells_once, tells_of}
use Rattle.http_front.proofs.CauseLemmas.{Begins-head, heads_same, unfinished_begins_none}

-- what follows the body is empty, or nothing more was read
joined : (body behind taken : List ℕ) (many : ℕ) → length body + length taken ≤ many → (length body < many → behind ≡ [])
    → (body ++ behind) ++ taken ≡ (body ++ taken) ++ behind
joined body behind [] many few all = append-nil (body ++ behind) ∙ ap (λ (t : List ℕ). t ++ behind) (sym (append-nil body))
joined body behind (x ∷ xs) many few all =
    let none : behind ≡ [] = all (omega arith) in
    ap (λ (t : List ℕ). (body ++ t) ++ (x ∷ xs)) none ∙ ap (λ (t : List ℕ). t ++ (x ∷ xs)) (append-nil body)
    ∙ sym (append-nil (body ++ (x ∷ xs))) ∙ ap (λ (t : List ℕ). (body ++ (x ∷ xs)) ++ t) (sym none)

module _ (left left' : Option (List ℕ)) (kept behind : List ℕ) (head : Head) (body grown : List ℕ) (finds : FindsHead kept head)
    (takes : TakesKept kept behind head.head_bytes head.body_bytes body) (grows : GrowsBody left left' body grown head.body_bytes) where
  few_taken : length body + length grows.taken ≤ head.body_bytes
  few_taken = omega (arith, grows.few, ap length grows.grown, length-append body grows.taken)

  -- all the bytes: the head, its body as far as it came, and what follows
  all_bytes : kept ++ grows.taken ≡ print_request finds.text ++ (grown ++ behind)
  all_bytes =
      let front : kept ≡ print_request finds.text ++ (body ++ behind) =
      finds.begins.reads.1 ∙ ap (λ (t : List ℕ). print_request finds.text ++ t) takes.parts in
      ap (λ (t : List ℕ). t ++ grows.taken) front ∙ append_assoc (print_request finds.text) (body ++ behind) grows.taken
      ∙ ap (λ (t : List ℕ). print_request finds.text ++ t)
      (joined body behind grows.taken head.body_bytes few_taken takes.all ∙ ap (λ (t : List ℕ). t ++ behind) (sym grows.grown))

  no_more_of : (taken : List ℕ) → length body + length taken ≤ head.body_bytes → (taken ≡ []) ⊎ (length (drop head.head_bytes kept) + length taken ≤ head.body_bytes)
  no_more_of [] few = inl refl
  no_more_of (x ∷ xs) few =
      let none : behind ≡ [] = takes.all (omega arith) in
      inr (omega (arith, few, ap length takes.parts, length-append body behind, ap length none))

  pub finishes : (result : Result Next FrontFault) → Answers (kept ++ grows.taken) left' behind result → Finishes left left' kept behind head result
  finishes result answers =
      record { taken = grows.taken; consumes = grows.consumes; no_more = no_more_of grows.taken few_taken; answers = answers }

  pub whole : (raw : Raw) → length grown ≡ head.body_bytes → raw ≡ raw_from head.parts grown → GivesRequest (kept ++ grows.taken) behind raw
  unfolding print_text raw_of parts_of
  whole raw full is_raw = record {
    text = record { head = finds.text; body = grown };
    complete = record {
      head = finds.begins.reads.0;
      short = finds.begins.short;
      few = finds.begins.few;
      body = subst (λ (n : ℕ). TellsBody (headers_in finds.text) n) (sym full) finds.tells;
    };
    whole = all_bytes ∙ sym (append_assoc (print_request finds.text) grown behind);
    is_raw = is_raw ∙ ap (λ (p : Parts). raw_from p grown) finds.parts_are;
  }

  pub short : length grown < head.body_bytes → IsAtEnd left' → GivesCutShort (kept ++ grows.taken) left' (head.head_bytes + length grown)
  short missing at_end =
      let none : behind ≡ [] = takes.all (omega (arith, missing, few_taken, ap length grows.grown, length-append body grows.taken)) in
      let at : kept ++ grows.taken ≡ print_request finds.text ++ grown =
      all_bytes ∙ ap (λ (t : List ℕ). print_request finds.text ++ (grown ++ t)) none ∙ ap (λ (t : List ℕ). print_request finds.text ++ t) (append-nil grown) in
      let size : head.head_bytes ≡ length (print_request finds.text) =
      omega (arith, finds.fits, ap length finds.begins.reads.1, length-append (print_request finds.text) (drop head.head_bytes kept), length-drop head.head_bytes kept) in
      let some : 1 ≤ length (print_request finds.text ++ []) = print_request_some finds.text [] finds.begins.reads.0 in
      let awaits : IsUnfinished (kept ++ grows.taken) = inr (record {
        head = finds.text;
        rest = grown;
        begins = record { reads = (finds.begins.reads.0, at); short = finds.begins.short; few = finds.begins.few };
        many = head.body_bytes;
        tells = finds.tells;
        missing = missing;
      }) in
      record {
        count_is = omega (arith, size, ap length at, length-append (print_request finds.text) grown);
        some = omega (arith, size, some, ap length (append-nil (print_request finds.text)));
        unfinished = awaits;
        begins_with_none = unfinished_begins_none (kept ++ grows.taken) awaits;
        at_end = at_end;
      }

-- ---- the exits

module _ (left left' : Option (List ℕ)) (kept behind : List ℕ) (head : Head) (body grown : List ℕ) (finds : FindsHead kept head)
    (takes : TakesKept kept behind head.head_bytes head.body_bytes body) where
  pub Finishes-whole : (there : Bool) (raw : Raw) → there ≡ true → FillsBody left left' body grown head.body_bytes (Ok there) → raw ≡ raw_from head.parts grown
      → Finishes left left' kept behind head (Ok (Request raw))
  Finishes-whole true raw is fills is_raw =
      finishes left left' kept behind head body grown finds takes fills.grows (Ok (Request raw))
      (whole left left' kept behind head body grown finds takes fills.grows raw fills.whole is_raw)
  Finishes-whole false raw is fills is_raw = absurd (false≢true is)

  pub Finishes-memory : (there : Bool) → there ≡ true → FillsBody left left' body grown head.body_bytes (Ok there)
      → Finishes left left' kept behind head (Err NoMemory)
  Finishes-memory true is fills = finishes left left' kept behind head body grown finds takes fills.grows (Err NoMemory) tt
  Finishes-memory false is fills = absurd (false≢true is)

  pub Finishes-short : (there : Bool) (count : ℕ) → there ≡ false → FillsBody left left' body grown head.body_bytes (Ok there) → count ≡ length grown
      → Finishes left left' kept behind head (Err (CutShort (head.head_bytes + count)))
  Finishes-short true count is fills same = absurd (false≢true (sym is))
  Finishes-short false count is fills same =
      rw same (finishes left left' kept behind head body grown finds takes fills.grows (Err (CutShort (head.head_bytes + length grown)))
      (short left left' kept behind head body grown finds takes fills.grows fills.missing fills.at_end))

  pub Finishes-fault : (fault : FrontFault) → FillsBody left left' body grown head.body_bytes (Err fault) → Finishes left left' kept behind head (Err fault)
  Finishes-fault (Bad bad) fills = absurd fills
  Finishes-fault (CutShort count) fills = absurd fills
  Finishes-fault ReadFault fills = finishes left left' kept behind head body grown finds takes fills (Err ReadFault) tt
  Finishes-fault NoMemory fills = finishes left left' kept behind head body grown finds takes fills (Err NoMemory) tt

-- ---- a request that is kept whole

-- its body, and what follows it
kept_body : (kept : List ℕ) (head : Head) (t : RequestText) (rest : List ℕ) → FindsHead kept head → Begins kept t rest
    → (head.body_bytes ≡ length t.body) × (drop head.head_bytes kept ≡ t.body ++ rest)
kept_body kept head t rest finds begins =
    let same = heads_same kept t.head finds.text (t.body ++ rest) (drop head.head_bytes kept) (Begins-head kept t rest begins) finds.begins in
    (tells_once (headers_in finds.text) head.body_bytes (length t.body) finds.tells (tells_of finds.text t same.0 begins.0), sym same.1)

full_of : (body behind rest : List ℕ) (many : ℕ) → length body ≤ many → (length body < many → behind ≡ []) → length (body ++ behind) ≡ many + length rest
    → length body ≡ many
full_of body [] rest many few all same = omega (arith, few, same, ap length (append-nil body))
full_of body (x ∷ xs) rest many few all same =
    let no : length body < many → ⊥ = λ less. let e : ◌≡◌ {A = ℕ} (length (x ∷ xs)) 0 = ap length (all less) in let bad : ⊥ = omega arith in bad in
    omega (arith, few, no)

pub kept_full : (kept behind : List ℕ) (head : Head) (body : List ℕ) (t : RequestText) (rest : List ℕ) → FindsHead kept head
    → TakesKept kept behind head.head_bytes head.body_bytes body → Begins kept t rest → length body ≡ head.body_bytes
kept_full kept behind head body t rest finds takes begins =
    let there = kept_body kept head t rest finds begins in
    full_of body behind rest head.body_bytes takes.few takes.all (ap length (sym takes.parts ∙ there.1) ∙ length-append t.body rest ∙ ap (λ (n : ℕ). n + length rest) (sym there.0))

none_taken : (taken : List ℕ) → length taken ≡ 0 → taken ≡ []
none_taken [] none = refl
none_taken (x ∷ xs) none = absurd (omega arith)

nothing : (taken : List ℕ) (have many : ℕ) → many ≤ have → (taken ≡ []) ⊎ (have + length taken ≤ many) → taken ≡ []
nothing taken have many all (inl none) = none
nothing taken have many all (inr few) = none_taken taken (omega (arith, all, few))

pub kept_answers : (left left' : Option (List ℕ)) (kept new : List ℕ) (head : Head) (result : Result Next FrontFault) (t : RequestText) (rest : List ℕ)
    → FindsHead kept head → Finishes left left' kept new head result → Begins kept t rest → Answers kept left' new result
kept_answers left left' kept new head result t rest finds done begins =
    let there = kept_body kept head t rest finds begins in
    let size : length (drop head.head_bytes kept) ≡ head.body_bytes + length rest =
    ap length there.1 ∙ length-append t.body rest ∙ ap (λ (n : ℕ). n + length rest) (sym there.0) in
    let none : done.taken ≡ [] = nothing done.taken (length (drop head.head_bytes kept)) head.body_bytes (omega (arith, size)) done.no_more in
    subst (λ (b : List ℕ). Answers b left' new result) (ap (λ (x : List ℕ). kept ++ x) none ∙ append-nil kept) done.answers
