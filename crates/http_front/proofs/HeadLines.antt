-- The lines of a head: a head of at most 64 headers never has more lines than `Crowded` allows, and one of more always does.
use Rattle.std.proofs.Common.{◌≡◌, ◌≢◌, ℕ, zero, suc, ◌+◌, ◌<◌, ◌≤◌, Bool, true, false, List, [], ◌∷◌, ◌++◌, length, refl, sym, ap, ◌∙◌, subst, arith, append_assoc, append-nil, length-append, inl, inr, rules, tests}
use Rattle.std.specs.Prelude.{All, map, codes}
use Rattle.std.specs.List.{flat_map}
use Rattle.std.proofs.lemmas.Grind.{flat_map-append}
use Rattle.std.proofs.lemmas.Bool.{false≢true}
use Rattle.std.proofs.lemmas.List.{append_cancel_right, length-map}
use Rattle.std.proofs.lemmas.List.Folds.{flat_map-map}
use Rattle.std.proofs.lemmas.List.Elements.{All-cons, All-nil, All-head, All-tail, All-append}
use Rattle.httparse.specs.Grammar.{is_token_byte, is_uri_byte, is_value_byte, AllPass, IsToken, LineEnd, crlf, lf, print_end, print_blank, print_version, Field, IsField, print_field, RequestHead, IsRequestHead, print_request, ReadsRequest}
use Rattle.httparse.specs.Spans.{RequestExceeds}
use Rattle.httparse.proofs.GrammarLemmas.{print_request-append}
use Rattle.httparse.proofs.PieceLemmas.{print_end_unique}
use Rattle.conn_io.specs.Crowded.{IsEmptyLine, IsFullLine, Crowded}
use Rattle.http_front.proofs.LineUnique.{NoFeed, full_unique, full_not_end, end_of}

-- ---- the lines of a head

before_feed : LineEnd → List ℕ
before_feed crlf = 13 ∷ []
before_feed lf = []

print_end-is : (end : LineEnd) → print_end end ≡ before_feed end ++ 10 ∷ []
unfolding before_feed
print_end-is crlf = refl
print_end-is lf = refl

before_feed-no_feed : (end : LineEnd) → NoFeed (before_feed end)
unfolding before_feed
before_feed-no_feed crlf = All-cons (λ b. b ≢ 10) 13 [] (λ e. let no : ⊥ = omega arith in no) (All-nil _)
before_feed-no_feed lf = All-nil _

-- a text of two bytes or more and a line end are a line that isn't empty
full_line : (text : List ℕ) (end : LineEnd) → NoFeed text → 2 ≤ length text → IsFullLine (text ++ print_end end)
full_line text end none some = record {
  text = text ++ before_feed end;
  ends = ap (λ (t : List ℕ). text ++ t) (print_end-is end) ∙ sym (append_assoc text (before_feed end) (10 ∷ []));
  no_feed = All-append (λ b. b ≢ 10) text (before_feed end) none (before_feed-no_feed end);
  not_bare = λ e. let same : length (text ++ before_feed end) ≡ 0 = ap length e in
      let no : ⊥ = omega (arith, length-append text (before_feed end)) in no;
  not_returned = λ e. let same : length (text ++ before_feed end) ≡ 1 = ap length e in
      let no : ⊥ = omega (arith, length-append text (before_feed end)) in no;
}

-- bytes of a class that has no line feed
no_feed_class : (test : ℕ → Bool) (bytes : List ℕ) → test 10 ≡ false → AllPass test bytes → NoFeed bytes
no_feed_class test bytes fails pass k d below e =
    false≢true (sym fails ∙ ap test (sym e) ∙ pass k d below)

feed_no_token : is_token_byte 10 ≡ false
unfolding is_token_byte
feed_no_token = refl

digit_no_feed : (minor : ℕ) → 48 + minor ≢ 10
digit_no_feed minor e = omega arith

version_no_feed : (minor : ℕ) → NoFeed (print_version minor)
version_no_feed minor = All-append (λ b. b ≢ 10) (codes "HTTP/1.") ((48 + minor) ∷ [])
    (no_feed_class is_uri_byte (codes "HTTP/1.") refl (search (rules, tests)))
    (All-cons (λ b. b ≢ 10) (48 + minor) [] (digit_no_feed minor) (All-nil _))

-- the start line without its end
start_text : RequestHead → List ℕ
start_text h = h.method ++ 32 ∷ h.target ++ 32 ∷ print_version h.minor

start_line : RequestHead → List ℕ
start_line h = start_text h ++ print_end h.line_end

start_line-full : (h : RequestHead) → IsRequestHead h → IsFullLine (start_line h)
unfolding start_text start_line
start_line-full h is_head =
    full_line (start_text h) h.line_end
    (All-append (λ b. b ≢ 10) (h.method ++ 32 ∷ h.target) (32 ∷ print_version h.minor)
    (All-append (λ b. b ≢ 10) h.method (32 ∷ h.target) (no_feed_class is_token_byte h.method feed_no_token is_head.method.1)
    (All-cons (λ b. b ≢ 10) 32 h.target (λ e. let no : ⊥ = omega arith in no) (no_feed_class is_uri_byte h.target refl is_head.target.1)))
    (All-cons (λ b. b ≢ 10) 32 (print_version h.minor) (λ e. let no : ⊥ = omega arith in no) (version_no_feed h.minor)))
    (omega (arith, is_head.method.0, length-append (h.method ++ 32 ∷ h.target) (32 ∷ print_version h.minor), length-append h.method (32 ∷ h.target)))

print_field-full : (f : Field) → IsField f → IsFullLine (print_field f)
print_field-full f is_field =
    full_line (f.name ++ 58 ∷ f.raw) f.end
    (All-append (λ b. b ≢ 10) f.name (58 ∷ f.raw) (no_feed_class is_token_byte f.name feed_no_token is_field.name.1)
    (All-cons (λ b. b ≢ 10) 58 f.raw (λ e. let no : ⊥ = omega arith in no) (no_feed_class is_value_byte f.raw refl is_field.raw)))
    (omega (arith, is_field.name.0, length-append f.name (58 ∷ f.raw)))

-- a head as its lines
print_request-lines : (h : RequestHead) (rest : List ℕ) → print_request h ++ rest
    ≡ print_blank h.blank ++ (start_line h ++ (flat_map print_field h.fields ++ (print_end h.last ++ rest)))
unfolding start_text start_line
print_request-lines h rest =
    print_request-append h rest
    ∙ regroup (print_blank h.blank) h.method (32 ∷ []) h.target (print_version h.minor) (print_end h.line_end) (flat_map print_field h.fields) (print_end h.last) rest
  where
    regroup : (a b s c d e f g r : List ℕ)
        → a ++ (b ++ (s ++ (c ++ (s ++ (d ++ (e ++ ((f ++ g) ++ r)))))))
        ≡ a ++ (((b ++ (s ++ c) ++ (s ++ d)) ++ e) ++ (f ++ (g ++ r)))
    regroup a b s c d e f g r = simp append_assoc

-- ---- a crowded text begins with no head of few headers

fields_clash : (fields : List Field) (last : LineEnd) (rest : List ℕ) (lines : List (List ℕ)) (next : ℕ) (more : List ℕ)
    → All IsField fields → All IsFullLine lines → length fields ≤ length lines → next ≢ 10 → next ≢ 13
    → flat_map print_field fields ++ (print_end last ++ rest) ≡ flat_map (λ line. line) lines ++ next ∷ more → ⊥
fields_clash [] lf rest [] next more af al few no_feed no_return e = no_feed (cc)
fields_clash [] crlf rest [] next more af al few no_feed no_return e = no_return (cc)
fields_clash [] last rest (l ∷ ls) next more af al few no_feed no_return e =
    full_not_end l last rest (flat_map (λ line. line) ls ++ next ∷ more) (All-head IsFullLine l ls al)
    (e ∙ append_assoc l (flat_map (λ line. line) ls) (next ∷ more))
fields_clash (f ∷ fs) last rest [] next more af al few no_feed no_return e = let no : ⊥ = omega arith in no
fields_clash (f ∷ fs) last rest (l ∷ ls) next more af al few no_feed no_return e =
    fields_clash fs last rest ls next more (All-tail IsField f fs af) (All-tail IsFullLine l ls al) (omega arith) no_feed no_return
    (full_unique (print_field f) l (flat_map print_field fs ++ (print_end last ++ rest)) (flat_map (λ line. line) ls ++ next ∷ more)
    (print_field-full f (All-head IsField f fs af)) (All-head IsFullLine l ls al)
    (sym (append_assoc (print_field f) (flat_map print_field fs) (print_end last ++ rest)) ∙ e
    ∙ append_assoc l (flat_map (λ line. line) ls) (next ∷ more)))

-- behind the empty lines both go on alike
blank_same : (ends : List LineEnd) (empty : List (List ℕ)) (a r b q : List ℕ) → All IsEmptyLine empty → IsFullLine a → IsFullLine b
    → print_blank ends ++ (a ++ r) ≡ flat_map (λ line. line) empty ++ (b ++ q) → a ++ r ≡ b ++ q
blank_same [] [] a r b q all fa fb e = e
blank_same [] (l ∷ ls) a r b q all fa fb e =
    let end = end_of l (All-head IsEmptyLine l ls all) in
    absurd (full_not_end a end.0 (flat_map (λ line. line) ls ++ (b ++ q)) r fa
    (ap (λ (t : List ℕ). t ++ (flat_map (λ line. line) ls ++ (b ++ q))) (sym end.1) ∙ sym (append_assoc l (flat_map (λ line. line) ls) (b ++ q)) ∙ sym e))
blank_same (x ∷ xs) [] a r b q all fa fb e =
    absurd (full_not_end b x (print_blank xs ++ (a ++ r)) q fb (sym (append_assoc (print_end x) (print_blank xs) (a ++ r)) ∙ e))
blank_same (x ∷ xs) (l ∷ ls) a r b q all fa fb e =
    let end = end_of l (All-head IsEmptyLine l ls all) in
    let ends = print_end_unique x end.0 (print_blank xs ++ (a ++ r)) (flat_map (λ line. line) ls ++ (b ++ q))
    (sym (append_assoc (print_end x) (print_blank xs) (a ++ r)) ∙ e ∙ append_assoc l (flat_map (λ line. line) ls) (b ++ q)
    ∙ ap (λ (t : List ℕ). t ++ (flat_map (λ line. line) ls ++ (b ++ q))) end.1) in
    blank_same xs ls a r b q (All-tail IsEmptyLine l ls all) fa fb ends.1

-- with the lines named one by one
crowded_clash : (bytes more : List ℕ) (h : RequestHead) (rest : List ℕ) (c : Crowded bytes) (lines : List (List ℕ)) (n : ℕ)
    → c.full_lines ≡ lines → length lines ≡ n + 1 → length h.fields ≤ n → ReadsRequest (bytes ++ more) h rest → ⊥
crowded_clash bytes more h rest c [] n same count few reads = let no : ⊥ = omega arith in no
crowded_clash bytes more h rest c (l ∷ ls) n same count few reads =
    let full : All IsFullLine (l ∷ ls) = subst (λ (t : List (List ℕ)). All IsFullLine t) same c.full in
    let after = flat_map (λ line. line) ls ++ c.next ∷ (c.more ++ more) in
    let fields = flat_map print_field h.fields ++ (print_end h.last ++ rest) in
    let text : bytes ++ more ≡ flat_map (λ line. line) c.empty_lines ++ (l ++ after) =
    ap (λ (t : List ℕ). t ++ more) (c.whole ∙ ap (λ (t : List (List ℕ)). flat_map (λ line. line) c.empty_lines ++ flat_map (λ line. line) t ++ c.next ∷ c.more) same)
    ∙ regroup (flat_map (λ line. line) c.empty_lines) l (flat_map (λ line. line) ls) (c.next ∷ c.more) more in
    let start = blank_same h.blank c.empty_lines (start_line h) fields l after c.empty (start_line-full h reads.0) (All-head IsFullLine l ls full)
    (sym (print_request-lines h rest) ∙ sym reads.1 ∙ text) in
    let tail = full_unique (start_line h) l fields after (start_line-full h reads.0) (All-head IsFullLine l ls full) start in
    fields_clash h.fields h.last rest ls c.next (c.more ++ more) reads.0.fields (All-tail IsFullLine l ls full) (omega arith) c.no_feed c.no_return tail
  where
    regroup : (a b d m n : List ℕ) → (a ++ (b ++ d) ++ m) ++ n ≡ a ++ (b ++ (d ++ (m ++ n)))
    regroup a b d m n = simp append_assoc

-- whatever follows crowded bytes, they begin with no head of at most 64 headers
pub crowded_excludes : (bytes more : List ℕ) (h : RequestHead) (rest : List ℕ) → Crowded bytes → length h.fields ≤ 64
    → ReadsRequest (bytes ++ more) h rest → ⊥
crowded_excludes bytes more h rest c few reads = crowded_clash bytes more h rest c c.full_lines 64 refl c.many few reads

-- ---- a head of more headers is crowded

record SplitsAt (n : ℕ) (fields : List Field) : Type 0 where
  first : List Field
  next : Field
  others : List Field
  whole : fields ≡ first ++ next ∷ others
  many : length first ≡ n

split_at : (n : ℕ) (fields : List Field) → n < length fields → SplitsAt n fields
split_at n [] below = absurd (omega arith)
split_at zero (f ∷ fs) below = record { first = []; next = f; others = fs; whole = refl; many = refl }
split_at (suc n) (f ∷ fs) below =
    let rest = split_at n fs (omega arith) in
    record { first = f ∷ rest.first; next = rest.next; others = rest.others; whole = ap (λ (t : List Field). f ∷ t) rest.whole; many = omega (arith, rest.many) }

blank_lines : (ends : List LineEnd) → All IsEmptyLine (map print_end ends)
blank_lines [] = All-nil _
blank_lines (crlf ∷ ends) = All-cons IsEmptyLine _ (map print_end ends) (inr refl) (blank_lines ends)
blank_lines (lf ∷ ends) = All-cons IsEmptyLine _ (map print_end ends) (inl refl) (blank_lines ends)

field_lines : (fields : List Field) → All IsField fields → All IsFullLine (map print_field fields)
field_lines [] all = All-nil _
field_lines (f ∷ fs) all =
    All-cons IsFullLine (print_field f) (map print_field fs) (print_field-full f (All-head IsField f fs all)) (field_lines fs (All-tail IsField f fs all))

All-middle : (P : Field → Type 0) (a : List Field) (x : Field) (b : List Field) → All P (a ++ x ∷ b) → All P a × P x
All-middle P [] x b all = (All-nil P, All-head P x b all)
All-middle P (y ∷ a) x b all =
    let rest = All-middle P a x b (All-tail P y (a ++ x ∷ b) all) in
    (All-cons P y a (All-head P y (a ++ x ∷ b) all) rest.0, rest.1)

-- a token begins with a byte that ends no line
record Starts (name : List ℕ) : Type 0 where
  byte : ℕ
  others : List ℕ
  whole : name ≡ byte ∷ others
  no_feed : byte ≢ 10
  no_return : byte ≢ 13

return_no_token : is_token_byte 13 ≡ false
unfolding is_token_byte
return_no_token = refl

token_starts : (name : List ℕ) → IsToken name → Starts name
token_starts [] token = absurd (omega (arith, token.0))
token_starts (b ∷ name) token =
    let passes : is_token_byte b ≡ true = All-head (λ v. is_token_byte v ≡ true) b name token.1 in
    record {
      byte = b;
      others = name;
      whole = refl;
      no_feed = λ e. false≢true (sym feed_no_token ∙ ap is_token_byte (sym e) ∙ passes);
      no_return = λ e. false≢true (sym return_no_token ∙ ap is_token_byte (sym e) ∙ passes);
    }

-- the first lines of a head, and the first byte of the header behind them
front_of : (h : RequestHead) (front rest : List ℕ) (s : SplitsAt 64 h.fields) (b : Starts s.next.name) → ReadsRequest (front ++ print_end lf) h []
    → (more : List ℕ) × (front ++ rest ≡ flat_map (λ line. line) (map print_end h.blank)
    ++ flat_map (λ line. line) (start_line h ∷ map print_field s.first) ++ b.byte ∷ more)
front_of h front rest s b reads =
    let behind = b.others ++ 58 ∷ s.next.raw ++ print_end s.next.end ++ flat_map print_field s.others ++ before_feed h.last in
    let fields : flat_map print_field h.fields ≡ flat_map print_field s.first ++ (print_field s.next ++ flat_map print_field s.others) =
    ap (flat_map print_field) s.whole ∙ flat_map-append print_field s.first (s.next ∷ s.others) in
    let whole : front ++ 10 ∷ [] ≡ (print_blank h.blank ++ (start_line h ++ (flat_map print_field h.fields ++ before_feed h.last))) ++ 10 ∷ [] =
    reads.1 ∙ print_request-lines h []
    ∙ ap (λ (t : List ℕ). print_blank h.blank ++ (start_line h ++ (flat_map print_field h.fields ++ t))) (append-nil (print_end h.last) ∙ print_end-is h.last)
    ∙ regroup (print_blank h.blank) (start_line h) (flat_map print_field h.fields) (before_feed h.last) (10 ∷ []) in
    let cut = append_cancel_right front (print_blank h.blank ++ (start_line h ++ (flat_map print_field h.fields ++ before_feed h.last))) (10 ∷ []) whole in (
      behind ++ rest,
      ap (λ (t : List ℕ). t ++ rest) (cut ∙ ap (λ (t : List ℕ). print_blank h.blank ++ (start_line h ++ (t ++ before_feed h.last))) fields
          ∙ ap (λ (t : List ℕ). print_blank h.blank ++ (start_line h ++ ((flat_map print_field s.first ++ ((t ++ 58 ∷ s.next.raw ++ print_end s.next.end) ++ flat_map print_field s.others)) ++ before_feed h.last))) b.whole)
          ∙ spread (print_blank h.blank) (start_line h) (flat_map print_field s.first) (b.byte ∷ []) b.others (58 ∷ s.next.raw) (print_end s.next.end) (flat_map print_field s.others) (before_feed h.last) rest
          ∙ ap (λ (t : List ℕ). t ++ (start_line h ++ flat_map print_field s.first) ++ b.byte ∷ (behind ++ rest)) (sym (flat_map-map (λ line. line) print_end h.blank))
          ∙ ap (λ (t : List ℕ). flat_map (λ line. line) (map print_end h.blank) ++ (start_line h ++ t) ++ b.byte ∷ (behind ++ rest)) (sym (flat_map-map (λ line. line) print_field s.first)),
    )
  where
    regroup : (a b c d e : List ℕ) → a ++ (b ++ (c ++ (d ++ e))) ≡ (a ++ (b ++ (c ++ d))) ++ e
    regroup a b c d e = simp append_assoc

    spread : (a b c v d e f g i r : List ℕ)
        → (a ++ (b ++ ((c ++ (((v ++ d) ++ e ++ f) ++ g)) ++ i))) ++ r ≡ a ++ (b ++ c) ++ (v ++ ((d ++ e ++ f ++ g ++ i) ++ r))
    spread a b c v d e f g i r = simp append_assoc

-- bytes that have a header more than 64 are crowded
pub crowded_from_exceeds : (bytes : List ℕ) → RequestExceeds 64 bytes → Crowded bytes
crowded_from_exceeds bytes exceeds =
    let h = exceeds.3 in
    let reads = exceeds.4 in
    let split = split_at 64 h.fields exceeds.5 in
    let middle = All-middle IsField split.first split.next split.others (subst (λ (t : List Field). All IsField t) split.whole reads.0.fields) in
    let starts = token_starts split.next.name middle.1.name in
    let front = front_of h exceeds.0 exceeds.1 split starts reads in
    record {
      empty_lines = map print_end h.blank;
      full_lines = start_line h ∷ map print_field split.first;
      next = starts.byte;
      more = front.0;
      whole = exceeds.2 ∙ front.1;
      empty = blank_lines h.blank;
      full = All-cons IsFullLine (start_line h) (map print_field split.first) (start_line-full h reads.0) (field_lines split.first middle.0);
      many = omega (arith, split.many, length-map split.first print_field);
      no_feed = starts.no_feed;
      no_return = starts.no_return;
    }
