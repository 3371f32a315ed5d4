-- Lines are read in one way.
use Rattle.std.proofs.Common.{◌≡◌, ◌≢◌, ℕ, ◌<◌, List, [], ◌∷◌, ◌++◌, length, refl, sym, ap, ◌∙◌, subst, arith, append_assoc, inl, inr, ◌⊎◌}
use Rattle.std.specs.Prelude.{All}
use Rattle.std.specs.List.{flat_map}
use Rattle.std.proofs.lemmas.List.Elements.{All-head, All-tail}
use Rattle.httparse.specs.Grammar.{LineEnd, crlf, lf, print_end}
use Rattle.httparse.proofs.PieceLemmas.{print_end_unique}
use Rattle.conn_io.specs.Crowded.{IsEmptyLine, IsFullLine}
use Rattle.http_front.specs.Lines.{BeginsNoEmptyLine, BeginsNoFullLine}

abbrev pub NoFeed : List ℕ → Type 0
NoFeed bytes = All (λ b. b ≢ 10) bytes

-- lines with a line feed at their end are read in one way
pub feed_unique : (a b r q : List ℕ) → NoFeed a → NoFeed b → a ++ 10 ∷ r ≡ b ++ 10 ∷ q → (a ≡ b) × (r ≡ q)
feed_unique [] [] r q na nb e = (refl, cc)
feed_unique [] (y ∷ b) r q na nb e = let first : y ≢ 10 = All-head (λ b. b ≢ 10) y b nb in absurd (first (cc))
feed_unique (x ∷ a) [] r q na nb e = let first : x ≢ 10 = All-head (λ b. b ≢ 10) x a na in absurd (first (cc))
feed_unique (x ∷ a) (y ∷ b) r q na nb e =
    let tails = feed_unique a b r q (All-tail (λ b. b ≢ 10) x a na) (All-tail (λ b. b ≢ 10) y b nb) (cc) in
    (cc, tails.1)

-- a line and what follows it
pub line_rest : (line rest : List ℕ) (full : IsFullLine line) → line ++ rest ≡ full.text ++ 10 ∷ rest
line_rest line rest full = ap (λ (t : List ℕ). t ++ rest) full.ends ∙ append_assoc full.text (10 ∷ []) rest

-- lines that aren't empty are read in one way
pub full_unique : (a b r q : List ℕ) → IsFullLine a → IsFullLine b → a ++ r ≡ b ++ q → r ≡ q
full_unique a b r q fa fb e =
    (feed_unique fa.text fb.text r q fa.no_feed fb.no_feed (sym (line_rest a r fa) ∙ e ∙ line_rest b q fb)).1

-- an empty line is no line of the other kind
end_not_full : (end : LineEnd) (r q text : List ℕ) → NoFeed text → text ≢ [] → text ≢ 13 ∷ [] → print_end end ++ r ≡ text ++ 10 ∷ q → ⊥
end_not_full end r q [] none not_bare not_returned e = not_bare refl
end_not_full lf r q (c ∷ text) none not_bare not_returned e =
    let first : c ≢ 10 = All-head (λ b. b ≢ 10) c text none in first (cc)
end_not_full crlf r q (c ∷ []) none not_bare not_returned e = not_returned (cc)
end_not_full crlf r q (c ∷ d ∷ text) none not_bare not_returned e =
    let second : d ≢ 10 = All-head (λ b. b ≢ 10) d text (All-tail (λ b. b ≢ 10) c (d ∷ text) none) in second (cc)

pub full_not_end : (line : List ℕ) (end : LineEnd) (r q : List ℕ) → IsFullLine line → print_end end ++ r ≡ line ++ q → ⊥
full_not_end line end r q full e =
    end_not_full end r q full.text full.no_feed full.not_bare full.not_returned (e ∙ line_rest line q full)

-- an empty line is a line end
pub end_of : (line : List ℕ) → IsEmptyLine line → (end : LineEnd) × (line ≡ print_end end)
end_of line (inl e) = (lf, e)
end_of line (inr e) = (crlf, e)

-- a text with a line feed in it has one
pub feed_is_there : (a b : List ℕ) → NoFeed (a ++ 10 ∷ b) → ⊥
feed_is_there [] b none = All-head (λ b. b ≢ 10) 10 b none refl
feed_is_there (x ∷ a) b none = feed_is_there a b (All-tail (λ b. b ≢ 10) x (a ++ 10 ∷ b) none)

-- without a line feed there is no line
pub no_line_by_none : (bytes : List ℕ) → NoFeed bytes → BeginsNoFullLine bytes
no_line_by_none bytes none line rest full e =
    let P : List ℕ → Type 0 = NoFeed in
    feed_is_there full.text rest (subst P (e ∙ line_rest line rest full) none)

-- nor where the first line is bare
pub no_line_by_bare : (bytes text after : List ℕ) → bytes ≡ text ++ 10 ∷ after → NoFeed text → (text ≡ []) ⊎ (text ≡ 13 ∷ [])
    → BeginsNoFullLine bytes
no_line_by_bare bytes text after whole none bare line rest full e =
    let same = feed_unique full.text text rest after full.no_feed none (sym (line_rest line rest full) ∙ sym e ∙ whole) in
    bare_not_full text bare same.0
  where
    bare_not_full : (t : List ℕ) → (t ≡ []) ⊎ (t ≡ 13 ∷ []) → full.text ≡ t → ⊥
    bare_not_full t (inl e) same = full.not_bare (same ∙ e)
    bare_not_full t (inr e) same = full.not_returned (same ∙ e)

-- fewer lines that end where no line stands are not all
pub strip_lines : (taken lines : List (List ℕ)) (rest after : List ℕ) → All IsFullLine taken → All IsFullLine lines
    → length taken < length lines → flat_map (λ line. line) taken ++ rest ≡ flat_map (λ line. line) lines ++ after → BeginsNoFullLine rest → ⊥
strip_lines taken [] rest after at al few e none = let no : ⊥ = omega arith in no
strip_lines [] (l ∷ ls) rest after at al few e none =
    none l (flat_map (λ line. line) ls ++ after) (All-head IsFullLine l ls al) (e ∙ append_assoc l (flat_map (λ line. line) ls) after)
strip_lines (t ∷ ts) (l ∷ ls) rest after at al few e none =
    strip_lines ts ls rest after (All-tail IsFullLine t ts at) (All-tail IsFullLine l ls al) (omega arith)
    (full_unique t l (flat_map (λ line. line) ts ++ rest) (flat_map (λ line. line) ls ++ after) (All-head IsFullLine t ts at) (All-head IsFullLine l ls al)
    (sym (append_assoc t (flat_map (λ line. line) ts) rest) ∙ e ∙ append_assoc l (flat_map (λ line. line) ls) after)) none

-- as many lines leave the same rest
pub same_behind_lines : (taken lines : List (List ℕ)) (rest after : List ℕ) → All IsFullLine taken → All IsFullLine lines
    → length taken ≡ length lines → flat_map (λ line. line) taken ++ rest ≡ flat_map (λ line. line) lines ++ after → rest ≡ after
same_behind_lines [] [] rest after at al same e = e
same_behind_lines [] (l ∷ ls) rest after at al same e = absurd (omega arith)
same_behind_lines (t ∷ ts) [] rest after at al same e = absurd (omega arith)
same_behind_lines (t ∷ ts) (l ∷ ls) rest after at al same e =
    same_behind_lines ts ls rest after (All-tail IsFullLine t ts at) (All-tail IsFullLine l ls al) (omega arith)
    (full_unique t l (flat_map (λ line. line) ts ++ rest) (flat_map (λ line. line) ls ++ after) (All-head IsFullLine t ts at) (All-head IsFullLine l ls al)
    (sym (append_assoc t (flat_map (λ line. line) ts) rest) ∙ e ∙ append_assoc l (flat_map (λ line. line) ls) after))

-- empty lines are read in one way
empty_unique : (a b r q : List ℕ) → IsEmptyLine a → IsEmptyLine b → a ++ r ≡ b ++ q → r ≡ q
empty_unique a b r q ea eb e =
    let x = end_of a ea in
    let y = end_of b eb in
    (print_end_unique x.0 y.0 r q (ap (λ (t : List ℕ). t ++ r) (sym x.1) ∙ e ∙ ap (λ (t : List ℕ). t ++ q) y.1)).1

-- all the empty lines leave the same rest
pub same_behind_empty : (taken lines : List (List ℕ)) (rest after : List ℕ) → All IsEmptyLine taken → All IsEmptyLine lines
    → BeginsNoEmptyLine rest → BeginsNoEmptyLine after
    → flat_map (λ line. line) taken ++ rest ≡ flat_map (λ line. line) lines ++ after → rest ≡ after
same_behind_empty [] [] rest after at al nr na e = e
same_behind_empty [] (l ∷ ls) rest after at al nr na e =
    absurd (nr l (flat_map (λ line. line) ls ++ after) (All-head IsEmptyLine l ls al) (e ∙ append_assoc l (flat_map (λ line. line) ls) after))
same_behind_empty (t ∷ ts) [] rest after at al nr na e =
    absurd (na t (flat_map (λ line. line) ts ++ rest) (All-head IsEmptyLine t ts at) (sym e ∙ append_assoc t (flat_map (λ line. line) ts) rest))
same_behind_empty (t ∷ ts) (l ∷ ls) rest after at al nr na e =
    same_behind_empty ts ls rest after (All-tail IsEmptyLine t ts at) (All-tail IsEmptyLine l ls al) nr na
    (empty_unique t l (flat_map (λ line. line) ts ++ rest) (flat_map (λ line. line) ls ++ after) (All-head IsEmptyLine t ts at) (All-head IsEmptyLine l ls al)
    (sym (append_assoc t (flat_map (λ line. line) ts) rest) ∙ e ∙ append_assoc l (flat_map (λ line. line) ls) after))

-- a line that isn't empty is no empty line
pub full_begins_no_empty : (line rest : List ℕ) → IsFullLine line → BeginsNoEmptyLine (line ++ rest)
full_begins_no_empty line rest full empty after is_empty e =
    let end = end_of empty is_empty in
    full_not_end line end.0 after rest full (ap (λ (t : List ℕ). t ++ after) (sym end.1) ∙ sym e)
