-- Lines at the front of bytes, and the lines of a head.
use Rattle.std.proofs.Common.{◌≡◌, ◌≢◌, ◌==◌, ◌⊎◌, ℕ, ◌+◌, ◌<◌, Bool, true, false, cond, subst, None, List, [], ◌∷◌, ◌++◌, length, get_or, take, drop, refl, sym, ap, ◌∙◌, arith, append_assoc, append-nil, length-append, length-take, get_or-take, take-append-drop, Some}
use Rattle.std.specs.Prelude.{position, All, nat_eq, nat_lt}
use Rattle.std.specs.List.{flat_map, position_or_len}
use Rattle.std.specs.Cmp.Lexicographic.{same_text}
use Rattle.std.proofs.lemmas.List.Sums.{fails_before_first}
use lib.Pointwise.{pointwise}
use Rattle.std.proofs.lemmas.Grind.{flat_map-append}
use Rattle.std.proofs.lemmas.List.{take_more}
use Rattle.std.proofs.lemmas.List.Elements.{All-push, All-nil, All-head}
use Rattle.std.proofs.lemmas.List.Quantifiers.{position-Some}
use Rattle.std.proofs.lemmas.Bool.{false≢true}
use Rattle.std.proofs.lemmas.Bool.Decides.{nat_tests}
use Rattle.conn_io.specs.Crowded.{IsEmptyLine, IsFullLine, Crowded}
use Rattle.http_front.specs.Lines.{TakesEmptyLine, BeginsNoEmptyLine, SkipsEmptyLines, TakesFullLine, BeginsNoFullLine, TakesFullLines, BeginsNoFullLines, BeginsText}
use Rattle.http_front.proofs.LineUnique.{NoFeed, no_line_by_none, no_line_by_bare, strip_lines, same_behind_lines, same_behind_empty, full_begins_no_empty}

-- no line yet
pub SkipsEmptyLines-none : (bytes : List ℕ) → SkipsEmptyLines bytes bytes
SkipsEmptyLines-none bytes = record { empty_lines = []; whole = refl; empty = All-nil _ }

-- one empty line more
pub SkipsEmptyLines-more : (bytes middle rest : List ℕ) → SkipsEmptyLines bytes middle → TakesEmptyLine middle rest
    → SkipsEmptyLines bytes rest
SkipsEmptyLines-more bytes middle rest before next = record {
  empty_lines = before.empty_lines ++ next.line ∷ [];
  whole = before.whole ∙ ap (λ (t : List ℕ). flat_map (λ l. l) before.empty_lines ++ t) next.whole
      ∙ sym (ap (λ (t : List ℕ). t ++ rest) (flat_map-append (λ l. l) before.empty_lines (next.line ∷ [])
      ∙ ap (λ (t : List ℕ). flat_map (λ l. l) before.empty_lines ++ t) (append-nil next.line))
      ∙ append_assoc (flat_map (λ l. l) before.empty_lines) next.line rest);
  empty = All-push IsEmptyLine before.empty_lines next.line before.empty next.empty;
}

-- an empty line that was taken from the front
pub TakesEmptyLine-taken : (line bytes rest : List ℕ) → IsEmptyLine line → pointwise nat_eq (take (length line) bytes) line ≡ true
    → rest ≡ drop (length line) bytes → TakesEmptyLine bytes rest
TakesEmptyLine-taken line bytes rest is_empty same after = record {
  line = line;
  whole = sym (take-append-drop (length line) bytes) ∙ ap (λ (t : List ℕ). t ++ drop (length line) bytes) (same_text (take (length line) bytes) line (sym same))
      ∙ ap (λ (t : List ℕ). line ++ t) (sym after);
  empty = is_empty;
}

-- before the first line feed there is none
no_feed_before : (bytes : List ℕ) (feed : ℕ) → position (λ b. b == 10) bytes ≡ Some feed → All (λ b. b ≢ 10) (take feed bytes)
no_feed_before bytes feed at k d below e =
    let place = position-Some (λ b. b == 10) bytes feed d at in
    let inside : k < feed = omega (arith, length-take feed bytes) in
    let same : get_or bytes k d ≡ 10 = sym (get_or-take feed bytes k d inside) ∙ e in
    false≢true (sym (place.2 k inside) ∙ ap (λ b. b == 10) same)

-- what stands up to the first line feed is a line, and it isn't empty where its text isn't
pub TakesFullLine-from_position : (bytes : List ℕ) (feed : ℕ) → position (λ b. b == 10) bytes ≡ Some feed
    → take feed bytes ≢ [] → take feed bytes ≢ 13 ∷ [] → TakesFullLine bytes (drop (feed + 1) bytes)
TakesFullLine-from_position bytes feed at not_bare not_returned =
    let place = position-Some (λ b. b == 10) bytes feed 0 at in
    let is_feed : get_or bytes feed 0 ≡ 10 = grind (arith, nat_tests, place.1) in
    let ends : take (feed + 1) bytes ≡ take feed bytes ++ 10 ∷ [] = take_more bytes feed 0 place.0 ∙ ap (λ b. take feed bytes ++ b ∷ []) is_feed in
    record {
      line = take (feed + 1) bytes;
      whole = sym (take-append-drop (feed + 1) bytes);
      full = record {
        text = take feed bytes;
        ends = ends;
        no_feed = no_feed_before bytes feed at;
        not_bare = not_bare;
        not_returned = not_returned;
      };
    }

-- no line yet
pub TakesFullLines-none : (bytes : List ℕ) → TakesFullLines bytes 0 bytes
TakesFullLines-none bytes = record { full_lines = []; whole = refl; full = All-nil _; many = refl }

-- one line more
pub TakesFullLines-more : (bytes middle rest : List ℕ) (count : ℕ) → TakesFullLines bytes count middle → TakesFullLine middle rest
    → TakesFullLines bytes (count + 1) rest
TakesFullLines-more bytes middle rest count before next = record {
  full_lines = before.full_lines ++ next.line ∷ [];
  whole = before.whole ∙ ap (λ (t : List ℕ). flat_map (λ l. l) before.full_lines ++ t) next.whole
      ∙ sym (ap (λ (t : List ℕ). t ++ rest) (flat_map-append (λ l. l) before.full_lines (next.line ∷ [])
      ∙ ap (λ (t : List ℕ). flat_map (λ l. l) before.full_lines ++ t) (append-nil next.line))
      ∙ append_assoc (flat_map (λ l. l) before.full_lines) next.line rest);
  full = All-push IsFullLine before.full_lines next.line before.full next.full;
  many = length-append before.full_lines (next.line ∷ []) ∙ ap (λ n. n + 1) before.many;
}

-- empty lines, then 65 lines that aren't empty, and then a byte that ends no line
pub Crowded-from_lines : (bytes middle rest : List ℕ) → SkipsEmptyLines bytes middle → TakesFullLines middle 65 rest
    → BeginsText rest → Crowded bytes
Crowded-from_lines bytes middle [] blank lines begins = absurd (omega (arith, begins.some))
Crowded-from_lines bytes middle (next ∷ more) blank lines begins = record {
  empty_lines = blank.empty_lines;
  full_lines = lines.full_lines;
  next = next;
  more = more;
  whole = blank.whole ∙ ap (λ (t : List ℕ). flat_map (λ l. l) blank.empty_lines ++ t) lines.whole
      ∙ sym (append_assoc (flat_map (λ l. l) blank.empty_lines) (flat_map (λ l. l) lines.full_lines) (next ∷ more));
  empty = blank.empty;
  full = lines.full;
  many = lines.many;
  no_feed = begins.no_feed;
  no_return = begins.no_return;
}

-- ---- where no line stands

none_by_cond : (b : Bool) (n : ℕ) → cond b (Some n) None ≡ None → b ≡ false
none_by_cond true n e = cc
none_by_cond false n e = refl

-- no line feed anywhere
pub no_feed_anywhere : (bytes : List ℕ) → position (λ b. b == 10) bytes ≡ None → NoFeed bytes
no_feed_anywhere bytes none k d below e =
    let p : ℕ → Bool = λ b. b == 10 in
    let far : nat_lt (position_or_len p bytes) (length bytes) ≡ false = none_by_cond _ _ none in
    let inside : k < position_or_len p bytes = grind (arith, nat_tests, far) in
    false≢true (sym (fails_before_first p bytes k d inside) ∙ ap (λ b. b == 10) e)

-- no line stands whole where there is no line feed
pub BeginsNoFullLine-by_none : (bytes : List ℕ) → position (λ b. b == 10) bytes ≡ None → BeginsNoFullLine bytes
BeginsNoFullLine-by_none bytes none = no_line_by_none bytes (no_feed_anywhere bytes none)

-- nor where the first one is empty
pub BeginsNoFullLine-by_bare : (bytes : List ℕ) (feed : ℕ) → position (λ b. b == 10) bytes ≡ Some feed
    → (take feed bytes ≡ []) ⊎ (take feed bytes ≡ 13 ∷ []) → BeginsNoFullLine bytes
BeginsNoFullLine-by_bare bytes feed at bare =
    let place = position-Some (λ b. b == 10) bytes feed 0 at in
    let is_feed : get_or bytes feed 0 ≡ 10 = grind (arith, nat_tests, place.1) in
    let ends : take (feed + 1) bytes ≡ take feed bytes ++ 10 ∷ [] = take_more bytes feed 0 place.0 ∙ ap (λ b. take feed bytes ++ b ∷ []) is_feed in
    no_line_by_bare bytes (take feed bytes) (drop (feed + 1) bytes)
    (sym (take-append-drop (feed + 1) bytes) ∙ ap (λ (t : List ℕ). t ++ drop (feed + 1) bytes) ends ∙ append_assoc (take feed bytes) (10 ∷ []) (drop (feed + 1) bytes))
    (no_feed_before bytes feed at) bare

-- so many lines don't stand where fewer of them end before none
pub BeginsNoFullLines-by_fewer : (bytes rest : List ℕ) (taken count : ℕ) → TakesFullLines bytes taken rest → BeginsNoFullLine rest
    → taken < count → BeginsNoFullLines bytes count
BeginsNoFullLines-by_fewer bytes rest taken count so_far none fewer lines after full many e =
    strip_lines so_far.full_lines lines rest after so_far.full full (omega (arith, so_far.many, many)) (sym so_far.whole ∙ e) none

-- what crowded bytes have behind their empty lines
crowded_behind : (bytes middle : List ℕ) → SkipsEmptyLines bytes middle → BeginsNoEmptyLine middle → (c : Crowded bytes)
    → middle ≡ flat_map (λ line. line) c.full_lines ++ c.next ∷ c.more
crowded_behind bytes middle blank all c =
    same_behind_empty blank.empty_lines c.empty_lines middle (flat_map (λ line. line) c.full_lines ++ c.next ∷ c.more) blank.empty c.empty all
    (begins c.full_lines c.full c.many)
    (sym blank.whole ∙ c.whole ∙ append_assoc (flat_map (λ line. line) c.empty_lines) (flat_map (λ line. line) c.full_lines) (c.next ∷ c.more))
  where
    begins : (lines : List (List ℕ)) → All IsFullLine lines → length lines ≡ 65 → BeginsNoEmptyLine (flat_map (λ line. line) lines ++ c.next ∷ c.more)
    begins [] full many = absurd (omega arith)
    begins (l ∷ ls) full many =
        let P : List ℕ → Type 0 = BeginsNoEmptyLine in
        subst P (sym (append_assoc l (flat_map (λ line. line) ls) (c.next ∷ c.more)))
        (full_begins_no_empty l (flat_map (λ line. line) ls ++ c.next ∷ c.more) (All-head IsFullLine l ls full))

-- bytes with fewer lines are not crowded
pub not_crowded-by_fewer : (bytes middle : List ℕ) → SkipsEmptyLines bytes middle → BeginsNoEmptyLine middle → BeginsNoFullLines middle 65
    → Crowded bytes → ⊥
not_crowded-by_fewer bytes middle blank all none c =
    none c.full_lines (c.next ∷ c.more) c.full c.many (crowded_behind bytes middle blank all c)

-- crowded bytes have a byte behind their lines that ends none
pub crowded_begins_text : (bytes middle rest : List ℕ) → SkipsEmptyLines bytes middle → BeginsNoEmptyLine middle → TakesFullLines middle 65 rest
    → Crowded bytes → BeginsText rest
crowded_begins_text bytes middle rest blank all lines c =
    let same : rest ≡ c.next ∷ c.more = same_behind_lines lines.full_lines c.full_lines rest (c.next ∷ c.more) lines.full c.full (lines.many ∙ sym c.many)
    (sym lines.whole ∙ crowded_behind bytes middle blank all c) in
    let P : List ℕ → Type 0 = BeginsText in
    subst P (sym same) (record { some = omega arith; no_feed = c.no_feed; no_return = c.no_return })
