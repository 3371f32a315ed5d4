use Rattle.std.proofs.Common.{◌≡◌, ◌≢◌, ◌+◌, [], ◌∷◌, length, take, arith, rules, Some, None}
use Rattle.std.proofs.lemmas.Slice.{between_to_end}
use Rattle.std.specs.Prelude.{position, ◌==◌, ◌⊎◌}
use Rattle.http_front.proofs.LineLemmas.{TakesFullLine-from_position, BeginsNoFullLine-by_bare, BeginsNoFullLine-by_none}
use Rattle.http_front.proofs.lines.after_full_line.Goals as goal

pub returns-in_default : goal.returns-in_default
returns-in_default c =
    let none : position (λ b. b == 10) c.args.bytes.now ≡ None = search rules in
    BeginsNoFullLine-by_none c.args.bytes.now none

pub returns-then-is_bare : goal.returns-then-is_bare
returns-then-is_bare c =
    let bytes = c.args.bytes.now in
    let feed = c.in-Some.feed in
    let at : position (λ b. b == 10) bytes ≡ Some feed = search rules in
    let bare : (take feed bytes ≡ []) ⊎ (take feed bytes ≡ 13 ∷ []) = search rules in
    BeginsNoFullLine-by_bare bytes feed at bare

pub returns : goal.returns
returns c =
    let bytes = c.args.bytes.now in
    let feed = c.in-Some.feed in
    let at : position (λ b. b == 10) bytes ≡ Some feed = search rules in
    let bare : take feed bytes ≢ [] = search rules in
    let returned : take feed bytes ≢ 13 ∷ [] = search rules in
    rw (between_to_end bytes (feed + 1) (length bytes) (omega arith)) (TakesFullLine-from_position bytes feed at bare returned)
