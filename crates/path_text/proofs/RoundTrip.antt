-- What is written is read back.
use Rattle.std.proofs.Common.{◌≡◌, ℕ, List, [], Option, None, Result, Ok, option_map, ◌+◌, drop, sym, ap, ◌∙◌}
use Rattle.std.specs.List.{position}
use Rattle.percent_encoding.specs.Percent.{percent_decode}
use Rattle.path_text.specs.Texts.{KeepsLimits, plain_path}
use Rattle.path_text.specs.Targets.{bad_escape, is_question_mark, path_piece, query_piece, query_pairs, target_parts, target_path, unless_escape_is_bad, with_query, written_path}
use Rattle.path_text.specs.declared.fault.TargetStop.{TargetStop}
use Rattle.path_text.proofs.PlaceLemmas.{before_none}
use Rattle.path_text.proofs.WrittenLemmas.{written_clean}
use Rattle.path_text.proofs.ReadLemmas.{nowhere, path_is_read}

written_path_is_read : (path : List (List ℕ)) → KeepsLimits path → path_piece (written_path path) ≡ written_path path → target_path (written_path path) ≡ Ok path
unfolding target_path written_path
written_path_is_read path limits whole =
    let clean = written_clean path limits in
    ap (λ (t : List ℕ). unless_escape_is_bad (bad_escape t) (plain_path (percent_decode t))) whole
    ∙ ap (λ (o : Option ℕ). unless_escape_is_bad o (plain_path (percent_decode (written_path path)))) clean.escapes
    ∙ ap plain_path clean.decoded
    ∙ path_is_read path limits

pub written_is_read : (path : List (List ℕ)) → KeepsLimits path → target_parts (written_path path) ≡ Ok (path, [])
unfolding target_parts query_pairs
written_is_read path limits =
    let none : position is_question_mark (written_path path) ≡ None = nowhere is_question_mark (written_path path) (written_clean path limits).no_mark in
    let whole : path_piece (written_path path) ≡ written_path path = sym (before_none is_question_mark (written_path path) none) in
    let query : query_piece (written_path path) ≡ None = ap (option_map (λ at. drop (at + 1) (written_path path))) none in
    ap (λ (r : Result (List (List ℕ)) TargetStop). with_query r (query_piece (written_path path))) (written_path_is_read path limits whole)
    ∙ ap (λ (o : Option (List ℕ)). with_query (Ok path) o) query
