-- A target is read exactly where it spells a path and a query.
use Rattle.std.proofs.Common.{◌≡◌, ℕ, Bool, true, false, cond, List, [], get_or, Option, Some, None, Result, Ok, Err, refl, sym, ap, subst, ◌∙◌}
use Rattle.percent_encoding.specs.Percent.{percent_decode}
use Rattle.path_text.specs.declared.fault.TargetStop.{TargetStop}
use Rattle.path_text.specs.declared.fault.TargetStop.TheVariants.{Fault, BadQuery}
use Rattle.path_text.specs.declared.fault.PathFault.TheVariants.{EmptyName}
use Rattle.path_text.specs.Names.{is_slash}
use Rattle.path_text.specs.Texts.{plain_path}
use Rattle.path_text.specs.Targets.{SpellsQueryPart, SpellsTarget, SpellsTargetPath, bad_escape, has_bad_query, path_piece, query_piece, query_pairs, target_parts, target_path, unless_escape_is_bad, with_query}
use Rattle.path_text.proofs.GrammarLemmas.{path_is_spelled}
use Rattle.path_text.proofs.ReadLemmas.{spelled_is_read}
use Rattle.path_text.proofs.FaultLemmas.{begins, slash_of}
use Rattle.path_text.proofs.QueryLemmas.{no_bad, none_bad, query_part_is, query_part_spelled}

-- ---- what is spelled is read

pub path_is_spelled_there : (target : List ℕ) (path : List (List ℕ)) → SpellsTargetPath target path → target_path target ≡ Ok path
unfolding target_path
path_is_spelled_there target path is =
    rw (slash_of target is.slash, none_bad (path_piece target) is.escapes) (spelled_is_read (percent_decode (path_piece target)) path is.limits is.spelled)

pub spelled_target_is_read : (target : List ℕ) (path : List (List ℕ)) (query : List (List ℕ × List ℕ)) → SpellsTarget target path query → target_parts target ≡ Ok (path, query)
unfolding target_parts
spelled_target_is_read target path query is =
    let part = query_part_is (query_piece target) query is.query_part in
    ap (λ (r : Result (List (List ℕ)) TargetStop). with_query r (query_piece target)) (path_is_spelled_there target path is.path_part)
    ∙ ap (λ b. cond b (Err BadQuery) (Ok (path, query_pairs (query_piece target)))) part.0
    ∙ ap (λ q. Ok (path, q)) (sym part.1)

-- ---- what is read is spelled

abbrev Answer : Type 0
Answer = Result (List (List ℕ) × List (List ℕ × List ℕ)) TargetStop

abbrev path_in : Answer → List (List ℕ)
path_in (Ok read) = read.0
path_in (Err stop) = []

abbrev query_in : Answer → List (List ℕ × List ℕ)
query_in (Ok read) = read.1
query_in (Err stop) = []

chosen : (b : Bool) (read path : List (List ℕ)) (pairs query : List (List ℕ × List ℕ)) → ◌≡◌ {A = Answer} (cond b (Err BadQuery) (Ok (read, pairs))) (Ok (path, query)) →
    (b ≡ false) × (read ≡ path) × (query ≡ pairs)
chosen true read path pairs query e = cc
chosen false read path pairs query e = (refl, ap path_in e, sym (ap query_in e))

read_query : (r : Result (List (List ℕ)) TargetStop) (piece : Option (List ℕ)) (path : List (List ℕ)) (query : List (List ℕ × List ℕ)) → with_query r piece ≡ Ok (path, query) →
    (r ≡ Ok path) × (has_bad_query piece ≡ false) × (query ≡ query_pairs piece)
read_query (Err stop) piece path query e = cc
read_query (Ok read) None path query e =
    let same = chosen false read path (query_pairs None) query e in
    (ap (λ p. Ok p) same.1, same.0, same.2)
read_query (Ok read) (Some piece) path query e =
    let same = chosen (has_bad_query (Some piece)) read path (query_pairs (Some piece)) query e in
    (ap (λ p. Ok p) same.1, same.0, same.2)

read_escape : (o : Option ℕ) (r : Result (List (List ℕ)) TargetStop) (path : List (List ℕ)) → unless_escape_is_bad o r ≡ Ok path → (o ≡ None) × (r ≡ Ok path)
read_escape None r path e = (refl, e)
read_escape (Some at) r path e = cc

read_slash : (b : Bool) (r : Result (List (List ℕ)) TargetStop) (path : List (List ℕ)) → cond b r (Err (Fault (EmptyName 0))) ≡ Ok path → (b ≡ true) × (r ≡ Ok path)
read_slash true r path e = (refl, e)
read_slash false r path e = cc

pub path_there : (target : List ℕ) (path : List (List ℕ)) → target_path target ≡ Ok path → SpellsTargetPath target path
unfolding target_path
path_there target path e =
    let piece = path_piece target in
    let slash = read_slash (is_slash (get_or target 0 0)) (unless_escape_is_bad (bad_escape piece) (plain_path (percent_decode piece))) path e in
    let escapes = read_escape (bad_escape piece) (plain_path (percent_decode piece)) path slash.1 in
    let spelled = path_is_spelled (percent_decode piece) path escapes.1 in
    record { slash = begins target slash.0; escapes = no_bad piece escapes.0; limits = spelled.0; spelled = spelled.1 }

pub target_is_spelled : (target : List ℕ) (path : List (List ℕ)) (query : List (List ℕ × List ℕ)) → target_parts target ≡ Ok (path, query) → SpellsTarget target path query
unfolding target_parts
target_is_spelled target path query e =
    let parts = read_query (target_path target) (query_piece target) path query e in
    record {
      path_part = path_there target path parts.0;
      query_part = subst (SpellsQueryPart (query_piece target)) (sym parts.2) (query_part_spelled (query_piece target) parts.1);
    }
