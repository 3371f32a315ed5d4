-- A target is refused exactly where the statement of the refusal on its bytes holds.
use Rattle.std.proofs.Common.{◌≡◌, ◌≢◌, ℕ, inl, inr, Bool, true, false, cond, List, get_or, Option, Some, None, is_some, Result, Ok, Err, IfOk, IfErr, refl, sym, ap, ◌∙◌, subst, ⊎_elim}
use Rattle.std.proofs.lemmas.Bool.{false≢true}
use Rattle.percent_encoding.specs.Percent.{percent_decode}
use Rattle.path_text.specs.declared.fault.PathFault.{PathFault}
use Rattle.path_text.specs.declared.fault.PathFault.TheVariants.{BadEscape, NotUtf8, EmptyName, DotName, NameTooLong, PathTooLong, TooDeep, ControlByte, BadFsName}
use Rattle.path_text.specs.declared.fault.TargetStop.{TargetStop}
use Rattle.path_text.specs.declared.fault.TargetStop.TheVariants.{Fault, BadQuery, NoMemory}
use Rattle.path_text.specs.Names.{is_slash}
use Rattle.path_text.specs.Texts.{BeginsWithSlash, inner, path_or_fault, plain_path, split_parts, text_fault}
use Rattle.path_text.specs.Targets.{HasNoBadEscape, bad_escape, path_piece, query_pairs, query_piece, target_parts, target_path, unless_escape_is_bad, with_query}
use Rattle.path_text.specs.Faults.{Answers, IsFaultOfDecoded, IsPathFault, IsTargetFault, IsTargetRefused}
use Rattle.path_text.proofs.LawLemmas.{first_bad_escape}
use Rattle.path_text.proofs.FaultLemmas.{begins, fault_of_text, no_slash_of, slash_of, text_of_fault}
use Rattle.path_text.proofs.QueryLemmas.{no_bad, none_bad}
use Rattle.path_text.proofs.TargetLemmas.{path_is_spelled_there, path_there}

-- ---- answers up to want of memory

pub answers_of : {T : Type 0} (result answer : Result T TargetStop) → IfOk result (λ x. answer ≡ Ok x) → IfErr result (λ stop. stop ≢ NoMemory → answer ≡ Err stop) → Answers result answer
answers_of (Ok x) answer value stops = inl (sym value)
answers_of (Err NoMemory) answer value stops = inr refl
answers_of (Err BadQuery) answer value stops = inl (sym (stops (λ e. cc)))
answers_of (Err (Fault fault)) answer value stops = inl (sym (stops (λ e. cc)))

pub stopped_by : {T : Type 0} (result answer : Result T TargetStop) (stop : TargetStop) → IfErr result (λ s. s ≢ NoMemory → answer ≡ Err s) → result ≡ Err stop → stop ≢ NoMemory → answer ≡ Err stop
stopped_by result answer stop stops e known = subst (λ r. IfErr r (λ s. s ≢ NoMemory → answer ≡ Err s)) e stops known

stop_is : {T : Type 0} (a b : TargetStop) → ◌≡◌ {A = Result T TargetStop} (Err a) (Err b) → a ≡ b
stop_is a b e = cc

-- ---- texts that aren't escaped

stops_at : (fault : Option PathFault) (path : List (List ℕ)) (stop : TargetStop) → path_or_fault fault path ≡ Err stop → (f : PathFault) × (fault ≡ Some f) × (Fault f ≡ stop)
stops_at None path stop e = cc
stops_at (Some f) path stop e = (f, refl, stop_is _ stop e)

pub plain_stopped : (text : List ℕ) (f : PathFault) → plain_path text ≡ Err (Fault f) → IsPathFault text f
unfolding plain_path
plain_stopped text f e =
    let at = stops_at (text_fault text) (split_parts (inner text)) (Fault f) e in
    let same : at.0 ≡ f = inside at.0 f at.2 in
    subst (IsPathFault text) same (fault_of_text text at.0 at.1)
  where
    inside : (a b : PathFault) → Fault a ≡ Fault b → a ≡ b
    inside a b e = cc

pub plain_stops : (text : List ℕ) (f : PathFault) → IsPathFault text f → plain_path text ≡ Err (Fault f)
unfolding plain_path
plain_stops text f h = ap (λ o. path_or_fault o (split_parts (inner text))) (text_of_fault text f h)

-- ---- targets

of_decoded : (target : List ℕ) (f : PathFault) → IsFaultOfDecoded target f → IsTargetFault target f
of_decoded target (BadEscape at) h = absurd h.decoded
of_decoded target (EmptyName at) h = inr h
of_decoded target (NotUtf8 at) h = h
of_decoded target (ControlByte at) h = h
of_decoded target PathTooLong h = h
of_decoded target TooDeep h = h
of_decoded target BadFsName h = h
of_decoded target (DotName at) h = h
of_decoded target (NameTooLong at) h = h

plain_refused : (target : List ℕ) (stop : TargetStop) → BeginsWithSlash target → HasNoBadEscape (path_piece target) → plain_path (percent_decode (path_piece target)) ≡ Err stop → IsTargetRefused target stop
unfolding plain_path
plain_refused target stop slash escapes e =
    let text = percent_decode (path_piece target) in
    let at = stops_at (text_fault text) (split_parts (inner text)) stop e in
    subst (IsTargetRefused target) at.2 (of_decoded target at.0 (record { slash = slash; escapes = escapes; decoded = fault_of_text text at.0 at.1 }))

path_refused : (target : List ℕ) (stop : TargetStop) → target_path target ≡ Err stop → IsTargetRefused target stop
unfolding target_path
path_refused target stop e = at_slash (is_slash (get_or target 0 0)) refl e
  where
    at_escape : (o : Option ℕ) → BeginsWithSlash target → bad_escape (path_piece target) ≡ o → unless_escape_is_bad o (plain_path (percent_decode (path_piece target))) ≡ Err stop → IsTargetRefused target stop
    at_escape (Some at) slash is e = subst (IsTargetRefused target) (stop_is _ stop e) (slash, (first_bad_escape (path_piece target) at).0 is)
    at_escape None slash is e = plain_refused target stop slash (no_bad (path_piece target) is) e

    at_slash : (b : Bool) → is_slash (get_or target 0 0) ≡ b
        → cond b (unless_escape_is_bad (bad_escape (path_piece target)) (plain_path (percent_decode (path_piece target)))) (Err (Fault (EmptyName 0))) ≡ Err stop
        → IsTargetRefused target stop
    at_slash true is e = at_escape (bad_escape (path_piece target)) (begins target is) refl e
    at_slash false is e = subst (IsTargetRefused target) (stop_is _ stop e) (inl (refl, λ h. false≢true (sym is ∙ slash_of target h)))

pub refused_where : (target : List ℕ) (stop : TargetStop) → target_parts target ≡ Err stop → IsTargetRefused target stop
unfolding target_parts
refused_where target stop e = at_path (target_path target) refl e
  where
    at_query : (path : List (List ℕ)) (o : Option (List ℕ)) → target_path target ≡ Ok path → query_piece target ≡ o → with_query (Ok path) o ≡ Err stop → IsTargetRefused target stop
    at_query path None read is e = cc
    at_query path (Some query) read is e = at_bad (bad_escape query) refl e
      where
        at_bad : (b : Option ℕ) → bad_escape query ≡ b → cond {A = Result (List (List ℕ) × List (List ℕ × List ℕ)) TargetStop} (is_some b) (Err BadQuery) (Ok (path, query_pairs (Some query))) ≡ Err stop → IsTargetRefused target stop
        at_bad None bad e = cc
        at_bad (Some at) bad e =
            subst (IsTargetRefused target) (stop_is BadQuery stop e) ((path, path_there target path read), (query, is, (at, (first_bad_escape query at).0 bad)))

    at_path : (r : Result (List (List ℕ)) TargetStop) → target_path target ≡ r → with_query r (query_piece target) ≡ Err stop → IsTargetRefused target stop
    at_path (Err s) is e = subst (IsTargetRefused target) (stop_is s stop e) (path_refused target s is)
    at_path (Ok path) is e = at_query path (query_piece target) is refl e

decoded_fault : (target : List ℕ) (f : PathFault) → IsFaultOfDecoded target f → target_path target ≡ Err (Fault f)
unfolding target_path
decoded_fault target f h =
    rw (slash_of target h.slash, none_bad (path_piece target) h.escapes) (plain_stops (percent_decode (path_piece target)) f h.decoded)

path_fault : (target : List ℕ) (f : PathFault) → IsTargetFault target f → target_path target ≡ Err (Fault f)
unfolding target_path
path_fault target (BadEscape at) h = rw (slash_of target h.0, (first_bad_escape (path_piece target) at).1 h.1) refl
path_fault target (EmptyName at) h = ⊎_elim (λ none. rw (no_slash_of target none.1, none.0) refl) (λ later. decoded_fault target (EmptyName at) later) h
path_fault target (NotUtf8 at) h = decoded_fault target (NotUtf8 at) h
path_fault target (ControlByte at) h = decoded_fault target (ControlByte at) h
path_fault target PathTooLong h = decoded_fault target PathTooLong h
path_fault target TooDeep h = decoded_fault target TooDeep h
path_fault target BadFsName h = decoded_fault target BadFsName h
path_fault target (DotName at) h = decoded_fault target (DotName at) h
path_fault target (NameTooLong at) h = decoded_fault target (NameTooLong at) h

pub where_refused : (target : List ℕ) (stop : TargetStop) → IsTargetRefused target stop → target_parts target ≡ Err stop
unfolding target_parts
where_refused target (Fault f) h = ap (λ (r : Result (List (List ℕ)) TargetStop). with_query r (query_piece target)) (path_fault target f h)
where_refused target BadQuery h =
    let path = h.0.0 in
    let query = h.1.0 in
    ap (λ (r : Result (List (List ℕ)) TargetStop). with_query r (query_piece target)) (path_is_spelled_there target path h.0.1)
    ∙ ap (λ o. with_query (Ok path) o) h.1.1
    ∙ ap (λ (o : Option ℕ). cond (is_some o) (Err BadQuery) (Ok (path, query_pairs (Some query)))) ((first_bad_escape query h.1.2.0).1 h.1.2.1)
where_refused target NoMemory h = absurd h

pub ok_as : {T : Type 0} {P : T → Type 0} (result answer : Result T TargetStop) → IfOk result (λ x. answer ≡ Ok x) → ((x : T) → answer ≡ Ok x → P x) → IfOk result P
ok_as (Ok x) answer value holds = holds x value
ok_as (Err stop) answer value holds = value
