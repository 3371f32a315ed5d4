-- What the parser's answers say of complete requests.
use Rattle.std.proofs.Common.{◌≡◌, ◌≢◌, ℕ, ◌<◌, ◌≤◌, List, [], ◌++◌, length, take, drop, refl, ap, ◌∙◌, subst, arith, append-nil, length-take}
use Rattle.std.specs.Prelude.{map}
use Rattle.std.proofs.lemmas.List.{length-map}
use Rattle.httparse.specs.declared.Error.{Error}
use Rattle.httparse.specs.declared.Error.TheVariants.{HeaderName, HeaderValue, NewLine, Status, Token, TooManyHeaders, Version}
use Rattle.httparse.specs.declared.spans.HeaderSpan.{HeaderSpan}
use Rattle.httparse.specs.declared.spans.RequestSpans.{RequestSpans}
use Rattle.httparse.specs.Grammar.{RequestHead, ReadsRequest, HasNoRequest, NeverHasRequest, MayBecomeRequest}
use Rattle.httparse.specs.Spans.{header_bytes, name_and_value, IsRequestWithin, IsRequestAt, IsRequestOf, RequestOverflows, RequestExceeds}
use Rattle.conn_io.specs.Crowded.{Crowded}
use Rattle.http_front.specs.declared.limits.TheConstants.{HEAD_MOST, HEADERS_MOST}
use Rattle.http_front.specs.declared.answers.BadHttp.{BadHttp}
use Rattle.http_front.specs.declared.answers.BadHttp.TheVariants as bads
use Rattle.http_front.specs.declared.raw.Parts.{Parts}
use Rattle.http_front.specs.Requests.{TellsBody}
use Rattle.http_front.specs.Framings.{IsCoded, HasBadLength, HasLargeBody}
use Rattle.http_front.specs.Reads.{BeginsWithHead, IsBad, AwaitsHead, GivesBad}
use Rattle.http_front.specs.Finds.{FindsHead, parts_at, parts_of, fault_of}
use Rattle.http_front.proofs.TextLemmas.{print_request_some}
use Rattle.http_front.proofs.CauseLemmas.{bad_begins_none, crowded_some}
use Rattle.http_front.proofs.HeadLines.{crowded_from_exceeds}

-- the head that the spans cover, as one within the limits
head_found : (bytes : List ℕ) (spans : List HeaderSpan) (r : RequestSpans) (h : RequestHead) → IsRequestWithin bytes spans r
    → IsRequestAt bytes spans r h → length bytes ≤ HEAD_MOST → length spans ≤ HEADERS_MOST → BeginsWithHead bytes h (drop r.len bytes)
head_found bytes spans r h within at short few = record {
  reads = at.reads;
  short = omega (arith, at.len, within.section.len_fits);
  few = omega (arith, length-map h.fields name_and_value, length-map (take r.headers spans) (header_bytes bytes), ap length at.fields, length-take r.headers spans);
}

-- the spans of a head that tells a body
pub whole_found : (bytes : List ℕ) (spans : List HeaderSpan) (r : RequestSpans) (parts : Parts) (many : ℕ) → IsRequestWithin bytes spans r
    → IsRequestOf bytes spans r → length bytes ≤ HEAD_MOST → length spans ≤ HEADERS_MOST → parts ≡ parts_at bytes spans r
    → TellsBody (map (header_bytes bytes) (take r.headers spans)) many → FindsHead bytes (record { parts = parts; head_bytes = r.len; body_bytes = many })
unfolding parts_at parts_of
whole_found bytes spans r parts many within is_head short few are_parts tells =
    let h = is_head.0 in
    let at = is_head.1 in
    record {
      text = h;
      begins = head_found bytes spans r h within at short few;
      fits = within.section.len_fits;
      tells = subst (λ (hs : List (List ℕ × List ℕ)). TellsBody hs many) at.fields tells;
      parts_are = are_parts ∙ (λ i. record { method = at.method i; target = at.path i; minor = at.version i; headers = at.fields i });
    }

-- what is said of refused bytes, at least one
bad_found : (bytes : List ℕ) (bad : BadHttp) → 1 ≤ length bytes → IsBad bad bytes → GivesBad bad bytes
bad_found bytes bad some cause = record {
  some = some;
  begins_with_none = λ t rest begins. bad_begins_none bad bytes [] cause t rest (begins.0, append-nil bytes ∙ begins.1);
  cause = cause;
}

-- a head has a byte
head_some : (bytes : List ℕ) (h : RequestHead) (rest : List ℕ) → BeginsWithHead bytes h rest → 1 ≤ length bytes
head_some bytes h rest at = omega (arith, print_request_some h rest at.reads.0, ap length at.reads.1)

module _ (bytes : List ℕ) (spans : List HeaderSpan) (r : RequestSpans) (within : IsRequestWithin bytes spans r) (is_head : IsRequestOf bytes spans r)
    (short : length bytes ≤ HEAD_MOST) (few : length spans ≤ HEADERS_MOST) where
  pub coded_found : IsCoded (map (header_bytes bytes) (take r.headers spans)) → GivesBad bads.NoLength bytes
  coded_found coded =
      let at = head_found bytes spans r is_head.0 within is_head.1 short few in
      bad_found bytes bads.NoLength (head_some bytes is_head.0 (drop r.len bytes) at) (record {
        head = is_head.0;
        rest = drop r.len bytes;
        begins = at;
        shows = subst (λ (hs : List (List ℕ × List ℕ)). IsCoded hs) is_head.1.fields coded;
      })

  pub length_found : HasBadLength (map (header_bytes bytes) (take r.headers spans)) → GivesBad bads.BadLength bytes
  length_found wrong =
      let at = head_found bytes spans r is_head.0 within is_head.1 short few in
      bad_found bytes bads.BadLength (head_some bytes is_head.0 (drop r.len bytes) at) (record {
        head = is_head.0;
        rest = drop r.len bytes;
        begins = at;
        shows = subst (λ (hs : List (List ℕ × List ℕ)). HasBadLength hs) is_head.1.fields wrong;
      })

  pub large_found : HasLargeBody (map (header_bytes bytes) (take r.headers spans)) → GivesBad bads.BodyTooLarge bytes
  large_found large =
      let at = head_found bytes spans r is_head.0 within is_head.1 short few in
      bad_found bytes bads.BodyTooLarge (head_some bytes is_head.0 (drop r.len bytes) at) (record {
        head = is_head.0;
        rest = drop r.len bytes;
        begins = at;
        shows = subst (λ (hs : List (List ℕ × List ℕ)). HasLargeBody hs) is_head.1.fields large;
      })

-- no head yet
pub unfinished_found : (bytes : List ℕ) → HasNoRequest bytes → MayBecomeRequest bytes → length bytes < HEAD_MOST → (Crowded bytes → ⊥)
    → AwaitsHead bytes
unfinished_found bytes none goes_on short not_crowded =
    record { no_head = none; short = short; not_crowded = not_crowded; goes_on = λ _. goes_on }

pub long_found : (bytes : List ℕ) → HasNoRequest bytes → HEAD_MOST ≤ length bytes → GivesBad bads.HeadTooLong bytes
long_found bytes none long = bad_found bytes bads.HeadTooLong (omega (arith, long)) (long, λ h rest reads. absurd (none h rest reads))

pub crowded_found : (bytes : List ℕ) → HasNoRequest bytes → Crowded bytes → GivesBad bads.TooManyHeaders bytes
crowded_found bytes none crowded =
    bad_found bytes bads.TooManyHeaders (crowded_some bytes crowded) (crowded, λ h rest reads. absurd (none h rest reads))

-- a head at the front of the bytes is one of the bytes and no more
as_front : (bytes : List ℕ) (h : RequestHead) (rest : List ℕ) → ReadsRequest bytes h rest → ReadsRequest (bytes ++ []) h rest
as_front bytes h rest reads = (reads.0, append-nil bytes ∙ reads.1)

never_found : (bytes : List ℕ) → 1 ≤ length bytes → NeverHasRequest bytes → GivesBad bads.NoHead bytes
never_found bytes some never = bad_found bytes bads.NoHead some never

exceeds_found : (bytes : List ℕ) → 1 ≤ length bytes → RequestOverflows 64 bytes → RequestExceeds 64 bytes → GivesBad bads.TooManyHeaders bytes
exceeds_found bytes some over exceeds =
    bad_found bytes bads.TooManyHeaders some (crowded_from_exceeds bytes exceeds, λ h rest reads. over [] h rest (as_front bytes h rest reads))

-- an error of the parser
pub error_found : (bytes : List ℕ) (e : Error) → 1 ≤ length bytes → (e ≢ TooManyHeaders → NeverHasRequest bytes) → RequestOverflows 64 bytes
    → (e ≡ TooManyHeaders → RequestExceeds 64 bytes) → GivesBad (fault_of e) bytes
error_found bytes HeaderName some never over exceeds = never_found bytes some (never (λ same. cc))
error_found bytes HeaderValue some never over exceeds = never_found bytes some (never (λ same. cc))
error_found bytes NewLine some never over exceeds = never_found bytes some (never (λ same. cc))
error_found bytes Status some never over exceeds = never_found bytes some (never (λ same. cc))
error_found bytes Token some never over exceeds = never_found bytes some (never (λ same. cc))
error_found bytes TooManyHeaders some never over exceeds = exceeds_found bytes some over (exceeds refl)
error_found bytes Version some never over exceeds = never_found bytes some (never (λ same. cc))
