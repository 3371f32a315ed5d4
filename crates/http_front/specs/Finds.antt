-- What stands at the front of bytes that are no more than a head may have.
use Rattle.std.specs.Prelude.{◌≡◌, ℕ, ◌≤◌, List, length, map, take, drop}
use Rattle.httparse.specs.Grammar.{RequestHead}
use Rattle.httparse.specs.Spans.{span_bytes, header_bytes}
use Rattle.httparse.specs.declared.spans.HeaderSpan.{HeaderSpan}
use Rattle.httparse.specs.declared.spans.RequestSpans.{RequestSpans}
use Rattle.httparse.specs.declared.Error.{Error}
use Rattle.httparse.specs.declared.Error.TheVariants as errors
use Rattle.http_front.specs.declared.answers.BadHttp.{BadHttp}
use Rattle.http_front.specs.declared.answers.BadHttp.TheVariants as bads
use Rattle.http_front.specs.declared.raw.Raw.{Raw}
use Rattle.http_front.specs.declared.raw.Parts.{Parts}
use Rattle.http_front.specs.declared.find.Head.{Head}
use Rattle.http_front.specs.declared.find.Found.{Found}
use Rattle.http_front.specs.declared.find.Found.TheVariants as found
use Rattle.http_front.specs.Requests.{headers_in, TellsBody}
use Rattle.http_front.specs.Reads.{BeginsWithHead, AwaitsHead, GivesBad}

-- the parts of a request that the spans cover
unfoldable pub parts_at : List ℕ → List HeaderSpan → RequestSpans → Parts
parts_at bytes spans head = record {
  method = span_bytes bytes head.method;
  target = span_bytes bytes head.path;
  minor = head.version;
  headers = map (header_bytes bytes) (take head.headers spans);
}

-- the parts of a head as the reader hands them out
unfoldable pub parts_of : RequestHead → Parts
parts_of head = record { method = head.method; target = head.target; minor = head.minor; headers = headers_in head }

-- these parts, and a body
abbrev pub raw_from : Parts → List ℕ → Raw
raw_from parts body = record { method = parts.method; target = parts.target; minor = parts.minor; headers = parts.headers; body = body }

-- the fault of bytes that the parser refuses
abbrev pub fault_of : Error → BadHttp
fault_of errors.TooManyHeaders = bads.TooManyHeaders
fault_of errors.HeaderName = bads.NoHead
fault_of errors.HeaderValue = bads.NoHead
fault_of errors.NewLine = bads.NoHead
fault_of errors.Status = bads.NoHead
fault_of errors.Token = bads.NoHead
fault_of errors.Version = bads.NoHead

-- a head within the limits stands at the front, and tells the length of a body that is taken
pub record FindsHead (bytes : List ℕ) (head : Head) : Type 0 where
  pub text : RequestHead
  pub begins : BeginsWithHead bytes text (drop head.head_bytes bytes)
  pub fits : head.head_bytes ≤ length bytes
  pub tells : TellsBody (headers_in text) head.body_bytes
  pub parts_are : head.parts ≡ parts_of text

-- what stands at the front
abbrev pub FindsAt : List ℕ → Found → Type 0
FindsAt bytes (found.Head head) = FindsHead bytes head
FindsAt bytes found.Unfinished = AwaitsHead bytes
FindsAt bytes (found.Bad bad) = GivesBad bad bytes
