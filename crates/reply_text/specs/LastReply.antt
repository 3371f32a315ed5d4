-- The bytes of the last reply on a connection that no entry is replied on any more.
use Rattle.std.specs.Prelude.{ℕ, List, ◌++◌, codes}
use Rattle.head_text.specs.Hex.{hex16}
use Rattle.http_front.specs.declared.answers.BadHttp.{BadHttp}
use Rattle.http_front.specs.declared.answers.BadHttp.TheVariants.{NoHead, HeadTooLong, TooManyHeaders, BadLength, NoLength, BodyTooLarge}
use Rattle.reply_text.specs.declared.last.Last.{Last}
use Rattle.reply_text.specs.declared.last.Last.TheVariants.{Bad, Busy}
use Rattle.reply_text.specs.Lines.{line_end, line, status_line}

-- the status of bytes that are refused (RFC 9110, section 15.5, and RFC 6585, section 5)
abbrev pub bad_status : BadHttp → ℕ
bad_status NoHead = 400
bad_status HeadTooLong = 431
bad_status TooManyHeaders = 431
bad_status BadLength = 400
bad_status NoLength = 411
bad_status BodyTooLarge = 413

-- and their code
abbrev pub bad_code : BadHttp → List ℕ
bad_code NoHead = codes "InvalidInput"
bad_code HeadTooLong = codes "HeadTooLarge"
bad_code TooManyHeaders = codes "HeadTooLarge"
bad_code BadLength = codes "InvalidInput"
bad_code NoLength = codes "MissingContentLengthHeader"
bad_code BodyTooLarge = codes "RequestBodyTooLarge"

abbrev pub last_status : Last → ℕ
last_status (Bad bad) = bad_status bad
last_status Busy = 503

abbrev pub last_code : Last → List ℕ
last_code (Bad bad) = bad_code bad
last_code Busy = codes "ServerBusy"

-- it ends the connection, and has no date, no number and no body
unfoldable pub last_reply_text : Last → List ℕ
last_reply_text last =
    status_line (last_status last) ++ line (codes "x-ms-request-id") (hex16 0) ++ line (codes "x-ms-version") (codes "2020-08-04")
    ++ line (codes "Connection") (codes "close") ++ line (codes "x-ms-error-code") (last_code last)
    ++ line (codes "Content-Length") (codes "0") ++ line_end
