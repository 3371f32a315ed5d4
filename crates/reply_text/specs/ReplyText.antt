-- The bytes of a reply (RFC 9112, sections 4 and 6; the names of headers and codes are those of Microsoft's REST reference).
use Rattle.std.specs.Prelude.{ℕ, ◌≤◌, Bool, true, false, ◌||◌, ◌==◌, List, [], ◌∷◌, ◌++◌, ⊤, length, All, count_by, codes, decimal, Option, Some, None, if◌then◌else◌}
use Rattle.acl_text.specs.PermTexts.{perm_text}
use Rattle.http.specs.StatusCode.{IsStatusCode}
use Rattle.serde_json.specs.Data.{Data, object, member, no_members, string}
use Rattle.serde_json.specs.Written.{compact_text}
use Rattle.head_text.specs.Hex.{hex16}
use Rattle.lease_state.specs.declared.lease.TheConstants.{LAST_MOMENT}
use Rattle.path_text.specs.Targets.{written_path}
use Rattle.namespace_model.specs.declared.code.Code.{Code}
use Rattle.namespace_model.specs.declared.denied.Denied.{Denied}
use Rattle.namespace_model.specs.declared.field.Field.{Field}
use Rattle.namespace_model.specs.declared.field.Field.TheVariants.{ETag, LastModified, ContentLength}
use Rattle.namespace_model.specs.declared.reply.Reply.{Reply}
use Rattle.namespace_model.specs.Codes.{code_text, message_text}
use Rattle.reply_text.specs.Lines.{line_end, line, status_line, moment_text, rule_text, field_lines}

-- the lines that every reply to an entry begins with
unfoldable pub start_lines : ℕ → ℕ → ℕ → List ℕ
start_lines status moment number =
    status_line status ++ line (codes "Date") (moment_text moment) ++ line (codes "x-ms-request-id") (hex16 number)
    ++ line (codes "x-ms-version") (codes "2020-08-04")

-- the reply to a HEAD, and a 304, have no body
abbrev pub is_bare : Reply → Bool → Bool
is_bare reply head = head || reply.status == 304

-- ---- refusals

-- `{"error":{"code":C,"message":M}}`
abbrev pub fault_data : List ℕ → List ℕ → Data
fault_data code message =
    object (member (codes "error") (object (member (codes "code") (string code) (member (codes "message") (string message) no_members))) no_members)

unfoldable pub fault_body : Code → List ℕ
fault_body code = compact_text (fault_data (code_text code) (message_text code))

-- a refusal names its code, and before it the type of its body where it has one
unfoldable pub code_lines : Option Code → Bool → List ℕ
code_lines None bare = []
code_lines (Some code) true = line (codes "x-ms-error-code") (code_text code)
code_lines (Some code) false = line (codes "Content-Type") (codes "application/json") ++ line (codes "x-ms-error-code") (code_text code)

-- the rule that denies, where, what was wanted, and the bits that were compared last
unfoldable pub denial_lines : Denied → List ℕ
denial_lines d =
    line (codes "x-ms-denied-rule") (rule_text d.rule) ++ line (codes "x-ms-denied-path") (written_path d.at)
    ++ line (codes "x-ms-denied-want") (perm_text d.want) ++ line (codes "x-ms-denied-have") (perm_text d.have)

abbrev pub denied_lines : Option Denied → List ℕ
denied_lines None = []
denied_lines (Some d) = denial_lines d

-- ---- bodies and their lengths

-- the body of a refusal follows from its code
abbrev pub body_of : Option Code → List ℕ → List ℕ
body_of None body = body
body_of (Some code) body = fault_body code

unfoldable pub body_text : Reply → Bool → List ℕ
body_text reply head = if is_bare reply head then [] else body_of reply.code reply.body

-- the length of a file whose bytes are not sent, and 0 where no field states one
abbrev pub stated_length : List Field → ℕ
stated_length [] = 0
stated_length (ContentLength len ∷ fields) = len
stated_length (field ∷ fields) = stated_length fields

-- the reply to a HEAD states the length of the file, any other that of its body
abbrev pub content_length : Reply → Bool → ℕ
content_length reply true = stated_length reply.fields
content_length reply false = length (body_text reply false)

-- a 304 states no length
unfoldable pub length_line : Reply → Bool → List ℕ
length_line reply head = if reply.status == 304 then [] else line (codes "Content-Length") (decimal (content_length reply head))

-- ---- the whole

-- the lines behind the fields, and the empty line
unfoldable pub end_lines : Reply → Bool → List ℕ
end_lines reply head = code_lines reply.code (is_bare reply head) ++ denied_lines reply.denied ++ length_line reply head ++ line_end

-- the text of a reply to the entry with this number and moment; `head` says that the request was a HEAD
unfoldable pub reply_text : Reply → ℕ → ℕ → Bool → List ℕ
reply_text reply number moment head =
    start_lines reply.status moment number ++ field_lines number reply.fields ++ end_lines reply head ++ body_text reply head

-- the moment of a field is before the year 10000
abbrev pub IsInTime : Field → Type 0
IsInTime (LastModified moment) = moment ≤ LAST_MOMENT
IsInTime other = ⊤

-- an ETag line that leaves its number open
abbrev pub is_open : Field → Bool
is_open (ETag None) = true
is_open other = false

-- the status has three digits, every moment is before the year 10000, and at most one ETag leaves its number open
pub record CanSpell (reply : Reply) : Type 0 where
  pub status : IsStatusCode reply.status
  pub moments : All IsInTime reply.fields
  pub one_open : count_by is_open reply.fields ≤ 1
