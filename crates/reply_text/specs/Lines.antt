-- The lines of replies (RFC 9112, sections 4 and 5; the names of headers are those of Microsoft's REST reference).
use Rattle.std.specs.Prelude.{ℕ, ◌/◌, Bool, true, false, List, [], ◌∷◌, ◌++◌, codes, decimal, Some, None}
use Rattle.std.specs.List.{flat_map}
use Rattle.http.specs.StatusCode.{status_text}
use Rattle.head_text.specs.DateText.{http_date}
use Rattle.head_text.specs.PropertyTexts.{properties_text}
use Rattle.head_text.specs.TagTexts.{etag_text}
use Rattle.lease_state.specs.LeaseId.{lease_id_text}
use Rattle.lease_state.specs.declared.lease.State.{State}
use Rattle.lease_state.specs.declared.lease.State.TheVariants as state
use Rattle.namespace_model.specs.declared.denied.Rule.{Rule}
use Rattle.namespace_model.specs.declared.denied.Rule.TheVariants as rule
use Rattle.namespace_model.specs.declared.field.Field.{Field}
use Rattle.namespace_model.specs.declared.field.Field.TheVariants.{Close, ETag, LastModified, AcceptRanges, ContentRange, ContentType, ResourceType, Owner, Group, Permissions, Acl, Properties, LeaseState, LeaseStatus, LeaseDuration, LeaseId, LeaseTime, NamespaceEnabled, Continuation, ContentLength}
use Rattle.namespace_model.specs.declared.field.Media.{Media}
use Rattle.namespace_model.specs.declared.field.Media.TheVariants.{Json, Octets}
use Rattle.namespace_model.specs.declared.op.Kind.{Kind}
use Rattle.namespace_model.specs.declared.op.Kind.TheVariants.{File, Directory}

-- carriage return, line feed
abbrev pub line_end : List ℕ
line_end = 13 ∷ 10 ∷ []

-- `name: value` and the end of the line
unfoldable pub line : List ℕ → List ℕ → List ℕ
line name value = name ++ codes ": " ++ value ++ line_end

-- the status with its phrase, as `201 Created`
unfoldable pub status_and_phrase : ℕ → List ℕ
status_and_phrase status = status_text status

unfoldable pub status_line : ℕ → List ℕ
status_line status = codes "HTTP/1.1 " ++ status_and_phrase status ++ line_end

-- ---- values

-- a moment as the date of its whole second
unfoldable pub moment_text : ℕ → List ℕ
moment_text moment = http_date (moment / 1000)

-- the first byte, the last byte, and how many the file has (RFC 9110, section 14.4)
unfoldable pub range_text : ℕ → ℕ → ℕ → List ℕ
range_text from to len = codes "bytes " ++ decimal from ++ codes "-" ++ decimal to ++ codes "/" ++ decimal len

abbrev pub media_text : Media → List ℕ
media_text Json = codes "application/json"
media_text Octets = codes "application/octet-stream"

abbrev pub kind_text : Kind → List ℕ
kind_text File = codes "file"
kind_text Directory = codes "directory"

abbrev pub state_text : State → List ℕ
state_text state.Available = codes "available"
state_text state.Leased = codes "leased"
state_text state.Expired = codes "expired"
state_text state.Breaking = codes "breaking"
state_text state.Broken = codes "broken"

-- whether a lease keeps writers without its id out
abbrev pub lock_text : Bool → List ℕ
lock_text true = codes "locked"
lock_text false = codes "unlocked"

-- whether a lease has no end
abbrev pub duration_text : Bool → List ℕ
duration_text true = codes "infinite"
duration_text false = codes "fixed"

abbrev pub rule_text : Rule → List ℕ
rule_text rule.Owner = codes "owner"
rule_text rule.NamedUser = codes "named-user"
rule_text rule.Other = codes "other"
rule_text rule.Sticky = codes "sticky"
rule_text rule.AclOwner = codes "acl-owner"
rule_text rule.UserOwner = codes "user-owner"
rule_text rule.GroupOwner = codes "group-owner"
rule_text rule.SuperuserOnly = codes "superuser-only"

-- ---- the lines of a reply's fields

-- The line of a field; the entry's own number stands for a number that is left open. The length of a file that isn't sent has no line of
-- its own: it stands in Content-Length.
unfoldable pub field_line : ℕ → Field → List ℕ
field_line own Close = line (codes "Connection") (codes "close")
field_line own (ETag None) = line (codes "ETag") (etag_text own)
field_line own (ETag (Some number)) = line (codes "ETag") (etag_text number)
field_line own (LastModified moment) = line (codes "Last-Modified") (moment_text moment)
field_line own AcceptRanges = line (codes "Accept-Ranges") (codes "bytes")
field_line own (ContentRange from to len) = line (codes "Content-Range") (range_text from to len)
field_line own (ContentType media) = line (codes "Content-Type") (media_text media)
field_line own (ResourceType kind) = line (codes "x-ms-resource-type") (kind_text kind)
field_line own (Owner id) = line (codes "x-ms-owner") id
field_line own (Group id) = line (codes "x-ms-group") id
field_line own (Permissions text) = line (codes "x-ms-permissions") text
field_line own (Acl text) = line (codes "x-ms-acl") text
field_line own (Properties props) = line (codes "x-ms-properties") (properties_text props)
field_line own (LeaseState held) = line (codes "x-ms-lease-state") (state_text held)
field_line own (LeaseStatus locked) = line (codes "x-ms-lease-status") (lock_text locked)
field_line own (LeaseDuration infinite) = line (codes "x-ms-lease-duration") (duration_text infinite)
field_line own (LeaseId id) = line (codes "x-ms-lease-id") (lease_id_text id)
field_line own (LeaseTime seconds) = line (codes "x-ms-lease-time") (decimal seconds)
field_line own NamespaceEnabled = line (codes "x-ms-namespace-enabled") (codes "true")
field_line own (Continuation token) = line (codes "x-ms-continuation") token
field_line own (ContentLength len) = []

abbrev pub field_lines : ℕ → List Field → List ℕ
field_lines own fields = flat_map (field_line own) fields
