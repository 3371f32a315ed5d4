-- Replies by their parts, and the fields that several of them have.
use Rattle.std.specs.Prelude.{ℕ, ◌/◌, ◌==◌, Bool, true, false, List, [], ◌∷◌, ◌++◌, length, drop, codes, Option, Some, None, is_none, if◌then◌else◌}
use Rattle.std.specs.List.{join_with_byte}
use Rattle.head_text.specs.DateText.{http_date}
use Rattle.head_text.specs.Hex.{hex16}
use Rattle.lease_state.specs.declared.lease.Lease.{Lease}
use Rattle.lease_state.specs.declared.lease.State.{State}
use Rattle.lease_state.specs.declared.lease.State.TheVariants as state
use Rattle.lease_state.specs.LeaseTable.{lease_state, kept_secs}
use Rattle.path_text.specs.Tokens.{token_text}
use Rattle.namespace_model.specs.declared.code.Code.{Code}
use Rattle.namespace_model.specs.declared.code.Code.TheVariants.{AuthorizationPermissionMismatch, ConditionNotMet}
use Rattle.namespace_model.specs.declared.denied.Rule.{Rule}
use Rattle.namespace_model.specs.declared.field.Field.{Field}
use Rattle.namespace_model.specs.declared.field.Field.TheVariants.{ETag, LastModified, ContentType, Properties, LeaseState, LeaseStatus, LeaseDuration, Continuation}
use Rattle.namespace_model.specs.declared.field.Media.TheVariants.{Json}
use Rattle.namespace_model.specs.declared.reply.Reply.{Reply}
use Rattle.namespace_model.specs.Codes.{status_of}
use Rattle.namespace_model.specs.Nodes.{Node}
use Rattle.namespace_model.specs.Trees.{Path}

-- ---- refusals

-- a code has its status; the text that spells the reply has its body
abbrev pub refusal : Code → Reply
refusal code = record { status = status_of code; code = Some code; fields = []; body = []; denied = None }

-- 304, where a request that only looks does not meet If-None-Match or If-Modified-Since
abbrev pub not_modified : Reply
not_modified = record (refusal ConditionNotMet) { status = 304 }

-- 403, with the rule that denies, where, what was wanted, and the bits that were compared last
abbrev pub denial : Rule → Path → ℕ → ℕ → Reply
denial rule at want have =
    record (refusal AuthorizationPermissionMismatch) { denied = Some (record { rule = rule; at = at; want = want; have = have }) }

-- ---- successes

abbrev pub success : ℕ → List Field → Reply
success status fields = record { status = status; code = None; fields = fields; body = []; denied = None }

abbrev pub with_body : ℕ → List Field → List ℕ → Reply
with_body status fields body = record (success status fields) { body = body }

-- the ETag of the very entry that is answered, and its moment
abbrev pub stamp_fields : ℕ → List Field
stamp_fields moment = ETag None ∷ LastModified moment ∷ []

-- the ETag of a node, and its moment
abbrev pub node_fields : Node → List Field
node_fields x = ETag (Some x.number) ∷ LastModified x.moment ∷ []

-- a line where there are properties
abbrev pub property_fields : List (List ℕ × List ℕ) → List Field
property_fields props = if length props == 0 then [] else Properties props ∷ []

-- a lease keeps writers without its id out while it is leased or breaking
abbrev pub is_locked : State → Bool
is_locked state.Available = false
is_locked state.Leased = true
is_locked state.Expired = false
is_locked state.Breaking = true
is_locked state.Broken = false

-- the duration stands while it is leased alone
abbrev pub duration_fields : State → Option ℕ → List Field
duration_fields state.Available secs = []
duration_fields state.Leased secs = LeaseDuration (is_none secs) ∷ []
duration_fields state.Expired secs = []
duration_fields state.Breaking secs = []
duration_fields state.Broken secs = []

-- the lease as it is at a moment
abbrev pub lease_fields : Lease → ℕ → List Field
lease_fields l now =
    LeaseState (lease_state l now) ∷ LeaseStatus (is_locked (lease_state l now)) ∷ duration_fields (lease_state l now) (kept_secs l)

-- a page goes on by a token, where it goes on
abbrev pub continuation_fields : Option (List ℕ) → Option Path → List Field
continuation_fields fs None = []
continuation_fields fs (Some p) = Continuation (token_text fs p) ∷ []

abbrev pub page_fields : Option (List ℕ) → Option Path → List Field
page_fields fs next = ContentType Json ∷ continuation_fields fs next

-- ---- texts in bodies

-- `0x` and 16 hex digits
abbrev pub etag_in_body : ℕ → List ℕ
etag_in_body number = codes "0x" ++ hex16 number

-- the date of a moment's whole second
abbrev pub date_in_body : ℕ → List ℕ
date_in_body moment = http_date (moment / 1000)

-- the names below the filesystem with `/` between them, empty for its root
abbrev pub name_in_body : Path → List ℕ
name_in_body p = join_with_byte 47 (drop 1 p)
