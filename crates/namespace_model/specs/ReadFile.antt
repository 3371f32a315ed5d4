-- The bytes of a file, or a range of them (Path - Read of the REST reference).
--
--   1  the way, and the node          denied (execute), FilesystemNotFound, PathNotFound   found
--   2  read on it                     denied                                               lacks
--   3  it is a file                   ResourceTypeMismatch                                 refuse_if
--   4  the conditions                 ConditionNotMet, also as 304                         is_unmet_look
--   5  the range begins in the file   InvalidRange                                         refuse_if
use Rattle.std.specs.Prelude.{ℕ, ◌-◌, ◌+◌, min, nat_le, List, ◌∷◌, ◌++◌, length, slice_range, Option, Some, None}
use Rattle.head_text.specs.declared.range.Range.{Range}
use Rattle.namespace_model.specs.declared.code.Code.TheVariants.{ResourceTypeMismatch, InvalidRange}
use Rattle.namespace_model.specs.declared.field.Field.{Field}
use Rattle.namespace_model.specs.declared.field.Field.TheVariants.{AcceptRanges, ContentRange, ContentType, ResourceType}
use Rattle.namespace_model.specs.declared.field.Media.TheVariants.{Octets}
use Rattle.namespace_model.specs.declared.op.Kind.TheVariants.{File}
use Rattle.namespace_model.specs.declared.request.Entry.{Entry}
use Rattle.namespace_model.specs.Nodes.{Node, is_directory, bytes_in}
use Rattle.namespace_model.specs.Trees.{Path, Tree}
use Rattle.namespace_model.specs.Replies.{with_body, node_fields, property_fields, lease_fields}
use Rattle.namespace_model.specs.Access.{read}
use Rattle.namespace_model.specs.Outcomes.{Outcome, answered, unless}
use Rattle.namespace_model.specs.Refusals.{caller_of, lacks, is_unmet_look, refuse_if}
use Rattle.namespace_model.specs.Looks.{found}

-- the last byte of a range, cut to the last byte of the file
abbrev pub last_byte : Option ℕ → ℕ → ℕ
last_byte None len = len - 1
last_byte (Some to) len = min to (len - 1)

-- the lines from Content-Type on
abbrev pub content_fields : Node → ℕ → List Field
content_fields x now = ContentType Octets ∷ ResourceType File ∷ (property_fields x.props ++ lease_fields x.lease now)

abbrev pub whole_read : Entry → Node → List ℕ → Outcome
whole_read e x bytes = answered (with_body 200 (node_fields x ++ AcceptRanges ∷ content_fields x e.moment) bytes)

-- the bytes from one place to another, both of them read
abbrev pub part_read : Entry → Node → List ℕ → ℕ → ℕ → Outcome
part_read e x bytes from to =
    answered (with_body 206 (node_fields x ++ AcceptRanges ∷ ContentRange from to (length bytes) ∷ content_fields x e.moment) (slice_range bytes from (to + 1)))

abbrev pub bytes_read : Entry → Node → List ℕ → Option Range → Outcome
bytes_read e x bytes None = whole_read e x bytes
bytes_read e x bytes (Some range) =
    unless (refuse_if (nat_le (length bytes) range.from) InvalidRange)
    (part_read e x bytes range.from (last_byte range.to (length bytes)))

abbrev pub read_node : Entry → Path → Option Range → Node → Outcome
read_node e p range x =
    unless (lacks (caller_of e) read p x)
    (unless (refuse_if (is_directory x) ResourceTypeMismatch)
    (unless (is_unmet_look e x)
    (bytes_read e x (bytes_in x.content) range)))

unfoldable pub read_file : Tree → Entry → Path → Option Range → Outcome
read_file t e p range = found t e p (read_node e p range)
