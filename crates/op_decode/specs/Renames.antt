-- Path Create with a rename source: a file or a directory is moved, with all that is below it.
use Rattle.std.specs.Prelude.{ℕ, Bool, false, ◌&&◌, nat_le, List, [], ◌∷◌, length, take, slice_index, Result, Ok, Err, bytes_eq, codes, if◌then◌else◌}
use Rattle.std.specs.List.{list_any}
use Rattle.std.specs.Str.{str_eq_ignore_ascii_case}
use Rattle.path_text.specs.Names.{is_slash}
use Rattle.path_text.specs.Paths.{is_prefix}
use Rattle.path_text.specs.Queries.{first_value}
use Rattle.path_text.specs.Targets.{path_piece, target_parts}
use Rattle.path_text.specs.declared.fault.TargetStop.{TargetStop}
use Rattle.http_front.specs.declared.raw.Raw.{Raw}
use Rattle.namespace_model.specs.declared.code.Code.{Code}
use Rattle.namespace_model.specs.declared.code.Code.TheVariants.{InvalidQueryParameterValue, InvalidRenameSourcePath, InvalidSourceUri, MissingRequiredHeader, UnsupportedHeader}
use Rattle.namespace_model.specs.declared.op.Op.{Op}
use Rattle.namespace_model.specs.declared.op.Op.TheVariants as op
use Rattle.op_decode.specs.HeaderValues.{props_in}
use Rattle.op_decode.specs.Headers.{header, is_other_text}
use Rattle.op_decode.specs.Orders.{after, needed}

-- `posix`, or absent
unfoldable pub posix_mode : List (List ℕ × List ℕ) → Result Unit Code
posix_mode query = if is_other_text (codes "posix") (first_value query (codes "mode")) then Err InvalidQueryParameterValue else Ok tt

-- ---- the source

-- a missing `/` at the front is added
abbrev pub with_slash : List ℕ → List ℕ
with_slash text = if is_slash (slice_index text 0) then text else 47 ∷ text

-- the two paths are in one filesystem
abbrev pub are_together : List (List ℕ) → List (List ℕ) → Bool
are_together (fs ∷ names) (own ∷ others) = bytes_eq fs own
are_together _ _ = false

-- a path that is read, below the root of the filesystem of the destination
abbrev pub source_within : List (List ℕ) → Result (List (List ℕ) × List (List ℕ × List ℕ)) TargetStop → Result (List (List ℕ)) Code
source_within path (Err stop) = Err InvalidSourceUri
source_within path (Ok read) = if nat_le 2 (length read.0) && are_together read.0 path then Ok read.0 else Err InvalidSourceUri

-- a target without its query
unfoldable pub source_named : List (List ℕ) → List ℕ → Result (List (List ℕ)) Code
source_named path text = source_within path (target_parts (with_slash (path_piece text)))

-- the source, which has to be given
unfoldable pub source_in : List (List ℕ) → Raw → Result (List (List ℕ)) Code
source_in path raw = needed MissingRequiredHeader (source_named path) (header (codes "x-ms-rename-source") raw)

-- ---- what a rename may not have

-- a header whose name begins so, in any case
abbrev pub begins_with : List ℕ → List ℕ × List ℕ → Bool
begins_with front header = str_eq_ignore_ascii_case (take (length front) header.0) front

-- a condition on the source
unfoldable pub has_source_condition : Raw → Bool
has_source_condition raw = list_any (begins_with (codes "x-ms-source-if-")) raw.headers

unfoldable pub no_source_condition : Raw → Result Unit Code
no_source_condition raw = if has_source_condition raw then Err UnsupportedHeader else Ok tt

-- the destination is neither the source nor below it
abbrev pub not_below : List (List ℕ) → List (List ℕ) → Result Unit Code
not_below source path = if is_prefix source path then Err InvalidRenameSourcePath else Ok tt

-- ---- the row

-- `mode`; the source, no condition on it, a destination that is not at or below it; properties
unfoldable pub rename_of : List (List ℕ) → List (List ℕ × List ℕ) → Raw → Result Op Code
rename_of path query raw =
    after (posix_mode query) (λ mode.
    after (source_in path raw) (λ source.
    after (no_source_condition raw) (λ none.
    after (not_below source path) (λ apart.
    after (props_in raw) (λ props.
    Ok (op.Rename path source props))))))
