-- Filesystem List and Path List: pages of names.
use Rattle.std.specs.Prelude.{ℕ, ◌==◌, List, [], ◌∷◌, ◌++◌, drop, length, slice_get, slice_index, Option, None, Some, Result, Ok, Err, codes, if◌then◌else◌}
use Rattle.path_text.specs.Names.{is_slash}
use Rattle.path_text.specs.Queries.{first_value}
use Rattle.path_text.specs.Texts.{plain_path, without_end}
use Rattle.path_text.specs.declared.fault.TargetStop.{TargetStop}
use Rattle.namespace_model.specs.declared.code.Code.{Code}
use Rattle.namespace_model.specs.declared.code.Code.TheVariants.{InvalidQueryParameterValue}
use Rattle.namespace_model.specs.declared.op.Op.{Op}
use Rattle.namespace_model.specs.declared.op.Op.TheVariants as op
use Rattle.op_decode.specs.Orders.{after}
use Rattle.op_decode.specs.Parameters.{flag_in, size_in, token_in}

-- ---- the filesystems

-- any bytes, and none where it is absent
abbrev pub prefix_of : Option (List ℕ) → List ℕ
prefix_of None = []
prefix_of (Some text) = text

-- `prefix`, `continuation`, `maxResults`
unfoldable pub list_filesystems_of : List (List ℕ × List ℕ) → Result Op Code
list_filesystems_of query =
    after (token_in None query) (λ token.
    after (size_in (codes "maxResults") 5000 query) (λ max.
    Ok (op.ListFilesystems (prefix_of (first_value query (codes "prefix"))) token max)))

-- ---- the directory of a listing

-- what is left without one `/` at the front
abbrev pub without_front : List ℕ → List ℕ
without_front text = if is_slash (slice_index text 0) then drop 1 text else text

-- and without one at the end
unfoldable pub without_slashes : List ℕ → List ℕ
without_slashes text = without_end (without_front text)

-- the text of a name behind the filesystem of a path
abbrev pub behind : List (List ℕ) → List ℕ → List ℕ
behind [] name = 47 ∷ name
behind (fs ∷ names) name = (47 ∷ fs) ++ 47 ∷ name

abbrev pub or_bad_parameter : Result (List (List ℕ)) TargetStop → Result (List (List ℕ)) Code
or_bad_parameter (Ok path) = Ok path
or_bad_parameter (Err stop) = Err InvalidQueryParameterValue

-- the empty name is the root of the filesystem
unfoldable pub directory_named : List (List ℕ) → List ℕ → Result (List (List ℕ)) Code
directory_named root name = if length name == 0 then Ok root else or_bad_parameter (plain_path (behind root name))

-- the root where it is absent
unfoldable pub directory_of : List (List ℕ) → Option (List ℕ) → Result (List (List ℕ)) Code
directory_of root None = Ok root
directory_of root (Some text) = directory_named root (without_slashes text)

-- ---- what is in a directory

-- `directory`, `recursive`, `continuation`, `maxResults`
unfoldable pub list_of : List (List ℕ) → List (List ℕ × List ℕ) → Result Op Code
list_of root query =
    after (directory_of root (first_value query (codes "directory"))) (λ dir.
    after (flag_in (codes "recursive") query) (λ recursive.
    after (token_in (slice_get dir 0) query) (λ token.
    after (size_in (codes "maxResults") 5000 query) (λ max.
    Ok (op.List dir recursive token max)))))
