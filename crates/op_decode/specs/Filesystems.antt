-- Filesystem Create, Get Properties, Set Properties and Delete.
use Rattle.std.specs.Prelude.{ℕ, List, Some, Result, Ok}
use Rattle.http_front.specs.declared.raw.Raw.{Raw}
use Rattle.namespace_model.specs.declared.code.Code.{Code}
use Rattle.namespace_model.specs.declared.op.Op.{Op}
use Rattle.namespace_model.specs.declared.op.Op.TheVariants as op
use Rattle.op_decode.specs.HeaderValues.{needed_props_in, props_in}
use Rattle.op_decode.specs.Orders.{after}

-- properties
unfoldable pub create_filesystem_of : List (List ℕ) → Raw → Result Op Code
create_filesystem_of path raw = after (props_in raw) (λ props. Ok (op.CreateFilesystem path props))

-- nothing
unfoldable pub get_filesystem_of : List (List ℕ) → Result Op Code
get_filesystem_of path = Ok (op.GetFilesystem path)

-- properties, which have to be given
unfoldable pub set_filesystem_of : List (List ℕ) → Raw → Result Op Code
set_filesystem_of path raw = after (needed_props_in raw) (λ props. Ok (op.SetFilesystem path props))

-- nothing
unfoldable pub delete_filesystem_of : List (List ℕ) → Result Op Code
delete_filesystem_of path = Ok (op.DeleteFilesystem path)
