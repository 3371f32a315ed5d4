-- Path Get Properties, Path Update with `setProperties`, and Path Delete.
use Rattle.std.specs.Prelude.{ℕ, Bool, List, Result, Ok, codes}
use Rattle.http_front.specs.declared.raw.Raw.{Raw}
use Rattle.namespace_model.specs.declared.code.Code.{Code}
use Rattle.namespace_model.specs.declared.op.Op.{Op}
use Rattle.namespace_model.specs.declared.op.Op.TheVariants as op
use Rattle.op_decode.specs.HeaderValues.{needed_props_in}
use Rattle.op_decode.specs.Orders.{after}
use Rattle.op_decode.specs.Parameters.{flag_in}

unfoldable pub get_properties_of : List (List ℕ) → Bool → Result Op Code
get_properties_of path status = Ok (op.GetProperties path status)

-- properties, which have to be there
unfoldable pub set_properties_of : List (List ℕ) → Raw → Result Op Code
set_properties_of path raw = after (needed_props_in raw) (λ props. Ok (op.SetProperties path props))

-- `recursive`
unfoldable pub delete_of : List (List ℕ) → List (List ℕ × List ℕ) → Result Op Code
delete_of path query = after (flag_in (codes "recursive") query) (λ recursive. Ok (op.Delete path recursive))
