-- Path Create: a file or a directory.
use Rattle.std.specs.Prelude.{ℕ, List, Result, Ok}
use Rattle.http_front.specs.declared.raw.Raw.{Raw}
use Rattle.namespace_model.specs.declared.code.Code.{Code}
use Rattle.namespace_model.specs.declared.op.Kind.{Kind}
use Rattle.namespace_model.specs.declared.op.Op.{Op}
use Rattle.namespace_model.specs.declared.op.Op.TheVariants as op
use Rattle.op_decode.specs.HeaderValues.{permissions_in, props_in, umask_in}
use Rattle.op_decode.specs.Orders.{after}

-- permissions, umask, properties
unfoldable pub create_of : List (List ℕ) → Kind → Raw → Result Op Code
create_of path kind raw =
    after (permissions_in raw) (λ permissions.
    after (umask_in raw) (λ umask.
    after (props_in raw) (λ props.
    Ok (op.Create path kind permissions umask props))))
