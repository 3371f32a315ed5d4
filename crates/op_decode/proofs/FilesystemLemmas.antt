-- What the rows of whole filesystems ask is sound.
use Rattle.std.proofs.Common.{ℕ, List, Ok}
use Rattle.std.specs.Prelude.{codes}
use Rattle.http_front.specs.declared.raw.Raw.{Raw}
use Rattle.namespace_model.specs.Sound.{IsRootPath}
use Rattle.namespace_model.specs.declared.op.Op.TheVariants as op
use Rattle.op_decode.specs.declared.operation.Operation.TheVariants.{CreateFilesystem, SetFilesystem}
use Rattle.op_decode.specs.Filesystems.{create_filesystem_of, delete_filesystem_of, get_filesystem_of, set_filesystem_of}
use Rattle.op_decode.specs.HeaderValues.{needed_props_in, props_in}
use Rattle.op_decode.specs.Headers.{header}
use Rattle.op_decode.proofs.ReaderLemmas.{Any, IsGiven, IsRight, right_after, right_needed_props, right_props}
use Rattle.op_decode.proofs.Fits.{Fits}

pub right_create_filesystem : (path : List (List ℕ)) (raw : Raw) → IsRootPath path → IsRight (create_filesystem_of path raw) (Fits raw)
unfolding create_filesystem_of
right_create_filesystem path raw root =
    right_after (IsGiven Any (header (codes "x-ms-properties") raw)) (Fits raw) (props_in raw) (λ props. Ok (op.CreateFilesystem path props)) (right_props raw)
    (λ props _. record { operation = root; id = λ given _. tt })

pub right_set_filesystem : (path : List (List ℕ)) (raw : Raw) → IsRootPath path → IsRight (set_filesystem_of path raw) (Fits raw)
unfolding set_filesystem_of
right_set_filesystem path raw root =
    right_after Any (Fits raw) (needed_props_in raw) (λ props. Ok (op.SetFilesystem path props)) (right_needed_props raw)
    (λ props _. record { operation = root; id = λ given _. tt })

pub right_get_filesystem : (path : List (List ℕ)) (raw : Raw) → IsRootPath path → IsRight (get_filesystem_of path) (Fits raw)
unfolding get_filesystem_of
right_get_filesystem path raw root = record { operation = root; id = λ given _. tt }

pub right_delete_filesystem : (path : List (List ℕ)) (raw : Raw) → IsRootPath path → IsRight (delete_filesystem_of path) (Fits raw)
unfolding delete_filesystem_of
right_delete_filesystem path raw root = record { operation = root; id = λ given _. tt }
