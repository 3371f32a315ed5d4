-- What each operation takes from its path, its parameters, its headers and its body: a row of the table for each.
use Rattle.std.specs.Prelude.{ℕ, List, Result}
use Rattle.http_front.specs.declared.raw.Raw.{Raw}
use Rattle.namespace_model.specs.declared.code.Code.{Code}
use Rattle.namespace_model.specs.declared.op.Op.{Op}
use Rattle.op_decode.specs.Access.{check_access_of, get_access_of, set_access_of}
use Rattle.op_decode.specs.Batches.{set_access_recursive_of}
use Rattle.op_decode.specs.Creates.{create_of}
use Rattle.op_decode.specs.Data.{append_of, flush_of, read_of}
use Rattle.op_decode.specs.Filesystems.{create_filesystem_of, delete_filesystem_of, get_filesystem_of, set_filesystem_of}
use Rattle.op_decode.specs.Leases.{lease_of}
use Rattle.op_decode.specs.Listings.{list_filesystems_of, list_of}
use Rattle.op_decode.specs.Nodes.{delete_of, get_properties_of, set_properties_of}
use Rattle.op_decode.specs.Renames.{rename_of}
use Rattle.op_decode.specs.declared.operation.Operation.{Operation}
use Rattle.op_decode.specs.declared.operation.Operation.TheVariants.{ListFilesystems, CreateFilesystem, GetFilesystem, SetFilesystem, DeleteFilesystem, List as ListPaths, Create, Rename, Read, GetProperties, GetAccess, CheckAccess, Append, Flush, SetProperties, SetAccess, SetAccessRecursive, Lease, Delete}

unfoldable pub op_of_row : Operation → List (List ℕ) → List (List ℕ × List ℕ) → Raw → Result Op Code
op_of_row ListFilesystems path query raw = list_filesystems_of query
op_of_row CreateFilesystem path query raw = create_filesystem_of path raw
op_of_row GetFilesystem path query raw = get_filesystem_of path
op_of_row SetFilesystem path query raw = set_filesystem_of path raw
op_of_row DeleteFilesystem path query raw = delete_filesystem_of path
op_of_row ListPaths path query raw = list_of path query
op_of_row (Create kind) path query raw = create_of path kind raw
op_of_row Rename path query raw = rename_of path query raw
op_of_row Read path query raw = read_of path raw
op_of_row (GetProperties status) path query raw = get_properties_of path status
op_of_row GetAccess path query raw = get_access_of path
op_of_row CheckAccess path query raw = check_access_of path query
op_of_row Append path query raw = append_of path query raw
op_of_row Flush path query raw = flush_of path query raw
op_of_row SetProperties path query raw = set_properties_of path raw
op_of_row SetAccess path query raw = set_access_of path raw
op_of_row SetAccessRecursive path query raw = set_access_recursive_of path query raw
op_of_row Lease path query raw = lease_of path raw
op_of_row Delete path query raw = delete_of path query
