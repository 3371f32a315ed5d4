-- The operations: the Filesystem and Path calls of Microsoft's REST reference for ADLS Gen2, by method and distinction, and the number of
-- parts of their paths.
use Rattle.std.specs.Prelude.{ℕ, Bool, true, false, ◌&&◌, ◌==◌, nat_le, List, [], ◌∷◌, Option, None, Some, is_none, codes, if◌then◌else◌}
use Rattle.path_text.specs.Queries.{first_value}
use Rattle.http_front.specs.declared.raw.Raw.{Raw}
use Rattle.namespace_model.specs.declared.op.Kind.TheVariants.{File, Directory}
use Rattle.op_decode.specs.Headers.{has_header, is_text}
use Rattle.op_decode.specs.declared.method.Method.{Method}
use Rattle.op_decode.specs.declared.method.Method.TheVariants as method
use Rattle.op_decode.specs.declared.operation.Operation.{Operation}
use Rattle.op_decode.specs.declared.operation.Operation.TheVariants.{ListFilesystems, CreateFilesystem, GetFilesystem, SetFilesystem, DeleteFilesystem, List as ListPaths, Create, Rename, Read, GetProperties, GetAccess, CheckAccess, Append, Flush, SetProperties, SetAccess, SetAccessRecursive, Lease, Delete}

-- What tells the operations of one method apart: the text of the parameter `resource` or `action`, that there is no `action`, that there is a
-- header of this name, or nothing.
pub data Distinction : Type 0 where
  Resource : List ℕ → Distinction
  Action : List ℕ → Distinction
  NoAction : Distinction
  Header : List ℕ → Distinction
  Else : Distinction

abbrev pub is_distinct : Distinction → List (List ℕ × List ℕ) → Raw → Bool
is_distinct (Resource text) query raw = is_text text (first_value query (codes "resource"))
is_distinct (Action text) query raw = is_text text (first_value query (codes "action"))
is_distinct NoAction query raw = is_none (first_value query (codes "action"))
is_distinct (Header name) query raw = has_header name raw
is_distinct Else query raw = true

abbrev pub is_method : Method → Method → Bool
is_method method.Get method.Get = true
is_method method.Head method.Head = true
is_method method.Put method.Put = true
is_method method.Patch method.Patch = true
is_method method.Post method.Post = true
is_method method.Delete method.Delete = true
is_method _ _ = false

pub record Row : Type 0 where
  pub method : Method
  pub distinction : Distinction
  pub operation : Operation

abbrev pub row : Method → Distinction → Operation → Row
row method distinction operation = record { method = method; distinction = distinction; operation = operation }

-- the table of operations; the first row that fits decides
abbrev pub rows : List Row
rows =
    row method.Get (Resource (codes "account")) ListFilesystems
    ∷ row method.Put (Resource (codes "filesystem")) CreateFilesystem
    ∷ row method.Head (Resource (codes "filesystem")) GetFilesystem
    ∷ row method.Patch (Resource (codes "filesystem")) SetFilesystem
    ∷ row method.Delete (Resource (codes "filesystem")) DeleteFilesystem
    ∷ row method.Get (Resource (codes "filesystem")) ListPaths
    ∷ row method.Put (Resource (codes "file")) (Create File)
    ∷ row method.Put (Resource (codes "directory")) (Create Directory)
    ∷ row method.Put (Header (codes "x-ms-rename-source")) Rename
    ∷ row method.Get Else Read
    ∷ row method.Head NoAction (GetProperties false)
    ∷ row method.Head (Action (codes "getStatus")) (GetProperties true)
    ∷ row method.Head (Action (codes "getAccessControl")) GetAccess
    ∷ row method.Head (Action (codes "checkAccess")) CheckAccess
    ∷ row method.Patch (Action (codes "append")) Append
    ∷ row method.Patch (Action (codes "flush")) Flush
    ∷ row method.Patch (Action (codes "setProperties")) SetProperties
    ∷ row method.Patch (Action (codes "setAccessControl")) SetAccess
    ∷ row method.Patch (Action (codes "setAccessControlRecursive")) SetAccessRecursive
    ∷ row method.Post (Header (codes "x-ms-lease-action")) Lease
    ∷ row method.Delete Else Delete
    ∷ []

abbrev pub first_fit : List Row → Method → List (List ℕ × List ℕ) → Raw → Option Operation
first_fit [] sent query raw = None
first_fit (r ∷ rs) sent query raw =
    if is_method r.method sent && is_distinct r.distinction query raw then Some r.operation else first_fit rs sent query raw

unfoldable pub operation_of : Method → List (List ℕ × List ℕ) → Raw → Option Operation
operation_of sent query raw = first_fit rows sent query raw

-- The number of parts of an operation's path: the account has none, the root of a filesystem one, and what is below it two or more.
abbrev pub takes : Operation → ℕ → Bool
takes ListFilesystems parts = parts == 0
takes CreateFilesystem parts = parts == 1
takes GetFilesystem parts = parts == 1
takes SetFilesystem parts = parts == 1
takes DeleteFilesystem parts = parts == 1
takes ListPaths parts = parts == 1
takes (Create kind) parts = nat_le 2 parts
takes Rename parts = nat_le 2 parts
takes Read parts = nat_le 2 parts
takes (GetProperties status) parts = nat_le 1 parts
takes GetAccess parts = nat_le 1 parts
takes CheckAccess parts = nat_le 1 parts
takes Append parts = nat_le 2 parts
takes Flush parts = nat_le 2 parts
takes SetProperties parts = nat_le 1 parts
takes SetAccess parts = nat_le 1 parts
takes SetAccessRecursive parts = nat_le 1 parts
takes Lease parts = nat_le 2 parts
takes Delete parts = nat_le 2 parts
