-- Path Get Properties with `getAccessControl` and `checkAccess`, and Path Update with `setAccessControl`.
use Rattle.std.specs.Prelude.{ℕ, Bool, ◌&&◌, ◌||◌, is_some, List, Option, Result, Ok, Err, codes, if◌then◌else◌}
use Rattle.acl_text.specs.PermTexts.{perm_in}
use Rattle.acl_text.specs.declared.perm.ModeBits.{ModeBits}
use Rattle.acl_text.specs.declared.scope.Scope.{Scope}
use Rattle.acl_text.specs.declared.who.Who.{Who}
use Rattle.http_front.specs.declared.raw.Raw.{Raw}
use Rattle.namespace_model.specs.declared.code.Code.{Code}
use Rattle.namespace_model.specs.declared.code.Code.TheVariants.{InvalidInput, InvalidQueryParameterValue, MissingRequiredHeader, MissingRequiredQueryParameter}
use Rattle.namespace_model.specs.declared.op.Op.{Op}
use Rattle.namespace_model.specs.declared.op.Op.TheVariants as op
use Rattle.path_text.specs.Queries.{first_value}
use Rattle.op_decode.specs.AclTexts.{whole_entries_of}
use Rattle.op_decode.specs.HeaderValues.{id_in, permissions_in}
use Rattle.op_decode.specs.Headers.{has_header, header}
use Rattle.op_decode.specs.Orders.{after, if_given, needed, or_refused}

unfoldable pub get_access_of : List (List ℕ) → Result Op Code
get_access_of path = Ok (op.GetAccess path)

-- three characters, each a permission or `-`
unfoldable pub wanted_in : List (List ℕ × List ℕ) → Result ℕ Code
wanted_in query =
    needed MissingRequiredQueryParameter (λ text. or_refused InvalidQueryParameterValue (perm_in text)) (first_value query (codes "fsAction"))

-- the permissions that are asked for
unfoldable pub check_access_of : List (List ℕ) → List (List ℕ × List ℕ) → Result Op Code
check_access_of path query = after (wanted_in query) (λ want. Ok (op.CheckAccess path want))

-- one of the four headers is there
unfoldable pub has_setting : Raw → Bool
has_setting raw =
    has_header (codes "x-ms-owner") raw || has_header (codes "x-ms-group") raw || has_header (codes "x-ms-permissions") raw
    || has_header (codes "x-ms-acl") raw

unfoldable pub some_setting : Raw → Result Unit Code
some_setting raw = if has_setting raw then Ok tt else Err MissingRequiredHeader

unfoldable pub acl_in : Raw → Result (Option (List (Scope × Who × ℕ))) Code
acl_in raw = if_given whole_entries_of (header (codes "x-ms-acl") raw)

-- permissions and a list can't be set together
abbrev pub not_both : Option ModeBits → Option (List (Scope × Who × ℕ)) → Result Unit Code
not_both permissions acl = if is_some permissions && is_some acl then Err InvalidInput else Ok tt

-- one of the four headers; owner, group, permissions, list; not permissions and list
unfoldable pub set_access_of : List (List ℕ) → Raw → Result Op Code
set_access_of path raw =
    after (some_setting raw) (λ some.
    after (id_in (codes "x-ms-owner") raw) (λ owner.
    after (id_in (codes "x-ms-group") raw) (λ group.
    after (permissions_in raw) (λ permissions.
    after (acl_in raw) (λ acl.
    after (not_both permissions acl) (λ one.
    Ok (op.SetAccess path owner group permissions acl)))))))
