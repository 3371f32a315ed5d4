-- The method of a request (RFC 9110, section 9), and the one that counts.
use Rattle.std.specs.Prelude.{ℕ, Bool, false, true, ◌&&◌, List, bytes_eq, codes, if◌then◌else◌}
use Rattle.http_front.specs.declared.raw.Raw.{Raw}
use Rattle.op_decode.specs.Headers.{header, is_text}
use Rattle.op_decode.specs.declared.method.Method.{Method}
use Rattle.op_decode.specs.declared.method.Method.TheVariants.{Get, Head, Put, Patch, Post, Delete, Other}

-- methods are compared byte for byte
unfoldable pub method_named : List ℕ → Method
method_named text =
    if bytes_eq text (codes "GET") then Get
    else (if bytes_eq text (codes "HEAD") then Head
    else (if bytes_eq text (codes "PUT") then Put
    else (if bytes_eq text (codes "PATCH") then Patch
    else (if bytes_eq text (codes "POST") then Post
    else (if bytes_eq text (codes "DELETE") then Delete else Other)))))

abbrev pub may_be_overridden : Method → Bool
may_be_overridden Put = true
may_be_overridden Post = true
may_be_overridden _ = false

-- a PUT or POST with `X-HTTP-Method-Override: PATCH` counts as PATCH
unfoldable pub method_of : Raw → Method
method_of raw =
    if may_be_overridden (method_named raw.method) && is_text (codes "PATCH") (header (codes "x-http-method-override") raw)
    then Patch else method_named raw.method

-- the method as it was sent is HEAD
abbrev pub is_head : Raw → Bool
is_head raw = bytes_eq raw.method (codes "HEAD")
