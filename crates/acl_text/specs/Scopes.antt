-- The two lists of a directory: the access list, and the default list.
use Rattle.std.specs.Prelude.{Bool, true, false}
use Rattle.acl_text.specs.declared.scope.Scope.{Scope}
use Rattle.acl_text.specs.declared.scope.Scope.TheVariants.{Access, Default}

-- whether the scope of an entry is the one that is asked for
abbrev pub in_scope : Scope → Scope → Bool
in_scope Access Access = true
in_scope Access Default = false
in_scope Default Access = false
in_scope Default Default = true
