-- The printed texts of access control lists and of permissions.
use Rattle.std.specs.Prelude.{ℕ, ◌==◌, Bool, not, List, [], ◌∷◌, ◌++◌, map, length, Option, Some, None, unwrap_or, if◌then◌else◌}
use Rattle.std.specs.List.{join_with_byte, list_any}
use Rattle.std.specs.FinMap.{find}
use Rattle.acl_text.specs.declared.scope.Scope.{Scope}
use Rattle.acl_text.specs.declared.scope.Scope.TheVariants.{Access, Default}
use Rattle.acl_text.specs.declared.who.Who.{Who}
use Rattle.acl_text.specs.declared.who.Who.TheVariants.{Owner, OwningGroup, Mask, Other}
use Rattle.acl_text.specs.declared.perm.ModeBits.{ModeBits}
use Rattle.acl_text.specs.declared.acl.AclPair.{AclPair}
use Rattle.acl_text.specs.Whos.{who_cmp, is_base}
use Rattle.acl_text.specs.PermTexts.{symbolic_text}
use Rattle.acl_text.specs.AclTexts.{entry_text}

-- the entries of one scope as entries of a text
abbrev pub scoped : Scope → List (Who × ℕ) → List (Scope × Who × ℕ)
scoped scope es = map (λ e. (scope, e.0, e.1)) es

-- the entries of a default ACL, none where there is no default ACL
abbrev pub default_entries : Option (List (Who × ℕ)) → List (Scope × Who × ℕ)
default_entries None = []
default_entries (Some es) = scoped Default es

-- the entries of a pair in printed order: the access scope, and then the default scope
abbrev pub entries_of : AclPair → List (Scope × Who × ℕ)
entries_of pair = scoped Access pair.access ++ default_entries pair.default

-- the printed text: the entries with commas between
abbrev pub acl_text : AclPair → List ℕ
acl_text pair = join_with_byte 44 (map entry_text (entries_of pair))

-- a text, and behind a comma where it isn't empty one more entry
abbrev pub with_entry : List ℕ → Scope × Who × ℕ → List ℕ
with_entry text e = (if length text == 0 then [] else text ++ 44 ∷ []) ++ entry_text e

-- what an entry gives, and nothing where there is none
abbrev pub perm_of_who : Who → List (Who × ℕ) → ℕ
perm_of_who who es = unwrap_or (find who_cmp who es) 0

-- the mode of an access ACL: the group bits are those of the mask where there is one
abbrev pub access_bits : Bool → List (Who × ℕ) → ModeBits
access_bits sticky es = record {
  sticky = sticky;
  owner = perm_of_who Owner es;
  group = unwrap_or (find who_cmp Mask es) (perm_of_who OwningGroup es);
  other = perm_of_who Other es;
}

-- the printed permissions, with a `+` where there are other entries than the three base ones
abbrev pub permissions_text : Bool → List (Who × ℕ) → List ℕ
permissions_text sticky es = symbolic_text (access_bits sticky es) ++ (if list_any (λ e. not (is_base e.0)) es then 43 ∷ [] else [])
