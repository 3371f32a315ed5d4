-- The words of the laws on changes of access control lists.
use Rattle.std.specs.Prelude.{◌≡◌, ◌↔◌, ℕ, false, List, Some, Any, IsBitSet, IsSome, IsTrue, IfSome}
use Rattle.std.specs.List.{list_any}
use Rattle.std.specs.FinMap.{find}
use Rattle.acl_text.specs.declared.scope.Scope.{Scope}
use Rattle.acl_text.specs.declared.scope.Scope.TheVariants.{Access}
use Rattle.acl_text.specs.declared.who.Who.{Who}
use Rattle.acl_text.specs.declared.acl.AclPair.{AclPair}
use Rattle.acl_text.specs.declared.who.Who.TheVariants.{Mask}
use Rattle.acl_text.specs.Whos.{who_cmp, is_base, is_limited, is_mask, is_named}
use Rattle.acl_text.specs.AclFaults.{GivesTo}
use Rattle.acl_text.specs.Acls.{IsAcl}
use Rattle.acl_text.specs.AclChanges.{lists}

-- what each pair is
abbrev pub IsAclPair : AclPair → Type 0
IsAclPair pair = IsAcl pair.access × IfSome pair.default IsAcl

-- a list of items to remove names each entry of the access scope but the three base ones
abbrev pub ListsAllButBase : List (Scope × Who) → List (Who × ℕ) → Type 0
ListsAllButBase list es = (who : Who) → is_base who ≡ false → IsSome (find who_cmp who es) → IsTrue (lists Access list who)

-- The mask of a list is the one that its entries need: there is one exactly where a user or a group is named, and it gives a bit
-- exactly where the entry of the owning group, of a named user or of a named group does.
pub record HasComputedMask (es : List (Who × ℕ)) : Type 0 where
  pub needed : IsSome (find who_cmp Mask es) ↔ IsTrue (list_any (λ e. is_named e.0) es)
  pub bits : (mask bit : ℕ) → find who_cmp Mask es ≡ Some mask
      → (IsBitSet mask bit ↔ Any (λ (e : Who × ℕ). IsTrue (is_limited e.0) × IsBitSet e.1 bit) es)

-- what an entry of a text says: someone has these permissions in a scope
abbrev pub Says : Scope → Who → ℕ → List (Scope × Who × ℕ) → Type 0
Says scope who bits list = Any (λ (e : Scope × Who × ℕ). e ≡ (scope, who, bits)) list

-- each that a list of entries names in a scope has what it says
abbrev pub HasWhatItSays : Scope → List (Scope × Who × ℕ) → List (Who × ℕ) → Type 0
HasWhatItSays scope list es = (who : Who) (bits : ℕ) → Says scope who bits list → find who_cmp who es ≡ Some bits

-- each that it does not name has what it had before, the mask apart
abbrev pub KeepsTheRest : Scope → List (Scope × Who × ℕ) → List (Who × ℕ) → List (Who × ℕ) → Type 0
KeepsTheRest scope list before after =
    (who : Who) → (¬ GivesTo scope who list) → is_mask who ≡ false → find who_cmp who after ≡ find who_cmp who before
