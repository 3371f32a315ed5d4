-- The turn of one node.
use Rattle.std.proofs.Common.{◌≡◌, Bool, true, false, cond, Result, Ok, Err, refl, sym, ap, ◌∙◌}
use Rattle.acl_text.specs.declared.acl.AclFault.{AclFault}
use Rattle.acl_text.specs.declared.acl.AclPair.{AclPair}
use Rattle.namespace_model.specs.declared.caller.Caller.{Caller}
use Rattle.namespace_model.specs.declared.code.Code.{Code}
use Rattle.namespace_model.specs.declared.code.Code.TheVariants.{AuthorizationPermissionMismatch, InvalidAcl}
use Rattle.namespace_model.specs.declared.op.BatchChange.{BatchChange}
use Rattle.namespace_model.specs.declared.op.BatchChange.TheVariants.{Set, Modify, Remove}
use Rattle.namespace_model.specs.Access.{may_set_access}
use Rattle.namespace_model.specs.Nodes.{Node, is_directory}
use Rattle.namespace_model.specs.SetAccessRecursive.{changed_pair, or_invalid, turn_of}
use Rattle.acl_recursive.specs.Batched.{for_kind}

-- what of a change is for a file is so for a file
for_a_file : (change : BatchChange) (pair : AclPair) → changed_pair (for_kind false change) true pair ≡ changed_pair change false pair
for_a_file (Set list) pair = refl
for_a_file (Modify list) pair = refl
for_a_file (Remove list) pair = refl

for_each : (change used : BatchChange) (pair : AclPair) (b : Bool) → used ≡ cond b change (for_kind false change) → changed_pair used true pair ≡ changed_pair change b pair
for_each change used pair true is = ap (λ c. changed_pair c true pair) is
for_each change used pair false is = ap (λ c. changed_pair c true pair) is ∙ for_a_file change pair

module _ (caller : Caller) (change : BatchChange) (x : Node) where
  pub turn_denied : (b : Bool) → b ≡ may_set_access x.owner caller → b ≡ false → ◌≡◌ {A = Result AclPair Code} (Err AuthorizationPermissionMismatch) (turn_of caller change x)
  turn_denied b is refused = sym (ap (λ k. cond k (or_invalid (changed_pair change (is_directory x) x.acl)) (Err AuthorizationPermissionMismatch)) (sym is ∙ refused))

  turn_goes : (b : Bool) (used : BatchChange) (pair : AclPair) → b ≡ may_set_access x.owner caller → b ≡ true → used ≡ cond (is_directory x) change (for_kind false change) → pair ≡ x.acl → turn_of caller change x ≡ or_invalid (changed_pair used true pair)
  turn_goes b used pair is allowed chosen same =
      ap (λ k. cond k (or_invalid (changed_pair change (is_directory x) x.acl)) (Err AuthorizationPermissionMismatch)) (sym is ∙ allowed)
      ∙ ap or_invalid (sym (for_each change used x.acl (is_directory x) chosen) ∙ ap (changed_pair used true) (sym same))

  pub turn_ok : (b : Bool) (used : BatchChange) (pair new : AclPair) → b ≡ may_set_access x.owner caller → b ≡ true → used ≡ cond (is_directory x) change (for_kind false change) → pair ≡ x.acl
      → changed_pair used true pair ≡ Ok new → ◌≡◌ {A = Result AclPair Code} (Ok new) (turn_of caller change x)
  turn_ok b used pair new is allowed chosen same answer = sym (turn_goes b used pair is allowed chosen same ∙ ap or_invalid answer)

  pub turn_fault : (b : Bool) (used : BatchChange) (pair : AclPair) (f : AclFault) → b ≡ may_set_access x.owner caller → b ≡ true → used ≡ cond (is_directory x) change (for_kind false change) → pair ≡ x.acl
      → changed_pair used true pair ≡ Err f → ◌≡◌ {A = Result AclPair Code} (Err InvalidAcl) (turn_of caller change x)
  turn_fault b used pair f is allowed chosen same answer = sym (turn_goes b used pair is allowed chosen same ∙ ap or_invalid answer)

-- one of two, by a test
pub chosen_true : (change files used : BatchChange) (b x : Bool) → b ≡ x → b ≡ true → used ≡ change → used ≡ cond x change files
chosen_true change files used b x is allowed e = e ∙ sym (ap (λ k. cond k change files) (sym is ∙ allowed))

pub chosen_false : (change files used : BatchChange) (b x : Bool) → b ≡ x → b ≡ false → used ≡ files → used ≡ cond x change files
chosen_false change files used b x is refused e = e ∙ sym (ap (λ k. cond k change files) (sym is ∙ refused))
