-- Access control lists in the header `x-ms-acl`. A text or a list that is refused is `InvalidAcl`.
use Rattle.std.specs.Prelude.{ℕ, List, Result, Ok, Err}
use Rattle.acl_text.specs.AclChanges.{acl_set}
use Rattle.acl_text.specs.AclTexts.{acl_list_of}
use Rattle.acl_text.specs.declared.scope.Scope.{Scope}
use Rattle.acl_text.specs.declared.who.Who.{Who}
use Rattle.namespace_model.specs.declared.code.Code.{Code}
use Rattle.namespace_model.specs.declared.code.Code.TheVariants.{InvalidAcl}
use Rattle.op_decode.specs.Orders.{after}

abbrev pub or_bad_acl : {A Fault : Type 0} → Result A Fault → Result A Code
or_bad_acl (Ok value) = Ok value
or_bad_acl (Err fault) = Err InvalidAcl

-- entries
unfoldable pub entries_of : List ℕ → Result (List (Scope × Who × ℕ)) Code
entries_of text = or_bad_acl (acl_list_of text)

-- entries that make access control lists by themselves
unfoldable pub whole_entries_of : List ℕ → Result (List (Scope × Who × ℕ)) Code
whole_entries_of text = after (entries_of text) (λ list. after (or_bad_acl (acl_set list)) (λ lists. Ok list))
