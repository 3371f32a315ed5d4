-- The check, by who the caller is to the node.
use Rattle.std.proofs.Common.{◌≡◌, ◌≢◌, ◌⊎◌, ◌↔◌, ◌<◌, ℕ, Bool, true, false, ◌&&◌, cond, List, None, is_some, unwrap_or, Result, Ok, Err, inl, inr, refl, sym, ap, subst, ◌∙◌}
use Rattle.std.specs.Prelude.{bit_and, bytes_eq, Any, IfErr}
use Rattle.std.specs.List.{list_any}
use Rattle.std.specs.FinMap.{find}
use Rattle.std.proofs.lemmas.Bool.{false≢true, false_from_ne_true, and_parts, and_from}
use Rattle.std.proofs.lemmas.List.Folds.{Any-from_list_any, list_any-from_Any}
use Rattle.std.proofs.lemmas.Slice.Eq.{bytes_eq-Decides}
use Rattle.acl_text.specs.Ids.{superuser}
use Rattle.acl_text.specs.declared.who.Who.{Who}
use Rattle.acl_text.specs.declared.who.Who.TheVariants as who
use Rattle.acl_text.specs.Whos.{who_cmp}
use Rattle.namespace_model.specs.declared.caller.Caller.{Caller}
use Rattle.namespace_model.specs.declared.denied.Refusal.{Refusal}
use Rattle.namespace_model.specs.declared.denied.Rule.{Rule}
use Rattle.namespace_model.specs.declared.denied.Rule.TheVariants as rule
use Rattle.namespace_model.specs.Access.{access_check, bits_of, is_of_group_of, is_within, judged, masked_by, some_group_gives}
use Rattle.acl_check.specs.AccessLaws.{Allows, Denies, Gives, HasAll, IsGiving, IsNamedUser, IsUnnamed, IsOwner, IsRuleOfCheck, OneGroupGives}
use Rattle.acl_check.proofs.Bits.{within_has, has_within, has_both, all_bits}

same_bytes : (a b : List ℕ) → a ≡ b → bytes_eq a b ≡ true
same_bytes a b e = (bytes_eq-Decides a b).1 e

other_bytes : (a b : List ℕ) → a ≢ b → bytes_eq a b ≡ false
other_bytes a b h = false_from_ne_true (bytes_eq a b) (λ e. h ((bytes_eq-Decides a b).0 e))

-- ---- who decides

pub superuser_decides : (acl : List (Who × ℕ)) (owner group : List ℕ) (caller : Caller) (want : ℕ) → caller.id ≡ superuser
    → access_check acl owner group caller want ≡ Ok tt
unfolding access_check
superuser_decides acl owner group caller want is = rw (same_bytes caller.id superuser is) refl

pub owner_decides : (acl : List (Who × ℕ)) (owner group : List ℕ) (caller : Caller) (want : ℕ) → IsOwner owner caller
    → access_check acl owner group caller want ≡ judged rule.Owner want (bits_of acl who.Owner)
unfolding access_check
owner_decides acl owner group caller want is = rw (other_bytes caller.id superuser is.no_superuser, same_bytes caller.id owner is.owns) refl

pub named_user_decides : (acl : List (Who × ℕ)) (owner group : List ℕ) (caller : Caller) (want bits : ℕ) → IsNamedUser acl owner caller bits
    → access_check acl owner group caller want ≡ judged rule.NamedUser want (masked_by acl bits)
unfolding access_check
named_user_decides acl owner group caller want bits is =
    rw (other_bytes caller.id superuser is.no_superuser, other_bytes caller.id owner is.no_owner, is.named) refl

pub others_decide : (acl : List (Who × ℕ)) (owner group : List ℕ) (caller : Caller) (want : ℕ) → IsUnnamed acl owner caller
    → access_check acl owner group caller want ≡ cond (some_group_gives acl group caller want) (Ok tt) (judged rule.Other want (bits_of acl who.Other))
unfolding access_check
others_decide acl owner group caller want is =
    rw (other_bytes caller.id superuser is.no_superuser, other_bytes caller.id owner is.no_owner, is.unnamed) refl

-- ---- what a judgement says

abbrev judgement : Bool → Rule → ℕ → Result Unit Refusal
judgement given r have = cond given (Ok tt) (Err (record { rule = r; have = have }))

not_allowed : (refusal : Refusal) → judgement false refusal.rule refusal.have ≡ Ok tt → ⊥
not_allowed refusal e = cc

allows_at : (given : Bool) (r : Rule) (want have : ℕ) → is_within want have ≡ given → (judgement given r have ≡ Ok tt) ↔ HasAll have want
allows_at true r want have is = (λ _. within_has want have is, λ _. refl)
allows_at false r want have is =
    (λ e. absurd (not_allowed (record { rule = r; have = have }) e), λ all. absurd (false≢true (sym is ∙ has_within want have all)))

pub judged_allows : (r : Rule) (want have : ℕ) → (judged r want have ≡ Ok tt) ↔ HasAll have want
judged_allows r want have = allows_at (is_within want have) r want have refl

denies_at : (given : Bool) (r : Rule) (want have : ℕ) (refusal : Refusal) → is_within want have ≡ given → judgement given r have ≡ Err refusal
    → (refusal ≡ record { rule = r; have = have }) × (¬ HasAll refusal.have want)
denies_at true r want have refusal is e = absurd (cc)
denies_at false r want have refusal is e =
    let same : refusal ≡ record { rule = r; have = have } = cc in
    (same, λ all. false≢true (sym is ∙ has_within want have (subst (λ (x : Refusal). HasAll x.have want) same all)))

pub judged_denies : (r : Rule) (want have : ℕ) (refusal : Refusal) → judged r want have ≡ Err refusal
    → (refusal ≡ record { rule = r; have = have }) × (¬ HasAll refusal.have want)
judged_denies r want have refusal = denies_at (is_within want have) r want have refusal refl

-- ---- groups

group_gives : (acl : List (Who × ℕ)) (group : List ℕ) (caller : Caller) (want mask : ℕ) (e : Who × ℕ)
    → (is_of_group_of caller group e.0 && is_within want (bit_and e.1 mask)) ≡ true → HasAll mask want × IsGiving group caller want e
group_gives acl group caller want mask e test =
    let parts = and_parts (is_of_group_of caller group e.0) (is_within want (bit_and e.1 mask)) test in
    let bits = (has_both e.1 mask want).0 (within_has want (bit_and e.1 mask) parts.1) in
    (bits.1, record { of_caller = parts.0; gives = bits.0 })

giving_group : (acl : List (Who × ℕ)) (group : List ℕ) (caller : Caller) (want mask : ℕ) (e : Who × ℕ)
    → HasAll mask want → IsGiving group caller want e → (is_of_group_of caller group e.0 && is_within want (bit_and e.1 mask)) ≡ true
giving_group acl group caller want mask e masked is =
    and_from (is_of_group_of caller group e.0) (is_within want (bit_and e.1 mask)) is.of_caller
    (has_within want (bit_and e.1 mask) ((has_both e.1 mask want).1 (is.gives, masked)))

-- one group's entry and the mask give all that is wanted
pub some_group_is : (acl : List (Who × ℕ)) (group : List ℕ) (caller : Caller) (want mask : ℕ) → unwrap_or (find who_cmp who.Mask acl) 7 ≡ mask
    → (some_group_gives acl group caller want ≡ true) ↔ (HasAll mask want × OneGroupGives acl group caller want)
some_group_is acl group caller want mask is = (
  λ test.
      let found : Any (λ (e : Who × ℕ). p e ≡ true) acl = Any-from_list_any p acl (sym (alike acl) ∙ test) in
      let both = group_gives acl group caller want mask found.1 found.4 in
      (both.0, (found.0, found.1, found.2, found.3, both.1)),
  λ both. alike acl ∙ list_any-from_Any p acl (both.1.0, both.1.1, both.1.2, both.1.3, giving_group acl group caller want mask both.1.1 both.0 both.1.4),
)
  where
    p : Who × ℕ → Bool
    p e = is_of_group_of caller group e.0 && is_within want (bit_and e.1 mask)

    alike : (es : List (Who × ℕ)) → list_any (λ (e : Who × ℕ). is_of_group_of caller group e.0 && is_within want (masked_by acl e.1)) es ≡ list_any p es
    alike es = ap (λ m. list_any (λ (e : Who × ℕ). is_of_group_of caller group e.0 && is_within want (bit_and e.1 m)) es) is

-- ---- the laws

pub owner_allowed : (acl : List (Who × ℕ)) (owner group : List ℕ) (caller : Caller) (want bits : ℕ) → IsOwner owner caller → Gives acl who.Owner bits
    → Allows acl owner group caller want ↔ HasAll bits want
owner_allowed acl owner group caller want bits is gives =
    rw (owner_decides acl owner group caller want is, gives) (judged_allows rule.Owner want bits)

pub owner_alone : (acl changed : List (Who × ℕ)) (owner group : List ℕ) (caller : Caller) (want : ℕ) → IsOwner owner caller
    → find who_cmp who.Owner acl ≡ find who_cmp who.Owner changed → access_check acl owner group caller want ≡ access_check changed owner group caller want
owner_alone acl changed owner group caller want is same =
    owner_decides acl owner group caller want is ∙ ap (λ o. judged rule.Owner want (unwrap_or o 0)) same ∙ sym (owner_decides changed owner group caller want is)

pub named_user_allowed : (acl : List (Who × ℕ)) (owner group : List ℕ) (caller : Caller) (want bits mask : ℕ) → IsNamedUser acl owner caller bits
    → Gives acl who.Mask mask → Allows acl owner group caller want ↔ (HasAll bits want × HasAll mask want)
named_user_allowed acl owner group caller want bits mask is gives =
    let by : Allows acl owner group caller want ↔ HasAll (bit_and bits mask) want =
    rw (named_user_decides acl owner group caller want bits is, gives) (judged_allows rule.NamedUser want (bit_and bits mask)) in
    let parts = has_both bits mask want in
    (λ h. parts.0 (by.0 h), λ h. by.1 (parts.1 h))

nobody_by : (acl : List (Who × ℕ)) (owner group : List ℕ) (caller : Caller) (want other mask : ℕ) → IsUnnamed acl owner caller
    → Gives acl who.Other other → unwrap_or (find who_cmp who.Mask acl) 7 ≡ mask
    → Allows acl owner group caller want ↔ (HasAll other want ⊎ (HasAll mask want × OneGroupGives acl group caller want))
nobody_by acl owner group caller want other mask is gives masked =
    let groups = some_group_is acl group caller want mask masked in
    let bits : bits_of acl who.Other ≡ other = ap (λ o. unwrap_or o 0) gives in
    let decides : access_check acl owner group caller want ≡ cond (some_group_gives acl group caller want) (Ok tt) (judged rule.Other want other) =
    others_decide acl owner group caller want is ∙ ap (λ n. cond (some_group_gives acl group caller want) (Ok tt) (judged rule.Other want n)) bits in (
      λ allowed. split (some_group_gives acl group caller want) groups.0 (sym decides ∙ allowed),
      λ by. decides ∙ join (some_group_gives acl group caller want) groups.1 by,
    )
  where
    split : (b : Bool) → (b ≡ true → HasAll mask want × OneGroupGives acl group caller want) → cond b (Ok tt) (judged rule.Other want other) ≡ Ok tt
        → HasAll other want ⊎ (HasAll mask want × OneGroupGives acl group caller want)
    split true h e = inr (h refl)
    split false h e = inl ((judged_allows rule.Other want other).0 e)

    join : (b : Bool) → (HasAll mask want × OneGroupGives acl group caller want → b ≡ true)
        → HasAll other want ⊎ (HasAll mask want × OneGroupGives acl group caller want) → cond b (Ok tt) (judged rule.Other want other) ≡ Ok tt
    join true h by = refl
    join false h (inl all) = (judged_allows rule.Other want other).1 all
    join false h (inr one) = absurd (false≢true (h one))

pub nobody_allowed : (acl : List (Who × ℕ)) (owner group : List ℕ) (caller : Caller) (want other mask : ℕ) → IsUnnamed acl owner caller
    → Gives acl who.Other other → Gives acl who.Mask mask
    → Allows acl owner group caller want ↔ (HasAll other want ⊎ (HasAll mask want × OneGroupGives acl group caller want))
nobody_allowed acl owner group caller want other mask is gives masked =
    nobody_by acl owner group caller want other mask is gives (ap (λ o. unwrap_or o 7) masked)

pub nobody_unmasked : (acl : List (Who × ℕ)) (owner group : List ℕ) (caller : Caller) (want other : ℕ) → IsUnnamed acl owner caller
    → Gives acl who.Other other → find who_cmp who.Mask acl ≡ None → want < 8
    → Allows acl owner group caller want ↔ (HasAll other want ⊎ OneGroupGives acl group caller want)
nobody_unmasked acl owner group caller want other is gives none small =
    let by = nobody_by acl owner group caller want other 7 is gives (ap (λ o. unwrap_or o 7) none) in
    (λ allowed. less (by.0 allowed), λ h. by.1 (more h))
  where
    less : HasAll other want ⊎ (HasAll 7 want × OneGroupGives acl group caller want) → HasAll other want ⊎ OneGroupGives acl group caller want
    less (inl all) = inl all
    less (inr one) = inr one.1

    more : HasAll other want ⊎ OneGroupGives acl group caller want → HasAll other want ⊎ (HasAll 7 want × OneGroupGives acl group caller want)
    more (inl all) = inl all
    more (inr one) = inr (all_bits want small, one)

-- ---- denials

pub owner_denied : (acl : List (Who × ℕ)) (owner group : List ℕ) (caller : Caller) (want : ℕ) (refusal : Refusal) → IsOwner owner caller
    → Denies acl owner group caller want refusal → refusal ≡ record { rule = rule.Owner; have = bits_of acl who.Owner }
owner_denied acl owner group caller want refusal is denied =
    (judged_denies rule.Owner want (bits_of acl who.Owner) refusal (sym (owner_decides acl owner group caller want is) ∙ denied)).0

pub named_user_denied : (acl : List (Who × ℕ)) (owner group : List ℕ) (caller : Caller) (want bits : ℕ) (refusal : Refusal) → IsNamedUser acl owner caller bits
    → Denies acl owner group caller want refusal → refusal ≡ record { rule = rule.NamedUser; have = masked_by acl bits }
named_user_denied acl owner group caller want bits refusal is denied =
    (judged_denies rule.NamedUser want (masked_by acl bits) refusal (sym (named_user_decides acl owner group caller want bits is) ∙ denied)).0

otherwise : (b : Bool) (r : Result Unit Refusal) (refusal : Refusal) → cond b (Ok tt) r ≡ Err refusal → r ≡ Err refusal
otherwise true r refusal e = cc
otherwise false r refusal e = e

pub nobody_denied : (acl : List (Who × ℕ)) (owner group : List ℕ) (caller : Caller) (want : ℕ) (refusal : Refusal) → IsUnnamed acl owner caller
    → Denies acl owner group caller want refusal → refusal ≡ record { rule = rule.Other; have = bits_of acl who.Other }
nobody_denied acl owner group caller want refusal is denied =
    (judged_denies rule.Other want (bits_of acl who.Other) refusal
    (otherwise (some_group_gives acl group caller want) _ refusal (sym (others_decide acl owner group caller want is) ∙ denied))).0

-- whatever the caller is, one of the three judges
abbrev IsLacking : ℕ → Refusal → Type 0
IsLacking want refusal = IsRuleOfCheck refusal.rule × (¬ HasAll refusal.have want)

abbrev Lacks : ℕ → Result Unit Refusal → Type 0
Lacks want r = (refusal : Refusal) → r ≡ Err refusal → IsLacking want refusal

none_lacks : (want : ℕ) → Lacks want (Ok tt)
none_lacks want refusal e = absurd (cc)

judged_lacks : (r : Rule) (want have : ℕ) → IsRuleOfCheck r → Lacks want (judged r want have)
judged_lacks r want have of_check refusal e =
    let says = judged_denies r want have refusal e in
    (subst (λ (x : Refusal). IsRuleOfCheck x.rule) (sym says.0) of_check, says.1)

either_lacks : (want : ℕ) (b : Bool) (x y : Result Unit Refusal) → Lacks want x → Lacks want y → Lacks want (cond b x y)
either_lacks want true x y h k = h
either_lacks want false x y h k = k

pub denial_lacks : (acl : List (Who × ℕ)) (owner group : List ℕ) (caller : Caller) (want : ℕ) (refusal : Refusal)
    → Denies acl owner group caller want refusal → IsRuleOfCheck refusal.rule × (¬ HasAll refusal.have want)
unfolding access_check
denial_lacks acl owner group caller want =
    either_lacks want (bytes_eq caller.id superuser) _ _ (none_lacks want)
    (either_lacks want (bytes_eq caller.id owner) _ _ (judged_lacks rule.Owner want (bits_of acl who.Owner) (inl refl))
    (either_lacks want (is_some (find who_cmp (who.User caller.id) acl)) _ _
    (judged_lacks rule.NamedUser want (masked_by acl (bits_of acl (who.User caller.id))) (inr (inl refl)))
    (either_lacks want (some_group_gives acl group caller want) _ _ (none_lacks want) (judged_lacks rule.Other want (bits_of acl who.Other) (inr (inr refl))))))

-- the same of an answer
pub denied_rule : (acl : List (Who × ℕ)) (owner group : List ℕ) (caller : Caller) (want : ℕ) (r : Result Unit Refusal)
    → r ≡ access_check acl owner group caller want → IfErr r (λ refusal. IsRuleOfCheck refusal.rule)
denied_rule acl owner group caller want (Ok allowed) e = tt
denied_rule acl owner group caller want (Err refusal) e = (denial_lacks acl owner group caller want refusal (sym e)).0

pub denied_lacks : (acl : List (Who × ℕ)) (owner group : List ℕ) (caller : Caller) (want : ℕ) (r : Result Unit Refusal)
    → r ≡ access_check acl owner group caller want → IfErr r (λ refusal. ¬ HasAll refusal.have want)
denied_lacks acl owner group caller want (Ok allowed) e = tt
denied_lacks acl owner group caller want (Err refusal) e = (denial_lacks acl owner group caller want refusal (sym e)).1
