-- What holds of the maps behind access control lists, through each change.
use Rattle.std.proofs.Common.{◌≡◌, ℕ, suc, ◌+◌, ◌≤◌, nat_lt, is_ok, Result, Ok, Err, IfErr, Bool, true, false, cond, not, ◌&&◌, ◌||◌, List, [], ◌∷◌, length, IsSome, IfSome, is_some, option_map, Option, None, Some, refl, sym, ap, subst, ◌∙◌, arith}
use Rattle.std.specs.List.{list_any}
use Rattle.std.specs.Ordering.{eq_by_cmp, is_eq}
use Rattle.std.specs.declared.cmp.Ordering.TheVariants.{Less, Equal, Greater}
use Rattle.std.specs.FinMap as fin
use Rattle.std.specs.FinMap.{find}
use Rattle.std.specs.declared.cmp.Ordering.{Ordering}
use Rattle.std.proofs.lemmas.Bool.{false≢true}
use Rattle.std.proofs.lemmas.Bool.Decides.{nat_tests}
use Rattle.std.specs.Option.{option_map_or}
use Rattle.acl_text.specs.declared.acl.AclFault.TheVariants.{TooMany}
use Rattle.acl_text.specs.declared.acl.AclFault.{AclFault}
use Rattle.acl_text.specs.declared.acl.AclPair.{AclPair}
use Rattle.std.proofs.lemmas.Cmp.{tied_itself}
use Rattle.std.proofs.lemmas.List.{nil_from_length}
use Rattle.acl_text.specs.declared.scope.Scope.{Scope}
use Rattle.acl_text.specs.declared.scope.Scope.TheVariants.{Access, Default}
use Rattle.acl_text.specs.declared.who.Who.{Who}
use Rattle.acl_text.specs.declared.who.Who.TheVariants.{Owner, User, OwningGroup, Group, Mask, Other}
use Rattle.acl_text.specs.declared.perm.ModeBits.{ModeBits}
use Rattle.acl_text.specs.Scopes.{in_scope}
use Rattle.acl_text.specs.Whos.{who_cmp, is_named, is_base, is_mask}
use Rattle.acl_text.specs.Held.{AreHeld}
use Rattle.acl_text.specs.AclMaps.{AclMap, has_named, union_of, base_of, without_mask, masked}
use Rattle.acl_text.specs.Acls.{IsComplete, IsAclMap, IsAcl}
use Rattle.acl_text.specs.AclChanges.{names, gives_mask, given_in, changed_scope, default_start, changed_default, is_over, pair_of, missing_in, names_item, lists, without, removed_scope, drops_default, removed_default, group_holder, mode_map, mode_set}
use Rattle.std.specs.FinMap.{put}
use Rattle.std.specs.FinMap.Entries.{where_key, by_order}
use Rattle.acl_text.proofs.WhoLemmas.{who_cmp_total, who_cmp-IsAntisymmetric}
use Rattle.acl_text.proofs.EntryLemmas.{sorted-entries, entries-retain_keys}

-- the entries of a map that is an access control list
pub acl_entries : (m : AclMap) → IsAclMap m → AreHeld (fin.entries m) → IsAcl (fin.entries m)
acl_entries m h held = record {
  in_order = sorted-entries m;
  owner = subst IsSome (fin.get-entries m Owner) h.complete.owner;
  owning_group = subst IsSome (fin.get-entries m OwningGroup) h.complete.owning_group;
  other = subst IsSome (fin.get-entries m Other) h.complete.other;
  mask = λ named. subst IsSome (fin.get-entries m Mask) (h.complete.mask named);
  few = h.few;
  held = held;
}

-- ---- who has an entry after an entry was put

pub has-insert : (m : AclMap) (k : Who) (v : ℕ) (q : Who) → IsSome (fin.get m q) → IsSome (fin.get (fin.insert m k v) q)
has-insert m k v q h = rw (fin.get-insert who_cmp_total m k v q) (either (eq_by_cmp who_cmp q k) h)
  where
    either : (b : Bool) → IsSome (fin.get m q) → IsSome (cond b (Some v) (fin.get m q))
    either true h = refl
    either false h = h

pub has-inserted : (m : AclMap) (k : Who) (v : ℕ) → IsSome (fin.get (fin.insert m k v) k)
has-inserted m k v = rw (fin.get-insert who_cmp_total m k v k, tied_itself who_cmp_total k) refl

-- who has an entry after those that fail a test went
pub has-retain_keys : (m : AclMap) (p : Who → Bool) (q : Who) → p q ≡ true → IsSome (fin.get m q) → IsSome (fin.get (fin.retain_keys m p) q)
has-retain_keys m p q stays h =
    rw (fin.get-retain_keys m p q (λ x t. ap p (sym (who_cmp-IsAntisymmetric q x t))), stays) h

-- ---- the entries of a list, put in turn

abbrev step : Scope → AclMap → Scope × Who × ℕ → AclMap
step scope m e = cond (in_scope scope e.0) (fin.insert m e.1 e.2) m

has-step : (b : Bool) (m : AclMap) (k : Who) (v : ℕ) (q : Who) → IsSome (fin.get m q) → IsSome (fin.get (cond b (fin.insert m k v) m) q)
has-step true m k v q h = has-insert m k v q h
has-step false m k v q h = h

pub has-given_in : (scope : Scope) (list : List (Scope × Who × ℕ)) (m : AclMap) (q : Who) → IsSome (fin.get m q) → IsSome (fin.get (given_in scope list m) q)
has-given_in scope [] m q h = h
has-given_in scope (e ∷ es) m q h = has-given_in scope es _ q (has-step (in_scope scope e.0) m e.1 e.2 q h)

pub is_mask-Mask : (w : Who) → is_mask w ≡ true → w ≡ Mask
is_mask-Mask Owner e = absurd (false≢true e)
is_mask-Mask (User id) e = absurd (false≢true e)
is_mask-Mask OwningGroup e = absurd (false≢true e)
is_mask-Mask (Group id) e = absurd (false≢true e)
is_mask-Mask Mask e = refl
is_mask-Mask Other e = absurd (false≢true e)

mask_put : (a b : Bool) (m : AclMap) (k : Who) (v : ℕ) → (b ≡ true → k ≡ Mask) → (a && b) ≡ true → IsSome (fin.get (cond a (fin.insert m k v) m) Mask)
mask_put true true m k v is e = subst (λ w. IsSome (fin.get (fin.insert m k v) w)) (is refl) (has-inserted m k v)
mask_put true false m k v is e = absurd (false≢true e)
mask_put false b m k v is e = absurd (false≢true e)

-- a mask that a list gives is there
pub given_mask : (scope : Scope) (list : List (Scope × Who × ℕ)) (m : AclMap) → gives_mask scope list ≡ true → IsSome (fin.get (given_in scope list m) Mask)
given_mask scope [] m = λ e. absurd (false≢true e)
given_mask scope (e ∷ es) m =
    elim (in_scope scope e.0 && is_mask e.1) as (λ b. (in_scope scope e.0 && is_mask e.1) ≡ b → (b || gives_mask scope es) ≡ true
    → IsSome (fin.get (given_in scope es (step scope m e)) Mask)) [
      | true ↦ λ is _. has-given_in scope es _ Mask (mask_put (in_scope scope e.0) (is_mask e.1) m e.1 e.2 (is_mask-Mask e.1) is)
      | false ↦ λ is more. given_mask scope es _ more
    ] refl

-- ---- named entries

named_kept : (p : Who → Bool) (es : List (Who × ℕ)) → list_any (λ e. is_named e.0) (where_key who_cmp p es) ≡ true → list_any (λ e. is_named e.0) es ≡ true
named_kept p [] = λ h. h
named_kept p (e ∷ es) =
    elim (p e.0) as (λ b. list_any (λ e. is_named e.0) (cond b (e ∷ where_key who_cmp p es) (where_key who_cmp p es)) ≡ true
    → (is_named e.0 || list_any (λ e. is_named e.0) es) ≡ true) [
      | true ↦ or_more (is_named e.0) _ _ (named_kept p es)
      | false ↦ λ h. or_last (is_named e.0) _ (named_kept p es h)
    ]
  where
    or_more : (a b c : Bool) → (b ≡ true → c ≡ true) → (a || b) ≡ true → (a || c) ≡ true
    or_more true b c f h = refl
    or_more false b c f h = f h

    or_last : (a b : Bool) → b ≡ true → (a || b) ≡ true
    or_last true b h = refl
    or_last false b h = h

pub has_named-retain_keys : (m : AclMap) (p : Who → Bool) → has_named (fin.retain_keys m p) ≡ true → has_named m ≡ true
has_named-retain_keys m p h = named_kept p (fin.entries m) (rw (entries-retain_keys m p) at h)

base_unnamed : (w : Who) → is_base w ≡ true → is_named w ≡ false
base_unnamed Owner e = refl
base_unnamed (User id) e = absurd (false≢true e)
base_unnamed OwningGroup e = refl
base_unnamed (Group id) e = absurd (false≢true e)
base_unnamed Mask e = absurd (false≢true e)
base_unnamed Other e = refl

none_named : (es : List (Who × ℕ)) → list_any (λ e. is_named e.0) (where_key who_cmp is_base es) ≡ false
none_named [] = refl
none_named (e ∷ es) =
    elim (is_base e.0) as (λ b. is_base e.0 ≡ b → list_any (λ e. is_named e.0) (cond b (e ∷ where_key who_cmp is_base es) (where_key who_cmp is_base es)) ≡ false) [
      | true ↦ λ is. rw (base_unnamed e.0 is) (none_named es)
      | false ↦ λ is. none_named es
    ] refl

pub has_named-base_of : (m : AclMap) → has_named (base_of m) ≡ false
has_named-base_of m = rw (entries-retain_keys m is_base) (none_named (fin.entries m))

named_put : (k : Who) (v : ℕ) (es : List (Who × ℕ)) → is_named k ≡ false → list_any (λ e. is_named e.0) (put who_cmp k v es) ≡ list_any (λ e. is_named e.0) es
named_put k v [] is = rw is refl
named_put k v (e ∷ es) is =
    elim (who_cmp k e.0) as (λ o. list_any (λ e. is_named e.0) (by_order o ((k, v) ∷ e ∷ es) ((e.0, v) ∷ es) (e ∷ put who_cmp k v es))
    ≡ (is_named e.0 || list_any (λ e. is_named e.0) es)) [
      | Less ↦ ap (λ b. b || (is_named e.0 || list_any (λ e. is_named e.0) es)) is
      | Equal ↦ refl
      | Greater ↦ ap (λ b. is_named e.0 || b) (named_put k v es is)
    ]

pub has_named-insert : (m : AclMap) (k : Who) (v : ℕ) → is_named k ≡ false → has_named (fin.insert m k v) ≡ has_named m
has_named-insert m k v is = ap (list_any (λ e. is_named e.0)) (fin.entries-insert who_cmp_total m k v) ∙ named_put k v (fin.entries m) is

-- ---- complete entries

-- the three base entries are there
pub record HasBase (m : AclMap) : Type 0 where
  pub owner : IsSome (fin.get m Owner)
  pub owning_group : IsSome (fin.get m OwningGroup)
  pub other : IsSome (fin.get m Other)

pub base_complete : (m : AclMap) → IsComplete m → HasBase m
base_complete m h = record { owner = h.owner; owning_group = h.owning_group; other = h.other }

pub HasBase-insert : (m : AclMap) (k : Who) (v : ℕ) → HasBase m → HasBase (fin.insert m k v)
HasBase-insert m k v h = record {
  owner = has-insert m k v Owner h.owner;
  owning_group = has-insert m k v OwningGroup h.owning_group;
  other = has-insert m k v Other h.other;
}

pub HasBase-retain_keys : (m : AclMap) (p : Who → Bool) → p Owner ≡ true → p OwningGroup ≡ true → p Other ≡ true → HasBase m → HasBase (fin.retain_keys m p)
HasBase-retain_keys m p a b c h = record {
  owner = has-retain_keys m p Owner a h.owner;
  owning_group = has-retain_keys m p OwningGroup b h.owning_group;
  other = has-retain_keys m p Other c h.other;
}

pub HasBase-given_in : (scope : Scope) (list : List (Scope × Who × ℕ)) (m : AclMap) → HasBase m → HasBase (given_in scope list m)
HasBase-given_in scope list m h = record {
  owner = has-given_in scope list m Owner h.owner;
  owning_group = has-given_in scope list m OwningGroup h.owning_group;
  other = has-given_in scope list m Other h.other;
}

with_mask : (m : AclMap) → HasBase m → (has_named m ≡ true → IsSome (fin.get m Mask)) → IsComplete m
with_mask m h mask = record { owner = h.owner; owning_group = h.owning_group; other = h.other; mask = mask }

-- the mask rule completes
pub IsComplete-masked : (given : Bool) (m : AclMap) → HasBase m → (given ≡ true → IsSome (fin.get m Mask)) → IsComplete (masked given m)
IsComplete-masked true m h mask = with_mask m h (λ _. mask refl)
IsComplete-masked false m h mask =
    elim (has_named m) as (λ b. has_named m ≡ b → IsComplete (cond b (fin.insert m Mask (union_of m)) (without_mask m))) [
      | true ↦ λ named. with_mask _ (HasBase-insert m Mask (union_of m) h) (λ _. has-inserted m Mask (union_of m))
      | false ↦ λ named. with_mask _ (HasBase-retain_keys m (λ who. not (is_mask who)) refl refl refl h)
          (λ still. absurd (false≢true (sym named ∙ has_named-retain_keys m (λ who. not (is_mask who)) still)))
    ] refl

pub IsComplete-changed_scope : (scope : Scope) (list : List (Scope × Who × ℕ)) (m : AclMap) → IsComplete m → IsComplete (changed_scope scope list m)
IsComplete-changed_scope scope list m h =
    elim (names scope list) as (λ b. IsComplete (cond b (masked (gives_mask scope list) (given_in scope list m)) m)) [
      | true ↦ IsComplete-masked (gives_mask scope list) _ (HasBase-given_in scope list m (base_complete m h)) (given_mask scope list m)
      | false ↦ h
    ]

pub IsComplete-base_of : (m : AclMap) → IsComplete m → IsComplete (base_of m)
IsComplete-base_of m h =
    with_mask _ (HasBase-retain_keys m is_base refl refl refl (base_complete m h)) (λ named. absurd (false≢true (sym (has_named-base_of m) ∙ named)))

pub IsComplete-default_start : (default : Option AclMap) (access : AclMap) → IsComplete access → IfSome default IsComplete → IsComplete (default_start default access)
IsComplete-default_start None access h d = IsComplete-base_of access h
IsComplete-default_start (Some m) access h d = d

pub IsComplete-changed_default : (list : List (Scope × Who × ℕ)) (default : Option AclMap) (access : AclMap) → IsComplete access → IfSome default IsComplete → IfSome (changed_default list default access) IsComplete
IsComplete-changed_default list default access h d =
    elim (names Default list) as (λ b. IfSome (cond b (Some (changed_scope Default list (default_start default access))) default) IsComplete) [
      | true ↦ IsComplete-changed_scope Default list _ (IsComplete-default_start default access h d)
      | false ↦ d
    ]

-- what no entry is missing of has the base
none_missing : (a b c : Option ℕ) → cond (is_some a) (cond (is_some b) (cond (is_some c) None (Some Other)) (Some OwningGroup)) (Some Owner) ≡ None → IsSome a × IsSome b × IsSome c
none_missing (Some a) (Some b) (Some c) e = (refl, refl, refl)
none_missing (Some a) (Some b) None e = (cc)
none_missing (Some a) None c e = (cc)
none_missing None b c e = (cc)

pub HasBase-from_missing : (m : AclMap) → missing_in m ≡ None → HasBase m
HasBase-from_missing m e =
    let p = none_missing (fin.get m Owner) (fin.get m OwningGroup) (fin.get m Other) e in
    record { owner = p.0; owning_group = p.1; other = p.2 }

pub IsComplete-set : (list : List (Scope × Who × ℕ)) → missing_in (given_in Access list fin.empty) ≡ None → IsComplete (masked (gives_mask Access list) (given_in Access list fin.empty))
IsComplete-set list e =
    IsComplete-masked (gives_mask Access list) _ (HasBase-from_missing (given_in Access list fin.empty) e) (given_mask Access list fin.empty)

pub IsComplete-removed_scope : (scope : Scope) (list : List (Scope × Who)) (m : AclMap) → IsComplete m → IsComplete (removed_scope scope list m)
IsComplete-removed_scope scope list m h =
    elim (names_item scope list) as (λ b. IsComplete (cond b (masked false (without scope list m)) m)) [
      | true ↦ IsComplete-masked false _ (HasBase-retain_keys m _ refl refl refl (base_complete m h)) (λ e. absurd (false≢true e))
      | false ↦ h
    ]

pub IsComplete-removed_default : (list : List (Scope × Who)) (default : Option AclMap) → IfSome default IsComplete → IfSome (removed_default list default) IsComplete
IsComplete-removed_default list default h =
    elim (drops_default list) as (λ b. IfSome (cond b None (option_map (removed_scope Default list) default)) IsComplete) [
      | true ↦ tt
      | false ↦ each default h
    ]
  where
    each : (d : Option AclMap) → IfSome d IsComplete → IfSome (option_map (removed_scope Default list) d) IsComplete
    each None h = tt
    each (Some m) h = IsComplete-removed_scope Default list m h

-- ---- a mode

-- to set the permissions of one who has an entry and is not named keeps an access control list
IsAclMap-insert : (m : AclMap) (k : Who) (v : ℕ) → IsSome (fin.get m k) → is_named k ≡ false → IsAclMap m → IsAclMap (fin.insert m k v)
IsAclMap-insert m k v there is h =
    let long : length (fin.entries (fin.insert m k v)) ≡ length (fin.entries m) =
    sym (fin.len-entries (fin.insert m k v)) ∙ fin.len-insert who_cmp_total m k v ∙ ap (λ b. cond b (fin.len m) (fin.len m + 1)) there ∙ fin.len-entries m in
    record {
      complete = with_mask _ (HasBase-insert m k v (base_complete m h.complete))
          (λ named. has-insert m k v Mask (h.complete.mask (sym (has_named-insert m k v is) ∙ named)));
      few = rw long h.few;
    }

holder_there : (m : AclMap) → IsAclMap m → IsSome (fin.get m (group_holder m)) × (is_named (group_holder m) ≡ false)
holder_there m h =
    elim (is_some (fin.get m Mask)) as (λ b. is_some (fin.get m Mask) ≡ b → IsSome (fin.get m (cond b Mask OwningGroup)) × (is_named (cond b Mask OwningGroup) ≡ false)) [
      | true ↦ λ e. (e, refl)
      | false ↦ λ e. (h.complete.owning_group, refl)
    ] refl

pub IsAclMap-mode_set : (bits : ModeBits) (m : AclMap) → IsAclMap m → IsAclMap (mode_set bits m)
IsAclMap-mode_set bits m h =
    let owner = IsAclMap-insert m Owner bits.owner h.complete.owner refl h in
    let holder = holder_there m h in
    let group = IsAclMap-insert _ (group_holder m) bits.group (has-insert m Owner bits.owner _ holder.0) holder.1 owner in
    IsAclMap-insert _ Other bits.other group.complete.other refl group

-- ---- the three base entries alone

pub entries-mode_map : (bits : ModeBits) → fin.entries (mode_map bits) ≡ (Owner, bits.owner) ∷ (OwningGroup, bits.group) ∷ (Other, bits.other) ∷ []
entries-mode_map bits =
    fin.entries-insert who_cmp_total _ Other bits.other
    ∙ ap (put who_cmp Other bits.other) (fin.entries-insert who_cmp_total _ OwningGroup bits.group
    ∙ ap (put who_cmp OwningGroup bits.group) (fin.entries-insert who_cmp_total fin.empty Owner bits.owner ∙ ap (put who_cmp Owner bits.owner) none))
  where
    none : fin.entries {X = ℕ} {R = who_cmp} fin.empty ≡ []
    none = nil_from_length _ (sym (fin.len-entries _) ∙ fin.len-empty who_cmp ℕ)

pub IsAclMap-mode_map : (bits : ModeBits) → IsAclMap (mode_map bits)
IsAclMap-mode_map bits =
    let m = mode_map bits in
    let is = entries-mode_map bits in
    record {
      complete = record {
        owner = subst IsSome (sym (fin.get-entries m Owner ∙ ap (find who_cmp Owner) is)) refl;
        owning_group = subst IsSome (sym (fin.get-entries m OwningGroup ∙ ap (find who_cmp OwningGroup) is)) refl;
        other = subst IsSome (sym (fin.get-entries m Other ∙ ap (find who_cmp Other) is)) refl;
        mask = λ named. absurd (false≢true (sym (ap (list_any (λ e. is_named e.0)) is) ∙ named));
      };
      few = subst (λ n. n ≤ 32) (sym (ap length is)) (omega arith);
    }

-- ---- what remove leaves is no longer than it was

no_longer : (p : Who → Bool) (es : List (Who × ℕ)) → length (where_key who_cmp p es) ≤ length es
no_longer p [] = omega arith
no_longer p (e ∷ es) =
    let rest = no_longer p es in
    elim (p e.0) as (λ b. length (cond b (e ∷ where_key who_cmp p es) (where_key who_cmp p es)) ≤ suc (length es)) [ true ↦ omega (arith, rest) | false ↦ omega (arith, rest) ]

shorter : (p : Who → Bool) (k : Who) (es : List (Who × ℕ)) → p k ≡ false → IsSome (find who_cmp k es) → length (where_key who_cmp p es) + 1 ≤ length es
shorter p k [] out there = absurd (false≢true there)
shorter p k (e ∷ es) out there =
    elim (p e.0) as (λ b. p e.0 ≡ b → length (cond b (e ∷ where_key who_cmp p es) (where_key who_cmp p es)) + 1 ≤ suc (length es)) [
      | true ↦ λ stays. let rest = shorter p k es out (later (who_cmp k e.0) refl stays there) in omega (arith, rest)
      | false ↦ λ goes. let rest = no_longer p es in omega (arith, rest)
    ] refl
  where
    later : (o : Ordering) → who_cmp k e.0 ≡ o → p e.0 ≡ true → IsSome (cond (is_eq (who_cmp k e.0)) (Some e.1) (find who_cmp k es)) → IsSome (find who_cmp k es)
    later Less t stays h = subst (λ o. IsSome (cond (is_eq o) (Some e.1) (find who_cmp k es))) t h
    later Equal t stays h = absurd (false≢true (sym out ∙ ap p (who_cmp-IsAntisymmetric k e.0 t) ∙ stays))
    later Greater t stays h = subst (λ o. IsSome (cond (is_eq o) (Some e.1) (find who_cmp k es))) t h

length-retain_keys : (m : AclMap) (p : Who → Bool) → length (fin.entries (fin.retain_keys m p)) ≡ length (where_key who_cmp p (fin.entries m))
length-retain_keys m p = ap length (entries-retain_keys m p)

few_masked : (m : AclMap) (p : Who → Bool) → IsComplete m → length (fin.entries m) ≤ 32 → length (fin.entries (masked false (fin.retain_keys m p))) ≤ 32
few_masked m p h few =
    let n = fin.retain_keys m p in
    let kept = no_longer p (fin.entries m) in
    let long = length-retain_keys m p in
    elim (has_named n) as (λ b. has_named n ≡ b → length (fin.entries (cond b (fin.insert n Mask (union_of n)) (without_mask n))) ≤ 32) [
      | true ↦ λ named. subst (λ x. x ≤ 32) (sym (length-inserted n Mask (union_of n))) (with_mask_few (is_some (fin.get n Mask)) refl (h.mask (has_named-retain_keys m p named)))
      | false ↦ λ _.
          let again = no_longer (λ who. not (is_mask who)) (fin.entries n) in
          let long' = length-retain_keys n (λ who. not (is_mask who)) in
          omega (arith, kept, long, again, long', few)
    ] refl
  where
    length-inserted : (n : AclMap) (k : Who) (v : ℕ) → length (fin.entries (fin.insert n k v)) ≡ cond (is_some (fin.get n k)) (length (fin.entries n)) (length (fin.entries n) + 1)
    length-inserted n k v =
        sym (fin.len-entries (fin.insert n k v)) ∙ fin.len-insert who_cmp_total n k v ∙ ap (λ x. cond (is_some (fin.get n k)) x (x + 1)) (fin.len-entries n)

    not_kept : (b : Bool) → is_some (cond b (fin.get m Mask) None) ≡ false → IsSome (fin.get m Mask) → b ≡ false
    not_kept true e there = absurd (false≢true (sym e ∙ there))
    not_kept false e there = refl

    with_mask_few : (b : Bool) → is_some (fin.get (fin.retain_keys m p) Mask) ≡ b → IsSome (fin.get m Mask)
        → cond b (length (fin.entries (fin.retain_keys m p))) (length (fin.entries (fin.retain_keys m p)) + 1) ≤ 32
    with_mask_few true e there = let kept = no_longer p (fin.entries m) in let long = length-retain_keys m p in omega (arith, kept, long, few)
    with_mask_few false e there =
        let out : p Mask ≡ false = not_kept (p Mask) (sym (ap is_some (fin.get-retain_keys m p Mask (λ x t. ap p (sym (who_cmp-IsAntisymmetric Mask x t))))) ∙ e) there in
        let gone = shorter p Mask (fin.entries m) out (subst IsSome (fin.get-entries m Mask) there) in
        let long = length-retain_keys m p in
        omega (arith, gone, long, few)

few_removed : (d : Scope) (list : List (Scope × Who)) (m : AclMap) → IsAclMap m → is_over (removed_scope d list m) ≡ false
few_removed d list m h =
    few_is (length (fin.entries (removed_scope d list m)))
    (elim (names_item d list) as (λ b. length (fin.entries (cond b (masked false (without d list m)) m)) ≤ 32) [
      | true ↦ few_masked m (λ who. is_base who || not (lists d list who)) h.complete h.few
      | false ↦ h.few
    ])
  where
    few_is : (n : ℕ) → n ≤ 32 → nat_lt 32 n ≡ false
    few_is n h = grind (arith, nat_tests)

few_default : (list : List (Scope × Who)) (default : Option AclMap) → IfSome default IsAclMap → option_map_or is_over (removed_default list default) false ≡ false
few_default list default h =
    elim (drops_default list) as (λ b. option_map_or is_over (cond b None (option_map (removed_scope Default list) default)) false ≡ false) [ true ↦ refl | false ↦ each default h ]
  where
    each : (d : Option AclMap) → IfSome d IsAclMap → option_map_or is_over (option_map (removed_scope Default list) d) false ≡ false
    each None h = refl
    each (Some m) h = few_removed Default list m h

-- so it is never refused
pub remove_fits : (list : List (Scope × Who)) (access : AclMap) (default : Option AclMap) → IsAclMap access → IfSome default IsAclMap
    → is_ok {T = AclPair} {E = AclFault} (pair_of (removed_scope Access list access) (removed_default list default)) ≡ true
remove_fits list access default a d =
    ap (λ b. is_ok {T = AclPair} {E = AclFault} (cond b (Err TooMany) (Ok (record { access = fin.entries (removed_scope Access list access); default = option_map fin.entries (removed_default list default) }))))
    ((λ i. few_removed Access list access a i || few_default list default d i))

pub no_err : {T E : Type 0} (r : Result T E) (P : E → Type 0) → is_ok r ≡ true → IfErr r P
no_err (Ok x) P h = tt
no_err (Err e) P h = absurd (false≢true h)
