-- The laws on changes of access control lists.
use Rattle.std.proofs.Common.{◌≡◌, ◌⊎◌, ℕ, ◌≤◌, Bool, true, false, cond, not, ◌&&◌, ◌||◌, nat_lt, bit_or, List, [], ◌∷◌, ◌++◌, map, filter, fold, length, IsSome, IfSome, is_some, T, Option, None, Some, option_map, Ok, Err, inl, inr, refl, sym, ap, subst, ◌∙◌, arith}
use Rattle.std.specs.List.{list_any}
use Rattle.std.specs.Option.{option_map_or}
use Rattle.std.specs.Ordering.{eq_by_cmp, is_eq, is_lt, ordering_reverse}
use Rattle.std.specs.declared.cmp.Ordering.{Ordering}
use Rattle.std.specs.declared.cmp.Ordering.TheVariants.{Less, Equal, Greater}
use Rattle.std.specs.FinMap as fin
use Rattle.std.specs.FinMap.{find, put}
use Rattle.std.specs.FinMap.Entries.{by_order, below_all, is_sorted}
use Rattle.std.proofs.lemmas.Bool.{false≢true}
use Rattle.std.proofs.lemmas.Bool.Decides.{nat_tests}
use Rattle.std.proofs.lemmas.Cmp.{tied_itself}
use Rattle.acl_text.specs.declared.scope.Scope.{Scope}
use Rattle.acl_text.specs.declared.scope.Scope.TheVariants.{Access, Default}
use Rattle.acl_text.specs.declared.who.Who.{Who}
use Rattle.acl_text.specs.declared.who.Who.TheVariants.{Owner, User, OwningGroup, Group, Mask, Other}
use Rattle.acl_text.specs.declared.acl.AclPair.{AclPair}
use Rattle.acl_text.specs.declared.acl.AclFault.TheVariants.{TooMany}
use Rattle.acl_text.specs.Scopes.{in_scope}
use Rattle.acl_text.specs.Whos.{who_cmp, is_named, is_base, is_mask, is_limited}
use Rattle.acl_text.specs.AclMaps.{AclMap, map_of, has_named, union_of, base_of, without_mask, masked}
use Rattle.acl_text.specs.Acls.{IsAcl}
use Rattle.acl_text.specs.AclChanges.{names, gives_mask, given_in, changed_scope, default_start, changed_default, is_over, pair_of, acl_modify, missing_in, set_where_complete, acl_set, names_item, lists, without, removed_scope, removed_default, acl_remove}
use Rattle.acl_text.specs.AclWriting.{scoped, default_entries, entries_of}
use Rattle.acl_text.specs.AclLaws.{IsAclPair, ListsAllButBase}
use Rattle.acl_text.proofs.WhoLemmas.{who_cmp_total, who_cmp-IsAntisymmetric}
use Rattle.acl_text.proofs.EntryLemmas.{in_order, entries-map, map-entries, entries-retain_keys}
use Rattle.acl_text.proofs.AclLemmas.{has_named-insert, has_named-retain_keys, has_named-base_of, is_mask-Mask}

abbrev pub or_else : Option ℕ → Option ℕ → Option ℕ
or_else (Some a) b = Some a
or_else None b = b

or_else_assoc : (a b c : Option ℕ) → or_else a (or_else b c) ≡ or_else (or_else a b) c
or_else_assoc (Some a) b c = refl
or_else_assoc None b c = refl

pub or_else_twice : (a b : Option ℕ) → or_else a (or_else a b) ≡ or_else a b
or_else_twice (Some a) b = refl
or_else_twice None b = refl

pub same_gets : (m n : AclMap) → ((q : Who) → fin.get m q ≡ fin.get n q) → m ≡ n
same_gets m n h = fin.same_map who_cmp_total who_cmp-IsAntisymmetric m n h

-- the last permissions that a list gives to one in a scope
abbrev pub last_in : Scope → Who → List (Scope × Who × ℕ) → Option ℕ
last_in d q [] = None
last_in d q (e ∷ es) = or_else (last_in d q es) (cond (in_scope d e.0 && eq_by_cmp who_cmp q e.1) (Some e.2) None)

get-step : (b : Bool) (m : AclMap) (k : Who) (v : ℕ) (q : Who)
    → fin.get (cond b (fin.insert m k v) m) q ≡ or_else (cond (b && eq_by_cmp who_cmp q k) (Some v) None) (fin.get m q)
get-step true m k v q =
    fin.get-insert who_cmp_total m k v q
    ∙ elim (eq_by_cmp who_cmp q k) as (λ t. cond t (Some v) (fin.get m q) ≡ or_else (cond t (Some v) None) (fin.get m q)) [ true ↦ refl | false ↦ refl ]
get-step false m k v q = refl

pub get-given_in : (d : Scope) (list : List (Scope × Who × ℕ)) (m : AclMap) (q : Who) → fin.get (given_in d list m) q ≡ or_else (last_in d q list) (fin.get m q)
get-given_in d [] m q = refl
get-given_in d (e ∷ es) m q =
    get-given_in d es (cond (in_scope d e.0) (fin.insert m e.1 e.2) m) q
    ∙ ap (or_else (last_in d q es)) (get-step (in_scope d e.0) m e.1 e.2 q) ∙ or_else_assoc (last_in d q es) _ (fin.get m q)

pub insert_same : (m : AclMap) (k : Who) (v : ℕ) → fin.get m k ≡ Some v → fin.insert m k v ≡ m
insert_same m k v h =
    same_gets _ m (λ q. fin.get-insert who_cmp_total m k v q
    ∙ elim (who_cmp q k) as (λ o. who_cmp q k ≡ o → cond (is_eq o) (Some v) (fin.get m q) ≡ fin.get m q) [
      | Less ↦ λ _. refl
      | Equal ↦ λ t. sym h ∙ fin.get_tied who_cmp_total m q k t
      | Greater ↦ λ _. refl
    ] refl)

insert_twice : (m : AclMap) (k : Who) (v : ℕ) → fin.insert (fin.insert m k v) k v ≡ fin.insert m k v
insert_twice m k v =
    insert_same (fin.insert m k v) k v (fin.get-insert who_cmp_total m k v k ∙ ap (λ o. cond (is_eq o) (Some v) (fin.get m k)) (tied_itself who_cmp_total k))

pub get-without_mask : (m : AclMap) (q : Who) → fin.get (without_mask m) q ≡ cond (not (is_mask q)) (fin.get m q) None
get-without_mask m q = fin.get-retain_keys m (λ who. not (is_mask who)) q (λ x t. ap (λ w. not (is_mask w)) (sym (who_cmp-IsAntisymmetric q x t)))

limited_put : (k : Who) (v : ℕ) (es : List (Who × ℕ)) → is_limited k ≡ false → filter (λ e. is_limited e.0) (put who_cmp k v es) ≡ filter (λ e. is_limited e.0) es
limited_put k v [] is = ap (λ b. cond b ((k, v) ∷ []) []) is
limited_put k v (e ∷ es) is =
    elim (who_cmp k e.0) as (λ o. who_cmp k e.0 ≡ o → filter (λ e. is_limited e.0) (by_order o ((k, v) ∷ e ∷ es) ((e.0, v) ∷ es) (e ∷ put who_cmp k v es))
    ≡ filter (λ e. is_limited e.0) (e ∷ es)) [
      | Less ↦ λ _. ap (λ b. cond b ((k, v) ∷ filter (λ e. is_limited e.0) (e ∷ es)) (filter (λ e. is_limited e.0) (e ∷ es))) is
      | Equal ↦ λ t.
          let off : is_limited e.0 ≡ false = sym (ap is_limited (who_cmp-IsAntisymmetric k e.0 t)) ∙ is in
          ap (λ b. cond b ((e.0, v) ∷ filter (λ e. is_limited e.0) es) (filter (λ e. is_limited e.0) es)) off
          ∙ sym (ap (λ b. cond b (e ∷ filter (λ e. is_limited e.0) es) (filter (λ e. is_limited e.0) es)) off)
      | Greater ↦ λ _. ap (λ xs. cond (is_limited e.0) (e ∷ xs) xs) (limited_put k v es is)
    ] refl

pub union_of-insert : (m : AclMap) (k : Who) (v : ℕ) → is_limited k ≡ false → union_of (fin.insert m k v) ≡ union_of m
union_of-insert m k v is =
    ap (λ es. fold bit_or 0 (map (λ e. e.1) es)) (ap (filter (λ e. is_limited e.0)) (fin.entries-insert who_cmp_total m k v) ∙ limited_put k v (fin.entries m) is)

-- who ties with the mask is the mask
mask_ties : (w : Who) → eq_by_cmp who_cmp Mask w ≡ is_mask w
mask_ties Owner = refl
mask_ties (User id) = refl
mask_ties OwningGroup = refl
mask_ties (Group id) = refl
mask_ties Mask = refl
mask_ties Other = refl

pub no_last_mask : (d : Scope) (list : List (Scope × Who × ℕ)) → gives_mask d list ≡ false → last_in d Mask list ≡ None
no_last_mask d [] e = refl
no_last_mask d (e ∷ es) h =
    let p = neither (in_scope d e.0 && is_mask e.1) (gives_mask d es) h in
    ap (λ o. or_else o (cond (in_scope d e.0 && eq_by_cmp who_cmp Mask e.1) (Some e.2) None)) (no_last_mask d es p.1)
    ∙ ap (λ b. cond (in_scope d e.0 && b) (Some e.2) None) (mask_ties e.1) ∙ ap (λ b. cond b (Some e.2) None) p.0
  where
    neither : (a b : Bool) → (a || b) ≡ false → (a ≡ false) × (b ≡ false)
    neither true b h = absurd (false≢true (sym h))
    neither false b h = (refl, h)

-- a list that gives no mask, put again after the mask rule changed the mask alone
given_again : (d : Scope) (list : List (Scope × Who × ℕ)) (m next : AclMap) → last_in d Mask list ≡ None
    → ((q : Who) → (q ≡ Mask) ⊎ (fin.get next q ≡ fin.get (given_in d list m) q)) → given_in d list next ≡ next
given_again d list m next none h =
    same_gets _ next (λ q. get-given_in d list next q ∙ elim (h q) as (λ _. or_else (last_in d q list) (fin.get next q) ≡ fin.get next q) [
      | inl is ↦ ap (λ o. or_else o (fin.get next q)) (ap (λ w. last_in d w list) is ∙ none)
      | inr same ↦ ap (or_else (last_in d q list)) (same ∙ get-given_in d list m q) ∙ or_else_twice (last_in d q list) (fin.get m q) ∙ sym (same ∙ get-given_in d list m q)
    ])

masked_again : (d : Scope) (list : List (Scope × Who × ℕ)) (m : AclMap) (g : Bool) → gives_mask d list ≡ g
    → masked g (given_in d list (masked g (given_in d list m))) ≡ masked g (given_in d list m)
masked_again d list m true e =
    same_gets _ _ (λ q. get-given_in d list (given_in d list m) q ∙ ap (or_else (last_in d q list)) (get-given_in d list m q)
    ∙ or_else_twice (last_in d q list) (fin.get m q) ∙ sym (get-given_in d list m q))
masked_again d list m false e =
    let n = given_in d list m in
    elim (has_named n) as (λ b. has_named n ≡ b → masked false (given_in d list (cond b (fin.insert n Mask (union_of n)) (without_mask n))) ≡ cond b (fin.insert n Mask (union_of n)) (without_mask n)) [
      | true ↦ λ named.
          let next = fin.insert n Mask (union_of n) in
          let again : given_in d list next ≡ next = given_again d list m next (no_last_mask d list e) (λ q. kept q n) in
          ap (masked false) again
          ∙ ap (λ b. cond b (fin.insert next Mask (union_of next)) (without_mask next)) (has_named-insert n Mask (union_of n) refl ∙ named)
          ∙ ap (fin.insert next Mask) (union_of-insert n Mask (union_of n) refl) ∙ insert_twice n Mask (union_of n)
      | false ↦ λ named.
          let next = without_mask n in
          let again : given_in d list next ≡ next = given_again d list m next (no_last_mask d list e) (λ q. kept_without q n) in
          ap (masked false) again
          ∙ ap (λ b. cond b (fin.insert next Mask (union_of next)) (without_mask next)) (still_unnamed n named)
          ∙ same_gets _ next (λ q. get-without_mask next q ∙ ap (λ o. cond (not (is_mask q)) o None) (get-without_mask n q)
          ∙ twice (not (is_mask q)) (fin.get n q) ∙ sym (get-without_mask n q))
    ] refl
  where
    twice : (b : Bool) (o : Option ℕ) → cond b (cond b o None) None ≡ cond b o None
    twice true o = refl
    twice false o = refl

    still_unnamed : (n : AclMap) → has_named n ≡ false → has_named (without_mask n) ≡ false
    still_unnamed n h =
        elim (has_named (without_mask n)) as (λ b. has_named (without_mask n) ≡ b → b ≡ false) [
          | true ↦ λ is. absurd (false≢true (sym h ∙ has_named-retain_keys n (λ who. not (is_mask who)) is))
          | false ↦ λ _. refl
        ] refl

    kept : (q : Who) (n : AclMap) → (q ≡ Mask) ⊎ (fin.get (fin.insert n Mask (union_of n)) q ≡ fin.get n q)
    kept q n =
        elim (who_cmp q Mask) as (λ o. who_cmp q Mask ≡ o → (q ≡ Mask) ⊎ (fin.get (fin.insert n Mask (union_of n)) q ≡ fin.get n q)) [
          | Less ↦ λ t. inr (fin.get-insert who_cmp_total n Mask (union_of n) q ∙ ap (λ o. cond (is_eq o) (Some (union_of n)) (fin.get n q)) t)
          | Equal ↦ λ t. inl (who_cmp-IsAntisymmetric q Mask t)
          | Greater ↦ λ t. inr (fin.get-insert who_cmp_total n Mask (union_of n) q ∙ ap (λ o. cond (is_eq o) (Some (union_of n)) (fin.get n q)) t)
        ] refl

    kept_without : (q : Who) (n : AclMap) → (q ≡ Mask) ⊎ (fin.get (without_mask n) q ≡ fin.get n q)
    kept_without q n =
        elim (is_mask q) as (λ b. is_mask q ≡ b → (q ≡ Mask) ⊎ (fin.get (without_mask n) q ≡ fin.get n q)) [
          | true ↦ λ is. inl (is_mask-Mask q is)
          | false ↦ λ is. inr (get-without_mask n q ∙ ap (λ b. cond (not b) (fin.get n q) None) is)
        ] refl

changed_again : (d : Scope) (list : List (Scope × Who × ℕ)) (m : AclMap) → changed_scope d list (changed_scope d list m) ≡ changed_scope d list m
changed_again d list m =
    elim (names d list) as (λ b. cond b (masked (gives_mask d list) (given_in d list (cond b (masked (gives_mask d list) (given_in d list m)) m))) (cond b (masked (gives_mask d list) (given_in d list m)) m)
    ≡ cond b (masked (gives_mask d list) (given_in d list m)) m) [
      | true ↦ masked_again d list m (gives_mask d list) refl
      | false ↦ refl
    ]

default_again : (list : List (Scope × Who × ℕ)) (default : Option AclMap) (access : AclMap)
    → changed_default list (changed_default list default access) access ≡ changed_default list default access
default_again list default access =
    elim (names Default list) as (λ b. cond b (Some (changed_scope Default list (default_start (cond b (Some (changed_scope Default list (default_start default access))) default) access))) (cond b (Some (changed_scope Default list (default_start default access))) default)
    ≡ cond b (Some (changed_scope Default list (default_start default access))) default) [
      | true ↦ ap Some (changed_again Default list (default_start default access))
      | false ↦ refl
    ]

-- what a pair that was made is made of
pub pair_is : (access : AclMap) (default : Option AclMap) (next : AclPair) → pair_of access default ≡ Ok next
    → (map_of next.access ≡ access) × (option_map map_of next.default ≡ default) × (next.access ≡ fin.entries access)
pair_is access default next =
    elim (is_over access || option_map_or is_over default false) as (λ b. cond b (Err TooMany) (Ok (record { access = fin.entries access; default = option_map fin.entries default })) ≡ Ok next
    → (map_of next.access ≡ access) × (option_map map_of next.default ≡ default) × (next.access ≡ fin.entries access)) [
      | true ↦ λ e. (cc)
      | false ↦ λ e.
          let same : record { access = fin.entries access; default = option_map fin.entries default } ≡ next = (cc) in
          subst (λ next. (map_of next.access ≡ access) × (option_map map_of next.default ≡ default) × (next.access ≡ fin.entries access)) same
          (map-entries access, maps default, refl)
    ]
  where
    maps : (d : Option AclMap) → option_map map_of (option_map fin.entries d) ≡ d
    maps None = refl
    maps (Some m) = ap Some (map-entries m)

pub modify_twice : (pair next : AclPair) (list : List (Scope × Who × ℕ)) → acl_modify pair list ≡ Ok next → acl_modify next list ≡ Ok next
modify_twice pair next list e =
    let a = changed_scope Access list (map_of pair.access) in
    let d = changed_default list (option_map map_of pair.default) a in
    let p = pair_is a d next e in
    let access : changed_scope Access list (map_of next.access) ≡ a = ap (changed_scope Access list) p.0 ∙ changed_again Access list (map_of pair.access) in
    let default : changed_default list (option_map map_of next.default) a ≡ d =
    ap (λ x. changed_default list x a) p.1 ∙ default_again list (option_map map_of pair.default) a in
    ap (λ x. pair_of x (changed_default list (option_map map_of next.default) x)) access ∙ ap (pair_of a) default ∙ e

-- ---- a pair's own entries

-- a list, where it is in order, finds each entry of its own
AllFound : List (Who × ℕ) → List (Who × ℕ) → Type 0
AllFound all [] = Unit {0}
AllFound all (e ∷ es) = (find who_cmp e.0 all ≡ Some e.1) × AllFound all es

none_lower : (e : Who × ℕ) (all es : List (Who × ℕ)) → T (below_all who_cmp e.0 es) → AllFound all es → AllFound (e ∷ all) es
unfolding AllFound
none_lower e all [] h f = tt
none_lower e all (x ∷ xs) h f =
    let p = apart (is_lt (who_cmp e.0 x.0)) (below_all who_cmp e.0 xs) h in
    let less : who_cmp e.0 x.0 ≡ Less = is_less (who_cmp e.0 x.0) p.0 in
    let greater : who_cmp x.0 e.0 ≡ Greater = who_cmp_total.antisymm x.0 e.0 ∙ ap ordering_reverse less in
    (ap (λ o. cond (is_eq o) (Some e.1) (find who_cmp x.0 all)) greater ∙ f.0, none_lower e all xs p.1 f.1)
  where
    apart : (a b : Bool) → T (a && b) → T a × T b
    apart true b h = (tt, h)
    apart false b h = absurd h

    is_less : (o : Ordering) → T (is_lt o) → o ≡ Less
    is_less Less h = refl
    is_less Equal h = absurd h
    is_less Greater h = absurd h

all_found : (es : List (Who × ℕ)) → T (is_sorted who_cmp es) → AllFound es es
unfolding AllFound
all_found [] h = tt
all_found (e ∷ es) h =
    let p = apart (below_all who_cmp e.0 es) (is_sorted who_cmp es) h in
    (ap (λ o. cond (is_eq o) (Some e.1) (find who_cmp e.0 es)) (tied_itself who_cmp_total e.0), none_lower e es es p.0 (all_found es p.1))
  where
    apart : (a b : Bool) → T (a && b) → T a × T b
    apart true b h = (tt, h)
    apart false b h = absurd h

pub own_scope : (d : Scope) → in_scope d d ≡ true
own_scope Access = refl
own_scope Default = refl

-- to put entries that a map has changes nothing
put_found : (d : Scope) (m : AclMap) (es : List (Who × ℕ)) → AllFound (fin.entries m) es → given_in d (scoped d es) m ≡ m
unfolding AllFound
put_found d m [] f = refl
put_found d m (e ∷ es) f =
    ap (λ b. given_in d (scoped d es) (cond b (fin.insert m e.0 e.1) m)) (own_scope d)
    ∙ ap (given_in d (scoped d es)) (insert_same m e.0 e.1 (fin.get-entries m e.0 ∙ f.0)) ∙ put_found d m es f.1

given_in-append : (d : Scope) (xs ys : List (Scope × Who × ℕ)) (m : AclMap) → given_in d (xs ++ ys) m ≡ given_in d ys (given_in d xs m)
given_in-append d [] ys m = refl
given_in-append d (x ∷ xs) ys m = given_in-append d xs ys (cond (in_scope d x.0) (fin.insert m x.1 x.2) m)

other_scope : (d s : Scope) → in_scope d s ≡ false → (es : List (Who × ℕ)) (m : AclMap) → given_in d (scoped s es) m ≡ m
other_scope d s off [] m = refl
other_scope d s off (e ∷ es) m = ap (λ b. given_in d (scoped s es) (cond b (fin.insert m e.0 e.1) m)) off ∙ other_scope d s off es m

pub list_any-append : {X : Type 0} (p : X → Bool) (xs ys : List X) → list_any p (xs ++ ys) ≡ (list_any p xs || list_any p ys)
list_any-append p [] ys = refl
list_any-append p (x ∷ xs) ys = ap (λ b. p x || b) (list_any-append p xs ys) ∙ or_assoc (p x) (list_any p xs) (list_any p ys)
  where
    or_assoc : (a b c : Bool) → (a || (b || c)) ≡ ((a || b) || c)
    or_assoc true b c = refl
    or_assoc false b c = refl

unnamed : (d s : Scope) → in_scope d s ≡ false → (es : List (Who × ℕ)) → names d (scoped s es) ≡ false
unnamed d s off [] = refl
unnamed d s off (e ∷ es) = ap (λ b. b || names d (scoped s es)) off ∙ unnamed d s off es

no_mask : (d s : Scope) → in_scope d s ≡ false → (es : List (Who × ℕ)) → gives_mask d (scoped s es) ≡ false
no_mask d s off [] = refl
no_mask d s off (e ∷ es) = ap (λ b. (b && is_mask e.0) || gives_mask d (scoped s es)) off ∙ no_mask d s off es

-- a list gives the mask that it has
own_mask : (d : Scope) (es : List (Who × ℕ)) → gives_mask d (scoped d es) ≡ is_some (find who_cmp Mask es)
own_mask d [] = refl
own_mask d (e ∷ es) =
    ap (λ b. (b && is_mask e.0) || gives_mask d (scoped d es)) (own_scope d) ∙ ap (λ b. is_mask e.0 || b) (own_mask d es)
    ∙ elim (is_mask e.0) as (λ b. (b || is_some (find who_cmp Mask es)) ≡ is_some (cond b (Some e.1) (find who_cmp Mask es))) [ true ↦ refl | false ↦ refl ]
    ∙ ap (λ b. is_some (cond b (Some e.1) (find who_cmp Mask es))) (sym (mask_ties e.0))

-- the mask rule leaves complete entries whose mask is given
own_masked : (m : AclMap) (g : Bool) → g ≡ is_some (fin.get m Mask) → (has_named m ≡ true → IsSome (fin.get m Mask)) → masked g m ≡ m
own_masked m true e h = refl
own_masked m false e h =
    elim (has_named m) as (λ b. has_named m ≡ b → cond b (fin.insert m Mask (union_of m)) (without_mask m) ≡ m) [
      | true ↦ λ named. absurd (false≢true (e ∙ h named))
      | false ↦ λ _. same_gets _ m (λ q. get-without_mask m q ∙ stays q)
    ] refl
  where
    nothing : (o : Option ℕ) → false ≡ is_some o → None ≡ o
    nothing None e = refl
    nothing (Some x) e = absurd (false≢true e)

    stays : (q : Who) → cond (not (is_mask q)) (fin.get m q) None ≡ fin.get m q
    stays q =
        elim (is_mask q) as (λ b. is_mask q ≡ b → cond (not b) (fin.get m q) None ≡ fin.get m q) [
          | true ↦ λ is. nothing (fin.get m Mask) e ∙ ap (fin.get m) (sym (is_mask-Mask q is))
          | false ↦ λ _. refl
        ] refl

some_named : (d : Scope) (es : List (Who × ℕ)) → IsSome (find who_cmp Owner es) → names d (scoped d es) ≡ true
some_named d [] h = absurd (false≢true h)
some_named d (e ∷ es) h = ap (λ b. b || names d (scoped d es)) (own_scope d)

or_false : (b : Bool) → (b || false) ≡ b
or_false true = refl
or_false false = refl

default_unnamed : (default : Option (List (Who × ℕ))) → names Access (default_entries default) ≡ false
default_unnamed None = refl
default_unnamed (Some es) = unnamed Access Default refl es

default_no_mask : (default : Option (List (Who × ℕ))) → gives_mask Access (default_entries default) ≡ false
default_no_mask None = refl
default_no_mask (Some es) = no_mask Access Default refl es

default_apart : (default : Option (List (Who × ℕ))) (m : AclMap) → given_in Access (default_entries default) m ≡ m
default_apart None m = refl
default_apart (Some es) m = other_scope Access Default refl es m

pub get-map_of : (es : List (Who × ℕ)) → IsAcl es → (q : Who) → fin.get (map_of es) q ≡ find who_cmp q es
get-map_of es h q = fin.get-entries (map_of es) q ∙ ap (find who_cmp q) (entries-map es h.in_order)

own_found : (es : List (Who × ℕ)) → IsAcl es → AllFound (fin.entries (map_of es)) es
own_found es h = subst (λ all. AllFound all es) (sym (entries-map es h.in_order)) (all_found es (in_order _ h.in_order))

put_own : (d : Scope) (es : List (Who × ℕ)) → IsAcl es → given_in d (scoped d es) (map_of es) ≡ map_of es
put_own d es h = put_found d (map_of es) es (own_found es h)

-- the mask rule leaves the map of an access control list whose mask is given
ruled_own : (es : List (Who × ℕ)) (g : Bool) → IsAcl es → g ≡ is_some (find who_cmp Mask es) → masked g (map_of es) ≡ map_of es
ruled_own es g h e =
    own_masked (map_of es) g (e ∙ ap is_some (sym (get-map_of es h Mask)))
    (λ named. ap is_some (get-map_of es h Mask) ∙ h.mask (sym (ap (list_any (λ e. is_named e.0)) (entries-map es h.in_order)) ∙ named))

own_changed : (d : Scope) (list : List (Scope × Who × ℕ)) (es : List (Who × ℕ)) → IsAcl es → names d list ≡ true
    → gives_mask d list ≡ is_some (find who_cmp Mask es) → given_in d list (map_of es) ≡ map_of es → changed_scope d list (map_of es) ≡ map_of es
own_changed d list es h named gives given =
    (λ i. cond (named i) (masked (gives_mask d list) (given i)) (map_of es)) ∙ ruled_own es (gives_mask d list) h gives

access_named : (pair : AclPair) → IsAcl pair.access → names Access (entries_of pair) ≡ true
access_named pair h =
    list_any-append (λ e. in_scope Access e.0) (scoped Access pair.access) (default_entries pair.default)
    ∙ ap (λ b. b || names Access (default_entries pair.default)) (some_named Access pair.access h.owner)

access_mask : (pair : AclPair) → gives_mask Access (entries_of pair) ≡ is_some (find who_cmp Mask pair.access)
access_mask pair =
    list_any-append (λ e. in_scope Access e.0 && is_mask e.1) (scoped Access pair.access) (default_entries pair.default)
    ∙ (λ i. own_mask Access pair.access i || default_no_mask pair.default i) ∙ or_false _

access_put : (pair : AclPair) (m : AclMap) → given_in Access (entries_of pair) m ≡ given_in Access (scoped Access pair.access) m
access_put pair m = given_in-append Access (scoped Access pair.access) (default_entries pair.default) m ∙ default_apart pair.default _

default_named : (access es : List (Who × ℕ)) → IsAcl es → names Default (scoped Access access ++ scoped Default es) ≡ true
default_named access es h =
    list_any-append (λ e. in_scope Default e.0) (scoped Access access) (scoped Default es)
    ∙ (λ i. unnamed Default Access refl access i || some_named Default es h.owner i)

default_mask : (access es : List (Who × ℕ)) → gives_mask Default (scoped Access access ++ scoped Default es) ≡ is_some (find who_cmp Mask es)
default_mask access es =
    list_any-append (λ e. in_scope Default e.0 && is_mask e.1) (scoped Access access) (scoped Default es)
    ∙ (λ i. no_mask Default Access refl access i || own_mask Default es i)

default_put : (access es : List (Who × ℕ)) (m : AclMap) → given_in Default (scoped Access access ++ scoped Default es) m ≡ given_in Default (scoped Default es) m
default_put access es m = given_in-append Default (scoped Access access) (scoped Default es) m ∙ ap (given_in Default (scoped Default es)) (other_scope Default Access refl access m)

no_default_named : (access : List (Who × ℕ)) → names Default (scoped Access access ++ []) ≡ false
no_default_named access =
    list_any-append (λ e. in_scope Default e.0) (scoped Access access) [] ∙ ap (λ b. b || false) (unnamed Default Access refl access)

-- the pair of the maps of a pair is the pair
within : (es : List (Who × ℕ)) → IsAcl es → is_over (map_of es) ≡ false
within es h = ap (λ xs. nat_lt 32 (length xs)) (entries-map es h.in_order) ∙ few (length es) h.few
  where
    few : (n : ℕ) → n ≤ 32 → nat_lt 32 n ≡ false
    few n h = grind (arith, nat_tests)

rebuilt : (access : List (Who × ℕ)) (default : Option (List (Who × ℕ))) → IsAcl access → IfSome default IsAcl
    → pair_of (map_of access) (option_map map_of default) ≡ Ok (record { access = access; default = default })
rebuilt access None h d =
    ap (λ b. cond (b || false) (Err TooMany) (Ok (record { access = fin.entries (map_of access); default = None }))) (within access h)
    ∙ ap (λ es. Ok (record { access = es; default = None })) (entries-map access h.in_order)
rebuilt access (Some es) h d =
    (λ i. cond (within access h i || within es d i) (Err TooMany) (Ok (record { access = fin.entries (map_of access); default = Some (fin.entries (map_of es)) })))
    ∙ (λ i. Ok (record { access = entries-map access h.in_order i; default = Some (entries-map es d.in_order i) }))

own_default : (access : List (Who × ℕ)) (default : Option (List (Who × ℕ))) (a : AclMap) → IfSome default IsAcl
    → changed_default (scoped Access access ++ default_entries default) (option_map map_of default) a ≡ option_map map_of default
own_default access None a h = ap (λ b. cond b (Some (changed_scope Default (scoped Access access ++ []) (base_of a))) None) (no_default_named access)
own_default access (Some es) a h =
    let list = scoped Access access ++ scoped Default es in
    ap (λ b. cond b (Some (changed_scope Default list (map_of es))) (Some (map_of es))) (default_named access es h)
    ∙ ap Some (own_changed Default list es h (default_named access es h) (default_mask access es) (default_put access es (map_of es) ∙ put_own Default es h))

pub modify_own : (pair : AclPair) → IsAclPair pair → acl_modify pair (entries_of pair) ≡ Ok pair
modify_own pair h =
    let access : changed_scope Access (entries_of pair) (map_of pair.access) ≡ map_of pair.access =
    own_changed Access (entries_of pair) pair.access h.0 (access_named pair h.0) (access_mask pair) (access_put pair (map_of pair.access) ∙ put_own Access pair.access h.0) in
    ap (λ x. pair_of x (changed_default (entries_of pair) (option_map map_of pair.default) x)) access
    ∙ ap (pair_of (map_of pair.access)) (own_default pair.access pair.default (map_of pair.access) h.1)
    ∙ rebuilt pair.access pair.default h.0 h.1

-- ---- a pair's own entries, set

none_found : (d : Scope) (es : List (Who × ℕ)) (q : Who) → last_in d q (scoped d es) ≡ None → find who_cmp q es ≡ None
none_found d [] q e = refl
none_found d (x ∷ xs) q e =
    let p = both_none (last_in d q (scoped d xs)) _ e in
    let off : eq_by_cmp who_cmp q x.0 ≡ false = not_there (eq_by_cmp who_cmp q x.0) (sym (ap (λ b. cond (b && eq_by_cmp who_cmp q x.0) (Some x.1) None) (own_scope d)) ∙ p.1) in
    ap (λ b. cond b (Some x.1) (find who_cmp q xs)) off ∙ none_found d xs q p.0
  where
    both_none : (a b : Option ℕ) → or_else a b ≡ None → (a ≡ None) × (b ≡ None)
    both_none None b e = (refl, e)
    both_none (Some a) b e = (cc)

    not_there : (b : Bool) → cond b (Some x.1) None ≡ None → b ≡ false
    not_there true e = (cc)
    not_there false e = refl

by_last : (l g b : Option ℕ) → or_else l g ≡ g → (l ≡ None → g ≡ None) → (g ≡ None → b ≡ None) → or_else l b ≡ g
by_last (Some a) g b e f k = e
by_last None g b e f k = k (f refl) ∙ sym (f refl)

-- the entries of an access control list, put into a map that has no others
put_into : (d : Scope) (es : List (Who × ℕ)) (from : AclMap) → IsAcl es
    → ((q : Who) → fin.get (map_of es) q ≡ None → fin.get from q ≡ None) → given_in d (scoped d es) from ≡ map_of es
put_into d es from h others =
    same_gets _ _ (λ q. get-given_in d (scoped d es) from q
    ∙ by_last (last_in d q (scoped d es)) (fin.get (map_of es) q) (fin.get from q)
    (sym (get-given_in d (scoped d es) (map_of es) q) ∙ ap (λ m. fin.get m q) (put_own d es h))
    (λ none. get-map_of es h q ∙ none_found d es q none) (others q))

none_missing : (es : List (Who × ℕ)) → IsAcl es → missing_in (map_of es) ≡ None
none_missing es h =
    let owner : is_some (fin.get (map_of es) Owner) ≡ true = ap is_some (get-map_of es h Owner) ∙ h.owner in
    let group : is_some (fin.get (map_of es) OwningGroup) ≡ true = ap is_some (get-map_of es h OwningGroup) ∙ h.owning_group in
    let other : is_some (fin.get (map_of es) Other) ≡ true = ap is_some (get-map_of es h Other) ∙ h.other in
    λ i. cond (owner i) (cond (group i) (cond (other i) None (Some Other)) (Some OwningGroup)) (Some Owner)

get-base_of : (m : AclMap) (q : Who) → fin.get (base_of m) q ≡ cond (is_base q) (fin.get m q) None
get-base_of m q = fin.get-retain_keys m is_base q (λ x t. ap is_base (sym (who_cmp-IsAntisymmetric q x t)))

-- who has no entry in an access control list is not one of the three
not_base : (es : List (Who × ℕ)) → IsAcl es → (q : Who) → find who_cmp q es ≡ None → is_base q ≡ false
not_base es h Owner e = absurd (false≢true (sym (ap is_some e) ∙ h.owner))
not_base es h (User id) e = refl
not_base es h OwningGroup e = absurd (false≢true (sym (ap is_some e) ∙ h.owning_group))
not_base es h (Group id) e = refl
not_base es h Mask e = refl
not_base es h Other e = absurd (false≢true (sym (ap is_some e) ∙ h.other))

set_default : (access : List (Who × ℕ)) (default : Option (List (Who × ℕ))) (a : AclMap) → IfSome default IsAcl
    → changed_default (scoped Access access ++ default_entries default) None a ≡ option_map map_of default
set_default access None a h = ap (λ b. cond b (Some (changed_scope Default (scoped Access access ++ []) (base_of a))) None) (no_default_named access)
set_default access (Some es) a h =
    let list = scoped Access access ++ scoped Default es in
    let given : given_in Default list (base_of a) ≡ map_of es =
    default_put access es (base_of a)
    ∙ put_into Default es (base_of a) h (λ q none. get-base_of a q ∙ ap (λ b. cond b (fin.get a q) None) (not_base es h q (sym (get-map_of es h q) ∙ none))) in
    ap (λ b. cond b (Some (changed_scope Default list (base_of a))) None) (default_named access es h)
    ∙ ap Some ((λ i. cond (default_named access es h i) (masked (gives_mask Default list) (given i)) (base_of a)) ∙ ruled_own es (gives_mask Default list) h (default_mask access es))

pub set_own : (pair : AclPair) → IsAclPair pair → acl_set (entries_of pair) ≡ Ok pair
set_own pair h =
    let given : given_in Access (entries_of pair) fin.empty ≡ map_of pair.access =
    access_put pair fin.empty ∙ put_into Access pair.access fin.empty h.0 (λ q _. fin.get-empty who_cmp q) in
    let access : masked (gives_mask Access (entries_of pair)) (given_in Access (entries_of pair) fin.empty) ≡ map_of pair.access =
    ap (masked (gives_mask Access (entries_of pair))) given ∙ ruled_own pair.access (gives_mask Access (entries_of pair)) h.0 (access_mask pair) in
    ap (λ w. set_where_complete w (entries_of pair)) (ap missing_in given ∙ none_missing pair.access h.0)
    ∙ ap (λ x. pair_of x (changed_default (entries_of pair) None x)) access
    ∙ ap (pair_of (map_of pair.access)) (set_default pair.access pair.default (map_of pair.access) h.1)
    ∙ rebuilt pair.access pair.default h.0 h.1

-- ---- all named entries and the mask removed

base_left : (list : List (Scope × Who)) (m : AclMap) → ((q : Who) → is_base q ≡ false → IsSome (fin.get m q) → lists Access list q ≡ true)
    → without Access list m ≡ base_of m
base_left list m h =
    same_gets _ _ (λ q. fin.get-retain_keys m (λ who. is_base who || not (lists Access list who)) q
    (λ x t. ap (λ w. is_base w || not (lists Access list w)) (sym (who_cmp-IsAntisymmetric q x t)))
    ∙ elim (is_base q) as (λ b. is_base q ≡ b → cond (b || not (lists Access list q)) (fin.get m q) None ≡ cond b (fin.get m q) None) [
      | true ↦ λ _. refl
      | false ↦ λ is. elim (fin.get m q) as (λ o. fin.get m q ≡ o → cond (not (lists Access list q)) o None ≡ None) [
        | None ↦ λ _. same_none (not (lists Access list q))
        | Some v ↦ λ there. ap (λ b. cond (not b) (Some v) None) (h q is (ap is_some there))
      ] refl
    ] refl ∙ sym (get-base_of m q))
  where
    same_none : (b : Bool) → ◌≡◌ {A = Option ℕ} (cond b None None) None
    same_none true = refl
    same_none false = refl

base_masked : (m : AclMap) → masked false (base_of m) ≡ base_of m
base_masked m =
    ap (λ b. cond b (fin.insert (base_of m) Mask (union_of (base_of m))) (without_mask (base_of m))) (has_named-base_of m)
    ∙ same_gets _ (base_of m) (λ q. get-without_mask (base_of m) q
    ∙ elim (is_mask q) as (λ b. is_mask q ≡ b → cond (not b) (fin.get (base_of m) q) None ≡ fin.get (base_of m) q) [
      | true ↦ λ is. sym (ap (fin.get (base_of m)) (is_mask-Mask q is) ∙ get-base_of m Mask)
      | false ↦ λ _. refl
    ] refl)

pub removed_base : (pair left : AclPair) (list : List (Scope × Who)) → IsAclPair pair → names_item Access list ≡ true
    → ListsAllButBase list pair.access → acl_remove pair list ≡ Ok left → left.access ≡ filter (λ e. is_base e.0) pair.access
removed_base pair left list h named listed e =
    let m = map_of pair.access in
    let p = pair_is (removed_scope Access list m) (removed_default list (option_map map_of pair.default)) left e in
    let base : removed_scope Access list m ≡ base_of m =
    ap (λ b. cond b (masked false (without Access list m)) m) named
    ∙ ap (masked false) (base_left list m (λ q is there. listed q is (subst IsSome (get-map_of pair.access h.0 q) there))) ∙ base_masked m in
    p.2 ∙ ap fin.entries base ∙ entries-retain_keys m is_base ∙ ap (filter (λ e. is_base e.0)) (entries-map pair.access h.0.in_order)
