-- What each row asks is sound.
use Rattle.std.proofs.Common.{◌≡◌, ◌≢◌, ℕ, ◌+◌, ◌≤◌, Bool, true, false, cond, List, [], ◌∷◌, ◌++◌, length, take, Option, Some, None, Result, Ok, Err, lit≤, refl, sym, ap, subst, ◌∙◌, arith, inl, inr, rules}
use Rattle.std.specs.Prelude.{⊤, ◌⊎◌, ◌==◌, ◌&&◌, ◌||◌, not, nat_le, bytes_eq, codes, is_some, IfSome, IsSome, slice_get, option_and_then}
use Rattle.std.proofs.lemmas.Bool.{false≢true}
use Rattle.std.proofs.lemmas.Bool.Decides.{nat_tests}
use Rattle.std.proofs.lemmas.Slice.Eq.{bytes_eq-Decides}
use Rattle.acl_text.specs.PermTexts.{perm_in}
use Rattle.acl_text.specs.declared.scope.Scope.{Scope}
use Rattle.acl_text.specs.declared.who.Who.{Who}
use Rattle.acl_text.specs.declared.perm.ModeBits.{ModeBits}
use Rattle.head_text.specs.Ranges.{SpellsEnd, SpellsRange, range_of}
use Rattle.head_text.specs.declared.range.Range.{Range}
use Rattle.head_text.proofs.RangeLemmas.{read_is_spelled}
use Rattle.http_front.specs.declared.raw.Raw.{Raw}
use Rattle.lease_state.specs.LeaseAppends.{NeedsId}
use Rattle.lease_state.specs.declared.lease.AppendLease.{AppendLease}
use Rattle.lease_state.specs.declared.lease.AppendLease.TheVariants as append
use Rattle.lease_state.specs.declared.lease.LeaseAction.{LeaseAction}
use Rattle.lease_state.specs.declared.lease.LeaseAction.TheVariants as action
use Rattle.path_text.specs.Queries.{first_value}
use Rattle.path_text.specs.Texts.{KeepsLimits}
use Rattle.namespace_model.specs.Sound.{CanBeSet, HasLeaseId, IsAppendLease, IsBelowRoot, IsInFilesystem, IsLeaseAction, IsOperation, IsPosition, IsRange, IsRootPath, IsSetting, IsUmask}
use Rattle.namespace_model.specs.declared.code.Code.{Code}
use Rattle.namespace_model.specs.declared.code.Code.TheVariants as code
use Rattle.namespace_model.specs.declared.op.Kind.{Kind}
use Rattle.namespace_model.specs.declared.op.Op.{Op}
use Rattle.namespace_model.specs.declared.op.Op.TheVariants as op
use Rattle.op_decode.specs.declared.operation.Operation.{Operation}
use Rattle.op_decode.specs.declared.operation.Operation.TheVariants.{ListFilesystems, CreateFilesystem, GetFilesystem, SetFilesystem, DeleteFilesystem, List as ListPaths, Create, Rename, Read, GetProperties, GetAccess, CheckAccess, Append, Flush, SetProperties, SetAccess, SetAccessRecursive, Lease, Delete}
use Rattle.op_decode.specs.Access.{acl_in, check_access_of, get_access_of, has_setting, not_both, set_access_of, some_setting, wanted_in}
use Rattle.op_decode.specs.AclTexts.{entries_of, or_bad_acl, whole_entries_of}
use Rattle.op_decode.specs.Creates.{create_of}
use Rattle.op_decode.specs.Data.{append_of, flush_of, range_in, read_of, retain_in, with_body, without_body}
use Rattle.op_decode.specs.HeaderValues.{id_in, lease_id_in, needed_props_in, permissions_in, props_in, umask_in}
use Rattle.op_decode.specs.Headers.{has_header, header, is_other_text}
use Rattle.op_decode.specs.Leases.{acquire_in, action_in, action_named, append_acquire_in, append_acquire_release_in, append_action_in, append_action_of, append_named, append_release_in, append_renew_in, break_in, change_in as change_lease_in, duration_in, given_id_in, lease_of, period_in, proposed_id_in, release_in, releases, renew_in, where_flushed}
use Rattle.op_decode.specs.Nodes.{delete_of, get_properties_of, set_properties_of}
use Rattle.op_decode.specs.Operations.{takes}
use Rattle.op_decode.specs.Orders.{after, needed, or_refused}
use Rattle.op_decode.specs.Parameters.{flag_in, position_in, size_in, token_in}
use Rattle.op_decode.specs.Rows.{op_of_row}
use Rattle.op_decode.proofs.BatchLemmas.{right_batch}
use Rattle.op_decode.proofs.FilesystemLemmas.{right_create_filesystem, right_delete_filesystem, right_get_filesystem, right_set_filesystem}
use Rattle.op_decode.proofs.Fits.{Fits}
use Rattle.op_decode.proofs.ListingLemmas.{right_list, right_list_filesystems}
use Rattle.op_decode.proofs.RenameLemmas.{right_rename}
use Rattle.op_decode.proofs.ReaderLemmas.{Any, AreWithin, IsCode, IsDuration, IsGiven, IsOnPage, IsRight, IsTokenOn, at_least, both, chosen, exactly, right_acl, right_after, right_duration, right_entries, right_flag, right_id, right_if_given, right_items, right_needed, right_needed_lease_id, right_needed_props, right_period, right_permissions, right_position, right_props, right_size, right_token, right_umask, right_whole_entries}

-- ---- files and directories

if_given : {A : Type 0} (P : A → Type 0) (text : Option (List ℕ)) (value : Option A) → IsGiven P text value → IfSome value P
if_given P text value h = h.0

right_create : (path : List (List ℕ)) (kind : Kind) (raw : Raw) → IsBelowRoot path → IsRight (create_of path kind raw) (Fits raw)
unfolding create_of
right_create path kind raw below =
    right_after (IsGiven Any (header (codes "x-ms-permissions") raw)) (Fits raw) (permissions_in raw)
    (λ permissions. after (umask_in raw) (λ umask. after (props_in raw) (λ props. Ok (op.Create path kind permissions umask props))))
    (right_permissions raw)
    (λ permissions _. right_after (IsGiven IsUmask (header (codes "x-ms-umask") raw)) (Fits raw) (umask_in raw)
    (λ umask. after (props_in raw) (λ props. Ok (op.Create path kind permissions umask props))) (right_umask raw)
    (λ umask is. right_after (IsGiven Any (header (codes "x-ms-properties") raw)) (Fits raw) (props_in raw)
    (λ props. Ok (op.Create path kind permissions umask props)) (right_props raw)
    (λ props _. record { operation = (below, is.0); id = λ given _. tt })))

range_to : (text : List ℕ) (from : ℕ) (to : Option ℕ) → SpellsEnd text from to → IfSome to (λ to. from ≤ to)
range_to text from None h = tt
range_to text from (Some to) h = h.1

range_is : (range : Range) (text : List ℕ) → SpellsRange text range → IsRange range
range_is range text is = range_to is.last range.from range.to is.to

right_range : (text : Option (List ℕ)) → IfSome (option_and_then range_of text) IsRange
right_range None = tt
right_range (Some text) = by (range_of text) (read_is_spelled text)
  where
    by : (o : Option Range) → IfSome o (SpellsRange text) → IfSome o IsRange
    by None h = tt
    by (Some range) h = range_is range text h

right_read : (path : List (List ℕ)) (raw : Raw) → IsBelowRoot path → IsRight (read_of path raw) (Fits raw)
unfolding read_of range_in
right_read path raw below = record { operation = (below, right_range (header (codes "range") raw)); id = λ given _. tt }

right_get_properties : (path : List (List ℕ)) (status : Bool) (raw : Raw) → IsInFilesystem path → IsRight (get_properties_of path status) (Fits raw)
unfolding get_properties_of
right_get_properties path status raw inside = record { operation = inside; id = λ given _. tt }

right_set_properties : (path : List (List ℕ)) (raw : Raw) → IsInFilesystem path → IsRight (set_properties_of path raw) (Fits raw)
unfolding set_properties_of
right_set_properties path raw inside =
    right_after Any (Fits raw) (needed_props_in raw) (λ props. Ok (op.SetProperties path props)) (right_needed_props raw)
    (λ props _. record { operation = inside; id = λ given _. tt })

right_delete : (path : List (List ℕ)) (query : List (List ℕ × List ℕ)) (raw : Raw) → IsBelowRoot path → IsRight (delete_of path query) (Fits raw)
unfolding delete_of
right_delete path query raw below =
    right_after Any (Fits raw) (flag_in (codes "recursive") query) (λ recursive. Ok (op.Delete path recursive)) (right_flag (codes "recursive") query)
    (λ recursive _. record { operation = below; id = λ given _. tt })

-- ---- access

right_get_access : (path : List (List ℕ)) (raw : Raw) → IsInFilesystem path → IsRight (get_access_of path) (Fits raw)
unfolding get_access_of
right_get_access path raw inside = record { operation = inside; id = λ given _. tt }

right_wanted : (query : List (List ℕ × List ℕ)) → IsRight (wanted_in query) Any
unfolding wanted_in
right_wanted query =
    right_needed Any code.MissingRequiredQueryParameter (λ text. or_refused code.InvalidQueryParameterValue (perm_in text))
    (first_value query (codes "fsAction")) refl (λ text. by (perm_in text))
  where
    by : (o : Option ℕ) → IsRight (or_refused code.InvalidQueryParameterValue o) Any
    by None = refl
    by (Some want) = tt

right_check_access : (path : List (List ℕ)) (query : List (List ℕ × List ℕ)) (raw : Raw) → IsInFilesystem path → IsRight (check_access_of path query) (Fits raw)
unfolding check_access_of
right_check_access path query raw inside =
    right_after Any (Fits raw) (wanted_in query) (λ want. Ok (op.CheckAccess path want)) (right_wanted query)
    (λ want _. record { operation = inside; id = λ given _. tt })

right_some_setting : (raw : Raw) → IsRight (some_setting raw) (λ _. has_setting raw ≡ true)
unfolding some_setting
right_some_setting raw = chosen (λ (r : Result (Unit {0}) Code). IsRight r (λ _. has_setting raw ≡ true)) (has_setting raw) (Ok tt) (Err code.MissingRequiredHeader) (λ e. e) refl

right_acl_in : (raw : Raw) → IsRight (acl_in raw) (IsGiven CanBeSet (header (codes "x-ms-acl") raw))
unfolding acl_in
right_acl_in raw = right_if_given CanBeSet whole_entries_of right_whole_entries (header (codes "x-ms-acl") raw)

-- not both are there
abbrev AreNotBoth : Option ModeBits → Option (List (Scope × Who × ℕ)) → Unit {0} → Type 0
AreNotBoth permissions acl one = (is_some permissions && is_some acl) ≡ false

right_not_both : (permissions : Option ModeBits) (acl : Option (List (Scope × Who × ℕ))) → IsRight (not_both permissions acl) (AreNotBoth permissions acl)
right_not_both permissions acl =
    elim (is_some permissions && is_some acl) as (λ b. (is_some permissions && is_some acl) ≡ b
    → IsRight (cond b (Err code.InvalidInput) (Ok tt)) (AreNotBoth permissions acl)) [
      | true ↦ λ _. refl
      | false ↦ λ e. e
    ] refl

some_is_there : {A : Type 0} (a : A) → IsSome (Some a)
some_is_there a = refl

is_there : {A : Type 0} (o : Option A) → is_some o ≡ true → IsSome o
is_there None e = absurd (false≢true e)
is_there (Some a) e = some_is_there a

either : (a b : Bool) → (a || b) ≡ true → (a ≡ true) ⊎ (b ≡ true)
either true b e = inl refl
either false b e = inr e

not_together : (permissions : Option ModeBits) (acl : Option (List (Scope × Who × ℕ))) → (is_some permissions && is_some acl) ≡ false
    → ¬ (IsSome permissions × IsSome acl)
not_together None acl e h = false≢true h.0
not_together (Some permissions) None e h = false≢true h.1
not_together (Some permissions) (Some acl) e h = false≢true (sym e)

some_setting_is : (raw : Raw) (owner group : Option (List ℕ)) (permissions : Option ModeBits) (acl : Option (List (Scope × Who × ℕ))) → has_setting raw ≡ true
    → is_some owner ≡ has_header (codes "x-ms-owner") raw → is_some group ≡ has_header (codes "x-ms-group") raw
    → is_some permissions ≡ has_header (codes "x-ms-permissions") raw → is_some acl ≡ has_header (codes "x-ms-acl") raw
    → IsSome owner ⊎ (IsSome group ⊎ (IsSome permissions ⊎ IsSome acl))
unfolding has_setting
some_setting_is raw owner group permissions acl some o g p a =
    by_acl (either ((is_some owner || is_some group) || is_some permissions) (is_some acl) (rw (o, g, p, a) some))
  where
    by_group : (is_some owner ≡ true) ⊎ (is_some group ≡ true) → IsSome owner ⊎ (IsSome group ⊎ (IsSome permissions ⊎ IsSome acl))
    by_group (inl e) = inl (is_there owner e)
    by_group (inr e) = inr (inl (is_there group e))

    by_permissions : ((is_some owner || is_some group) ≡ true) ⊎ (is_some permissions ≡ true)
        → IsSome owner ⊎ (IsSome group ⊎ (IsSome permissions ⊎ IsSome acl))
    by_permissions (inl e) = by_group (either (is_some owner) (is_some group) e)
    by_permissions (inr e) = inr (inr (inl (is_there permissions e)))

    by_acl : (((is_some owner || is_some group) || is_some permissions) ≡ true) ⊎ (is_some acl ≡ true)
        → IsSome owner ⊎ (IsSome group ⊎ (IsSome permissions ⊎ IsSome acl))
    by_acl (inl e) = by_permissions (either (is_some owner || is_some group) (is_some permissions) e)
    by_acl (inr e) = inr (inr (inr (is_there acl e)))

right_set_access : (path : List (List ℕ)) (raw : Raw) → IsInFilesystem path → IsRight (set_access_of path raw) (Fits raw)
unfolding set_access_of
right_set_access path raw inside =
    let last = λ (owner group : Option (List ℕ)) (permissions : Option ModeBits) (acl : Option (List (Scope × Who × ℕ))).
    after (not_both permissions acl) (λ one. Ok (op.SetAccess path owner group permissions acl)) in
    right_after (λ _. has_setting raw ≡ true) (Fits raw) (some_setting raw)
    (λ _. after (id_in (codes "x-ms-owner") raw) (λ owner. after (id_in (codes "x-ms-group") raw) (λ group.
    after (permissions_in raw) (λ permissions. after (acl_in raw) (λ acl. last owner group permissions acl)))))
    (right_some_setting raw)
    (λ _ some. right_after (IsGiven Any (header (codes "x-ms-owner") raw)) (Fits raw) (id_in (codes "x-ms-owner") raw)
    (λ owner. after (id_in (codes "x-ms-group") raw) (λ group. after (permissions_in raw) (λ permissions. after (acl_in raw) (λ acl. last owner group permissions acl))))
    (right_id (codes "x-ms-owner") raw)
    (λ owner o. right_after (IsGiven Any (header (codes "x-ms-group") raw)) (Fits raw) (id_in (codes "x-ms-group") raw)
    (λ group. after (permissions_in raw) (λ permissions. after (acl_in raw) (λ acl. last owner group permissions acl)))
    (right_id (codes "x-ms-group") raw)
    (λ group g. right_after (IsGiven Any (header (codes "x-ms-permissions") raw)) (Fits raw) (permissions_in raw)
    (λ permissions. after (acl_in raw) (λ acl. last owner group permissions acl)) (right_permissions raw)
    (λ permissions p. right_after (IsGiven CanBeSet (header (codes "x-ms-acl") raw)) (Fits raw) (acl_in raw)
    (λ acl. last owner group permissions acl) (right_acl_in raw)
    (λ acl a. right_after (AreNotBoth permissions acl) (Fits raw) (not_both permissions acl)
    (λ one. Ok (op.SetAccess path owner group permissions acl)) (right_not_both permissions acl)
    (λ _ one. record {
      operation = (
        inside,
        record {
          some = some_setting_is raw owner group permissions acl some o.1 g.1 p.1 a.1;
          one = not_together permissions acl one;
          list = a.0;
        },
      );
      id = λ given _. tt;
    }))))))

-- ---- leases

abbrev IsRightAction : Result LeaseAction Code → Type 0
IsRightAction r = IsRight r IsLeaseAction

right_given_id : (raw : Raw) → IsRight (given_id_in raw) (λ id. lease_id_in (codes "x-ms-lease-id") raw ≡ Ok (Some id))
right_given_id raw = right_needed_lease_id (codes "x-ms-lease-id") raw

right_proposed_id : (raw : Raw) → IsRight (proposed_id_in raw) (λ id. lease_id_in (codes "x-ms-proposed-lease-id") raw ≡ Ok (Some id))
right_proposed_id raw = right_needed_lease_id (codes "x-ms-proposed-lease-id") raw

-- a duration, and then a proposed id
right_acquired : {X : Type 0} (P : X → Type 0) (make : ℕ → Option ℕ → X) (raw : Raw) → ((proposed : ℕ) (secs : Option ℕ) → IsDuration secs → P (make proposed secs))
    → IsRight (after (duration_in raw) (λ secs. after (proposed_id_in raw) (λ proposed. Ok (make proposed secs)))) P
right_acquired P make raw is =
    right_after IsDuration P (duration_in raw) (λ secs. after (proposed_id_in raw) (λ proposed. Ok (make proposed secs))) (right_duration raw)
    (λ secs duration. right_after (λ id. lease_id_in (codes "x-ms-proposed-lease-id") raw ≡ Ok (Some id)) P (proposed_id_in raw)
    (λ proposed. Ok (make proposed secs)) (right_proposed_id raw) (λ proposed _. is proposed secs duration))

right_acquire : (raw : Raw) → IsRightAction (acquire_in raw)
unfolding acquire_in
right_acquire raw = right_acquired IsLeaseAction (λ proposed secs. action.Acquire proposed secs) raw (λ proposed secs duration. duration)

right_renew : (raw : Raw) → IsRightAction (renew_in raw)
unfolding renew_in
right_renew raw =
    right_after (λ id. lease_id_in (codes "x-ms-lease-id") raw ≡ Ok (Some id)) IsLeaseAction (given_id_in raw) (λ given. Ok (action.Renew given))
    (right_given_id raw) (λ given _. tt)

right_change_lease : (raw : Raw) → IsRightAction (change_lease_in raw)
unfolding change_lease_in
right_change_lease raw =
    right_after (λ id. lease_id_in (codes "x-ms-lease-id") raw ≡ Ok (Some id)) IsLeaseAction (given_id_in raw)
    (λ given. after (proposed_id_in raw) (λ proposed. Ok (action.Change given proposed))) (right_given_id raw)
    (λ given _. right_after (λ id. lease_id_in (codes "x-ms-proposed-lease-id") raw ≡ Ok (Some id)) IsLeaseAction (proposed_id_in raw)
    (λ proposed. Ok (action.Change given proposed)) (right_proposed_id raw) (λ proposed _. tt))

right_release : (raw : Raw) → IsRightAction (release_in raw)
unfolding release_in
right_release raw =
    right_after (λ id. lease_id_in (codes "x-ms-lease-id") raw ≡ Ok (Some id)) IsLeaseAction (given_id_in raw) (λ given. Ok (action.Release given))
    (right_given_id raw) (λ given _. tt)

period_is : (period : Option ℕ) → IfSome period (AreWithin 0 60) → IfSome period (λ secs. secs ≤ 60)
period_is None h = tt
period_is (Some secs) h = h.short

right_break : (raw : Raw) → IsRightAction (break_in raw)
unfolding break_in
right_break raw =
    right_after (IsGiven (AreWithin 0 60) (header (codes "x-ms-lease-break-period") raw)) IsLeaseAction (period_in raw) (λ period. Ok (action.Break period))
    (right_period raw) (λ period h. period_is period h.0)

right_action_named : (text : List ℕ) (raw : Raw) → IsRightAction (action_named text raw)
unfolding action_named
right_action_named text raw =
    chosen IsRightAction (bytes_eq text (codes "acquire")) (acquire_in raw) _ (λ _. right_acquire raw)
    (chosen IsRightAction (bytes_eq text (codes "renew")) (renew_in raw) _ (λ _. right_renew raw)
    (chosen IsRightAction (bytes_eq text (codes "change")) (change_lease_in raw) _ (λ _. right_change_lease raw)
    (chosen IsRightAction (bytes_eq text (codes "release")) (release_in raw) _ (λ _. right_release raw)
    (chosen IsRightAction (bytes_eq text (codes "break")) (break_in raw) (Err code.InvalidHeaderValue) (λ _. right_break raw) refl))))

right_action : (raw : Raw) → IsRightAction (action_in raw)
unfolding action_in
right_action raw =
    right_needed IsLeaseAction code.MissingRequiredHeader (λ text. action_named text raw) (header (codes "x-ms-lease-action") raw) refl
    (λ text. right_action_named text raw)

right_lease : (path : List (List ℕ)) (raw : Raw) → IsBelowRoot path → IsRight (lease_of path raw) (Fits raw)
unfolding lease_of
right_lease path raw below =
    right_after IsLeaseAction (Fits raw) (action_in raw) (λ action. Ok (op.Lease path action)) (right_action raw)
    (λ action is. record { operation = (below, is); id = λ given _. tt })

-- ---- the lease action of an append

-- a duration is right, and the request gives the id that the action needs
record IsAppendAction (raw : Raw) (a : AppendLease) : Type 0 where
  sound : IsAppendLease a true
  id : (given : Option ℕ) → lease_id_in (codes "x-ms-lease-id") raw ≡ Ok given → NeedsId a → IsSome given

id_is_given : (raw : Raw) (id : ℕ) (given : Option ℕ) → lease_id_in (codes "x-ms-lease-id") raw ≡ Ok (Some id)
    → lease_id_in (codes "x-ms-lease-id") raw ≡ Ok given → IsSome given
id_is_given raw id given e f = by given (let same : Some id ≡ given = cc in same)
  where
    by : (given : Option ℕ) → Some id ≡ given → IsSome given
    by None e = absurd (cc)
    by (Some other) e = is_there (Some other) refl

right_append_acquire : (raw : Raw) → IsRight (append_acquire_in raw) (IsAppendAction raw)
unfolding append_acquire_in
right_append_acquire raw =
    right_acquired (IsAppendAction raw) (λ proposed secs. append.Acquire proposed secs) raw
    (λ proposed secs duration. record { sound = duration; id = λ given _ needs. absurd needs })

right_append_acquire_release : (raw : Raw) → IsRight (append_acquire_release_in raw) (IsAppendAction raw)
unfolding append_acquire_release_in
right_append_acquire_release raw =
    right_acquired (IsAppendAction raw) (λ proposed secs. append.AcquireRelease proposed secs) raw
    (λ proposed secs duration. record { sound = (duration, refl); id = λ given _ needs. absurd needs })

right_append_renew : (raw : Raw) → IsRight (append_renew_in raw) (IsAppendAction raw)
unfolding append_renew_in
right_append_renew raw =
    right_after (λ id. lease_id_in (codes "x-ms-lease-id") raw ≡ Ok (Some id)) (IsAppendAction raw) (given_id_in raw) (λ given. Ok append.AutoRenew)
    (right_given_id raw) (λ id e. record { sound = tt; id = λ given f _. id_is_given raw id given e f })

right_append_release : (raw : Raw) → IsRight (append_release_in raw) (IsAppendAction raw)
unfolding append_release_in
right_append_release raw =
    right_after (λ id. lease_id_in (codes "x-ms-lease-id") raw ≡ Ok (Some id)) (IsAppendAction raw) (given_id_in raw) (λ given. Ok append.Release)
    (right_given_id raw) (λ id e. record { sound = refl; id = λ given f _. id_is_given raw id given e f })

right_append_named : (text : List ℕ) (raw : Raw) → IsRight (append_named text raw) (IsAppendAction raw)
unfolding append_named
right_append_named text raw =
    let P : Result AppendLease Code → Type 0 = λ r. IsRight r (IsAppendAction raw) in
    chosen P (bytes_eq text (codes "acquire")) (append_acquire_in raw) _ (λ _. right_append_acquire raw)
    (chosen P (bytes_eq text (codes "auto-renew")) (append_renew_in raw) _ (λ _. right_append_renew raw)
    (chosen P (bytes_eq text (codes "release")) (append_release_in raw) _ (λ _. right_append_release raw)
    (chosen P (bytes_eq text (codes "acquire-release")) (append_acquire_release_in raw) (Err code.InvalidHeaderValue)
    (λ _. right_append_acquire_release raw) refl)))

right_append_action : (raw : Raw) → IsRight (append_action_in raw) (IsAppendAction raw)
unfolding append_action_in
right_append_action raw = by (header (codes "x-ms-lease-action") raw)
  where
    by : (text : Option (List ℕ)) → IsRight (append_action_of text raw) (IsAppendAction raw)
    by None = record { sound = tt; id = λ given _ needs. absurd needs }
    by (Some text) = right_append_named text raw

-- one that releases flushes
flushed_is : (flush : Bool) (a : AppendLease) → IsAppendLease a true → (releases a && not flush) ≡ false → IsAppendLease a flush
flushed_is flush append.Plain h e = tt
flushed_is flush (append.Acquire proposed secs) h e = h
flushed_is flush append.AutoRenew h e = tt
flushed_is true append.Release h e = refl
flushed_is false append.Release h e = absurd (false≢true (sym e))
flushed_is true (append.AcquireRelease proposed secs) h e = h
flushed_is false (append.AcquireRelease proposed secs) h e = absurd (false≢true (sym e))

abbrev IsFlushed : Raw → Bool → AppendLease → Type 0
IsFlushed raw flush a = IsAppendLease a flush × ((given : Option ℕ) → lease_id_in (codes "x-ms-lease-id") raw ≡ Ok given → NeedsId a → IsSome given)

right_where_flushed : (raw : Raw) (flush : Bool) (a : AppendLease) → IsAppendAction raw a → IsRight (where_flushed flush a) (IsFlushed raw flush)
right_where_flushed raw flush a is =
    elim (releases a && not flush) as (λ b. (releases a && not flush) ≡ b → IsRight (cond b (Err code.InvalidInput) (Ok a)) (IsFlushed raw flush)) [
      | true ↦ λ _. refl
      | false ↦ λ e. (flushed_is flush a is.sound e, is.id)
    ] refl

-- ---- data

right_with_body : (raw : Raw) → IsRight (with_body raw) (λ _. 1 ≤ length raw.body)
unfolding with_body
right_with_body raw =
    elim (length raw.body == 0) as (λ b. (length raw.body == 0) ≡ b → IsRight (cond b (Err code.InvalidInput) (Ok tt)) (λ (u : Unit {0}). 1 ≤ length raw.body)) [
      | true ↦ λ _. refl
      | false ↦ λ e. grind (arith, nat_tests)
    ] refl

right_without_body : (raw : Raw) → IsRight (without_body raw) (λ _. length raw.body ≡ 0)
unfolding without_body
right_without_body raw =
    chosen (λ (r : Result (Unit {0}) Code). IsRight r (λ _. length raw.body ≡ 0)) (length raw.body == 0) (Ok tt) (Err code.InvalidInput)
    (λ e. exactly (length raw.body) 0 e) refl

right_retain : (query : List (List ℕ × List ℕ)) → IsRight (retain_in query) Any
unfolding retain_in
right_retain query = right_flag (codes "retainUncommittedData") query

right_append : (path : List (List ℕ)) (query : List (List ℕ × List ℕ)) (raw : Raw) → IsBelowRoot path → IsRight (append_of path query raw) (Fits raw)
unfolding append_of
right_append path query raw below =
    let last = λ (position : ℕ) (flush retain : Bool).
    after (with_body raw) (λ body. after (append_action_in raw) (λ named. after (where_flushed flush named) (λ action. Ok (op.Append path position flush retain action)))) in
    right_after IsPosition (Fits raw) (position_in query)
    (λ position. after (flag_in (codes "flush") query) (λ flush. after (retain_in query) (λ retain. last position flush retain)))
    (right_position query)
    (λ position at. right_after Any (Fits raw) (flag_in (codes "flush") query)
    (λ flush. after (retain_in query) (λ retain. last position flush retain)) (right_flag (codes "flush") query)
    (λ flush _. right_after Any (Fits raw) (retain_in query) (λ retain. last position flush retain)
    (right_retain query)
    (λ retain _. right_after (λ _. 1 ≤ length raw.body) (Fits raw) (with_body raw)
    (λ body. after (append_action_in raw) (λ named. after (where_flushed flush named) (λ action. Ok (op.Append path position flush retain action))))
    (right_with_body raw)
    (λ _ body. right_after (IsAppendAction raw) (Fits raw) (append_action_in raw)
    (λ named. after (where_flushed flush named) (λ action. Ok (op.Append path position flush retain action))) (right_append_action raw)
    (λ named is. right_after (IsFlushed raw flush) (Fits raw) (where_flushed flush named) (λ action. Ok (op.Append path position flush retain action))
    (right_where_flushed raw flush named is)
    (λ action flushed. record { operation = (below, at, flushed.0, body); id = flushed.1 }))))))

right_flush : (path : List (List ℕ)) (query : List (List ℕ × List ℕ)) (raw : Raw) → IsBelowRoot path → IsRight (flush_of path query raw) (Fits raw)
unfolding flush_of
right_flush path query raw below =
    right_after IsPosition (Fits raw) (position_in query)
    (λ position. after (retain_in query) (λ retain. after (without_body raw) (λ body. Ok (op.Flush path position retain))))
    (right_position query)
    (λ position at. right_after Any (Fits raw) (retain_in query)
    (λ retain. after (without_body raw) (λ body. Ok (op.Flush path position retain))) (right_retain query)
    (λ retain _. right_after (λ _. length raw.body ≡ 0) (Fits raw) (without_body raw) (λ body. Ok (op.Flush path position retain)) (right_without_body raw)
    (λ _ none. record { operation = (below, at, none); id = λ given _. tt })))

-- ---- every row

pub right_row : (operation : Operation) (path : List (List ℕ)) (query : List (List ℕ × List ℕ)) (raw : Raw) → KeepsLimits path
    → takes operation (length path) ≡ true → IsRight (op_of_row operation path query raw) (Fits raw)
unfolding op_of_row
right_row ListFilesystems path query raw limits e = right_list_filesystems query raw
right_row CreateFilesystem path query raw limits e = right_create_filesystem path raw (record { limits = limits; parts = exactly (length path) 1 e })
right_row GetFilesystem path query raw limits e = right_get_filesystem path raw (record { limits = limits; parts = exactly (length path) 1 e })
right_row SetFilesystem path query raw limits e = right_set_filesystem path raw (record { limits = limits; parts = exactly (length path) 1 e })
right_row DeleteFilesystem path query raw limits e = right_delete_filesystem path raw (record { limits = limits; parts = exactly (length path) 1 e })
right_row ListPaths path query raw limits e = right_list path query raw (record { limits = limits; parts = exactly (length path) 1 e })
right_row (Create kind) path query raw limits e = right_create path kind raw (record { limits = limits; parts = at_least 2 (length path) e })
right_row Rename path query raw limits e = right_rename path query raw (record { limits = limits; parts = at_least 2 (length path) e })
right_row Read path query raw limits e = right_read path raw (record { limits = limits; parts = at_least 2 (length path) e })
right_row (GetProperties status) path query raw limits e = right_get_properties path status raw (record { limits = limits; parts = at_least 1 (length path) e })
right_row GetAccess path query raw limits e = right_get_access path raw (record { limits = limits; parts = at_least 1 (length path) e })
right_row CheckAccess path query raw limits e = right_check_access path query raw (record { limits = limits; parts = at_least 1 (length path) e })
right_row Append path query raw limits e = right_append path query raw (record { limits = limits; parts = at_least 2 (length path) e })
right_row Flush path query raw limits e = right_flush path query raw (record { limits = limits; parts = at_least 2 (length path) e })
right_row SetProperties path query raw limits e = right_set_properties path raw (record { limits = limits; parts = at_least 1 (length path) e })
right_row SetAccess path query raw limits e = right_set_access path raw (record { limits = limits; parts = at_least 1 (length path) e })
right_row SetAccessRecursive path query raw limits e = right_batch path query raw (record { limits = limits; parts = at_least 1 (length path) e })
right_row Lease path query raw limits e = right_lease path raw (record { limits = limits; parts = at_least 2 (length path) e })
right_row Delete path query raw limits e = right_delete path query raw (record { limits = limits; parts = at_least 2 (length path) e })
