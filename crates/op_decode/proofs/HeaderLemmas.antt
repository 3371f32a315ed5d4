-- Decoding looks at the headers by the names that it knows alone.
use Rattle.std.proofs.Common.{◌≡◌, ℕ, Bool, true, false, cond, List, [], ◌∷◌, ◌++◌, map, length, take, Option, Some, None, Result, Ok, Err, refl, sym, ap, ◌∙◌}
use Rattle.std.specs.Prelude.{◌||◌, is_some, option_map, find, bytes_eq, codes}
use Rattle.std.specs.List.{list_any}
use Rattle.std.specs.Option.{option_or}
use Rattle.std.specs.Str.{str_to_ascii_lowercase}
use Rattle.std.proofs.lemmas.Bool.{false≢true}
use Rattle.std.proofs.lemmas.Slice.Eq.{bytes_eq-Decides}
use Rattle.std.proofs.lemmas.List.Folds.{find-append}
use Rattle.http_front.specs.declared.raw.Raw.{Raw}
use Rattle.head_text.specs.Headers.{first_header, is_named}
use Rattle.namespace_model.specs.declared.caller.Caller.{Caller}
use Rattle.namespace_model.specs.declared.code.Code.{Code}
use Rattle.namespace_model.specs.declared.code.Code.TheVariants.{UnsupportedContentEncoding, InvalidUri}
use Rattle.namespace_model.specs.declared.op.Kind.{Kind}
use Rattle.namespace_model.specs.declared.op.Op.{Op}
use Rattle.op_decode.specs.declared.asked.Asks.{Asks}
use Rattle.op_decode.specs.declared.method.Method.{Method}
use Rattle.op_decode.specs.declared.method.Method.TheVariants.{Put, Post}
use Rattle.op_decode.specs.declared.operation.Operation.{Operation}
use Rattle.op_decode.specs.declared.operation.Operation.TheVariants.{CreateFilesystem, SetFilesystem, Create, Rename, Read, Append, Flush, SetProperties, SetAccess, SetAccessRecursive, Lease}
use Rattle.op_decode.specs.Access.{acl_in, has_setting, set_access_of, some_setting}
use Rattle.op_decode.specs.Batches.{change_in, set_access_recursive_of}
use Rattle.op_decode.specs.Callers.{caller_id_in, caller_of, groups_in}
use Rattle.op_decode.specs.ConditionHeaders.{conditions_in, date_in, tags_in}
use Rattle.op_decode.specs.Connections.{closes}
use Rattle.op_decode.specs.Creates.{create_of}
use Rattle.op_decode.specs.Data.{append_of, flush_of, range_in, read_of, with_body, without_body}
use Rattle.op_decode.specs.Decoded.{asked, asked_after_caller, asked_after_target, asked_by, asks_for, asks_for_row, asks_in, asks_of, asks_with_lease, decoded, has_other_encoding, refused}
use Rattle.op_decode.specs.Filesystems.{create_filesystem_of, set_filesystem_of}
use Rattle.op_decode.specs.HeaderValues.{id_in, lease_id_in, needed_lease_id_in, needed_props_in, permissions_in, props_in, source_lease_id_in, umask_in}
use Rattle.op_decode.specs.Laws.{known_names, lowered, with_headers}
use Rattle.op_decode.specs.Leases.{acquire_in, action_in, action_named, append_acquire_in, append_acquire_release_in, append_action_in, append_action_of, append_named, append_release_in, append_renew_in, break_in, change_in as change_lease_in, duration_in, lease_of, period_in, release_in, renew_in}
use Rattle.op_decode.specs.Methods.{method_of}
use Rattle.op_decode.specs.Nodes.{set_properties_of}
use Rattle.op_decode.specs.Operations.{operation_of, takes}
use Rattle.op_decode.specs.Orders.{after}
use Rattle.op_decode.specs.Renames.{begins_with, has_source_condition, no_source_condition, rename_of, source_in}
use Rattle.op_decode.specs.Rows.{op_of_row}
use Rattle.op_decode.specs.Targets.{target_of}
use Rattle.op_decode.proofs.NameLemmas.{front_in_any_case}

-- a name of a header that says a condition on a source
abbrev pub is_on_source : List ℕ × List ℕ → Bool
is_on_source header = begins_with (codes "x-ms-source-if-") header

-- the same is found by each name that decoding knows, and both or none have a condition on a source
pub record AreAlike (hs ks : List (List ℕ × List ℕ)) : Type 0 where
  pub found : (name : List ℕ) → list_any (bytes_eq name) known_names ≡ true → first_header name hs ≡ first_header name ks
  pub on_source : list_any is_on_source hs ≡ list_any is_on_source ks

encoding_same : (raw : Raw) (hs ks : List (List ℕ × List ℕ)) → AreAlike hs ks
    → has_other_encoding (with_headers raw hs) ≡ has_other_encoding (with_headers raw ks)
encoding_same raw hs ks alike = rw (alike.found (codes "content-encoding") refl) refl

caller_same : (raw : Raw) (hs ks : List (List ℕ × List ℕ)) → AreAlike hs ks → caller_of (with_headers raw hs) ≡ caller_of (with_headers raw ks)
unfolding caller_of caller_id_in groups_in
caller_same raw hs ks alike = rw (alike.found (codes "x-ms-caller") refl, alike.found (codes "x-ms-caller-groups") refl) refl

method_same : (raw : Raw) (hs ks : List (List ℕ × List ℕ)) → AreAlike hs ks → method_of (with_headers raw hs) ≡ method_of (with_headers raw ks)
unfolding method_of
method_same raw hs ks alike = rw (alike.found (codes "x-http-method-override") refl) refl

closes_same : (raw : Raw) (hs ks : List (List ℕ × List ℕ)) → AreAlike hs ks → closes (with_headers raw hs) ≡ closes (with_headers raw ks)
unfolding closes
closes_same raw hs ks alike = rw (alike.found (codes "connection") refl) refl

operation_same : (raw : Raw) (hs ks : List (List ℕ × List ℕ)) → AreAlike hs ks → (method : Method) (query : List (List ℕ × List ℕ))
    → operation_of method query (with_headers raw hs) ≡ operation_of method query (with_headers raw ks)
unfolding operation_of
operation_same raw hs ks alike Put query = rw (alike.found (codes "x-ms-rename-source") refl) refl
operation_same raw hs ks alike Post query = rw (alike.found (codes "x-ms-lease-action") refl) refl
operation_same raw hs ks alike _ query = refl

-- ---- the rows

create_filesystem_same : (raw : Raw) (hs ks : List (List ℕ × List ℕ)) → AreAlike hs ks → (path : List (List ℕ))
    → create_filesystem_of path (with_headers raw hs) ≡ create_filesystem_of path (with_headers raw ks)
unfolding create_filesystem_of props_in
create_filesystem_same raw hs ks alike path = rw (alike.found (codes "x-ms-properties") refl) refl

set_filesystem_same : (raw : Raw) (hs ks : List (List ℕ × List ℕ)) → AreAlike hs ks → (path : List (List ℕ))
    → set_filesystem_of path (with_headers raw hs) ≡ set_filesystem_of path (with_headers raw ks)
unfolding set_filesystem_of needed_props_in
set_filesystem_same raw hs ks alike path = rw (alike.found (codes "x-ms-properties") refl) refl

create_same : (raw : Raw) (hs ks : List (List ℕ × List ℕ)) → AreAlike hs ks → (path : List (List ℕ)) (kind : Kind)
    → create_of path kind (with_headers raw hs) ≡ create_of path kind (with_headers raw ks)
unfolding create_of permissions_in umask_in props_in
create_same raw hs ks alike path kind =
    rw (alike.found (codes "x-ms-permissions") refl, alike.found (codes "x-ms-umask") refl, alike.found (codes "x-ms-properties") refl) refl

rename_same : (raw : Raw) (hs ks : List (List ℕ × List ℕ)) → AreAlike hs ks → (path : List (List ℕ)) (query : List (List ℕ × List ℕ))
    → rename_of path query (with_headers raw hs) ≡ rename_of path query (with_headers raw ks)
unfolding rename_of source_in no_source_condition has_source_condition props_in
rename_same raw hs ks alike path query =
    rw (alike.found (codes "x-ms-rename-source") refl, alike.on_source, alike.found (codes "x-ms-properties") refl) refl

read_same : (raw : Raw) (hs ks : List (List ℕ × List ℕ)) → AreAlike hs ks → (path : List (List ℕ))
    → read_of path (with_headers raw hs) ≡ read_of path (with_headers raw ks)
unfolding read_of range_in
read_same raw hs ks alike path = rw (alike.found (codes "range") refl) refl

append_named_same : (raw : Raw) (hs ks : List (List ℕ × List ℕ)) → AreAlike hs ks → (text : List ℕ)
    → append_named text (with_headers raw hs) ≡ append_named text (with_headers raw ks)
unfolding append_named append_acquire_in append_renew_in append_release_in append_acquire_release_in duration_in needed_lease_id_in
append_named_same raw hs ks alike text =
    rw (
      alike.found (codes "x-ms-lease-duration") refl,
      alike.found (codes "x-ms-proposed-lease-id") refl,
      alike.found (codes "x-ms-lease-id") refl,
    ) refl

append_action_of_same : (raw : Raw) (hs ks : List (List ℕ × List ℕ)) → AreAlike hs ks → (text : Option (List ℕ))
    → append_action_of text (with_headers raw hs) ≡ append_action_of text (with_headers raw ks)
append_action_of_same raw hs ks alike None = refl
append_action_of_same raw hs ks alike (Some text) = append_named_same raw hs ks alike text

append_action_same : (raw : Raw) (hs ks : List (List ℕ × List ℕ)) → AreAlike hs ks
    → append_action_in (with_headers raw hs) ≡ append_action_in (with_headers raw ks)
unfolding append_action_in
append_action_same raw hs ks alike =
    ap (λ (o : Option (List ℕ)). append_action_of o (with_headers raw hs)) (alike.found (codes "x-ms-lease-action") refl)
    ∙ append_action_of_same raw hs ks alike (first_header (codes "x-ms-lease-action") ks)

append_same : (raw : Raw) (hs ks : List (List ℕ × List ℕ)) → AreAlike hs ks → (path : List (List ℕ)) (query : List (List ℕ × List ℕ))
    → append_of path query (with_headers raw hs) ≡ append_of path query (with_headers raw ks)
unfolding append_of with_body
append_same raw hs ks alike path query = rw (append_action_same raw hs ks alike) refl

flush_same : (raw : Raw) (hs ks : List (List ℕ × List ℕ)) (path : List (List ℕ)) (query : List (List ℕ × List ℕ))
    → flush_of path query (with_headers raw hs) ≡ flush_of path query (with_headers raw ks)
unfolding flush_of without_body
flush_same raw hs ks path query = refl

set_properties_same : (raw : Raw) (hs ks : List (List ℕ × List ℕ)) → AreAlike hs ks → (path : List (List ℕ))
    → set_properties_of path (with_headers raw hs) ≡ set_properties_of path (with_headers raw ks)
unfolding set_properties_of needed_props_in
set_properties_same raw hs ks alike path = rw (alike.found (codes "x-ms-properties") refl) refl

set_access_same : (raw : Raw) (hs ks : List (List ℕ × List ℕ)) → AreAlike hs ks → (path : List (List ℕ))
    → set_access_of path (with_headers raw hs) ≡ set_access_of path (with_headers raw ks)
unfolding set_access_of some_setting has_setting id_in permissions_in acl_in
set_access_same raw hs ks alike path =
    rw (
      alike.found (codes "x-ms-owner") refl,
      alike.found (codes "x-ms-group") refl,
      alike.found (codes "x-ms-permissions") refl,
      alike.found (codes "x-ms-acl") refl,
    ) refl

batch_same : (raw : Raw) (hs ks : List (List ℕ × List ℕ)) → AreAlike hs ks → (path : List (List ℕ)) (query : List (List ℕ × List ℕ))
    → set_access_recursive_of path query (with_headers raw hs) ≡ set_access_recursive_of path query (with_headers raw ks)
unfolding set_access_recursive_of change_in
batch_same raw hs ks alike path query = rw (alike.found (codes "x-ms-acl") refl) refl

lease_same : (raw : Raw) (hs ks : List (List ℕ × List ℕ)) → AreAlike hs ks → (path : List (List ℕ))
    → lease_of path (with_headers raw hs) ≡ lease_of path (with_headers raw ks)
unfolding lease_of action_in action_named acquire_in renew_in change_lease_in release_in break_in duration_in period_in needed_lease_id_in
lease_same raw hs ks alike path =
    rw (
      alike.found (codes "x-ms-lease-action") refl,
      alike.found (codes "x-ms-lease-duration") refl,
      alike.found (codes "x-ms-proposed-lease-id") refl,
      alike.found (codes "x-ms-lease-id") refl,
      alike.found (codes "x-ms-lease-break-period") refl,
    ) refl

row_same : (raw : Raw) (hs ks : List (List ℕ × List ℕ)) → AreAlike hs ks → (operation : Operation) (path : List (List ℕ)) (query : List (List ℕ × List ℕ))
    → op_of_row operation path query (with_headers raw hs) ≡ op_of_row operation path query (with_headers raw ks)
unfolding op_of_row
row_same raw hs ks alike CreateFilesystem path query = create_filesystem_same raw hs ks alike path
row_same raw hs ks alike SetFilesystem path query = set_filesystem_same raw hs ks alike path
row_same raw hs ks alike (Create kind) path query = create_same raw hs ks alike path kind
row_same raw hs ks alike Rename path query = rename_same raw hs ks alike path query
row_same raw hs ks alike Read path query = read_same raw hs ks alike path
row_same raw hs ks alike Append path query = append_same raw hs ks alike path query
row_same raw hs ks alike Flush path query = flush_same raw hs ks path query
row_same raw hs ks alike SetProperties path query = set_properties_same raw hs ks alike path
row_same raw hs ks alike SetAccess path query = set_access_same raw hs ks alike path
row_same raw hs ks alike SetAccessRecursive path query = batch_same raw hs ks alike path query
row_same raw hs ks alike Lease path query = lease_same raw hs ks alike path
row_same raw hs ks alike _ path query = refl

-- ---- the whole

conditions_same : (raw : Raw) (hs ks : List (List ℕ × List ℕ)) → AreAlike hs ks → conditions_in (with_headers raw hs) ≡ conditions_in (with_headers raw ks)
unfolding conditions_in tags_in date_in
conditions_same raw hs ks alike =
    rw (
      alike.found (codes "if-match") refl,
      alike.found (codes "if-none-match") refl,
      alike.found (codes "if-modified-since") refl,
      alike.found (codes "if-unmodified-since") refl,
    ) refl

after_same : {A B : Type 0} (r : Result A Code) (f g : A → Result B Code) → ((a : A) → f a ≡ g a) → after r f ≡ after r g
after_same (Ok a) f g e = e a
after_same (Err code) f g e = refl

lease_id_same : (raw : Raw) (hs ks : List (List ℕ × List ℕ)) → AreAlike hs ks
    → lease_id_in (codes "x-ms-lease-id") (with_headers raw hs) ≡ lease_id_in (codes "x-ms-lease-id") (with_headers raw ks)
unfolding lease_id_in
lease_id_same raw hs ks alike = rw (alike.found (codes "x-ms-lease-id") refl) refl

source_lease_id_same : (raw : Raw) (hs ks : List (List ℕ × List ℕ)) → AreAlike hs ks
    → source_lease_id_in (with_headers raw hs) ≡ source_lease_id_in (with_headers raw ks)
unfolding source_lease_id_in lease_id_in
source_lease_id_same raw hs ks alike = rw (alike.found (codes "x-ms-source-lease-id") refl) refl

asks_with_lease_same : (raw : Raw) (hs ks : List (List ℕ × List ℕ)) → AreAlike hs ks → (op : Op) (lease : Option ℕ)
    → asks_with_lease op (with_headers raw hs) lease ≡ asks_with_lease op (with_headers raw ks) lease
asks_with_lease_same raw hs ks alike op lease = rw (source_lease_id_same raw hs ks alike, conditions_same raw hs ks alike) refl

asks_of_same : (raw : Raw) (hs ks : List (List ℕ × List ℕ)) → AreAlike hs ks → (op : Op) → asks_of op (with_headers raw hs) ≡ asks_of op (with_headers raw ks)
unfolding asks_of
asks_of_same raw hs ks alike op =
    ap (λ (r : Result (Option ℕ) Code). after r (asks_with_lease op (with_headers raw hs))) (lease_id_same raw hs ks alike)
    ∙ after_same (lease_id_in (codes "x-ms-lease-id") (with_headers raw ks)) (asks_with_lease op (with_headers raw hs))
    (asks_with_lease op (with_headers raw ks)) (asks_with_lease_same raw hs ks alike op)

asks_for_row_same : (raw : Raw) (hs ks : List (List ℕ × List ℕ)) → AreAlike hs ks → (operation : Operation) (path : List (List ℕ)) (query : List (List ℕ × List ℕ))
    → asks_for_row operation path query (with_headers raw hs) ≡ asks_for_row operation path query (with_headers raw ks)
asks_for_row_same raw hs ks alike operation path query =
    ap (λ (r : Result Op Code). after r (λ op. asks_of op (with_headers raw hs))) (row_same raw hs ks alike operation path query)
    ∙ after_same (op_of_row operation path query (with_headers raw ks)) (λ op. asks_of op (with_headers raw hs)) (λ op. asks_of op (with_headers raw ks))
    (asks_of_same raw hs ks alike)

asks_for_same : (raw : Raw) (hs ks : List (List ℕ × List ℕ)) → AreAlike hs ks → (operation : Option Operation) (path : List (List ℕ)) (query : List (List ℕ × List ℕ))
    → asks_for operation path query (with_headers raw hs) ≡ asks_for operation path query (with_headers raw ks)
asks_for_same raw hs ks alike None path query = refl
asks_for_same raw hs ks alike (Some operation) path query =
    ap (λ (r : Result Asks Code). cond (takes operation (length path)) r (Err InvalidUri)) (asks_for_row_same raw hs ks alike operation path query)

asks_in_same : (raw : Raw) (hs ks : List (List ℕ × List ℕ)) → AreAlike hs ks → (path : List (List ℕ)) (query : List (List ℕ × List ℕ))
    → asks_in path query (with_headers raw hs) ≡ asks_in path query (with_headers raw ks)
unfolding asks_in
asks_in_same raw hs ks alike path query =
    let method = method_same raw hs ks alike in
    let operation = operation_same raw hs ks alike (method_of (with_headers raw ks)) query in
    ap (λ (m : Method). asks_for (operation_of m query (with_headers raw hs)) path query (with_headers raw hs)) method
    ∙ ap (λ (o : Option Operation). asks_for o path query (with_headers raw hs)) operation
    ∙ asks_for_same raw hs ks alike (operation_of (method_of (with_headers raw ks)) query (with_headers raw ks)) path query

after_caller_same : (raw : Raw) (hs ks : List (List ℕ × List ℕ)) → AreAlike hs ks → (caller : Result Caller Code) (path : List (List ℕ)) (query : List (List ℕ × List ℕ))
    → asked_after_caller caller path query (with_headers raw hs) ≡ asked_after_caller caller path query (with_headers raw ks)
after_caller_same raw hs ks alike (Err code) path query = refl
after_caller_same raw hs ks alike (Ok caller) path query = ap (asked_by caller) (asks_in_same raw hs ks alike path query)

after_target_same : (raw : Raw) (hs ks : List (List ℕ × List ℕ)) → AreAlike hs ks → (target : Result (List (List ℕ) × List (List ℕ × List ℕ)) Code)
    → asked_after_target target (with_headers raw hs) ≡ asked_after_target target (with_headers raw ks)
after_target_same raw hs ks alike (Err code) = refl
after_target_same raw hs ks alike (Ok target) =
    ap (λ (c : Result Caller Code). asked_after_caller c target.0 target.1 (with_headers raw hs)) (caller_same raw hs ks alike)
    ∙ after_caller_same raw hs ks alike (caller_of (with_headers raw ks)) target.0 target.1

asked_same : (raw : Raw) (hs ks : List (List ℕ × List ℕ)) → AreAlike hs ks → asked (with_headers raw hs) ≡ asked (with_headers raw ks)
unfolding asked
asked_same raw hs ks alike =
    ap (λ (b : Bool). cond b (refused None UnsupportedContentEncoding) (asked_after_target (target_of raw.target) (with_headers raw hs)))
    (encoding_same raw hs ks alike)
    ∙ ap (λ a. cond (has_other_encoding (with_headers raw ks)) (refused None UnsupportedContentEncoding) a)
    (after_target_same raw hs ks alike (target_of raw.target))

pub decoded_same : (raw : Raw) (hs ks : List (List ℕ × List ℕ)) → AreAlike hs ks → decoded (with_headers raw hs) ≡ decoded (with_headers raw ks)
unfolding decoded
decoded_same raw hs ks alike = rw (asked_same raw hs ks alike, closes_same raw hs ks alike) refl

-- ---- what is alike

-- the value of the first header of this name, where every name is in lower case
first_lowered : List ℕ → List (List ℕ × List ℕ) → Option (List ℕ)
first_lowered name hs = option_map (λ (h : List ℕ × List ℕ). h.1) (find (λ (h : List ℕ × List ℕ). bytes_eq h.0 name) hs)

find_lowered : (name : List ℕ) (hs : List (List ℕ × List ℕ)) → first_header name hs ≡ first_lowered (str_to_ascii_lowercase name) (map lowered hs)
unfolding first_header first_lowered
find_lowered name [] = refl
find_lowered name (h ∷ hs) =
    elim (is_named name h) as (λ b. option_map (λ (h : List ℕ × List ℕ). h.1) (cond b (Some h) (find (is_named name) hs))
    ≡ option_map (λ (h : List ℕ × List ℕ). h.1)
    (cond b (Some (lowered h)) (find (λ (h : List ℕ × List ℕ). bytes_eq h.0 (str_to_ascii_lowercase name)) (map lowered hs)))) [
      | true ↦ refl
      | false ↦ find_lowered name hs
    ]

-- the same of a front
front_lowered : (h : List ℕ × List ℕ) → is_on_source (lowered h) ≡ is_on_source h
front_lowered h = front_in_any_case (codes "x-ms-source-if-") h.0 h.1

any_lowered : (hs : List (List ℕ × List ℕ)) → list_any is_on_source (map lowered hs) ≡ list_any is_on_source hs
any_lowered [] = refl
any_lowered (h ∷ hs) = ap (λ (b : Bool). b || list_any is_on_source (map lowered hs)) (front_lowered h) ∙ ap (λ (b : Bool). is_on_source h || b) (any_lowered hs)

pub alike_in_any_case : (hs ks : List (List ℕ × List ℕ)) → map lowered hs ≡ map lowered ks → AreAlike hs ks
alike_in_any_case hs ks e = record {
  found = λ name known.
      find_lowered name hs ∙ ap (first_lowered (str_to_ascii_lowercase name)) e ∙ sym (find_lowered name ks);
  on_source = sym (any_lowered hs) ∙ ap (list_any is_on_source) e ∙ any_lowered ks;
}

-- what holds of no element but of one before it changes nothing
any_without : {X : Type 0} (p : X → Bool) (front back : List X) (x : X) → (p x ≡ true → list_any p front ≡ true)
    → list_any p (front ++ x ∷ back) ≡ list_any p (front ++ back)
any_without p [] back x h =
    elim (p x) as (λ b. (b ≡ true → false ≡ true) → (b || list_any p back) ≡ list_any p back) [
      | true ↦ λ h. absurd (false≢true (h refl))
      | false ↦ λ _. refl
    ] h
any_without p (y ∷ front) back x h =
    elim (p y) as (λ b. (p x ≡ true → (b || list_any p front) ≡ true) → (b || list_any p (front ++ x ∷ back)) ≡ (b || list_any p (front ++ back))) [
      | true ↦ λ _. refl
      | false ↦ λ h. any_without p front back x h
    ] h

settled : {X : Type 0} (o u v : Option X) → is_some o ≡ true → option_or o u ≡ option_or o v
settled None u v e = absurd (false≢true e)
settled (Some x) u v e = refl

-- an element that is not the first to pass is not found
skipped : {X : Type 0} (p : X → Bool) (front back : List X) (x : X) → (p x ≡ true → is_some (find p front) ≡ true)
    → find p (front ++ x ∷ back) ≡ find p (front ++ back)
skipped p front back x h = find-append p front (x ∷ back) ∙ by (p x) refl ∙ sym (find-append p front back)
  where
    by : (b : Bool) → p x ≡ b → option_or (find p front) (cond (p x) (Some x) (find p back)) ≡ option_or (find p front) (find p back)
    by true e = settled (find p front) _ _ (h e)
    by false e = rw e refl

skipped_header : (name : List ℕ) (front back : List (List ℕ × List ℕ)) (header : List ℕ × List ℕ)
    → (is_named name header ≡ true → is_some (find (is_named name) front) ≡ true)
    → first_header name (front ++ header ∷ back) ≡ first_header name (front ++ back)
unfolding first_header
skipped_header name front back header h = ap (option_map (λ (h : List ℕ × List ℕ). h.1)) (skipped (is_named name) front back header h)

is_some-map : {X Y : Type 0} (f : X → Y) (o : Option X) → is_some (option_map f o) ≡ is_some o
is_some-map f None = refl
is_some-map f (Some x) = refl

-- what one name finds another one that is the same but for its case finds
found_by_both : (name : List ℕ) (front : List (List ℕ × List ℕ)) (header : List ℕ × List ℕ) → is_some (first_header header.0 front) ≡ true
    → is_named name header ≡ true → is_some (find (is_named name) front) ≡ true
unfolding first_header
found_by_both name front header found named =
    let same : str_to_ascii_lowercase header.0 ≡ str_to_ascii_lowercase name =
    (bytes_eq-Decides (str_to_ascii_lowercase header.0) (str_to_ascii_lowercase name)).0 named in
    let tests : (λ (h : List ℕ × List ℕ). bytes_eq (str_to_ascii_lowercase h.0) (str_to_ascii_lowercase name)) ≡ is_named header.0 =
    ap (λ (n : List ℕ). λ (h : List ℕ × List ℕ). bytes_eq (str_to_ascii_lowercase h.0) n) (sym same) in
    ap (λ (p : List ℕ × List ℕ → Bool). is_some (find p front)) tests
    ∙ sym (is_some-map (λ (h : List ℕ × List ℕ). h.1) (find (is_named header.0) front)) ∙ found

-- two names that are the same but for their case both begin so, or neither does
same_front : (header h : List ℕ × List ℕ) → is_named header.0 h ≡ true → is_on_source h ≡ is_on_source header
same_front header h named =
    let same : str_to_ascii_lowercase h.0 ≡ str_to_ascii_lowercase header.0 =
    (bytes_eq-Decides (str_to_ascii_lowercase h.0) (str_to_ascii_lowercase header.0)).0 named in
    sym (front_lowered (h.0, header.1)) ∙ ap (λ (text : List ℕ). is_on_source (text, header.1)) same ∙ front_lowered (header.0, header.1)

either_true : (a b : Bool) → b ≡ true → (a || b) ≡ true
either_true true b e = refl
either_true false b e = e

-- a header before with the same name, but for its case, has a condition on a source where this one has
on_source_before : (front : List (List ℕ × List ℕ)) (header : List ℕ × List ℕ) → is_some (first_header header.0 front) ≡ true
    → is_on_source header ≡ true → list_any is_on_source front ≡ true
unfolding first_header
on_source_before [] header found on = absurd (false≢true found)
on_source_before (h ∷ front) header found on =
    elim (is_named header.0 h) as (λ b. is_named header.0 h ≡ b
    → is_some (option_map (λ (h : List ℕ × List ℕ). h.1) (cond b (Some h) (find (is_named header.0) front))) ≡ true
    → (is_on_source h || list_any is_on_source front) ≡ true) [
      | true ↦ λ named _. ap (λ (b : Bool). b || list_any is_on_source front) (same_front header h named ∙ on)
      | false ↦ λ _ more. either_true (is_on_source h) _ (on_source_before front header more on)
    ] refl found

pub alike_behind_the_first : (front back : List (List ℕ × List ℕ)) (header : List ℕ × List ℕ) → is_some (first_header header.0 front) ≡ true
    → AreAlike (front ++ header ∷ back) (front ++ back)
alike_behind_the_first front back header found = record {
  found = λ name known. skipped_header name front back header (found_by_both name front header found);
  on_source = any_without is_on_source front back header (on_source_before front header found);
}

neither : (a b : Bool) → (a || b) ≡ false → (a ≡ false) × (b ≡ false)
neither true b e = absurd (cc)
neither false b e = (refl, e)

same_named : (header : List ℕ × List ℕ) (n name : List ℕ) → is_named n header ≡ false → is_named name header ≡ true → bytes_eq name n ≡ true → ⊥
same_named header n name other named e =
    let same : name ≡ n = (bytes_eq-Decides name n).0 e in
    false≢true (sym other ∙ ap (λ (m : List ℕ). is_named m header) (sym same) ∙ named)

-- a header that has none of the names has no name that is one of them
unnamed : (header : List ℕ × List ℕ) (names : List (List ℕ)) (name : List ℕ) → list_any (λ n. is_named n header) names ≡ false
    → list_any (bytes_eq name) names ≡ true → is_named name header ≡ true → ⊥
unnamed header [] name none known named = false≢true known
unnamed header (n ∷ names) name none known named =
    let cut = neither (is_named n header) _ none in
    elim (bytes_eq name n) as (λ b. bytes_eq name n ≡ b → (b || list_any (bytes_eq name) names) ≡ true → ⊥) [
      | true ↦ λ e _. same_named header n name cut.0 named e
      | false ↦ λ _ k. unnamed header names name cut.1 k named
    ] refl known

pub alike_but_for_unknown : (front back : List (List ℕ × List ℕ)) (header : List ℕ × List ℕ) → list_any (λ name. is_named name header) known_names ≡ false
    → is_on_source header ≡ false → AreAlike (front ++ header ∷ back) (front ++ back)
alike_but_for_unknown front back header none off = record {
  found = λ name known. skipped_header name front back header (λ named. absurd (unnamed header known_names name none known named));
  on_source = any_without is_on_source front back header (λ on. absurd (false≢true (sym off ∙ on)));
}
