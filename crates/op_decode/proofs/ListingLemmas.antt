-- What the rows of listings ask is sound.
use Rattle.std.proofs.Common.{◌≡◌, ◌≢◌, ℕ, ◌≤◌, true, false, cond, List, [], ◌∷◌, length, Option, Some, None, Result, Ok, Err, lit≤, refl, ap, arith, length-append, inl, inr}
use Rattle.std.specs.Prelude.{◌==◌, bytes_eq, codes, IfSome, slice_get}
use Rattle.std.proofs.lemmas.Bool.{false≢true}
use Rattle.std.proofs.lemmas.Bool.Decides.{nat_tests}
use Rattle.std.proofs.lemmas.Slice.Eq.{bytes_eq-Decides}
use Rattle.http_front.specs.declared.raw.Raw.{Raw}
use Rattle.path_text.specs.Queries.{first_value}
use Rattle.path_text.specs.Texts.{KeepsLimits, Spells, plain_path}
use Rattle.path_text.specs.declared.fault.TargetStop.{TargetStop}
use Rattle.path_text.proofs.GrammarLemmas.{path_is_spelled}
use Rattle.namespace_model.specs.Sound.{IsInFilesystem, IsRootPath, IsSize, IsTokenOf}
use Rattle.namespace_model.specs.declared.op.Op.TheVariants as op
use Rattle.namespace_model.proofs.Prefixes.{front_of_append}
use Rattle.op_decode.specs.Listings.{behind, directory_named, directory_of, list_filesystems_of, list_of, or_bad_parameter, prefix_of, without_slashes}
use Rattle.op_decode.specs.Orders.{after}
use Rattle.op_decode.specs.Parameters.{flag_in, size_in, token_in}
use Rattle.op_decode.proofs.ReaderLemmas.{Any, IsOnPage, IsRight, IsTokenOn, exactly, right_after, right_flag, right_size, right_token}
use Rattle.op_decode.proofs.Fits.{Fits}

account_token : (token : List (List ℕ)) → IsOnPage None token → IsRootPath token
account_token token h = record { limits = h.limits; parts = exactly (length token) 1 h.page }

account_tokens : (token : Option (List (List ℕ))) → IsTokenOn None token → IfSome token IsRootPath
account_tokens None h = tt
account_tokens (Some token) h = account_token token h

own_token : (fs : List ℕ) (names token : List (List ℕ)) → IsOnPage (Some fs) token → IsTokenOf (fs ∷ names) token
own_token fs names [] h = absurd (false≢true h.page)
own_token fs names (part ∷ parts) h =
    let same : part ≡ fs = (bytes_eq-Decides part fs).0 h.page in
    record { limits = h.limits; filesystem = rw same (front_of_append (fs ∷ []) parts) }

pub own_tokens : (path : List (List ℕ)) (token : Option (List (List ℕ))) → 1 ≤ length path → IsTokenOn (slice_get path 0) token → IfSome token (IsTokenOf path)
own_tokens path None some h = tt
own_tokens [] (Some token) some h = absurd (omega (arith, some))
own_tokens (fs ∷ names) (Some token) some h = own_token fs names token h

pub right_list_filesystems : (query : List (List ℕ × List ℕ)) (raw : Raw) → IsRight (list_filesystems_of query) (Fits raw)
unfolding list_filesystems_of
right_list_filesystems query raw =
    right_after (IsTokenOn None) (Fits raw) (token_in None query)
    (λ token. after (size_in (codes "maxResults") 5000 query) (λ max. Ok (op.ListFilesystems (prefix_of (first_value query (codes "prefix"))) token max)))
    (right_token None query)
    (λ token on. right_after (IsSize 5000) (Fits raw) (size_in (codes "maxResults") 5000 query)
    (λ max. Ok (op.ListFilesystems (prefix_of (first_value query (codes "prefix"))) token max)) (right_size (codes "maxResults") 5000 query (lit≤ tt))
    (λ max size. record { operation = (size, account_tokens token on); id = λ given _. tt }))

-- the text of a name behind a filesystem's is longer than that of the account
no_account : (text : List ℕ) → 3 ≤ length text → ¬ Spells text []
no_account text long (inl e) = omega (arith, long, ap length e)
no_account text long (inr e) = omega (arith, long, ap length e)

some_part : (text : List ℕ) (path : List (List ℕ)) → 3 ≤ length text → KeepsLimits path × Spells text path → IsInFilesystem path
some_part text [] long h = absurd (no_account text long h.1)
some_part text (fs ∷ names) long h = record { limits = h.0; parts = omega arith }

right_directory_named : (root : List (List ℕ)) (name : List ℕ) → IsRootPath root → IsRight (directory_named root name) IsInFilesystem
unfolding directory_named
right_directory_named root name is =
    elim (length name == 0) as (λ b. (length name == 0) ≡ b → IsRight (cond b (Ok root) (or_bad_parameter (plain_path (behind root name)))) IsInFilesystem) [
      | true ↦ λ _. record { limits = is.limits; parts = omega (arith, is.parts) }
      | false ↦ λ some. by (plain_path (behind root name)) refl (long root is.parts some)
    ] refl
  where
    by : (r : Result (List (List ℕ)) TargetStop) → plain_path (behind root name) ≡ r → 3 ≤ length (behind root name) → IsRight (or_bad_parameter r) IsInFilesystem
    by (Ok path) e size = some_part (behind root name) path size (path_is_spelled (behind root name) path e)
    by (Err stop) e size = refl

    long : (root : List (List ℕ)) → length root ≡ 1 → (length name == 0) ≡ false → 3 ≤ length (behind root name)
    long [] parts some = absurd (cc)
    long (fs ∷ names) parts some =
        let one : 1 ≤ length name = grind (arith, nat_tests) in
        let sum = length-append (47 ∷ fs) (47 ∷ name) in
        omega (arith, one, sum)

right_directory : (root : List (List ℕ)) (text : Option (List ℕ)) → IsRootPath root → IsRight (directory_of root text) IsInFilesystem
unfolding directory_of
right_directory root None is = record { limits = is.limits; parts = omega (arith, is.parts) }
right_directory root (Some text) is = right_directory_named root (without_slashes text) is

pub right_list : (root : List (List ℕ)) (query : List (List ℕ × List ℕ)) (raw : Raw) → IsRootPath root → IsRight (list_of root query) (Fits raw)
unfolding list_of
right_list root query raw is =
    right_after IsInFilesystem (Fits raw) (directory_of root (first_value query (codes "directory")))
    (λ dir. after (flag_in (codes "recursive") query) (λ recursive. after (token_in (slice_get dir 0) query) (λ token.
    after (size_in (codes "maxResults") 5000 query) (λ max. Ok (op.List dir recursive token max)))))
    (right_directory root (first_value query (codes "directory")) is)
    (λ dir inside. right_after Any (Fits raw) (flag_in (codes "recursive") query)
    (λ recursive. after (token_in (slice_get dir 0) query) (λ token. after (size_in (codes "maxResults") 5000 query) (λ max. Ok (op.List dir recursive token max))))
    (right_flag (codes "recursive") query)
    (λ recursive _. right_after (IsTokenOn (slice_get dir 0)) (Fits raw) (token_in (slice_get dir 0) query)
    (λ token. after (size_in (codes "maxResults") 5000 query) (λ max. Ok (op.List dir recursive token max))) (right_token (slice_get dir 0) query)
    (λ token on. right_after (IsSize 5000) (Fits raw) (size_in (codes "maxResults") 5000 query) (λ max. Ok (op.List dir recursive token max))
    (right_size (codes "maxResults") 5000 query (lit≤ tt))
    (λ max size. record { operation = (inside, size, own_tokens dir token inside.parts on); id = λ given _. tt }))))
