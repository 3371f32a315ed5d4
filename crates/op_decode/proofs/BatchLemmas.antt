-- What the row of a batch asks is sound.
use Rattle.std.proofs.Common.{ℕ, ◌≤◌, List, Result, Ok, Err, lit≤, refl}
use Rattle.std.specs.Prelude.{bytes_eq, codes, slice_get}
use Rattle.acl_text.specs.AclTexts.{remove_list_of}
use Rattle.http_front.specs.declared.raw.Raw.{Raw}
use Rattle.path_text.specs.Queries.{first_value}
use Rattle.namespace_model.specs.Sound.{CanBeSet, IsBatchChange, IsInFilesystem, IsSize}
use Rattle.namespace_model.specs.declared.code.Code.{Code}
use Rattle.namespace_model.specs.declared.code.Code.TheVariants as code
use Rattle.namespace_model.specs.declared.op.BatchChange.TheVariants as change
use Rattle.namespace_model.specs.declared.op.Op.TheVariants as op
use Rattle.op_decode.specs.declared.batches.Mode.{Mode}
use Rattle.op_decode.specs.declared.batches.Mode.TheVariants as mode
use Rattle.op_decode.specs.declared.operation.Operation.TheVariants.{SetAccessRecursive}
use Rattle.op_decode.specs.AclTexts.{entries_of, or_bad_acl, whole_entries_of}
use Rattle.op_decode.specs.Batches.{change_in, change_named, mode_in, mode_named, set_access_recursive_of}
use Rattle.op_decode.specs.Headers.{header}
use Rattle.op_decode.specs.Orders.{after}
use Rattle.op_decode.specs.Parameters.{flag_in, size_in, token_in}
use Rattle.op_decode.proofs.ReaderLemmas.{Any, IsRight, IsTokenOn, chosen, right_after, right_entries, right_flag, right_items, right_needed, right_size, right_token, right_whole_entries}
use Rattle.op_decode.proofs.Fits.{Fits}
use Rattle.op_decode.proofs.ListingLemmas.{own_tokens}

right_change_named : (asked : Mode) (text : List ℕ) → IsRight (change_named asked text) IsBatchChange
unfolding change_named
right_change_named mode.Set text =
    right_after CanBeSet IsBatchChange (whole_entries_of text) (λ list. Ok (change.Set list)) (right_whole_entries text) (λ list h. h)
right_change_named mode.Modify text =
    right_after _ IsBatchChange (entries_of text) (λ list. Ok (change.Modify list)) (right_entries text) (λ list h. h)
right_change_named mode.Remove text =
    right_after _ IsBatchChange (or_bad_acl (remove_list_of text)) (λ list. Ok (change.Remove list)) (right_items text) (λ list h. h)

right_change : (asked : Mode) (raw : Raw) → IsRight (change_in asked raw) IsBatchChange
unfolding change_in
right_change asked raw =
    right_needed IsBatchChange code.MissingRequiredHeader (change_named asked) (header (codes "x-ms-acl") raw) refl (right_change_named asked)

right_mode_named : (text : List ℕ) → IsRight (mode_named text) Any
right_mode_named text =
    let P : Result Mode Code → Type 0 = λ r. IsRight r Any in
    chosen P (bytes_eq text (codes "set")) (Ok mode.Set) _ (λ _. tt)
    (chosen P (bytes_eq text (codes "modify")) (Ok mode.Modify) _ (λ _. tt)
    (chosen P (bytes_eq text (codes "remove")) (Ok mode.Remove) (Err code.InvalidQueryParameterValue) (λ _. tt) refl))

right_mode_in : (query : List (List ℕ × List ℕ)) → IsRight (mode_in query) Any
unfolding mode_in
right_mode_in query = right_needed Any code.MissingRequiredQueryParameter mode_named (first_value query (codes "mode")) refl right_mode_named

pub right_batch : (path : List (List ℕ)) (query : List (List ℕ × List ℕ)) (raw : Raw) → IsInFilesystem path → IsRight (set_access_recursive_of path query raw) (Fits raw)
unfolding set_access_recursive_of
right_batch path query raw inside =
    right_after Any (Fits raw) (mode_in query)
    (λ asked. after (token_in (slice_get path 0) query) (λ token. after (size_in (codes "maxRecords") 2000 query) (λ max.
    after (flag_in (codes "forceFlag") query) (λ force. after (change_in asked raw) (λ change. Ok (op.SetAccessRecursive path change token max force))))))
    (right_mode_in query)
    (λ asked _. right_after (IsTokenOn (slice_get path 0)) (Fits raw) (token_in (slice_get path 0) query)
    (λ token. after (size_in (codes "maxRecords") 2000 query) (λ max. after (flag_in (codes "forceFlag") query) (λ force.
    after (change_in asked raw) (λ change. Ok (op.SetAccessRecursive path change token max force))))) (right_token (slice_get path 0) query)
    (λ token on. right_after (IsSize 2000) (Fits raw) (size_in (codes "maxRecords") 2000 query)
    (λ max. after (flag_in (codes "forceFlag") query) (λ force. after (change_in asked raw) (λ change. Ok (op.SetAccessRecursive path change token max force))))
    (right_size (codes "maxRecords") 2000 query (lit≤ tt))
    (λ max size. right_after Any (Fits raw) (flag_in (codes "forceFlag") query)
    (λ force. after (change_in asked raw) (λ change. Ok (op.SetAccessRecursive path change token max force))) (right_flag (codes "forceFlag") query)
    (λ force _. right_after IsBatchChange (Fits raw) (change_in asked raw) (λ change. Ok (op.SetAccessRecursive path change token max force))
    (right_change asked raw)
    (λ change is. record { operation = (inside, is, size, own_tokens path token inside.parts on); id = λ given _. tt })))))
