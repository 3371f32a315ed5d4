-- What the row of a rename asks is sound.
use Rattle.std.proofs.Common.{◌≡◌, ◌≢◌, ℕ, Bool, true, false, cond, List, [], ◌∷◌, length, take, Result, Ok, Err, refl, ap, ◌∙◌}
use Rattle.std.specs.Prelude.{◌&&◌, ◌||◌, nat_le, bytes_eq, codes}
use Rattle.std.proofs.lemmas.Bool.{false≢true}
use Rattle.std.proofs.lemmas.Slice.Eq.{bytes_eq-Decides}
use Rattle.http_front.specs.declared.raw.Raw.{Raw}
use Rattle.path_text.specs.Paths.{is_prefix}
use Rattle.path_text.specs.Queries.{first_value}
use Rattle.path_text.specs.Targets.{path_piece, target_parts}
use Rattle.path_text.specs.declared.fault.TargetStop.{TargetStop}
use Rattle.path_text.proofs.TargetLemmas.{target_is_spelled}
use Rattle.namespace_model.specs.Sound.{IsBelowRoot}
use Rattle.namespace_model.specs.declared.code.Code.{Code}
use Rattle.namespace_model.specs.declared.code.Code.TheVariants as code
use Rattle.namespace_model.specs.declared.op.Op.TheVariants as op
use Rattle.op_decode.specs.HeaderValues.{props_in}
use Rattle.op_decode.specs.Headers.{header, is_other_text}
use Rattle.op_decode.specs.Orders.{after}
use Rattle.op_decode.specs.Renames.{are_together, no_source_condition, has_source_condition, not_below, posix_mode, rename_of, source_in, source_named, source_within, with_slash}
use Rattle.op_decode.proofs.ReaderLemmas.{Any, IsGiven, IsRight, at_least, both, chosen, exactly, right_after, right_needed, right_props}
use Rattle.op_decode.proofs.Fits.{Fits}

-- a source in the filesystem of the destination
record IsSource (path source : List (List ℕ)) : Type 0 where
  below : IsBelowRoot source
  filesystem : take 1 source ≡ take 1 path

together_is : (source path : List (List ℕ)) → are_together source path ≡ true → take 1 source ≡ take 1 path
together_is [] path e = absurd (false≢true e)
together_is (fs ∷ names) [] e = absurd (false≢true e)
together_is (fs ∷ names) (own ∷ others) e = ap (λ (f : List ℕ). f ∷ []) ((bytes_eq-Decides fs own).0 e)

right_source_within : (path : List (List ℕ)) (target : List ℕ) (r : Result (List (List ℕ) × List (List ℕ × List ℕ)) TargetStop) → target_parts target ≡ r
    → IsRight (source_within path r) (IsSource path)
right_source_within path target (Err stop) e = refl
right_source_within path target (Ok read) e =
    chosen (λ (r : Result (List (List ℕ)) Code). IsRight r (IsSource path)) (nat_le 2 (length read.0) && are_together read.0 path) (Ok read.0)
    (Err code.InvalidSourceUri)
    (λ tests. let cut = both (nat_le 2 (length read.0)) (are_together read.0 path) tests in
    record {
      below = record { limits = (target_is_spelled target read.0 read.1 e).path_part.limits; parts = at_least 2 (length read.0) cut.0 };
      filesystem = together_is read.0 path cut.1;
    })
    refl

right_source_named : (path : List (List ℕ)) (text : List ℕ) → IsRight (source_named path text) (IsSource path)
unfolding source_named
right_source_named path text = right_source_within path (with_slash (path_piece text)) (target_parts (with_slash (path_piece text))) refl

right_source : (path : List (List ℕ)) (raw : Raw) → IsRight (source_in path raw) (IsSource path)
unfolding source_in
right_source path raw =
    right_needed (IsSource path) code.MissingRequiredHeader (source_named path) (header (codes "x-ms-rename-source") raw) refl (right_source_named path)

right_mode : (query : List (List ℕ × List ℕ)) → IsRight (posix_mode query) Any
unfolding posix_mode
right_mode query =
    chosen (λ (r : Result Unit Code). IsRight r Any) (is_other_text (codes "posix") (first_value query (codes "mode"))) (Err code.InvalidQueryParameterValue) (Ok tt)
    (λ _. refl) tt

right_no_condition : (raw : Raw) → IsRight (no_source_condition raw) Any
unfolding no_source_condition
right_no_condition raw = chosen (λ (r : Result Unit Code). IsRight r Any) (has_source_condition raw) (Err code.UnsupportedHeader) (Ok tt) (λ _. refl) tt

right_not_below : (source path : List (List ℕ)) → IsRight (not_below source path) (λ _. is_prefix source path ≡ false)
right_not_below source path =
    elim (is_prefix source path) as (λ b. is_prefix source path ≡ b
    → IsRight (cond b (Err code.InvalidRenameSourcePath) (Ok tt)) (λ (u : Unit). is_prefix source path ≡ false)) [
      | true ↦ λ _. refl
      | false ↦ λ e. e
    ] refl

pub right_rename : (path : List (List ℕ)) (query : List (List ℕ × List ℕ)) (raw : Raw) → IsBelowRoot path → IsRight (rename_of path query raw) (Fits raw)
unfolding rename_of
right_rename path query raw below =
    let last = λ (source : List (List ℕ)). after (props_in raw) (λ props. Ok (op.Rename path source props)) in
    right_after Any (Fits raw) (posix_mode query)
    (λ mode. after (source_in path raw) (λ source. after (no_source_condition raw) (λ none. after (not_below source path) (λ apart. last source))))
    (right_mode query)
    (λ mode _. right_after (IsSource path) (Fits raw) (source_in path raw)
    (λ source. after (no_source_condition raw) (λ none. after (not_below source path) (λ apart. last source))) (right_source path raw)
    (λ source is. right_after Any (Fits raw) (no_source_condition raw) (λ none. after (not_below source path) (λ apart. last source)) (right_no_condition raw)
    (λ none _. right_after (λ _. is_prefix source path ≡ false) (Fits raw) (not_below source path) (λ apart. last source) (right_not_below source path)
    (λ _ apart. right_after (IsGiven Any (header (codes "x-ms-properties") raw)) (Fits raw) (props_in raw) (λ props. Ok (op.Rename path source props))
    (right_props raw)
    (λ props _. record { operation = (below, is.below, record { filesystem = is.filesystem; apart = apart }); id = λ given _. tt })))))
