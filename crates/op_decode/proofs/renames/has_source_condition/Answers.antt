use Rattle.std.proofs.Common.{ℕ, Bool, List, ap, ◌∙◌}
use Rattle.std.specs.Prelude.{codes}
use Rattle.std.specs.List.{list_any}
use Rattle.head_text.specs.Headers.{header_of}
use Rattle.op_decode.specs.Renames.{begins_with, has_source_condition}
use Rattle.op_decode.proofs.NameLemmas.{any_seen}
use Rattle.op_decode.proofs.renames.has_source_condition.Goals as goal

pub returns : goal.returns
unfolding has_source_condition
returns c =
    let test : List ℕ × List ℕ → Bool = begins_with (codes "x-ms-source-if-") in
    c.any_begins_with.ensures ∙ any_seen test header_of c.pairs.result.now
    ∙ ap (λ (headers : List (List ℕ × List ℕ)). list_any test headers) c.pairs.ensures
