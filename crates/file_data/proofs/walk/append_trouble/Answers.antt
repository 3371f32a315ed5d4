use Rattle.std.proofs.Common.{ℕ, ◌≡◌, List, None, Some, ap, sym, ◌∙◌}
use Rattle.file_data.specs.declared.fault.DataFault.{DataFault}
use Rattle.file_data.specs.Staging.{pieces_below, first_trouble}
use Rattle.file_data.proofs.AppendLemmas.{met_none, met_fault}
use Rattle.file_data.proofs.walk.append_trouble.Goals as goal

pub returns-in-None : goal.returns-in-None
returns-in-None c = λ bytes same.
    let none : first_trouble (pieces_below c.args.pieces.now c.args.position) c.args.from c.args.position ≡ None =
    ap (λ (ps : List (ℕ × List ℕ)). first_trouble ps c.args.from c.args.position) (sym c.count_below-count.ensures.front) ∙ sym c.trouble.ensures.met ∙ c.in-None.is in
    c.first_inside.ensures ∙ sym (met_none c.args.pieces.now c.args.from c.args.position c.args.len bytes c.requires.filled same none)

pub returns-in-Some : goal.returns-in-Some
returns-in-Some c = λ bytes same.
    let some : first_trouble (pieces_below c.args.pieces.now c.args.position) c.args.from c.args.position ≡ Some c.in-Some.fault =
    ap (λ (ps : List (ℕ × List ℕ)). first_trouble ps c.args.from c.args.position) (sym c.count_below-count.ensures.front) ∙ sym c.trouble.ensures.met ∙ c.in-Some.is in
    ap (λ (y : DataFault). Some y) c.at_piece.ensures
    ∙ sym (met_fault c.args.pieces.now c.args.from c.args.position c.args.len bytes c.in-Some.fault c.requires.filled some)
