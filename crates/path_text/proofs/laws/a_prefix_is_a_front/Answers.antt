use Rattle.std.proofs.Common.{drop, length, refl}
use Rattle.std.proofs.lemmas.Slice.Eq.{bytes_eq-Decides, starts_is}
use Rattle.path_text.specs.Paths.{is_prefix}
use Rattle.path_text.proofs.laws.a_prefix_is_a_front.Goals as goal

pub returns : goal.returns
returns c = λ path other.
    let starts = starts_is bytes_eq-Decides other path (is_prefix path other) refl in
    (λ e. (drop (length path) other, starts.0 e), λ h. starts.1 h.0 h.1)
