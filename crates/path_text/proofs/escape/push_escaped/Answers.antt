use Rattle.std.proofs.Common.{◌≡◌, ℕ, List, ◌++◌, OnOk, subst, ◌∙◌}
use Rattle.std.specs.String.{string_bytes}
use Rattle.path_text.proofs.EscapeLemmas.{escaped-is}
use Rattle.path_text.proofs.escape.push_escaped.Goals as goal

pub returns : goal.returns
returns c =
    subst (λ (x : List ℕ). OnOk c.append_to.result (string_bytes c.append_to.new.out ≡ string_bytes c.args.text.now ++ x)) (c.percent_encode.ensures.text ∙ escaped-is c.args.part.now) c.append_to.ensures.ok
