use Rattle.std.proofs.Common.{◌++◌, ◌∷◌, sym, ap, ◌∙◌}
use Rattle.std.specs.List.{flat_map, join_with_byte}
use Rattle.body_text.proofs.NameLemmas.{joined_is}
use Rattle.body_text.proofs.words.joined.Goals as goal

pub returns : goal.returns
returns c =
    c.in_ok-push_names.ensures ∙ ap (λ t. t ++ flat_map (λ name. 47 ∷ name) c.in-Some.rest.now) (c.in_ok-text.ensures.ok ∙ c.as_str.ensures)
    ∙ sym (joined_is c.in-Some.first.now c.in-Some.rest.now) ∙ ap (join_with_byte 47) (sym c.in-Some.ensures.cases.0)
