use Rattle.std.proofs.Common.{◌≡◌, ◌++◌, ◌∷◌, IfOk, string_bytes, sym, ap, subst, ◌∙◌}
use Rattle.std.specs.List.{flat_map, join_with_byte}
use Rattle.body_text.proofs.NameLemmas.{both_are, none_before}
use Rattle.body_text.proofs.words.joined_both.Goals as goal

pub returns-then-is_empty : goal.returns-then-is_empty
returns-then-is_empty c =
    subst (λ names. IfOk c.joined.result (λ text. string_bytes text ≡ join_with_byte 47 names))
    (sym (none_before c.args.front.now c.args.back.now (sym c.is_empty.ensures ∙ c.if-is_empty.true))) c.joined.ensures

pub returns : goal.returns
returns c =
    c.in_ok-push_names.ensures ∙ ap (λ t. t ++ flat_map (λ name. 47 ∷ name) c.args.back.now) c.in_ok-text.ensures
    ∙ sym (both_are c.args.front.now c.args.back.now (sym c.is_empty.ensures ∙ c.if-is_empty.false))
