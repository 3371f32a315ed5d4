use Rattle.std.proofs.Common.{sym, ap, ◌∙◌}
use Rattle.path_text.specs.Names.{are_parts}
use Rattle.path_text.specs.Texts.{split_parts}
use Rattle.path_text.proofs.GrammarLemmas.{text_of_path}
use Rattle.path_text.proofs.plain.path_of_text.Goals as goal

pub path_between-requires : goal.path_between-requires
path_between-requires c =
    ap (λ r. are_parts (split_parts r)) c.inner.ensures ∙ (text_of_path c.args.text.now (sym c.text_fault.ensures ∙ c.in_default.is)).0.parts
