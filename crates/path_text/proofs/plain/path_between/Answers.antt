use Rattle.std.proofs.Common.{sym, ap, ◌∙◌, length, arith}
use Rattle.std.specs.List.{slice_split}
use Rattle.std.proofs.lemmas.List.Splits.{length-slice_split}
use Rattle.path_text.specs.Names.{are_parts, is_slash}
use Rattle.path_text.proofs.GrammarLemmas.{split_there}
use Rattle.path_text.proofs.NameLemmas.{parts_are_names}
use Rattle.path_text.proofs.plain.path_between.Goals as goal

pub names_between-requires : goal.names_between-requires
names_between-requires c =
    parts_are_names (slice_split is_slash c.args.rest.now) (ap are_parts (sym (split_there c.args.rest.now (sym c.is_empty.ensures ∙ c.if-is_empty.false))) ∙ c.requires)

pub of_parts-requires-clause-some : goal.of_parts-requires-clause-some
of_parts-requires-clause-some c =
    let parts = length-slice_split is_slash c.args.rest.now in
    let names = c.in_ok-names_between.field-0 in
    omega (arith, ap length c.in_ok-names_between.ensures, names.ok.0)

pub of_parts-requires-clause-parts : goal.of_parts-requires-clause-parts
of_parts-requires-clause-parts c =
    ap are_parts (c.in_ok-names_between.ensures ∙ sym (split_there c.args.rest.now (sym c.is_empty.ensures ∙ c.if-is_empty.false))) ∙ c.requires
