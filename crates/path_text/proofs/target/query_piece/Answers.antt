use Rattle.std.proofs.Common.{◌+◌, drop, Some, option_map, ap, sym, ◌∙◌}
use Rattle.path_text.proofs.PlaceLemmas.{rest_is}
use Rattle.path_text.proofs.target.query_piece.Goals as goal

pub returns-in-Some : goal.returns-in-Some
returns-in-Some c =
    ap (λ x. Some x) (rest_is c.args.target.now (c.in-Some.at + 1))
    ∙ sym (ap (option_map (λ at. drop (at + 1) c.args.target.now)) (sym c.place_of.ensures ∙ c.in-Some.is))
