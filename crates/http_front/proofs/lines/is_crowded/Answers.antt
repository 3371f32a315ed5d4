use Rattle.std.proofs.lemmas.Bool.{false≢true}
use Rattle.http_front.proofs.LineLemmas.{Crowded-from_lines, crowded_begins_text, not_crowded-by_fewer}
use Rattle.http_front.proofs.lines.is_crowded.Goals as goal

pub returns-in-Some : goal.returns-in-Some
returns-in-Some c =
    let blank = c.after_empty_lines.ensures in (
      λ begins. Crowded-from_lines c.args.bytes.now _ _ blank.skipped c.in-Some.ensures (c.begins_text.ensures.0 begins),
      λ crowded. c.begins_text.ensures.1 (crowded_begins_text c.args.bytes.now _ _ blank.skipped blank.all c.in-Some.ensures crowded),
    )

pub returns-in-None : goal.returns-in-None
returns-in-None c =
    let blank = c.after_empty_lines.ensures in
    (λ no. absurd (false≢true no), λ crowded. absurd (not_crowded-by_fewer c.args.bytes.now _ blank.skipped blank.all c.in-None.ensures crowded))
