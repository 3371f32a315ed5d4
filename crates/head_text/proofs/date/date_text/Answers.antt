use Rattle.std.proofs.Common.{ap, ◌∙◌}
use Rattle.head_text.specs.DateText.{http_date}
use Rattle.head_text.proofs.Dates.{date_text-http_date}
use Rattle.head_text.proofs.date.date_text.Goals as goal

pub returns : goal.returns
returns c =
    let value = c.in-Ok.ensures.value in
    c.to_bytes.ensures ∙ date_text-http_date c.in-Ok.date (rw value c.requires) ∙ ap http_date value
