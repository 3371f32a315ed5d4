use Rattle.std.proofs.Common.{◌≡◌, ◌+◌, ◌++◌, codes, length, ap, append_assoc, refl, rules, ◌∙◌}
use Rattle.reply_text.specs.Lines.{line, status_line, moment_text}
use Rattle.reply_text.specs.ReplyText.{start_lines}
use Rattle.reply_text.proofs.FieldLemmas.{spells_start}
use Rattle.reply_text.proofs.reply.begun.Goals as goal

pub returns-clause-spelled : goal.returns-clause-spelled
unfolding start_lines
returns-clause-spelled c =
    let at : c.len-at.result ≡ length c.put_line.new.out.items = search rules in
    let before : c.put_line.new.out.items ≡ c.args.out.now.items ++ (status_line c.args.status ++ line (codes "Date") (moment_text c.args.moment)) =
    rw (c.in_ok-put_line.ensures.text, c.in_ok-put_status_line.ensures.text, c.moment_text.ensures) (simp append_assoc refl) in
    let zeros : c.put_version_line.new.out.items ≡ c.args.out.now.items ++ start_lines c.args.status c.args.moment 0 =
    rw (c.in_ok-put_version_line.ensures.text, c.in_ok-put_open_number_line.ensures.text, before) (simp append_assoc refl) in
    rw zeros (spells_start c.args.out.now.items c.args.status c.args.moment (c.len-at.result + 17) (ap (λ n. n + 17) (at ∙ ap length before)))
