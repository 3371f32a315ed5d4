use Rattle.op_create.proofs.CreateLemmas.{refused_draft}
use Rattle.op_create.proofs.eval.finish.Goals as goal

pub returns-in_ok-answered-in-Some : goal.returns-in_ok-answered-in-Some
returns-in_ok-answered-in-Some g c =
    refused_draft c.args.call.now c.args.new.now c.requires.create _ _ c.args.refusal c.args.place c.in-Some.reply c.in_ok-answered-in-Some.field-0 c.requires.place c.in-Some.is c.in_ok-answered-in-Some.ensures
