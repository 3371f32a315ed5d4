use Rattle.std.proofs.Common.{Err, sym, ap, ◌∙◌}
use Rattle.path_walk.proofs.CallAnswers.{stopped_by}
use Rattle.path_walk.proofs.Truths.{is_none}
use Rattle.path_listing.proofs.ListAnswers.{dir_at, refused_answer, page_needed, directory_later}
use Rattle.path_listing.proofs.eval.list_node.Goals as goal

pub returns-in-Some-clause-evaluated : goal.returns-in-Some-clause-evaluated
returns-in-Some-clause-evaluated g c =
    refused_answer c.args.call.now c.requires.call c.args.wanted.now c.requires.operation (g.V.View.held c.args.view.now) (g.V.View.shown c.args.view.now) c.args.dir c.requires.directory c.in-Some.reply _
    (sym c.in_ok-reply.ensures ∙ c.in-Some.is) c.in_ok-answered.ensures

pub read_page-requires-clause-root : goal.read_page-requires-clause-root
read_page-requires-clause-root g c =
    dir_at c.args.call.now c.requires.call c.args.wanted.now c.requires.operation (g.V.View.held c.args.view.now) (g.V.View.shown c.args.view.now) c.args.dir c.requires.directory

pub tell-requires-clause-directory : goal.tell-requires-clause-directory
tell-requires-clause-directory g c = directory_later c.read_page.ensures.on c.args.call.now c.args.dir c.requires.directory

pub tell-requires-clause-passed : goal.tell-requires-clause-passed
tell-requires-clause-passed g c = sym c.in_ok-reply.ensures ∙ is_none _ c.in_default.not-Some

pub returns-in-Err-clause-evaluated : goal.returns-in-Err-clause-evaluated
returns-in-Err-clause-evaluated g c =
    stopped_by (g.V.View.held c.read_page.new.view) (g.V.View.shown c.read_page.new.view) c.args.call.now c.in-Err.stop (λ n e.
    page_needed c.args.call.now c.requires.call c.args.wanted.now c.requires.operation (g.V.View.held c.read_page.new.view) (g.V.View.shown c.read_page.new.view) c.args.dir
    (directory_later c.read_page.ensures.on c.args.call.now c.args.dir c.requires.directory) (sym c.in_ok-reply.ensures ∙ is_none _ c.in_default.not-Some) n (c.in-Err.ensures.need n (ap Err e)))
