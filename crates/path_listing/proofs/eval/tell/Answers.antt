use Rattle.path_listing.proofs.ListAnswers.{way_there, dates_there, page_answer}
use Rattle.path_listing.proofs.eval.tell.Goals as goal

pub page_reply-requires-clause-way : goal.page_reply-requires-clause-way
page_reply-requires-clause-way g c =
    way_there (g.V.View.held c.args.view.now) (g.V.View.shown c.args.view.now) c.args.call.now.path.now c.args.wanted.now.recursive c.args.wanted.now.token.now c.args.wanted.now.max c.args.page c.requires.page c.stands.ensures

pub page_reply-requires-clause-timely : goal.page_reply-requires-clause-timely
page_reply-requires-clause-timely g c =
    dates_there c.args.call.now c.requires.call c.args.wanted.now c.requires.operation (g.V.View.held c.args.view.now) (g.V.View.shown c.args.view.now) c.args.dir c.requires.directory c.requires.passed c.args.page c.requires.page
    c.stands.ensures

pub returns : goal.returns
returns g c =
    page_answer c.args.call.now c.requires.call c.args.wanted.now c.requires.operation (g.V.View.held c.args.view.now) (g.V.View.shown c.args.view.now) c.args.dir c.requires.directory c.requires.passed c.args.page c.requires.page
    c.in_ok-reads.reads.items c.in_ok-reads.ensures c.in_ok-reply.reply _ c.in_ok-reply.ensures c.in_ok-answered.ensures
