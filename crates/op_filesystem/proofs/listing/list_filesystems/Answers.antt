use Rattle.std.proofs.Common.{[], Err, option_map, refl, ap, sym, subst, ◌∙◌}
use Rattle.path_walk.proofs.CallAnswers.{stopped_by}
use Rattle.path_walk.proofs.CallLemmas.{on_both}
use Rattle.op_filesystem.specs.Listed.{IsListed, NeedsListed}
use Rattle.op_filesystem.proofs.ListingLemmas.{behind_account, asks_first, some_page, at_account, account_needed, page_needed, page_answer}
use Rattle.op_filesystem.proofs.SuperuserLemmas.{denied_answer}
use Rattle.op_filesystem.proofs.listing.list_filesystems.Goals as goal

pub returns-in-Some-clause-evaluated : goal.returns-in-Some-clause-evaluated
returns-in-Some-clause-evaluated g c =
    denied_answer c.args.call.now c.requires.call (λ t e. behind_account t c.args.prefix.now c.args.token.now c.args.max)
    (asks_first c.args.call.now c.requires.call c.args.prefix.now c.args.token.now c.args.max c.requires.operation) (g.V.View.held c.args.view.now) (g.V.View.shown c.args.view.now) c.in-Some.reply _ _
    (sym c.in_ok-reply.ensures ∙ c.in-Some.is) c.new.ensures.items c.in_ok-answered.ensures

pub look-requires : goal.look-requires
look-requires g c = record { known = λ parts t stands agrees. stands.found [] 0 refl }

pub returns-in-Err-clause-evaluated : goal.returns-in-Err-clause-evaluated
returns-in-Err-clause-evaluated g c =
    stopped_by (g.V.View.held c.look.new.view) (g.V.View.shown c.look.new.view) c.args.call.now c.in-Err.stop (λ n e.
    account_needed c.args.call.now c.requires.call c.args.prefix.now c.args.token.now c.args.max c.requires.operation (sym c.in_ok-reply.ensures ∙ c.in_default.is)
    (g.V.View.held c.look.new.view) (g.V.View.shown c.look.new.view) n (c.in-Err.ensures.need n (ap Err e)))

pub list-requires : goal.list-requires
list-requires g c = record {
  account = record { looks = c.in-Ok.ensures.looks; looked = c.in-Ok.ensures.held };
  some = some_page c.args.call.now c.requires.call c.args.prefix.now c.args.token.now c.args.max c.requires.operation;
}

pub told-requires : goal.told-requires
told-requires g c = record {
  account = at_account c.args.call.now c.requires.call c.args.prefix.now c.args.token.now c.args.max c.requires.operation;
  next = c.in-Ok-list.ensures.listed.next;
}

pub returns-in-Ok-list-clause-on : goal.returns-in-Ok-list-clause-on
returns-in-Ok-list-clause-on g c = on_both c.look.ensures.on c.list.ensures.on

pub returns-in-Ok-list-clause-evaluated : goal.returns-in-Ok-list-clause-evaluated
returns-in-Ok-list-clause-evaluated g c =
    page_answer c.args.call.now c.requires.call c.args.prefix.now c.args.token.now c.args.max c.requires.operation (sym c.in_ok-reply.ensures ∙ c.in_default.is)
    (g.V.View.held c.list.new.view) (g.V.View.shown c.list.new.view) c.in-Ok-list.page _
    (subst (λ f. IsListed (g.V.View.held c.list.new.view) (g.V.View.shown c.list.new.view) c.args.prefix.now f c.args.max c.in-Ok-list.page) c.first_name.ensures
    (subst (λ b. IsListed (g.V.View.held c.list.new.view) (g.V.View.shown c.list.new.view) b (option_map (λ n. n.now) c.first_name.result) c.args.max c.in-Ok-list.page) c.bytes.ensures c.in-Ok-list.ensures.listed))
    c.in_ok-told-in-Ok-list.ensures

pub returns-clause-evaluated : goal.returns-clause-evaluated
returns-clause-evaluated g c =
    stopped_by (g.V.View.held c.list.new.view) (g.V.View.shown c.list.new.view) c.args.call.now c.in-Err-list.stop (λ n e.
    page_needed c.args.call.now c.requires.call c.args.prefix.now c.args.token.now c.args.max c.requires.operation (sym c.in_ok-reply.ensures ∙ c.in_default.is)
    (g.V.View.held c.list.new.view) (g.V.View.shown c.list.new.view) n
    (subst (λ f. NeedsListed (g.V.View.held c.list.new.view) (g.V.View.shown c.list.new.view) c.args.prefix.now f c.args.max n) c.first_name.ensures
    (subst (λ b. NeedsListed (g.V.View.held c.list.new.view) (g.V.View.shown c.list.new.view) b (option_map (λ n. n.now) c.first_name.result) c.args.max n) c.bytes.ensures
    (c.in-Err-list.ensures.need n (ap Err e)))))
