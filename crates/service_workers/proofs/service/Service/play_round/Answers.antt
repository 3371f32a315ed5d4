use Rattle.std.proofs.Common.{length}
use Rattle.serving.proofs.AloneLemmas.{foretold-once}
use Rattle.service_workers.proofs.RoundEndLemmas.{commits_from, let_go, no_memory}
use Rattle.service_workers.proofs.service.Service.play_round.Goals as goal

pub returns-in-Ok-answer_draft-clause-ended : goal.returns-in-Ok-answer_draft-clause-ended
returns-in-Ok-answer_draft-clause-ended g c = record {
  nothing = c.in-Ok-answer_draft.ensures.nothing;
  within = c.in-Ok-answer_draft.ensures.within;
  last = c.in-Ok-answer_draft.ensures.wide;
  moment = c.now-moment.result;
  foretold = foretold-once (g.C.Clock.ahead c.args.clock.now) (g.C.Clock.ahead c.now-moment.new.self) c.now-moment.result c.now-moment.ensures.told;
  in_range = c.now-moment.ensures.range;
  commits = commits_from c.args.pass.now c.evaluate.new.pass c.answer_draft.new.pass c.evaluate.ensures.holding _ _ c.in-Ok-answer_draft.ensures.ok;
}

pub returns-in-Err-NoMemory-clause-ended : goal.returns-in-Err-NoMemory-clause-ended
returns-in-Err-NoMemory-clause-ended g c = record {
  nothing = c.finish.ensures.nothing;
  refused = let_go c.args.pass.now c.evaluate.new.pass c.finish.new.pass c.evaluate.ensures.holding c.finish.ensures.seen c.finish.ensures.mine c.finish.ensures.last;
  caused = no_memory c.args.pass.now c.finish.new.pass (length c.args.asked.request.body);
}
