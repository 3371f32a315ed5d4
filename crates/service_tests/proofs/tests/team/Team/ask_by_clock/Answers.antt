use Rattle.std.proofs.Common.{sym, subst}
use Rattle.service_tests.specs.declared.tests.team.Team.TheInside.{Inside}
use Rattle.service_tests.specs.Teams.{IsTeam}
use Rattle.service_tests.proofs.TeamLemmas.{again, at_place, used_one}
use Rattle.service_tests.proofs.tests.team.Team.ask_by_clock.Goals as goal
use Rattle.service_tests.proofs.tests.team.Team.ask_by_clock.Goals.{in-Some, in-None}

pub ask-requires-clause-own : goal.ask-requires-clause-own
ask-requires-clause-own g c =
    let item = c.in-Some.ensures.item in
    (c.self.invariant.idle c.args.by c.in-Some.pass.now (at_place _ _ _ item.3.0 item.1)).own

pub ask-requires-clause-nothing : goal.ask-requires-clause-nothing
ask-requires-clause-nothing g c =
    let item = c.in-Some.ensures.item in
    (c.self.invariant.idle c.args.by c.in-Some.pass.now (at_place _ _ _ item.3.0 item.1)).nothing

pub invariant_of-self : goal.invariant_of-self
invariant_of-self g c = elim c.match-get_mut.branch [
  | in-Some w ↦
      let item = w.in-Some.ensures.item in
      let at = at_place c.self.inside.passes.items c.args.by w.in-Some.pass.now item.3.0 item.1 in
      subst (λ (s : Inside g.row.K.Denot). IsTeam s.service s.passes.items) (sym w.self-inside-is)
      (used_one _ _ c.args.by w.in-Some.pass.now _ c.self.invariant at (again _ _ _ _ (c.self.invariant.idle _ _ at) w.ask.ensures.again w.ask.ensures.nothing))
  | in-None w ↦ subst (λ (s : Inside g.row.K.Denot). IsTeam s.service s.passes.items) (sym w.self-inside-is) c.self.invariant
]
