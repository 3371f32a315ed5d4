use Rattle.std.proofs.Common.{◌≡◌, sym, ap, subst, ◌∙◌, arith, refl}
use Rattle.commit_journal.specs.declared.limits.TheConstants.{JOURNAL_MOST}
use Rattle.striped_store.specs.Views.{FindsOneJournal}
use Rattle.parted_namespace.specs.Namespace.{namespace}
use Rattle.reply_marks.specs.declared.tally.Tally.{Tally}
use Rattle.reply_marks.specs.Tallies.{one_more}
use Rattle.conn_workers.specs.Counted.{Counted}
use Rattle.conn_workers.proofs.DeskLemmas.{few_ok, few_refused, few_denied, tally_answered, tally_refused}
use Rattle.conn_workers.proofs.counted.CountedPass.submit.Goals as goal

pub count-requires-clause-ok : goal.count-requires-clause-ok
count-requires-clause-ok g c =
    let most : JOURNAL_MOST ≡ 4194304 = refl in
    let few = few_ok c.self.inside.pass c.self.inside.tally JOURNAL_MOST c.self.invariant.tally_is c.number-few.ensures.seen in
    omega (arith, most, few)

pub count-requires-clause-refused : goal.count-requires-clause-refused
count-requires-clause-refused g c =
    let most : JOURNAL_MOST ≡ 4194304 = refl in
    let few = few_refused c.self.inside.pass c.self.inside.tally JOURNAL_MOST c.self.invariant.tally_is c.number-few.ensures.seen in
    omega (arith, most, few)

pub count-requires-clause-denied : goal.count-requires-clause-denied
count-requires-clause-denied g c =
    let most : JOURNAL_MOST ≡ 4194304 = refl in
    let few = few_denied c.self.inside.pass c.self.inside.tally JOURNAL_MOST c.self.invariant.tally_is c.number-few.ensures.seen in
    omega (arith, most, few)

pub invariant_of-self : goal.invariant_of-self
invariant_of-self g c =
    let found : FindsOneJournal namespace c.self.inside.pass = subst (λ (v : Counted _). FindsOneJournal namespace v.pass) (sym c.self.view_is) c.requires.found in
    record {
      tally_is =
          c.count.ensures ∙ ap (λ (t : Tally). one_more t c.in-Ok.answer.mark) c.self.invariant.tally_is
          ∙ tally_answered c.self.inside.pass c.submit.new.pass (g.C.Clock.ahead c.args.clock.now) c.args.asked c.in-Ok.answer c.in-Ok.ensures.again found c.in-Ok.ensures.found c.in-Ok.ensures.ok;
      own = c.in-Ok.ensures.found.mine_of_seen;
    }

pub invariant_of-self-in-Err : goal.invariant_of-self-in-Err
invariant_of-self-in-Err g c =
    let found : FindsOneJournal namespace c.self.inside.pass = subst (λ (v : Counted _). FindsOneJournal namespace v.pass) (sym c.self.view_is) c.requires.found in
    record {
      tally_is = c.self.invariant.tally_is ∙ tally_refused c.self.inside.pass c.submit.new.pass c.in-Err.ensures.again found c.in-Err.ensures.found c.in-Err.ensures.refused;
      own = c.in-Err.ensures.found.mine_of_seen;
    }
