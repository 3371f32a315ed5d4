use Rattle.std.proofs.Common.{◌≡◌, ◌<◌, ◌≤◌, ◌∷◌, [], ◌++◌, option_map, refl, ap, subst, ◌∙◌, arith}
use Rattle.inode_tree.specs.declared.draft.EvalStop.TheVariants as stop
use Rattle.path_walk.proofs.CallLemmas.{on_both, looked_later}
use Rattle.path_walk.proofs.StepLemmas.{same_error}
use Rattle.op_filesystem.specs.Listed.{IsNextNamed}
use Rattle.op_filesystem.proofs.ListedLemmas.{shown_later, none_listed, next_known, next_at, next_needed, one_listed, all_listed, more_listed}
use Rattle.op_filesystem.proofs.page.list.Goals as goal

pub loop-count-init : goal.loop-count-init
loop-count-init g c = record {
  on = record { held_same = refl; over_same = refl; grows = λ stripe part e. e };
  listing = none_listed (g.V.View.held c.args.view.now) (g.V.View.shown c.args.view.now) c.args.prefix.now (option_map (λ n. n.now) c.args.from) _ _
      (c.in_ok-push.ensures.items ∙ ap (λ l. l ++ record { 0 = 0 } ∷ []) c.new-reads.ensures.items) c.new-entries.ensures.items c.requires.account.looked;
}

pub look-requires : goal.look-requires
look-requires g c =
    let child = subst (λ o. IsNextNamed c.args.account.now c.args.prefix.now (option_map (λ n. n.now) c.loop-count.last) (option_map (λ c. (c.0.now, c.1.0)) o)) c.in-Some.is c.in_ok-found.ensures in
    record {
      known = next_known (g.V.View.shown c.loop-count.view) c.args.account.now
          (shown_later (g.V.View.shown c.args.view.now) (g.V.View.shown c.loop-count.view) 0 c.args.account.now c.loop-count.invariant.on.grows c.requires.account.looks)
          c.args.prefix.now (option_map (λ n. n.now) c.loop-count.last) c.in-Some.name.now c.in-Some.id child;
    }

pub returns-in-Err-clause-on : goal.returns-in-Err-clause-on
returns-in-Err-clause-on g c = on_both c.loop-count.invariant.on c.look.ensures.on

pub returns-in-Err-clause-need : goal.returns-in-Err-clause-need
returns-in-Err-clause-need g c = λ n e.
    let child = subst (λ o. IsNextNamed c.args.account.now c.args.prefix.now (option_map (λ n. n.now) c.loop-count.last) (option_map (λ c. (c.0.now, c.1.0)) o)) c.in-Some.is c.in_ok-found.ensures in
    next_needed (g.V.View.shown c.loop-count.view) c.args.account.now
    (shown_later (g.V.View.shown c.args.view.now) (g.V.View.shown c.loop-count.view) 0 c.args.account.now c.loop-count.invariant.on.grows c.requires.account.looks)
    c.args.prefix.now (option_map (λ n. n.now) c.loop-count.last) c.in-Some.name.now c.in-Some.id child (g.V.View.shown c.look.new.view) c.look.ensures.on.grows
    (option_map (λ n. n.now) c.args.from) c.loop-count._count c.args.max c.loop-count.reads.items c.loop-count.entries.items (g.V.View.held c.loop-count.view) (g.V.View.held c.look.new.view) c.look.ensures.on.held_same
    c.loop-count.invariant.listing n (let a = c.loop-count-test.true in let h : c.loop-count._count < c.args.max = omega arith in h)
    (c.in-Err.ensures.need n (same_error c.in-Err.stop (stop.Need n) e))

pub told-requires : goal.told-requires
told-requires g c =
    let child = subst (λ o. IsNextNamed c.args.account.now c.args.prefix.now (option_map (λ n. n.now) c.loop-count.last) (option_map (λ c. (c.0.now, c.1.0)) o)) c.in-Some.is c.in_ok-found.ensures in
    record {
      root = next_at (g.V.View.shown c.loop-count.view) c.args.account.now
          (shown_later (g.V.View.shown c.args.view.now) (g.V.View.shown c.loop-count.view) 0 c.args.account.now c.loop-count.invariant.on.grows c.requires.account.looks)
          c.args.prefix.now (option_map (λ n. n.now) c.loop-count.last) c.in-Some.name.now c.in-Some.id child (g.V.View.shown c.look.new.view) c.look.ensures.on.grows c.in-Ok.root c.in-Ok.ensures.looks;
    }

pub loop-count-preserved : goal.loop-count-preserved
loop-count-preserved g c =
    let child = subst (λ o. IsNextNamed c.args.account.now c.args.prefix.now (option_map (λ n. n.now) c.loop-count.last) (option_map (λ c. (c.0.now, c.1.0)) o)) c.in-Some.is c.in_ok-found.ensures in
    record {
      on = on_both c.loop-count.invariant.on c.look.ensures.on;
      listing = one_listed (g.V.View.shown c.loop-count.view) c.args.account.now
          (shown_later (g.V.View.shown c.args.view.now) (g.V.View.shown c.loop-count.view) 0 c.args.account.now c.loop-count.invariant.on.grows c.requires.account.looks)
          c.args.prefix.now (option_map (λ n. n.now) c.loop-count.last) c.in-Some.name.now c.in-Some.id child (g.V.View.shown c.look.new.view) c.look.ensures.on.grows
          (option_map (λ n. n.now) c.args.from) c.loop-count._count c.args.max c.loop-count.reads.items c.loop-count.entries.items (g.V.View.held c.loop-count.view) (g.V.View.held c.look.new.view) c.look.ensures.on.held_same
          c.loop-count.invariant.listing c.in-Ok.root c.in-Ok.ensures.looks c.in-Ok.ensures.held
          (looked_later c.look.ensures.on c.loop-count.reads.items c.loop-count.invariant.listing.looked)
          c.in_ok-value-in-Some.value c.in_ok-value-in-Some.ensures.told c.in_ok-value-in-Some.ensures.named _ _ c.in_ok-push-in-Some.ensures.items c.in_ok-push-in-Some-2.ensures.items;
    }

pub returns-in-None-clause-listed : goal.returns-in-None-clause-listed
returns-in-None-clause-listed g c =
    all_listed (g.V.View.held c.loop-count.view) (g.V.View.shown c.loop-count.view) c.args.account.now
    (shown_later (g.V.View.shown c.args.view.now) (g.V.View.shown c.loop-count.view) 0 c.args.account.now c.loop-count.invariant.on.grows c.requires.account.looks)
    c.args.prefix.now (option_map (λ n. n.now) c.args.from) (option_map (λ n. n.now) c.loop-count.last) c.loop-count._count c.args.max c.loop-count.reads.items c.loop-count.entries.items
    c.loop-count.invariant.listing _ refl refl (let a = c.loop-count.auto._count-end in let h : c.loop-count._count ≤ c.args.max = omega arith in h)
    (subst (λ o. IsNextNamed c.args.account.now c.args.prefix.now (option_map (λ n. n.now) c.loop-count.last) (option_map (λ c. (c.0.now, c.1.0)) o)) c.in-None.is c.in_ok-found.ensures) refl

pub returns-in-Some-left-clause-listed : goal.returns-in-Some-left-clause-listed
returns-in-Some-left-clause-listed g c =
    more_listed (g.V.View.held c.loop-count.view) (g.V.View.shown c.loop-count.view) c.args.account.now
    (shown_later (g.V.View.shown c.args.view.now) (g.V.View.shown c.loop-count.view) 0 c.args.account.now c.loop-count.invariant.on.grows c.requires.account.looks)
    c.args.prefix.now (option_map (λ n. n.now) c.args.from) (option_map (λ n. n.now) c.loop-count.last) c.loop-count._count c.args.max c.loop-count.reads.items c.loop-count.entries.items
    c.loop-count.invariant.listing _ refl refl
    (let a = c.loop-count-test.false in let b = c.loop-count.auto._count-end in let h : c.loop-count._count ≡ c.args.max = omega arith in h) c.requires.some _ _
    (subst (λ o. IsNextNamed c.args.account.now c.args.prefix.now (option_map (λ n. n.now) c.loop-count.last) (option_map (λ c. (c.0.now, c.1.0)) o)) c.in-Some-left.is c.in_ok-left.ensures) refl

pub returns-in-None-left-clause-listed : goal.returns-in-None-left-clause-listed
returns-in-None-left-clause-listed g c =
    all_listed (g.V.View.held c.loop-count.view) (g.V.View.shown c.loop-count.view) c.args.account.now
    (shown_later (g.V.View.shown c.args.view.now) (g.V.View.shown c.loop-count.view) 0 c.args.account.now c.loop-count.invariant.on.grows c.requires.account.looks)
    c.args.prefix.now (option_map (λ n. n.now) c.args.from) (option_map (λ n. n.now) c.loop-count.last) c.loop-count._count c.args.max c.loop-count.reads.items c.loop-count.entries.items
    c.loop-count.invariant.listing _ refl refl (let a = c.loop-count.auto._count-end in let h : c.loop-count._count ≤ c.args.max = omega arith in h)
    (subst (λ o. IsNextNamed c.args.account.now c.args.prefix.now (option_map (λ n. n.now) c.loop-count.last) (option_map (λ c. (c.0.now, c.1.0)) o)) c.in-None-left.is c.in_ok-left.ensures) refl

pub returns-in_err-push-in-Some-clause-on : goal.returns-in_err-push-in-Some-clause-on
returns-in_err-push-in-Some-clause-on g c = on_both c.loop-count.invariant.on c.look.ensures.on

pub returns-in_err-push-in-Some-2-clause-on : goal.returns-in_err-push-in-Some-2-clause-on
returns-in_err-push-in-Some-2-clause-on g c = on_both c.loop-count.invariant.on c.look.ensures.on
