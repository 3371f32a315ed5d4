use Rattle.std.proofs.Common.{◌≤◌, refl, arith}
use Rattle.inode_tree.specs.declared.draft.EvalStop.TheVariants as stop
use Rattle.path_walk.proofs.StepLemmas.{same_error}
use Rattle.path_order.proofs.WholeLemmas.{top_at, whole, whole_needs}
use Rattle.path_order.proofs.whole.walk_subtree.Goals as goal

pub next_page-requires-clause-walk : goal.next_page-requires-clause-walk
next_page-requires-clause-walk g c = (
  c.requires.top.0,
  c.requires.top.0,
  c.start-cursor.ensures (g.V.View.shown c.args.view.now) c.requires.top.0 (top_at _ c.requires.top.0 c.args.top _ c.in_ok-copy.ensures c.requires.top.1),
)

pub returns-in-Err-clause-need : goal.returns-in-Err-clause-need
returns-in-Err-clause-need g c = λ n e p is.
    whole_needs _ _ p 18446744073709551615 n
    (c.in-Err.ensures.need n (same_error c.in-Err.stop (stop.Need n) e) p p (c.start-cursor.ensures (g.V.View.shown c.args.view.now) p (top_at _ p c.args.top _ c.in_ok-copy.ensures is)))

pub returns-clause-nodes : goal.returns-clause-nodes
returns-clause-nodes g c = λ p is.
    whole _ (g.V.View.shown c.args.view.now) (g.V.View.shown c.next_page.new.view) p _ c.next_page.new.cursor c.in-Ok.page _ (let h : 1 ≤ 18446744073709551615 = omega arith in h) c.next_page.ensures.on.grows is c.if-page.false refl
    (c.in-Ok.ensures.page p p (c.start-cursor.ensures (g.V.View.shown c.args.view.now) p (top_at _ p c.args.top _ c.in_ok-copy.ensures is)))
