use Rattle.std.proofs.Common.{Some, cond, ap, ◌∙◌}
use Rattle.std.specs.Ordering.{nat_cmp, eq_by_cmp}
use Rattle.std.specs.Cmp.{nat_cmp_total}
use Rattle.std.specs.FinMap.{find}
use Rattle.std.specs.FinMap.Entries.{find-put}
use Rattle.inode_tree.proofs.MapLemmas.{find-without}
use Rattle.inode_tree.proofs.stripe.put_outcome.Goals as goal

pub returns-in-None-clause-nodes : goal.returns-in-None-clause-nodes
returns-in-None-clause-nodes c =
    rw c.in-None.is (λ q. ap (find nat_cmp q) c.take_out.ensures.items ∙ find-without nat_cmp nat_cmp_total c.args.id q c.args.nodes.now.items)

pub returns-in-Ok-clause-nodes : goal.returns-in-Ok-clause-nodes
returns-in-Ok-clause-nodes c =
    rw c.in-Some.is (λ q. ap (find nat_cmp q) c.in-Ok.ensures.items ∙ find-put nat_cmp nat_cmp_total q c.args.id c.asked.result c.args.nodes.now.items
    ∙ ap (λ x. cond (eq_by_cmp nat_cmp q c.args.id) (Some x) (find nat_cmp q c.args.nodes.now.items)) c.asked.ensures)
