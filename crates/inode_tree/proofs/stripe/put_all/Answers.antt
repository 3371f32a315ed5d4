use Rattle.std.proofs.Common.{sym, ap, ◌∙◌, arith}
use Rattle.std.specs.Ordering.{nat_cmp}
use Rattle.std.specs.FinMap.{find}
use Rattle.inode_tree.specs.Stripes.{put_in}
use Rattle.inode_tree.proofs.StripeLemmas.{put_more}
use Rattle.inode_tree.proofs.stripe.put_all.Goals as goal

pub loop-id-preserved : goal.loop-id-preserved
loop-id-preserved c = record {
  sorted = c.put_outcome.ensures.sorted;
  room = omega (arith, c.in-Some.ensures.len);
  same = λ q. put_more c.args.number q c.in-Some.id c.in-Some.outcome c.pop.new.self.items c.loop-id.nodes.items c.put_outcome.new.nodes.items c.put_outcome.ensures.nodes
      ∙ ap (λ es. put_in c.args.number (find nat_cmp q es) (find nat_cmp q c.loop-id.nodes.items)) (sym c.in-Some.ensures.items)
      ∙ c.loop-id.invariant.same q;
}
