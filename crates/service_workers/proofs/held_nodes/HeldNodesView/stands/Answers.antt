use Rattle.std.proofs.Common.{subst}
use Rattle.std.proofs.lemmas.Grind.{merely}
use Rattle.inode_tree.specs.Views.{Agreeing}
use Rattle.service_workers.specs.Looks.{Looker, shown_by}
use Rattle.service_workers.proofs.LookLemmas.{agreeing}
use Rattle.service_workers.proofs.held_nodes.HeldNodesView.stands.Goals as goal

pub returns : goal.returns
returns g c = merely (subst (λ (v : Looker _). Agreeing (shown_by v.pass)) c.self.view_is (agreeing c.self.inside.pass.now c.self.invariant.found))
