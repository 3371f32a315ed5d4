use Rattle.std.proofs.Common.{rules, ◌%◌, subst}
use Rattle.inode_tree.specs.Views.{Grows}
use Rattle.service_workers.specs.Looks.{Looker, shown_by}
use Rattle.service_workers.proofs.LookLemmas.{known_there, looked_grows}
use Rattle.service_workers.proofs.held_nodes.HeldNodesView.get.Goals as goal

pub unreachable-requires : goal.unreachable-requires
unreachable-requires g c =
    let grows : Grows (shown_by c.args.self.now.pass) (shown_by c.look.new.pass) = subst (λ (v : Looker _). Grows (shown_by v.pass) (shown_by c.look.new.pass)) c.self.view_is
    (looked_grows c.self.inside.pass.now c.look.new.pass (c.args.id.0 % 64) c.look.ensures.again c.look.ensures.others) in
    known_there c.look.new.pass c.look.ensures.found (shown_by c.args.self.now.pass) grows c.args.id.0 c.requires.known _ c.look.ensures.looked.2 (search rules)

pub returns-clause-grows : goal.returns-clause-grows
returns-clause-grows g c =
    subst (λ (v : Looker _). Grows (shown_by v.pass) (shown_by c.look.new.pass)) c.self.view_is
    (looked_grows c.self.inside.pass.now c.look.new.pass (c.args.id.0 % 64) c.look.ensures.again c.look.ensures.others)
