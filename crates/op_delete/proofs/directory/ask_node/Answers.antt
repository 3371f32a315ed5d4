use Rattle.std.proofs.Common.{None, ap, sym, ◌∙◌}
use Rattle.inode_tree.specs.Inodes.{BareInode, node_of}
use Rattle.path_walk.proofs.FindLemmas.{ok_then}
use Rattle.path_walk.proofs.Truths.{is_none}
use Rattle.op_delete.specs.Deletes.{AsksNode, AsksChildren}
use Rattle.op_delete.proofs.ClearLemmas.{at_later, empty_asks, denied_asks, unstuck_asks, filled_asks}
use Rattle.op_delete.proofs.directory.ask_node.Goals as goal

pub returns-then-not-has_children-clause-asks : goal.returns-then-not-has_children-clause-asks
returns-then-not-has_children-clause-asks g c =
    empty_asks (g.V.View.shown c.args.view.now) c.args.caller.now c.args.at.now c.args.node.now c.requires.node (sym c.has_children.ensures ∙ c.if-not-has_children.true)

pub returns-in-Some-clause-asks : goal.returns-in-Some-clause-asks
returns-in-Some-clause-asks g c =
    denied_asks (g.V.View.shown c.args.view.now) c.args.caller.now c.args.at.now c.args.node.now c.in-Some.reply c.requires.node (sym c.has_children.ensures ∙ c.if-not-has_children.false)
    (sym c.in_ok-reply.ensures ∙ c.in-Some.is)

pub returns-then-not-inode-clause-asks : goal.returns-then-not-inode-clause-asks
returns-then-not-inode-clause-asks g c =
    filled_asks (g.V.View.shown c.args.view.now) c.args.caller.now c.args.at.now c.args.node.now None c.requires.node (sym c.has_children.ensures ∙ c.if-not-has_children.false)
    (sym c.in_ok-reply.ensures ∙ is_none _ c.in_default.not-Some)
    (unstuck_asks (g.V.View.shown c.args.view.now) c.args.caller.now c.args.at.now c.args.node.now (ap (λ (y : BareInode). (node_of y).sticky) (sym c.inode.ensures) ∙ c.if-not-inode.true))

pub returns-clause-asks : goal.returns-clause-asks
returns-clause-asks g c =
    ok_then c.ask_children.result (AsksChildren (g.V.View.shown c.ask_children.new.view) c.args.caller.now c.args.at.now c.args.node.now)
    (AsksNode (g.V.View.shown c.ask_children.new.view) c.args.caller.now c.args.at.now c.args.node.now) c.ask_children.ensures.asks
    (λ r asks. filled_asks (g.V.View.shown c.ask_children.new.view) c.args.caller.now c.args.at.now c.args.node.now r
    (at_later (g.V.View.shown c.args.view.now) (g.V.View.shown c.ask_children.new.view) c.args.at.now c.args.node.now c.ask_children.ensures.on.grows c.requires.node)
    (sym c.has_children.ensures ∙ c.if-not-has_children.false) (sym c.in_ok-reply.ensures ∙ is_none _ c.in_default.not-Some) asks)
