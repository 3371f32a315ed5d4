use Rattle.std.proofs.Common.{◌%◌, Err, refl, ap, subst, ◌∙◌}
use Rattle.lock_core.specs.declared.object.LockMode.TheVariants.{Shared}
use Rattle.inode_tree.specs.Views.{Held, covers}
use Rattle.inode_tree.proofs.StopLemmas.{stopped_look}
use Rattle.path_order.specs.Cursors.{IsAdvanced}
use Rattle.path_order.proofs.CursorLemmas.{next_known, needs_next, seen_next}
use Rattle.path_order.proofs.cursor.Cursor.next.Goals as goal

pub get-requires-clause-known : goal.get-requires-clause-known
get-requires-clause-known g c =
    next_known (g.V.View.shown c.args.view.now) c.args.self.now c.advance.new.self c.in-Some.id c.requires.walk
    (λ parts t root token stands is. subst (λ o. IsAdvanced parts t root token c.advance.new.self o) c.in-Some.is (c.in_ok-advance.ensures parts t root token stands is))

pub returns-in_err-node-in-Some-clause-need : goal.returns-in_err-node-in-Some-clause-need
returns-in_err-node-in-Some-clause-need g c = λ n e root token is.
    needs_next (g.V.View.held c.get.new.self) (g.V.View.shown c.args.view.now) c.args.self.now c.advance.new.self c.in-Some.id n root token
    (λ parts t root token stands is. subst (λ o. IsAdvanced parts t root token c.advance.new.self o) c.in-Some.is (c.in_ok-advance.ensures parts t root token stands is))
    is
    (stopped_look (g.V.View.held c.get.new.self) c.in-Some.id n c.in_err-node-in-Some.field-0.0 c.from_residual-in_err-node-in-Some.result c.from_residual-in_err-node-in-Some.ensures.1 e
    (λ k f. let m = c.get.ensures.need k (c.in_err-node-in-Some.was ∙ ap Err f) in (m.0, m.1, ap (λ (h : Held). covers (h (c.in-Some.id.0 % 64)) Shared) c.get.ensures.held ∙ m.2)))

pub returns-in-None-clause-next : goal.returns-in-None-clause-next
returns-in-None-clause-next g c = λ root token is parts t stands agrees.
    subst (λ o. IsAdvanced parts t root token c.advance.new.self o) c.in-None.is (c.in_ok-advance.ensures parts t root token stands (is parts t stands agrees))

pub returns-in_ok-copy-in-Some-clause-next : goal.returns-in_ok-copy-in-Some-clause-next
returns-in_ok-copy-in-Some-clause-next g c = λ root token is.
    seen_next (g.V.View.held c.get.new.self) (g.V.View.shown c.args.view.now) (g.V.View.shown c.get.new.self) c.args.self.now c.advance.new.self _ c.in-Some.id c.in_ok-node-in-Some.node c.in_ok-copy-in-Some.field-0 root token
    (λ parts t root token stands is. subst (λ o. IsAdvanced parts t root token c.advance.new.self o) c.in-Some.is (c.in_ok-advance.ensures parts t root token stands is))
    c.get.ensures.grows is refl refl c.in_ok-copy-in-Some.ensures c.in_ok-node-in-Some.ensures.inode
    (ap (λ (h : Held). covers (h (c.in-Some.id.0 % 64)) Shared) c.get.ensures.held ∙ c.in_ok-node-in-Some.ensures.enough)
