use Rattle.std.proofs.Common.{List, [], ◌∷◌, ◌++◌, ap, sym, ◌∙◌, subst}
use Rattle.commit_journal.specs.declared.keeper.NoKeep.{NoKeep}
use Rattle.inode_tree.specs.declared.placed.Placed.{Placed}
use Rattle.inode_tree.specs.Stripes.{StripeRecord}
use Rattle.striped_store.specs.Views.{PassView}
use Rattle.striped_store.specs.Closed.{AreEveryPass}
use Rattle.store_tests.proofs.TwoPasses.{two_are}
use Rattle.store_tests.proofs.tests.closed.Goals as goal

pub close-requires : goal.close-requires
close-requires c =
    let one = c.in_ok-push.ensures.items ∙ ap (λ (l : List (PassView StripeRecord Placed NoKeep)). l ++ c.args.first ∷ []) c.requires.every.3 in
    let both = c.in_ok-push-2.ensures.items ∙ ap (λ (l : List (PassView StripeRecord Placed NoKeep)). l ++ c.args.second ∷ []) one in
    subst (λ (l : List (PassView StripeRecord Placed NoKeep)). AreEveryPass c.args.store l) (sym both)
    (two_are c.args.store c.args.first c.args.second c.requires.own.0 c.requires.own.1 c.requires.nothing.0 c.requires.nothing.1 c.requires.every.0 c.requires.every.1 c.requires.every.2)
