-- The stripes of a closed service.
use Rattle.std.proofs.Common.{◌≡◌, List, map, ap, sym, subst, ◌∙◌}
use Rattle.lock_core.specs.Object.{replay}
use Rattle.lock_core.specs.Sound.{AllFit}
use Rattle.namespace_model.specs.Step.{tree_after}
use Rattle.inode_tree.specs.declared.placed.Placed.{Placed}
use Rattle.inode_tree.specs.Parts.{Parts}
use Rattle.inode_tree.specs.Stands.{Stands}
use Rattle.inode_tree.specs.Stripes.{StripeRecord}
use Rattle.parted_namespace.specs.Journals.{entries_of}
use Rattle.parted_namespace.specs.Namespace.{parts_of, namespace}
use Rattle.parted_namespace.specs.Opening.{bare_stripe}
use Rattle.parted_namespace.proofs.JournalLemmas.{fitting_stand}
use Rattle.parted_namespace.proofs.OpeningTree.{parts_of_bare}

-- stripes that are the replay of a journal, but for what is ready in them, stand for its run
pub closed_stands : (journal : List Placed) (stripes : List StripeRecord) → map bare_stripe stripes ≡ replay namespace journal → AllFit namespace journal
    → Stands (parts_of stripes) (tree_after (entries_of journal))
closed_stands journal stripes are fit =
    subst (λ (parts : Parts). Stands parts (tree_after (entries_of journal))) (sym (ap parts_of are) ∙ parts_of_bare stripes) (fitting_stand journal fit).stands
