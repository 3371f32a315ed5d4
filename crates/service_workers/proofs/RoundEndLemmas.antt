-- How a round ends, from what was held before.
use Rattle.std.proofs.Common.{◌≡◌, inr, ℕ, List, [], ◌∷◌, ◌++◌, refl, ap, subst, ◌∙◌}
use Rattle.lock_core.specs.declared.object.LockMode.{LockMode}
use Rattle.lock_core.specs.Sound.{StartsWith}
use Rattle.namespace_model.specs.declared.request.Entry.{Entry}
use Rattle.inode_tree.specs.declared.placed.Placed.{Placed}
use Rattle.inode_tree.specs.Stripes.{StripeRecord}
use Rattle.path_locks.specs.Views.{HeldView, TableView}
use Rattle.striped_store.specs.declared.receipt.CommitRefusal.TheVariants as refusal
use Rattle.striped_store.specs.Views.{seen_by, made_by}
use Rattle.engine.specs.declared.solo.Answer.{Answer}
use Rattle.service_workers.specs.Looks.{NamespacePass}
use Rattle.service_workers.specs.Rounds.{IsHolding}
use Rattle.service_workers.specs.Submits.{Commits, IsRefused, IsCaused}
use Rattle.service_workers.proofs.AnswerLemmas.{refused_same}

module _ {K : Type 0} {store : TableView Placed} (old mid new : NamespacePass K) {held : HeldView StripeRecord} {plan : List LockMode} (between : IsHolding store old mid held plan) where
  -- what was committed behind it
  pub commits_from : (entry : Entry) (answer : Answer) → Commits mid new entry answer → Commits old new entry answer
  commits_from entry answer is = record {
    placed = is.placed;
    entry_is = is.entry_is;
    by = is.by ∙ between.same.number;
    seen = record {
      before = is.seen.before;
      begins = subst (λ (l : List Placed). StartsWith is.seen.before l) between.seen is.seen.begins;
      ends = is.seen.ends;
    };
    mine = is.mine ∙ ap (λ (l : List Placed). l ++ is.placed ∷ []) between.mine;
    number = is.number;
    stands = is.stands;
    text = is.text;
    mark = is.mark;
    footprint = is.footprint;
  }

  -- what was let go behind it, for want of memory
  pub let_go : seen_by new ≡ seen_by mid → made_by new ≡ made_by mid → new.wide ≡ mid.wide → IsRefused old new
  let_go seen mine wide = refused_same old new (seen ∙ between.seen) (mine ∙ between.mine) (wide ∙ between.last)

-- want of memory needs no cause
pub no_memory : {K : Type 0} (old new : NamespacePass K) (bytes : ℕ) → IsCaused old new bytes refusal.NoMemory
no_memory old new bytes = record { cause = tt; full = λ _. inr refl; bytes_full = λ _. inr refl }
