-- From a draft to its answer: the text that can be spelled, and what a commit says of it.
use Rattle.std.proofs.Common.{◌≡◌, ◌+◌, ◌<◌, ◌≤◌, List, [], ◌∷◌, ◌++◌, length, sum_by, refl, sym, ap, subst, ◌∙◌, length-append, append-nil, arith}
use Rattle.std.proofs.lemmas.List.{length-map, take-append-le}
use Rattle.lease_state.specs.declared.lease.TheConstants.{LAST_MOMENT}
use Rattle.lock_core.specs.Object.{by_pass, replay}
use Rattle.lock_core.specs.Sound.{AllFit}
use Rattle.lock_core.proofs.Totals.{elem-append, elem_within}
use Rattle.namespace_model.specs.declared.reply.Reply.{Reply}
use Rattle.namespace_model.specs.declared.request.Entry.{Entry}
use Rattle.namespace_model.specs.Sound.{IsSound}
use Rattle.namespace_model.specs.Step.{outcome, tree_after}
use Rattle.namespace_model.specs.Trees.{Tree}
use Rattle.inode_tree.specs.declared.draft.Draft.{Draft}
use Rattle.inode_tree.specs.declared.placed.Placed.{Placed}
use Rattle.inode_tree.specs.After.{outcome_on}
use Rattle.inode_tree.specs.Drawing.{next_ids}
use Rattle.inode_tree.specs.Promises.{IsDraft}
use Rattle.inode_tree.specs.Stripes.{StripeRecord}
use Rattle.path_locks.specs.Views.{HeldView, IsHeldBy}
use Rattle.striped_store.specs.Commits.{GrewBy}
use Rattle.striped_store.specs.Receipts.{TellsFootprint}
use Rattle.striped_store.specs.Views.{number_of_pass, seen_by, made_by, FindsOneJournal}
use Rattle.parted_namespace.specs.Journals.{entries_of, uses, StandsFor}
use Rattle.parted_namespace.specs.Namespace.{parts_of, namespace}
use Rattle.parted_namespace.specs.Opening.{bare_stripe}
use Rattle.parted_namespace.proofs.JournalLemmas.{fitting_stand}
use Rattle.reply_text.specs.ReplyText.{CanSpell, reply_text}
use Rattle.reply_marks.specs.Marks.{mark_of}
use Rattle.engine.specs.declared.solo.Answer.{Answer}
use Rattle.engine.proofs.FineSteps.{outcome_fine}
use Rattle.service_workers.specs.Drafts.{fresh_of, IsDrafted}
use Rattle.service_workers.specs.Looks.{NamespacePass, mode_in, shown_by}
use Rattle.service_workers.specs.Submits.{Commits, IsRefused}
use Rattle.service_workers.proofs.CommitLemmas.{of_step}
use Rattle.service_workers.proofs.LookLemmas.{so}

-- in a beginning of a journal each entry fits too
fit_front : (h : List Placed) (e : Placed) → AllFit namespace (h ++ e ∷ []) → AllFit namespace h
fit_front h e all n x there =
    let less : n < length h = elem_within h n x there in
    subst (λ (l : List Placed). namespace.fits (namespace.by x) (by_pass namespace (namespace.by x) l) (replay namespace l) x) (take-append-le n h (e ∷ []) (omega (arith, less)))
    (all n x (elem-append h (e ∷ []) n less ∙ there))

module _ {K : Type 0} where
  -- the reply of a draft can be spelled
  pub spelled : (p : NamespacePass K) (found : FindsOneJournal namespace p) (held : HeldView StripeRecord) → IsHeldBy bare_stripe p.seat held → (d : Draft) (entry : Entry) → number_of_pass p < 64
      → IsSound entry.request → entry.moment ≤ LAST_MOMENT → IsDraft (mode_in held) (shown_by p) entry.request entry.moment (fresh_of p) d → CanSpell d.reply
  spelled p found held holds d entry small sound timely drafts = subst CanSpell (sym (of_step p found held holds d e is).reply) (outcome_fine (tree_after (entries_of found.journal)) entry timely (so p found).dates).spelled
    where
      e : Placed
      e = record { entry = entry; pass = number_of_pass p; ids = next_ids (number_of_pass p) (sum_by uses (made_by p)) d.drawn }

      is : IsDrafted p held d e
      is = record {
        small = small;
        sound = sound;
        dated = let last : LAST_MOMENT ≡ 253402300799999 = refl in omega (arith, timely, last);
        drafts = drafts;
        by = refl;
        draws = refl;
      }

  -- what was let go without an entry
  pub refused_same : (old new : NamespacePass K) → seen_by new ≡ seen_by old → made_by new ≡ made_by old → new.wide ≡ old.wide → IsRefused old new
  refused_same old new seen mine wide = record { seen = ([], append-nil (seen_by old) ∙ sym seen); mine = mine; wide = wide }

  -- what a commit says, in the words of a submit
  commits : (old new : NamespacePass K) (e : Placed) (reply : Reply) (answer : Answer) → GrewBy e (seen_by old) (seen_by new) → made_by new ≡ made_by old ++ e ∷ [] → AllFit namespace (seen_by new)
      → e.pass ≡ number_of_pass old
      → ((before : List Placed) → seen_by new ≡ before ++ e ∷ [] → (outcome_on (parts_of (replay namespace before)) e).reply ≡ reply)
      → answer.receipt.number ≡ length (seen_by new)
      → ((before : List Placed) → seen_by new ≡ before ++ e ∷ [] → TellsFootprint namespace (replay namespace before) e answer.receipt)
      → answer.bytes.items ≡ reply_text reply answer.receipt.number e.entry.moment e.entry.request.head → answer.mark ≡ mark_of reply
      → Commits old new e.entry answer
  commits old new e reply answer seen mine fit by replies number footprint text marked = record {
    placed = e;
    entry_is = refl;
    by = by;
    seen = seen;
    mine = mine;
    number = number;
    stands = stand.stands;
    text = text ∙ ap (λ n. reply_text reply n e.entry.moment e.entry.request.head) number_is ∙ ap (λ r. reply_text r (length (entries_of before) + 1) e.entry.moment e.entry.request.head) reply_is;
    mark = marked ∙ ap mark_of reply_is;
    footprint = footprint before seen.ends;
  }
    where
      before : List Placed
      before = seen.before

      stand : StandsFor before
      stand = fitting_stand before (fit_front before e (subst (λ (l : List Placed). AllFit namespace l) seen.ends fit))

      number_is : answer.receipt.number ≡ length (entries_of before) + 1
      number_is =
          number ∙ ap (λ (l : List Placed). length l) seen.ends ∙ length-append before (e ∷ [])
          ∙ ap (λ n. n + 1) (sym (length-map before (λ (x : Placed). x.entry)))

      reply_is : reply ≡ (outcome (tree_after (entries_of before)) e.entry).reply
      reply_is = sym (replies before seen.ends) ∙ ap (λ (u : Tree). (outcome u e.entry).reply) stand.stands.shown

  -- the same for the entry that it is
  pub commits_as : (old new : NamespacePass K) (e : Placed) (entry : Entry) (reply : Reply) (answer : Answer) → e.entry ≡ entry → GrewBy e (seen_by old) (seen_by new) → made_by new ≡ made_by old ++ e ∷ []
      → AllFit namespace (seen_by new) → e.pass ≡ number_of_pass old
      → ((before : List Placed) → seen_by new ≡ before ++ e ∷ [] → (outcome_on (parts_of (replay namespace before)) e).reply ≡ reply)
      → answer.receipt.number ≡ length (seen_by new)
      → ((before : List Placed) → seen_by new ≡ before ++ e ∷ [] → TellsFootprint namespace (replay namespace before) e answer.receipt)
      → answer.bytes.items ≡ reply_text reply answer.receipt.number e.entry.moment e.entry.request.head → answer.mark ≡ mark_of reply
      → Commits old new entry answer
  commits_as old new e entry reply answer is seen mine fit by replies number footprint text marked =
      subst (λ (x : Entry). Commits old new x answer) is (commits old new e reply answer seen mine fit by replies number footprint text marked)
