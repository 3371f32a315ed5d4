-- What a submit says, from its last round.
use Rattle.std.proofs.Common.{◌≡◌, ℕ, ◌+◌, ◌-◌, Option, sym, ap, subst, ◌∙◌, arith}
use Rattle.conn_io.specs.Moments.{HasTicked, IsForetold}
use Rattle.serving.proofs.MomentLemmas.{foretold-later}
use Rattle.namespace_model.specs.declared.request.Entry.{Entry}
use Rattle.lock_core.specs.Object.{replay}
use Rattle.striped_store.specs.declared.receipt.Receipt.{Receipt}
use Rattle.striped_store.specs.Receipts.{TellsFootprint}
use Rattle.parted_namespace.specs.Namespace.{namespace}
use Rattle.engine.specs.declared.solo.Answer.{Answer}
use Rattle.service_workers.specs.declared.asked.Asked.{Asked}
use Rattle.service_workers.specs.Looks.{NamespacePass}
use Rattle.service_workers.specs.Submits.{entry_at, Commits}

module _ {K : Type 0} (old new : NamespacePass K) where
  -- the answer, with another count of rounds
  with_count : (entry : Entry) (answer result : Answer) (rounds : ℕ) → result.bytes.items ≡ answer.bytes.items → result.mark ≡ answer.mark → result.receipt ≡ record answer.receipt { rounds = rounds }
      → Commits old new entry answer → Commits old new entry result
  with_count entry answer result rounds bytes mark receipt is = record {
    placed = is.placed;
    entry_is = is.entry_is;
    by = is.by;
    seen = is.seen;
    mine = is.mine;
    number = ap (λ (r : Receipt). r.number) receipt ∙ is.number;
    stands = is.stands;
    text = bytes ∙ is.text;
    mark = mark ∙ is.mark;
    footprint = subst (λ (r : Receipt). TellsFootprint namespace (replay namespace is.seen.before) is.placed r) (sym receipt)
        (record { writes = is.footprint.writes; reads = is.footprint.reads });
  }

  -- committed behind so many rounds
  pub submits : (ahead now : Option (ℕ → ℕ)) (asked last : Asked) (done moment : ℕ) (answer result : Answer) → HasTicked ahead now done → IsForetold now 0 moment → last ≡ asked
      → result.bytes.items ≡ answer.bytes.items → result.mark ≡ answer.mark → result.receipt ≡ record answer.receipt { rounds = done + 1 }
      → Commits old new (entry_at last moment) answer → IsForetold ahead (result.receipt.rounds - 1) moment
      × Commits old new (entry_at asked moment) result
  submits ahead now asked last done moment answer result ticked is same bytes mark receipt commits = (
    subst (λ k. IsForetold ahead k moment) place (foretold-later ahead now done 0 moment ticked is),
    with_count (entry_at asked moment) answer result (done + 1) bytes mark receipt (subst (λ (a : Asked). Commits old new (entry_at a moment) answer) same commits),
  )
    where
      place : done + 0 ≡ result.receipt.rounds - 1
      place = let rounds : result.receipt.rounds ≡ done + 1 = ap (λ (r : Receipt). r.rounds) receipt in omega (arith, rounds)
