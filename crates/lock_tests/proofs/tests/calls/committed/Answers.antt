use Rattle.std.proofs.Common.{List, [], ◌∷◌, ◌++◌, slice_get, ap, sym, ◌∙◌, arith}
use Rattle.lock_core.specs.declared.object.LockMode.{LockMode}
use Rattle.lock_core.specs.declared.tally.TallyEntry.{TallyEntry}
use Rattle.lock_core.specs.Tallied.{tally}
use Rattle.path_locks.proofs.Alikes.{alike_held}
use Rattle.striped_store.proofs.Grown.{may_commit}
use Rattle.lock_tests.proofs.Tallying.{read_held, not_none, can_tally}
use Rattle.lock_tests.proofs.tests.calls.committed.Goals as goal

pub look-requires-clause-some : goal.look-requires-clause-some
look-requires-clause-some g c =
    let t = read_held c.args.entry.reads c.args.entry.writes c.acquire-held.result c.requires.stripes.0
    (λ k h. ap (λ (l : List LockMode). slice_get l k) c.acquire-held.ensures.plan ∙ c.footprint-plan.ensures k h) in
    not_none c.acquire-held.result.modes c.args.entry.reads t.0 t.1 t.2

pub commit-requires-clause-held : goal.commit-requires-clause-held
commit-requires-clause-held g c =
    alike_held _ c.look.new.seat c.take_journal-journal.new.seat c.reserve.new.self c.take_journal-journal.ensures.held (c.reserve.ensures.held c.look.new.seat c.look.ensures.held)

pub commit-requires-clause-entry : goal.commit-requires-clause-entry
commit-requires-clause-entry g c = (
  c.args.entry,
  c.push-number.ensures.entries ∙ ap (λ (l : List TallyEntry). l ++ c.args.entry ∷ []) (c.reserve-2.ensures.entries ∙ sym c.take_journal-journal.ensures.seen),
  may_commit tally c.look.new.seat c.take_journal-journal.new.seat c.args.entry c.take_journal-journal.ensures.same
      c.take_journal-journal.ensures.held c.take_journal-journal.ensures.mine
      (can_tally c.look.new.seat c.acquire-held.result c.args.entry c.look.ensures.held
      (λ k h. ap (λ (l : List LockMode). slice_get l k) c.acquire-held.ensures.plan ∙ c.footprint-plan.ensures k h) c.look.ensures.stands.wide
      (c.requires.by ∙ sym (c.look.ensures.same.number ∙ c.acquire-held.ensures.same.number)) _ c.look.ensures.looked.2),
  tt,
)

pub release-requires-then-is_err-2-clause-held : goal.release-requires-then-is_err-2-clause-held
release-requires-then-is_err-2-clause-held g c =
    alike_held _ c.take_journal-journal.new.seat c.give_journal.new.seat c.reserve.new.self c.give_journal.ensures.held
    (alike_held _ c.look.new.seat c.take_journal-journal.new.seat c.reserve.new.self c.take_journal-journal.ensures.held
    (c.reserve.ensures.held c.look.new.seat c.look.ensures.held))
