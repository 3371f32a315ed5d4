use Rattle.std.proofs.Common.{List, [], refl, ap, sym, subst, ◌∙◌}
use Rattle.lock_core.specs.Machine.{LockState}
use Rattle.lock_core.specs.Invariant.{Invariant}
use Rattle.lock_core.proofs.InWords.{in_words}
use Rattle.lock_core.specs.Object.{replay}
use Rattle.lock_core.proofs.Opening.{words-free, opening_sound}
use Rattle.lock_core.proofs.CoreMoves.{first_row}
use Rattle.lock_core.proofs.Rigid.{shows, core_is}
use Rattle.lock_core.proofs.pure_core.Core.new.Goals as goal
use mathlib.Core.Option.{some-ne-none}

pub invariant_of-result : goal.invariant_of-result
invariant_of-result g c =
    let o = g.P.Parted.object in
    core_is o g.met.P.Parted.lawful _ (opening_sound o [] g.met.P.Parted.lawful (λ n e at. absurd (some-ne-none e (sym at)))) g.P.Parted.bare _
    (c.in_ok-parts.ensures ∙ ap (λ (h : List g.row.P-Entry.Denot). replay o h) (sym c.new-3.ensures.items))
    (c.in_ok-words.ensures.items_if_clones_equal (λ y e. e) ∙ words-free) c.new-3.ensures.items c.new-4.ensures.items
    (first_row o _ _ _ c.in_ok-push.ensures.items c.new-rows.ensures.items refl c.new.ensures c.new-2.ensures.items)

pub returns-clause-opened : goal.returns-clause-opened
returns-clause-opened g c =
    let o = g.P.Parted.object in
    shows o g.met.P.Parted.lawful _ (opening_sound o [] g.met.P.Parted.lawful (λ n e at. absurd (some-ne-none e (sym at)))) _
    (c.in_ok-words.ensures.items_if_clones_equal (λ y e. e) ∙ words-free)
    (c.in_ok-parts.ensures ∙ ap (λ (h : List g.row.P-Entry.Denot). replay o h) (sym c.new-3.ensures.items)) c.new-3.ensures.items c.new-4.ensures.items
    (first_row o _ _ _ c.in_ok-push.ensures.items c.new-rows.ensures.items refl c.new.ensures c.new-2.ensures.items)

pub returns-clause-kept : goal.returns-clause-kept
returns-clause-kept g c =
    subst (λ (z : LockState g.row.P-Part.Denot g.row.P-Entry.Denot g.row.P-Reply.Denot). Invariant g.P.Parted.object [] z) (sym (returns-clause-opened g c))
    (in_words g.P.Parted.object [] _ (opening_sound g.P.Parted.object [] g.met.P.Parted.lawful (λ n e at. absurd (some-ne-none e (sym at)))))
