use Rattle.std.proofs.Common.{◌≡◌, ℕ, ◌+◌, length, List, refl, ap, sym, ◌∙◌, subst, inl, inr, true≢false}
use Rattle.lock_core.specs.Marks.{HeldAsPlayed}
use Rattle.lock_core.specs.Object.{replay}
use Rattle.lock_core.proofs.Looking.{all_noted, all_marked}
use Rattle.lock_core.proofs.Growing.{footprint_to, footprint_from, make_to, make_from}
use Rattle.lock_core.proofs.pure_core.Core.commit.Goals as goal

pub returns-then-not-is_noted : goal.returns-then-not-is_noted
returns-then-not-is_noted g c =
    let l = c.glance-glance.ensures.looks in
    let live = sym l.live ∙ c.if-not-glance.false in
    let has = sym l.journal ∙ c.if-not-glance-2.false in
    (inr (live, inr (has, inl ((λ p. true≢false (sym (c.if-not-is_noted.ensures.1 (all_marked c.glance-glance.result _ l p)))), refl))), refl)

pub returns-then-not-branch : goal.returns-then-not-branch
returns-then-not-branch g c =
    let l = c.glance-glance.ensures.looks in
    let live = sym l.live ∙ c.if-not-glance.false in
    let has = sym l.journal ∙ c.if-not-glance-2.false in
    let noted = all_noted c.glance-glance.result _ l (c.if-not-is_noted.ensures.0 refl) in
    let n : c.in-Some.number ≡ length c.args.self.now.journal + 1 = c.in-Some.ensures.1 ∙ ap (λ (h : List g.row.P-Entry.Denot). length h + 1) c.journal.ensures in (
      inr (
        live,
        inr (
          has,
          inr (
            noted,
            inl (
              (λ f. true≢false (sym (c.in_ok-is_footprint.ensures.1
                  (subst (λ (k : ℕ). HeldAsPlayed g.P.Parted.object (replay g.P.Parted.object c.args.self.now.journal) c.args.entry k c.glance-glance.result.marks) (sym n)
                  (footprint_from g.P.Parted.object g.met.P.Parted.lawful c.args.self.now c.glance-glance.ensures.sound c.args.seat c.glance-glance.result l live noted c.args.entry _ f))) ∙ c.if-not-branch.true)),
              refl,
            ),
          ),
        ),
      ),
      refl,
    )

pub returns-then-not-branch-2 : goal.returns-then-not-branch-2
returns-then-not-branch-2 g c =
    let l = c.glance-glance.ensures.looks in
    let live = sym l.live ∙ c.if-not-glance.false in
    let has = sym l.journal ∙ c.if-not-glance-2.false in
    let noted = all_noted c.glance-glance.result _ l (c.if-not-is_noted.ensures.0 refl) in
    let n : c.in-Some.number ≡ length c.args.self.now.journal + 1 = c.in-Some.ensures.1 ∙ ap (λ (h : List g.row.P-Entry.Denot). length h + 1) c.journal.ensures in
    let played : HeldAsPlayed g.P.Parted.object (replay g.P.Parted.object c.args.self.now.journal) c.args.entry (length c.args.self.now.journal + 1) c.glance-glance.result.marks =
    subst (λ (k : ℕ). HeldAsPlayed g.P.Parted.object (replay g.P.Parted.object c.args.self.now.journal) c.args.entry k c.glance-glance.result.marks) n
    (c.in_ok-is_footprint.ensures.0 c.if-not-branch.false) in
    let f = footprint_to g.P.Parted.object g.met.P.Parted.lawful c.args.self.now c.glance-glance.ensures.sound c.args.seat c.glance-glance.result l live noted c.args.entry _ played in
    (inr (live, inr (has, inr (noted, inr (f, inl ((λ p. true≢false (sym (c.in_ok-may_make.ensures.1 (make_from g.P.Parted.object g.met.P.Parted.lawful c.args.self.now c.glance-glance.ensures.sound c.args.seat c.glance-glance.result l live noted c.args.entry _ f p)) ∙ c.if-not-branch-2.true)), refl))))), refl)

pub add_entry-requires-clause-allowed : goal.add_entry-requires-clause-allowed
add_entry-requires-clause-allowed g c =
    let l = c.glance-glance.ensures.looks in
    let live = sym l.live ∙ c.if-not-glance.false in
    let has = sym l.journal ∙ c.if-not-glance-2.false in
    let noted = all_noted c.glance-glance.result _ l (c.if-not-is_noted.ensures.0 refl) in
    let n : c.in-Some.number ≡ length c.args.self.now.journal + 1 = c.in-Some.ensures.1 ∙ ap (λ (h : List g.row.P-Entry.Denot). length h + 1) c.journal.ensures in
    let played : HeldAsPlayed g.P.Parted.object (replay g.P.Parted.object c.args.self.now.journal) c.args.entry (length c.args.self.now.journal + 1) c.glance-glance.result.marks =
    subst (λ (k : ℕ). HeldAsPlayed g.P.Parted.object (replay g.P.Parted.object c.args.self.now.journal) c.args.entry k c.glance-glance.result.marks) n
    (c.in_ok-is_footprint.ensures.0 c.if-not-branch.false) in
    let f = footprint_to g.P.Parted.object g.met.P.Parted.lawful c.args.self.now c.glance-glance.ensures.sound c.args.seat c.glance-glance.result l live noted c.args.entry _ played in
    (live, (has, (noted, (f, (make_to g.P.Parted.object g.met.P.Parted.lawful c.args.self.now c.glance-glance.ensures.sound c.args.seat c.glance-glance.result l live noted c.args.entry _ f (c.in_ok-may_make.ensures.0 c.if-not-branch-2.false), tt)))))

pub returns : goal.returns
returns g c =
    let l = c.glance-glance.ensures.looks in
    let live = sym l.live ∙ c.if-not-glance.false in
    let has = sym l.journal ∙ c.if-not-glance-2.false in
    let noted = all_noted c.glance-glance.result _ l (c.if-not-is_noted.ensures.0 refl) in
    let n : c.in-Some.number ≡ length c.args.self.now.journal + 1 = c.in-Some.ensures.1 ∙ ap (λ (h : List g.row.P-Entry.Denot). length h + 1) c.journal.ensures in
    let played : HeldAsPlayed g.P.Parted.object (replay g.P.Parted.object c.args.self.now.journal) c.args.entry (length c.args.self.now.journal + 1) c.glance-glance.result.marks =
    subst (λ (k : ℕ). HeldAsPlayed g.P.Parted.object (replay g.P.Parted.object c.args.self.now.journal) c.args.entry k c.glance-glance.result.marks) n
    (c.in_ok-is_footprint.ensures.0 c.if-not-branch.false) in
    let f = footprint_to g.P.Parted.object g.met.P.Parted.lawful c.args.self.now c.glance-glance.ensures.sound c.args.seat c.glance-glance.result l live noted c.args.entry _ played in
    ((live, (has, (noted, (f, (make_to g.P.Parted.object g.met.P.Parted.lawful c.args.self.now c.glance-glance.ensures.sound c.args.seat c.glance-glance.result l live noted c.args.entry _ f (c.in_ok-may_make.ensures.0 c.if-not-branch-2.false), tt))))), c.in_ok-add_entry.ensures)
