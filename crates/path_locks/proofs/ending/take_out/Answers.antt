use Rattle.std.proofs.Common.{ℕ, ◌+◌, List, length, ap, sym, ◌∙◌, arith}
use Rattle.std.proofs.Common.{length-append}
use Rattle.std.specs.Slots.{slots_items}
use Rattle.path_locks.specs.declared.rule.Slot.{Slot}
use Rattle.path_locks.proofs.TakenOut.{filled_next, emptied_next, taken_next}
use mathlib.Core.Option.{some-injective}
use lib.ListN.{get_elem?}
use Rattle.path_locks.proofs.ending.take_out.Goals as goal

pub unreachable-requires : goal.unreachable-requires
unreachable-requires g c =
    let i = c.loop-stripe.invariant in
    let t = c.requires.parts c.loop-stripe.stripe c.loop-stripe-test.true in
    c.in_default.not-Part t.0
    (some-injective _ _ (sym c.take.ensures.value ∙ ap (λ (l : List (Slot g.row.P-Part.Denot g.row.P-Entry.Denot g.row.K.Denot)). get_elem? l c.loop-stripe.stripe) i.items ∙ t.1))

pub loop-stripe-preserved : goal.loop-stripe-preserved
loop-stripe-preserved g c =
    let i = c.loop-stripe.invariant in
    let o = c.take.ensures.others in
    record {
      items = o.0 ∙ i.items;
      size = o.2 ∙ i.size;
      filled = filled_next _ _ _ o.1 i.filled;
      emptied = emptied_next _ _ _ o.1 i.emptied;
      room = omega (arith, i.room, c.add.ensures.capacity);
      long = ap (λ (l : List g.row.P-Part.Denot). length l) c.add.ensures.items ∙ length-append c.loop-stripe.parts.items _ ∙ (let l = i.long in ap (λ (n : ℕ). n + 1) l);
      taken = taken_next (slots_items c.args.closed.slots) _ _ c.in-Part.part _ c.add.ensures.items i.long
          (ap (λ (l : List (Slot g.row.P-Part.Denot g.row.P-Entry.Denot g.row.K.Denot)). get_elem? l c.loop-stripe.stripe) (sym i.items) ∙ c.in-Part.ensures.value) i.taken;
    }

pub free-requires : goal.free-requires
free-requires g c =
    let i = c.loop-stripe.invariant in
    let o = c.take-2.ensures.others in
    λ k h. emptied_next _ _ 64 o.1 (λ j l. i.emptied j (omega (arith, c.loop-stripe-test.false))) k (omega (arith, i.size, o.2))

pub returns : goal.returns
returns g c =
    let i = c.loop-stripe.invariant in
    record {
      long = omega (arith, i.long, c.loop-stripe-test.false, c.loop-stripe.auto.stripe-end);
      parts_are = λ k y h at. i.taken k y (omega (arith, h, c.loop-stripe-test.false)) at;
      book_is = ap (λ (l : List (Slot g.row.P-Part.Denot g.row.P-Entry.Denot g.row.K.Denot)). get_elem? l 64) (sym i.items) ∙ c.in-Book.ensures.value;
    }
