-- Sixty-four shelves as an object: a delivery goes to one of them, weighs something, and uses up ids.
use Rattle.std.specs.Prelude.{◌≡◌, ℕ, ◌<◌, true, false, List, length, replicate, nat_eq, slice_index, slice_set, sum_by, refl}
use Rattle.std.proofs.Common.{length-set, eqb-true, ap, sym, ◌∙◌, subst, arith}
use Rattle.std.proofs.lemmas.Bool.{eqb-false}
use Rattle.lock_tests.specs.declared.shelves.Shelf.{Shelf}
use Rattle.lock_tests.specs.declared.shelves.Delivery.{Delivery}
use Rattle.lock_core.specs.Object.{Object, IsLawful, IsWorking}
use Rattle.lock_core.specs.Lists.{elem-set_same, elem-set_other}
use mathlib.Core.Option.{Option, some}
use lib.ListN.{get_elem?, length-replicate}

-- a shelf without its room
abbrev pub bare_shelf : Shelf → Shelf
bare_shelf s = record { last = s.last; room = false }

abbrev pub empty_shelf : Shelf
empty_shelf = record { last = 0; room = false }

-- a shelf after the delivery with this number, which takes the room
abbrev pub shelf_after : ℕ → Shelf
shelf_after n = record { last = n; room = false }

-- a delivery answers its number and is numbered by the ids that its pass used up before
abbrev pub shelves : Object Shelf Delivery ℕ
shelves = record {
  opening = replicate 64 empty_shelf;
  reply = λ xs e n. n;
  after = λ xs e n. slice_set xs e.shelf (shelf_after n);
  reads = λ xs e n k. false;
  writes = λ xs e n k. nat_eq k e.shelf;
  by = λ e. e.pass;
  fits = λ pass mine xs e. e.turn ≡ sum_by (λ (d : Delivery). d.ids) mine;
}

abbrev pub shelf_does : Unit {0} → List Shelf → Delivery → Type 0
shelf_does w xs e = Unit {0}

abbrev pub shelf_applied : Shelf → Unit {0} → ℕ → Shelf
shelf_applied x w n = shelf_after n

filled : (xs : List Shelf) (i k n : ℕ) → length xs ≡ 64 → k < 64 → nat_eq k i ≡ true → get_elem? (slice_set xs i (shelf_after n)) k ≡ some (shelf_after n)
filled xs i k n l h w = let e : k ≡ i = eqb-true k i w in subst (λ (j : ℕ). get_elem? (slice_set xs j (shelf_after n)) k ≡ some (shelf_after n)) e (elem-set_same xs k (shelf_after n) (omega arith))

pub shelves_lawful : IsLawful shelves
shelves_lawful = record {
  opens = length-replicate {A = Shelf} 64 empty_shelf;
  keeps = λ xs e n l. length-set xs e.shelf (shelf_after n) ∙ l;
  frame = λ xs ys e n lx ly agree. record {
    reads = λ k h. refl;
    writes = λ k h. refl;
    reply = refl;
    after = λ k h w. filled xs e.shelf k n lx h w ∙ sym (filled ys e.shelf k n ly h w);
    fits = λ pass mine t. t;
  };
  untouched = λ xs e n k l h w. elem-set_other xs e.shelf k (shelf_after n) (eqb-false k e.shelf w);
}

pub shelves_work : IsWorking shelves shelf_does shelf_applied
shelves_work = record {
  frame = λ w xs ys e n lx ly agree d. tt;
  works = λ w xs e n k x l h d hit at. filled xs e.shelf k n l h hit;
}
