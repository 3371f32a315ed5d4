-- Sixty-four numbers as an object: an entry reads one of them, and the other becomes the entry's number.
use Rattle.std.specs.Prelude.{◌≡◌, ℕ, ◌<◌, true, List, length, replicate, nat_eq, slice_index, slice_set, refl}
use Rattle.std.proofs.Common.{length-set, eqb-true, eq-eqb, ap, sym, ◌∙◌, subst, arith}
use Rattle.std.proofs.lemmas.Bool.{eqb-false}
use Rattle.lock_core.specs.declared.tally.TallyEntry.{TallyEntry}
use Rattle.lock_core.specs.Object.{Object, IsLawful, IsWorking}
use Rattle.lock_core.specs.Lists.{elem-set_same, elem-set_other, index_or-elem}
use mathlib.Core.Option as maybe
use mathlib.Core.Option.{Option, some}
use lib.ListN.{get_elem?, length-replicate}

abbrev pub tally : Object ℕ TallyEntry ℕ
tally = record {
  opening = replicate 64 0;
  reply = λ xs e n. slice_index xs e.reads;
  after = λ xs e n. slice_set xs e.writes n;
  reads = λ xs e n k. nat_eq k e.reads;
  writes = λ xs e n k. nat_eq k e.writes;
  by = λ e. e.pass;
  fits = λ pass mine xs e. Unit {0};
}

-- a tally's work is empty and stands for every entry
abbrev pub tally_does : Unit {0} → List ℕ → TallyEntry → Type 0
tally_does w xs e = Unit {0}

abbrev pub tally_applied : ℕ → Unit {0} → ℕ → ℕ
tally_applied x w n = n

same_read : (xs ys : List ℕ) (k : ℕ) → get_elem? xs k ≡ get_elem? ys k → slice_index xs k ≡ slice_index ys k
same_read xs ys k e = index_or-elem xs k 0 ∙ ap (λ (r : Option ℕ). maybe.get_or r 0) e ∙ sym (index_or-elem ys k 0)

written : (xs : List ℕ) (i k n : ℕ) → length xs ≡ 64 → k < 64 → nat_eq k i ≡ true → get_elem? (slice_set xs i n) k ≡ some n
written xs i k n l h w = let e : k ≡ i = eqb-true k i w in subst (λ (j : ℕ). get_elem? (slice_set xs j n) k ≡ some n) e (elem-set_same xs k n (omega arith))

pub tally_lawful : IsLawful tally
tally_lawful = record {
  opens = length-replicate {A = ℕ} 64 0;
  keeps = λ xs e n l. length-set xs e.writes n ∙ l;
  frame = λ xs ys e n lx ly agree. record {
    reads = λ k h. refl;
    writes = λ k h. refl;
    reply = same_read xs ys e.reads ((agree e.reads e.reads_below).0 (eq-eqb e.reads e.reads refl));
    after = λ k h w. written xs e.writes k n lx h w ∙ sym (written ys e.writes k n ly h w);
    fits = λ pass mine t. tt;
  };
  untouched = λ xs e n k l h w. elem-set_other xs e.writes k n (eqb-false k e.writes w);
}

pub tally_works : IsWorking tally tally_does tally_applied
tally_works = record {
  frame = λ w xs ys e n lx ly agree d. tt;
  works = λ w xs e n k x l h d hit at. written xs e.writes k n l h hit;
}
