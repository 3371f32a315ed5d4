-- The laws of the namespace as an object in 64 parts. Those of `inode_tree` speak of the parts alone, and read them by `slice_get`.
use Rattle.std.specs.Prelude.{◌≡◌, ℕ, zero, suc, ◌+◌, ◌<◌, true, List, [], ◌∷◌, ◌++◌, length, Option, Some, None, option_map, slice_get, Vec, refl}
use Rattle.std.specs.declared.alloc.Global.{Global}
use Rattle.std.proofs.Common.{ap, sym, ◌∙◌, subst, length-append, arith}
use Rattle.std.proofs.Math.Dec.{lit<}
use Rattle.std.proofs.Math.Nat.{mod-lt}
use Rattle.inode_tree.specs.declared.change.Change.{Change}
use Rattle.inode_tree.specs.declared.placed.Placed.{Placed}
use Rattle.inode_tree.specs.Changes.{Part, applied}
use Rattle.inode_tree.specs.Parts.{Parts}
use Rattle.inode_tree.specs.After.{after}
use Rattle.inode_tree.specs.Footprints.{lies_in, writes}
use Rattle.inode_tree.specs.Framed.{AgreeOnFootprint, DoesTheSame}
use Rattle.inode_tree.specs.Stripes.{StripeRecord}
use Rattle.inode_tree.proofs.FrameLemmas.{framed, others_stay}
use Rattle.inode_tree.proofs.PromiseLemmas.{lies_one}
use Rattle.lock_core.specs.Object.{Agrees, SameOn, IsLawful, IsWorking}
use Rattle.parted_namespace.specs.Opening.{opening_stripe, opening_below}
use Rattle.parted_namespace.specs.Namespace.{parts_of, with_parts, namespace, stripe_applied, IsWork}
use mathlib.Core.Option as maybe
use mathlib.Core.Option.{some, none}
use lib.ListN.{get_elem?}

-- ---- two ways to read a list

abbrev pub option_of : {A : Type 0} → maybe.Option A → Option A
option_of none = None
option_of (some x) = Some x

abbrev pub maybe_of : {A : Type 0} → Option A → maybe.Option A
maybe_of None = none
maybe_of (Some x) = some x

pub get-elem : {A : Type 0} (xs : List A) (k : ℕ) → slice_get xs k ≡ option_of (get_elem? xs k)
get-elem [] k = refl
get-elem (x ∷ xs) zero = refl
get-elem (x ∷ xs) (suc k) = get-elem xs k

pub elem-get : {A : Type 0} (xs : List A) (k : ℕ) → get_elem? xs k ≡ maybe_of (slice_get xs k)
elem-get [] k = refl
elem-get (x ∷ xs) zero = refl
elem-get (x ∷ xs) (suc k) = elem-get xs k

-- what holds by one holds by the other
pub get_same : {A : Type 0} (xs ys : List A) (k : ℕ) → get_elem? xs k ≡ get_elem? ys k → slice_get xs k ≡ slice_get ys k
get_same xs ys k e = get-elem xs k ∙ ap option_of e ∙ sym (get-elem ys k)

pub elem_same : {A : Type 0} (xs ys : List A) (k : ℕ) → slice_get xs k ≡ slice_get ys k → get_elem? xs k ≡ get_elem? ys k
elem_same xs ys k e = elem-get xs k ∙ ap maybe_of e ∙ sym (elem-get ys k)

-- ---- parts of stripes

pub part_at : (xs : List StripeRecord) (k : ℕ) → slice_get (parts_of xs) k ≡ option_map (λ (s : StripeRecord). s.part) (slice_get xs k)
part_at [] k = refl
part_at (x ∷ xs) zero = refl
part_at (x ∷ xs) (suc k) = part_at xs k

-- a stripe with another part
abbrev pub with_part : Option StripeRecord → Option Part → Option StripeRecord
with_part None part = None
with_part (Some s) None = Some s
with_part (Some s) (Some part) = Some (record s { part = part })

pub with_parts_at : (xs : List StripeRecord) (ps : Parts) (k : ℕ) → slice_get (with_parts xs ps) k ≡ with_part (slice_get xs k) (slice_get ps k)
with_parts_at [] ps k = refl
with_parts_at (x ∷ xs) [] k = by_stripe (slice_get (x ∷ xs) k)
  where
    by_stripe : (s : Option StripeRecord) → s ≡ with_part s None
    by_stripe None = refl
    by_stripe (Some s) = refl
with_parts_at (x ∷ xs) (p ∷ ps) zero = refl
with_parts_at (x ∷ xs) (p ∷ ps) (suc k) = with_parts_at xs ps k

pub length-parts : (xs : List StripeRecord) → length (parts_of xs) ≡ length xs
length-parts [] = refl
length-parts (x ∷ xs) = ap suc (length-parts xs)

pub length-with : (xs : List StripeRecord) (ps : Parts) → length (with_parts xs ps) ≡ length xs
length-with [] ps = refl
length-with (x ∷ xs) [] = refl
length-with (x ∷ xs) (p ∷ ps) = ap suc (length-with xs ps)

-- the parts of stripes with other parts are those
pub parts_with : (xs : List StripeRecord) (ps : Parts) → length ps ≡ length xs → parts_of (with_parts xs ps) ≡ ps
parts_with [] [] e = refl
parts_with [] (p ∷ ps) e = absurd (omega (arith, e))
parts_with (x ∷ xs) [] e = absurd (omega (arith, e))
parts_with (x ∷ xs) (p ∷ ps) e = ap (λ rest. p ∷ rest) (parts_with xs ps (omega (arith, e)))

-- ---- the stripes at the start

pub length-below : (n : ℕ) → length (opening_below n) ≡ n
unfolding opening_below
length-below zero = refl
length-below (suc n) =
    let long : length (opening_below n ++ opening_stripe n ∷ []) ≡ length (opening_below n) + 1 = length-append (opening_below n) (opening_stripe n ∷ []) in
    omega (arith, long, length-below n)

-- ---- the frame

-- a stripe in which an id lies is below 64
lies_below : (stripe : ℕ) (ids : List ℕ) → lies_in stripe ids ≡ true → stripe < 64
lies_below stripe ids h =
    let l = lies_one stripe ids h in
    subst (λ k. k < 64) l.2 (mod-lt l.0 (lit< tt))

same_footprint : (xs ys : List StripeRecord) (e : Placed) (n : ℕ) → Agrees namespace xs ys e n → AgreeOnFootprint (parts_of xs) (parts_of ys) e
same_footprint xs ys e n agree = record {
  read = λ k h. same k ((agree k (lies_below k _ h)).0 h);
  written = λ k h. same k ((agree k (lies_below k _ h)).1 h);
}
  where
    same : (k : ℕ) → get_elem? xs k ≡ get_elem? ys k → slice_get (parts_of xs) k ≡ slice_get (parts_of ys) k
    same k q = part_at xs k ∙ ap (option_map (λ (s : StripeRecord). s.part)) (get_same xs ys k q) ∙ sym (part_at ys k)

same_on : (xs ys : List StripeRecord) (e : Placed) (n : ℕ) → Agrees namespace xs ys e n → SameOn namespace xs ys e n
same_on xs ys e n agree =
    let same : DoesTheSame (parts_of xs) (parts_of ys) e = framed (parts_of xs) (parts_of ys) e (same_footprint xs ys e n agree) in
    record {
      reads = λ k h. same.read k;
      writes = λ k h. same.written k;
      reply = ap (λ o. o.reply) same.outcome;
      after = λ k h w.
          elem_same (with_parts xs (after (parts_of xs) e n)) (with_parts ys (after (parts_of ys) e n)) k
          (with_parts_at xs (after (parts_of xs) e n) k
          ∙ ap (λ s. with_part s (slice_get (after (parts_of xs) e n) k)) (get_same xs ys k ((agree k h).1 w))
          ∙ ap (with_part (slice_get ys k)) (same.after k n w)
          ∙ sym (with_parts_at ys (after (parts_of ys) e n) k));
      fits = λ pass mine f. (same.fits pass mine).0 f;
    }

-- a stripe whose part stays
same_stripe : (s : Option StripeRecord) → with_part s (option_map (λ (s : StripeRecord). s.part) s) ≡ s
same_stripe None = refl
same_stripe (Some s) = refl

pub namespace_lawful : IsLawful namespace
namespace_lawful = record {
  opens = length-below 64;
  keeps = λ xs e n l. length-with xs (after (parts_of xs) e n) ∙ l;
  frame = λ xs ys e n lx ly agree. same_on xs ys e n agree;
  untouched = λ xs e n k l h w.
      elem_same (with_parts xs (after (parts_of xs) e n)) xs k
      (with_parts_at xs (after (parts_of xs) e n) k
      ∙ ap (with_part (slice_get xs k)) (others_stay (parts_of xs) e k n w ∙ part_at xs k)
      ∙ same_stripe (slice_get xs k));
}

-- ---- the work

-- a list of changes as the code has it
abbrev pub Work : Type 0
Work = Vec Change Global

pub namespace_works : IsWorking namespace (λ (w : Work) xs e. IsWork w.items xs e) (λ s (w : Work) n. stripe_applied s w.items n)
namespace_works = record {
  frame = λ w xs ys e n lx ly agree work.
      let same : DoesTheSame (parts_of xs) (parts_of ys) e = framed (parts_of xs) (parts_of ys) e (same_footprint xs ys e n agree) in
      record {
        does = (same.does w.items).0 work.does;
        numbered = λ k s h at.
            let here : writes (parts_of xs) e k ≡ true = same.written k ∙ h in
            work.numbered k s here (get_same xs ys k ((agree k (lies_below k _ here)).1 here) ∙ at);
      };
  works = λ w xs e n k x l h work hit at.
      let there : slice_get xs k ≡ Some x = get-elem xs k ∙ ap option_of at in
      elem-get (with_parts xs (after (parts_of xs) e n)) k
      ∙ ap maybe_of (with_parts_at xs (after (parts_of xs) e n) k
      ∙ ap (λ s. with_part s (slice_get (after (parts_of xs) e n) k)) there
      ∙ ap (with_part (Some x)) (work.does k n x.part hit (part_at xs k ∙ ap (option_map (λ (s : StripeRecord). s.part)) there))
      ∙ ap (λ j. Some (record x { part = applied j n w.items x.part })) (sym (work.numbered k x hit there)));
}
