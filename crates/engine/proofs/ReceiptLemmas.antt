-- The bits of a number are gathered id by id.
use Rattle.std.proofs.Common.{◌≡◌, ◌↔◌, ◌⊎◌, inl, inr, ℕ, zero, suc, ◌-◌, ◌*◌, ◌%◌, ◌^◌, ◌==◌, ◌<◌, min, Bool, true, false, ◌||◌, List, [], ◌∷◌, ◌++◌, bit_or, bit_and, w64, refl, ap, sym, ◌∙◌, arith}
use Rattle.std.proofs.lemmas.Bool.{false≢true}
use Rattle.std.proofs.lemmas.Nat.Bits.{bit_at_set_same, bit_at_set_other, bit_at-zero, bit_at_and, bit_at_not, bit_at-lt}
use Rattle.std.proofs.lemmas.List.Folds.{list_any-append}
use Rattle.std.proofs.Math.Dec.{lit<}
use Rattle.std.proofs.Math.Nat.{mod-lt}
use Rattle.std.specs.Cmp.{unsigned_Decides}
use Rattle.std.specs.Int.{bit_at, bit_not}
use Rattle.inode_tree.specs.declared.id.NodeId.{NodeId}
use Rattle.inode_tree.specs.Footprints.{lies_in}
use Rattle.inode_tree.specs.Promises.{numbers_of}
use Rattle.inode_tree.proofs.TurnLemmas.{number_tells}
use Rattle.path_walk.proofs.TrailLemmas.{numbers-append}
use Rattle.striped_store.specs.Receipts.{AreBits}

-- the bits of the stripes in which the ids lie
abbrev pub AreStripesOf : List NodeId → ℕ → Type 0
AreStripesOf ids bits = AreBits bits (λ k. lies_in k (numbers_of ids) ≡ true)

pub no_stripes : AreStripesOf [] 0
no_stripes k h = (λ b. absurd (let z = bit_at-zero k in omega arith), λ l. absurd (false≢true l))

or_false : (b : Bool) → (b || false) ≡ b
or_false true = refl
or_false false = refl

either_true : (b : Bool) → (b || true) ≡ true
either_true true = refl
either_true false = refl

-- one more id
pub one_more : (ids : List NodeId) (one : NodeId) (bits bits' : ℕ) → AreStripesOf ids bits → bits' ≡ bit_or bits (1 * 2 ^ (one.0 % 64) % 2 ^ 64) → AreStripesOf (ids ++ one ∷ []) bits'
one_more ids one bits bits' are is k h = by_stripe (number_tells (one.0 % 64) k)
  where
    within : one.0 % 64 < 64
    within = mod-lt one.0 (lit< tt)

    more : lies_in k (numbers_of (ids ++ one ∷ [])) ≡ (lies_in k (numbers_of ids) || ((one.0 % 64 == k) || false))
    more = ap (lies_in k) (numbers-append ids (one ∷ [])) ∙ list_any-append (λ id. id % 64 == k) (numbers_of ids) (one.0 ∷ [])

    by_stripe : ((one.0 % 64) ≡ k) ⊎ ((one.0 % 64 == k) ≡ false) → (bit_at bits' k ≡ 1) ↔ (lies_in k (numbers_of (ids ++ one ∷ [])) ≡ true)
    by_stripe (inl e) = (
      λ b. more ∙ ap (λ c. lies_in k (numbers_of ids) || (c || false)) ((unsigned_Decides (one.0 % 64) k).1 e) ∙ either_true (lies_in k (numbers_of ids)),
      λ l. ap (bit_at bits') (sym e) ∙ ap (λ (b : ℕ). bit_at b (one.0 % 64)) is ∙ bit_at_set_same w64 bits (one.0 % 64) within,
    )
    by_stripe (inr ne) =
        let old : bit_at bits' k ≡ bit_at bits k = ap (λ (b : ℕ). bit_at b k) is ∙ bit_at_set_other w64 bits (one.0 % 64) within k (λ e. false≢true (sym ne ∙ (unsigned_Decides (one.0 % 64) k).1 (sym e))) in
        let rest : lies_in k (numbers_of (ids ++ one ∷ [])) ≡ lies_in k (numbers_of ids) = more ∙ ap (λ c. lies_in k (numbers_of ids) || (c || false)) ne ∙ or_false (lies_in k (numbers_of ids)) in
        (λ b. rest ∙ (are k h).0 (sym old ∙ b), λ l. old ∙ (are k h).1 (sym rest ∙ l))

none_of : (b : ℕ) → b < 2 → (b ≡ 1 → ⊥) → b ≡ 0
none_of zero l h = refl
none_of (suc zero) l h = absurd (h refl)
none_of (suc (suc b)) l h = absurd (omega arith)

-- the stripes that are read and not written
pub read_alone : (reads writes : List NodeId) (r w shared : ℕ) → w < 2 ^ 64 → AreStripesOf reads r → AreStripesOf writes w → shared ≡ bit_and r (bit_not w64 w)
    → AreBits shared (λ k. (lies_in k (numbers_of writes) ≡ false) × (lies_in k (numbers_of reads) ≡ true))
read_alone reads writes r w shared small are_read are_written is k h = by_written (lies_in k (numbers_of writes)) refl
  where
    bit : bit_at shared k ≡ min (bit_at r k) (1 - bit_at w k)
    bit = ap (λ (b : ℕ). bit_at b k) is ∙ bit_at_and r (bit_not w64 w) k ∙ ap (min (bit_at r k)) (bit_at_not w64 w k small h)

    by_written : (b : Bool) → lies_in k (numbers_of writes) ≡ b → (bit_at shared k ≡ 1) ↔ ((lies_in k (numbers_of writes) ≡ false) × (lies_in k (numbers_of reads) ≡ true))
    by_written true e =
        let one : bit_at w k ≡ 1 = (are_written k h).1 e in
        (λ x. absurd (omega (arith, bit, one, x)), λ x. absurd (false≢true (sym x.0 ∙ e)))
    by_written false e =
        let none : bit_at w k ≡ 0 = none_of (bit_at w k) (bit_at-lt w k) (λ o. false≢true (sym e ∙ (are_written k h).0 o)) in (
          λ x. (e, (are_read k h).0 (let s : bit_at r k < 2 = bit_at-lt r k in omega (arith, bit, none, x, s))),
          λ x. let one : bit_at r k ≡ 1 = (are_read k h).1 x.1 in omega (arith, bit, none, one),
        )
