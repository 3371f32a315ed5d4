-- Lists of nodes that were read, put together.
use Rattle.std.proofs.Common.{◌≡◌, ◌⊎◌, inl, inr, ℕ, ◌%◌, ◌==◌, Bool, true, false, ◌||◌, List, [], ◌∷◌, ◌++◌, Option, Some, None, option_and_then, is_some, refl, sym, ap, ◌∙◌}
use Rattle.std.proofs.lemmas.Bool.{false≢true}
use Rattle.std.specs.Cmp.{unsigned_Decides}
use Rattle.std.specs.FinMap as fin
use Rattle.inode_tree.specs.declared.id.NodeId.{NodeId}
use Rattle.inode_tree.specs.Changes.{Part}
use Rattle.inode_tree.specs.Inodes.{BareInode}
use Rattle.inode_tree.specs.Promises.{numbers_of, is_one_of}
use Rattle.inode_tree.specs.Views.{Held, Shown, Grows, shown_at}
use Rattle.inode_tree.proofs.TurnLemmas.{number_same}
use Rattle.path_walk.specs.Visits.{AreLookedAt}
use Rattle.path_walk.proofs.TrailLemmas.{numbers-append, one_of_append}

or_left : (a b : Bool) → a ≡ true → (a || b) ≡ true
or_left true b e = refl
or_left false b e = absurd (false≢true e)

or_right : (a b : Bool) → b ≡ true → (a || b) ≡ true
or_right true b e = refl
or_right false b e = e

pub or_tells : (a b : Bool) → (a || b) ≡ true → (a ≡ true) ⊎ (b ≡ true)
or_tells true b e = inl refl
or_tells false b e = inr e

pub both_lists : (i : ℕ) (xs ys : List NodeId) → is_one_of i (numbers_of (xs ++ ys)) ≡ (is_one_of i (numbers_of xs) || is_one_of i (numbers_of ys))
both_lists i xs ys = ap (is_one_of i) (numbers-append xs ys) ∙ one_of_append i (numbers_of xs) (numbers_of ys)

pub in_left : (i : ℕ) (xs ys : List NodeId) → is_one_of i (numbers_of xs) ≡ true → is_one_of i (numbers_of (xs ++ ys)) ≡ true
in_left i xs ys h = both_lists i xs ys ∙ or_left (is_one_of i (numbers_of xs)) (is_one_of i (numbers_of ys)) h

pub in_right : (i : ℕ) (xs ys : List NodeId) → is_one_of i (numbers_of ys) ≡ true → is_one_of i (numbers_of (xs ++ ys)) ≡ true
in_right i xs ys h = both_lists i xs ys ∙ or_right (is_one_of i (numbers_of xs)) (is_one_of i (numbers_of ys)) h

pub in_either : (i : ℕ) (xs ys : List NodeId) → is_one_of i (numbers_of (xs ++ ys)) ≡ true → (is_one_of i (numbers_of xs) ≡ true) ⊎ (is_one_of i (numbers_of ys) ≡ true)
in_either i xs ys h = or_tells (is_one_of i (numbers_of xs)) (is_one_of i (numbers_of ys)) (sym (both_lists i xs ys) ∙ h)

pub the_one : (i : ℕ) (id : NodeId) → is_one_of i (numbers_of (id ∷ [])) ≡ true → id.0 ≡ i
the_one i id h = elim (or_tells (id.0 == i) false h) [ inl e ↦ (unsigned_Decides id.0 i).0 e | inr e ↦ absurd (false≢true e) ]

pub it_is_one : (id : NodeId) → is_one_of id.0 (numbers_of (id ∷ [])) ≡ true
it_is_one id = ap (λ b. b || false) (number_same id.0)

-- nodes that were looked at, and more of them
pub looked_both : (held : Held) (shown : Shown) (xs ys : List NodeId) → AreLookedAt held shown xs → AreLookedAt held shown ys → AreLookedAt held shown (xs ++ ys)
looked_both held shown xs ys a b i h = elim (in_either i xs ys h) [ inl e ↦ a i e | inr e ↦ b i e ]

-- a node that was shown stays so
pub shown_grows : (old new : Shown) (id : ℕ) (x : BareInode) → Grows old new → shown_at old id ≡ Some x → shown_at new id ≡ Some x
shown_grows old new id x grows e = by_part (old (id % 64)) refl e
  where
    by_part : (o : Option Part) → old (id % 64) ≡ o → option_and_then (λ (p : Part). fin.get p id) o ≡ Some x → shown_at new id ≡ Some x
    by_part None f h = absurd (false≢true (ap is_some h))
    by_part (Some part) f h = ap (option_and_then (λ (p : Part). fin.get p id)) (grows (id % 64) part f) ∙ h
