-- Pages one behind the other, and what stands where others took their place.
use Rattle.std.proofs.Common.{◌≡◌, ℕ, zero, suc, ◌+◌, ◌<◌, Bool, true, false, cond, List, [], ◌∷◌, ◌++◌, length, set, take, drop, refl, sym, ap, ◌∙◌, append_assoc, append-nil, arith}
use Rattle.std.specs.Prelude.{nat_le}
use Rattle.std.proofs.lemmas.Bool.{leb-true}
use Rattle.std.proofs.lemmas.List.{set_split, set-get_or, take-append-drop}
use Rattle.inode_tree.specs.Pages.{Page, together, page_at, replaced, cut}

pub one_more : (k : ℕ) → k + 1 ≡ suc k
one_more k = omega arith

pub two_more : (k : ℕ) → k + 2 ≡ suc (suc k)
two_more k = omega arith

pub together_append : (a b : List Page) → together (a ++ b) ≡ together a ++ together b
together_append [] b = refl
together_append (p ∷ a) b = ap (λ r. p ++ r) (together_append a b) ∙ sym (append_assoc p (together a) (together b))

-- all pages, by the one at a place
pub around : (pages : List Page) (k : ℕ) → together pages ≡ together (take k pages) ++ (page_at pages k ++ together (drop (suc k) pages))
around [] zero = refl
around [] (suc k) = refl
around (p ∷ ps) zero = refl
around (p ∷ ps) (suc k) = ap (λ r. p ++ r) (around ps k) ∙ sym (append_assoc p (together (take k ps)) (page_at ps k ++ together (drop (suc k) ps)))

pub together_replaced : (pages : List Page) (k n : ℕ) (others : List Page) → together (replaced pages k n others) ≡ together (take k pages) ++ (together others ++ together (drop (k + n) pages))
together_replaced pages k n others =
    together_append (take k pages) (others ++ drop (k + n) pages) ∙ ap (λ r. together (take k pages) ++ r) (together_append others (drop (k + n) pages))

pub together_cut : (page : Page) → together (cut page) ≡ page
together_cut page = by_test (nat_le (length page) 256)
  where
    by_test : (b : Bool) → together (cond b (page ∷ []) (take 128 page ∷ drop 128 page ∷ [])) ≡ page
    by_test true = append-nil page
    by_test false = ap (λ r. take 128 page ++ r) (append-nil (drop 128 page)) ∙ take-append-drop 128 page

pub cut_two : (page : Page) → 256 < length page → cut page ≡ take 128 page ∷ drop 128 page ∷ []
cut_two page h = by_test (nat_le (length page) 256) refl
  where
    by_test : (b : Bool) → nat_le (length page) 256 ≡ b → cond b (page ∷ []) (take 128 page ∷ drop 128 page ∷ []) ≡ take 128 page ∷ drop 128 page ∷ []
    by_test true e = let few = leb-true (length page) 256 e in absurd (omega arith)
    by_test false e = refl

-- a page that is set takes the place of the one before
pub set_is : (pages : List Page) (k : ℕ) (page : Page) → k < length pages → set pages k page ≡ replaced pages k 1 (page ∷ [])
set_is pages k page h = set_split pages k page h ∙ ap (λ j. take k pages ++ page ∷ drop j pages) (sym (one_more k))

pub same_page : (pages : List Page) (k : ℕ) → k < length pages → replaced pages k 1 (page_at pages k ∷ []) ≡ pages
same_page pages k h = sym (set_is pages k (page_at pages k) h) ∙ set-get_or pages k []
