-- How many names pages have, also once others took the place of some.
use Rattle.std.proofs.Common.{◌≡◌, ◌⊎◌, inl, inr, ℕ, zero, suc, ◌+◌, ◌-◌, ◌<◌, ◌≤◌, Bool, true, false, cond, List, [], ◌∷◌, ◌++◌, length, get_or, take, drop, refl, sym, ap, subst, ◌∙◌, arith}
use Rattle.std.specs.Prelude.{nat_le}
use Rattle.std.proofs.lemmas.Bool.{leb-true, leb-false}
use Rattle.std.proofs.lemmas.List.{length-append, length-take-le, length-drop, take-append-drop, drop_more}
use Rattle.inode_tree.specs.Pages.{Page, page_at, cut, replaced, ArePages}
use Rattle.inode_tree.proofs.PageLists.{one_more, two_more}

-- each page has 1 to 256 names, and over 128 with the one before it; before the first stands one of this length
abbrev pub Well : ℕ → List Page → Type 0
Well l [] = Unit {0}
Well l (p ∷ ps) = (1 ≤ length p) × ((length p ≤ 256) × ((128 < l + length p) × Well (length p) ps))

abbrev pub Fits : ℕ → List Page → Type 0
Fits l [] = Unit {0}
Fits l (p ∷ ps) = 128 < l + length p

abbrev pub Sizes : List Page → Type 0
Sizes ps = (k : ℕ) → k < length ps → (1 ≤ length (page_at ps k)) × (length (page_at ps k) ≤ 256)

abbrev pub Full : List Page → Type 0
Full ps = (k : ℕ) → suc k < length ps → 128 < length (page_at ps k) + length (page_at ps (suc k))

well_by : (l : ℕ) (ps : List Page) → Sizes ps → Full ps → Fits l ps → Well l ps
well_by l [] sizes full fits = tt
well_by l (p ∷ ps) sizes full fits =
    let size = sizes 0 (omega arith) in
    (size.0, (size.1, (fits, well_by (length p) ps (λ k h. sizes (suc k) (omega arith)) (λ k h. full (suc k) (omega arith)) (next ps full))))
  where
    next : (qs : List Page) → Full (p ∷ qs) → Fits (length p) qs
    next [] full = tt
    next (q ∷ qs) full = full 0 (omega arith)

pub well_of : (ps : List Page) → ArePages ps → Well 128 ps
well_of ps are = well_by 128 ps are.sizes are.full (start ps are.sizes)
  where
    start : (qs : List Page) → Sizes qs → Fits 128 qs
    start [] sizes = tt
    start (q ∷ qs) sizes = let size = (sizes 0 (omega arith)).0 in omega arith

pub sizes_of : (l : ℕ) (ps : List Page) → Well l ps → Sizes ps
sizes_of l [] w k h = absurd (omega arith)
sizes_of l (p ∷ ps) w zero h = (w.0, w.1.0)
sizes_of l (p ∷ ps) w (suc k) h = sizes_of (length p) ps w.1.1.1 k (omega arith)

pub full_of : (l : ℕ) (ps : List Page) → Well l ps → Full ps
full_of l [] w k h = absurd (omega arith)
full_of l (p ∷ []) w k h = absurd (omega arith)
full_of l (p ∷ q ∷ ps) w zero h = w.1.1.1.1.1.0
full_of l (p ∷ q ∷ ps) w (suc k) h = full_of (length p) (q ∷ ps) w.1.1.1 k (omega arith)

-- the length of the last page
abbrev pub end_of : ℕ → List Page → ℕ
end_of l [] = l
end_of l (p ∷ ps) = end_of (length p) ps

pub well_append : (l : ℕ) (a b : List Page) → Well l a → Well (end_of l a) b → Well l (a ++ b)
well_append l [] b w v = v
well_append l (p ∷ a) b w v = (w.0, (w.1.0, (w.1.1.0, well_append (length p) a b w.1.1.1 v)))

pub well_left : (l : ℕ) (a b : List Page) → Well l (a ++ b) → Well l a
well_left l [] b w = tt
well_left l (p ∷ a) b w = (w.0, (w.1.0, (w.1.1.0, well_left (length p) a b w.1.1.1)))

pub well_right : (l : ℕ) (a b : List Page) → Well l (a ++ b) → Well (end_of l a) b
well_right l [] b w = w
well_right l (p ∷ a) b w = well_right (length p) a b w.1.1.1

pub end_some : (l : ℕ) (a : List Page) → 1 ≤ l → Well l a → 1 ≤ end_of l a
end_some l [] h w = h
end_some l (p ∷ a) h w = end_some (length p) a w.0 w.1.1.1

pub end_take : (l : ℕ) (ps : List Page) (j : ℕ) → j < length ps → end_of l (take (suc j) ps) ≡ length (page_at ps j)
end_take l [] j h = absurd (omega arith)
end_take l (p ∷ ps) zero h = refl
end_take l (p ∷ ps) (suc j) h = end_take (length p) ps j (omega arith)

-- a page before that is as long, or has 128 names, serves as well
pub grow : (l m : ℕ) (ps : List Page) → Well l ps → (l ≤ m) ⊎ (128 ≤ m) → Well m ps
grow l m [] w h = tt
grow l m (p ∷ ps) w h = (w.0, (w.1.0, (more, w.1.1.1)))
  where
    more : 128 < m + length p
    more = let some = w.0 in let fits = w.1.1.0 in elim h [ inl le ↦ omega arith | inr le ↦ omega arith ]

-- ---- around a place

module _ (ps : List Page) (are : ArePages ps) (k : ℕ) where
  whole : Well 128 (take k ps ++ drop k ps)
  whole = subst (λ l. Well 128 l) (sym (take-append-drop k ps)) (well_of ps are)

  pub before : Well 128 (take k ps)
  before = well_left 128 (take k ps) (drop k ps) whole

  pub behind : Well (end_of 128 (take k ps)) (drop k ps)
  behind = well_right 128 (take k ps) (drop k ps) whole

  pub end_long : 1 ≤ end_of 128 (take k ps)
  end_long = end_some 128 (take k ps) (omega arith) before

  pub from_place : k < length ps → Well (end_of 128 (take k ps)) (page_at ps k ∷ drop (suc k) ps)
  from_place h = subst (λ l. Well (end_of 128 (take k ps)) l) (drop_more ps k [] h ∙ ap (λ j. page_at ps k ∷ drop j ps) (one_more k)) behind

  -- others take the place of so many pages
  pub well_replaced : (n : ℕ) (others : List Page) → Well (end_of 128 (take k ps)) (others ++ drop (k + n) ps) → Well 128 (replaced ps k n others)
  well_replaced n others w = well_append 128 (take k ps) (others ++ drop (k + n) ps) before w

-- ---- a page that grew

cut_fits : (e : ℕ) (old new : Page) (rest : List Page) → 1 ≤ e → Well e (old ∷ rest) → length old ≤ length new → length new ≤ length old + 1 → Well e (cut new ++ rest)
cut_fits e old new rest some w low high = by_test (nat_le (length new) 256) refl
  where
    by_test : (b : Bool) → nat_le (length new) 256 ≡ b → Well e (cond b (new ∷ []) (take 128 new ∷ drop 128 new ∷ []) ++ rest)
    by_test true h =
        let few = leb-true (length new) 256 h in let one = w.0 in let fits = w.1.1.0 in
        (omega arith, (omega arith, (omega arith, grow (length old) (length new) rest w.1.1.1 (inl low))))
    by_test false h =
        let many = leb-false (length new) 256 h in let one = w.0 in let most = w.1.0 in
        let long : 256 < length new = omega arith in
        let first : length (take 128 new) ≡ 128 = length-take-le 128 new (omega arith) in
        let second : length (drop 128 new) ≡ length new - 128 = length-drop 128 new in
        (omega arith, (omega arith, (omega arith, (omega arith, (omega arith, (omega arith, grow (length old) (length (drop 128 new)) rest w.1.1.1 (inr (omega arith))))))))

pub well_grown : (ps : List Page) → ArePages ps → (k : ℕ) → k < length ps → (new : Page) → length (page_at ps k) ≤ length new → length new ≤ length (page_at ps k) + 1
    → Well 128 (replaced ps k 1 (cut new))
well_grown ps are k h new low high =
    well_replaced ps are k 1 (cut new)
    (subst (λ j. Well (end_of 128 (take k ps)) (cut new ++ drop j ps)) (sym (one_more k))
    (cut_fits (end_of 128 (take k ps)) (page_at ps k) new (drop (suc k) ps) (end_long ps are k) (from_place ps are k h) low high))

pub well_first : (link : List ℕ × ℕ) → Well 128 (replaced [] 0 1 (cut (link ∷ [])))
well_first link = (omega arith, (omega arith, (omega arith, tt)))

-- ---- a page that shrank

module _ (ps : List Page) (are : ArePages ps) (k : ℕ) (h : k < length ps) (new : Page) (low : length (page_at ps k) ≤ length new + 1) (high : length new ≤ length (page_at ps k)) where
  abbrev e : ℕ
  e = end_of 128 (take k ps)

  here : Well e (page_at ps k ∷ drop (suc k) ps)
  here = from_place ps are k h

  pub well_gone : length new ≡ 0 → Well 128 (replaced ps k 1 [])
  well_gone none =
      let one = here.0 in let fits = here.1.1.0 in
      well_replaced ps are k 1 [] (subst (λ j. Well e (drop j ps)) (sym (one_more k)) (grow (length (page_at ps k)) e (drop (suc k) ps) here.1.1.1 (inr (omega arith))))

  pub well_joined_next : 1 ≤ length new → suc k < length ps → length new + length (page_at ps (suc k)) ≤ 128 → Well 128 (replaced ps k 2 ((new ++ page_at ps (suc k)) ∷ []))
  well_joined_next some within few =
      let rest : Well (length (page_at ps k)) (page_at ps (suc k) ∷ drop (suc (suc k)) ps) =
      subst (λ l. Well (length (page_at ps k)) l) (drop_more ps (suc k) [] within ∙ ap (λ j. page_at ps (suc k) ∷ drop j ps) (one_more (suc k))) here.1.1.1 in
      let fits = here.1.1.0 in
      let one = rest.0 in
      let long : length (new ++ page_at ps (suc k)) ≡ length new + length (page_at ps (suc k)) = length-append new (page_at ps (suc k)) in
      well_replaced ps are k 2 ((new ++ page_at ps (suc k)) ∷ []) (subst (λ j. Well e ((new ++ page_at ps (suc k)) ∷ drop j ps)) (sym (two_more k))
      (omega arith, (omega arith, (omega arith, grow (length (page_at ps (suc k))) (length (new ++ page_at ps (suc k))) (drop (suc (suc k)) ps) rest.1.1.1 (inl (omega arith))))))

  pub well_alone : 1 ≤ length new → (suc k < length ps → 128 < length new + length (page_at ps (suc k))) → ((j : ℕ) → k ≡ suc j → 128 < length (page_at ps j) + length new)
      → Well 128 (replaced ps k 1 (new ∷ []))
  well_alone some next prior =
      well_replaced ps are k 1 (new ∷ []) (subst (λ j. Well e (new ∷ drop j ps)) (sym (one_more k))
      (some, (fewer, (by_place k refl, rest (drop (suc k) ps) refl here.1.1.1))))
    where
      fewer : length new ≤ 256
      fewer = let most = here.1.0 in omega arith

      by_place : (i : ℕ) → k ≡ i → 128 < e + length new
      by_place zero at = let start : e ≡ 128 = ap (λ i. end_of 128 (take i ps)) at in omega arith
      by_place (suc j) at =
          let within : j < length ps = omega arith in
          let last : e ≡ length (page_at ps j) = ap (λ i. end_of 128 (take i ps)) at ∙ end_take 128 ps j within in
          let over = prior j at in
          omega arith

      rest : (qs : List Page) → drop (suc k) ps ≡ qs → Well (length (page_at ps k)) qs → Well (length new) qs
      rest [] is w = tt
      rest (q ∷ qs) is w =
          let long : length (drop (suc k) ps) ≡ length ps - suc k = length-drop (suc k) ps in
          let more : length (drop (suc k) ps) ≡ length (q ∷ qs) = ap length is in
          let within : suc k < length ps = omega arith in
          let same : page_at ps (suc k) ≡ q =
          ap (λ (l : List Page). get_or l 0 []) (sym (drop_more ps (suc k) [] within) ∙ is) in
          let over = next within in
          let lengths : length (page_at ps (suc k)) ≡ length q = ap length same in
          (w.0, (w.1.0, (omega arith, w.1.1.1)))

-- the page before takes it in
module _ (ps : List Page) (are : ArePages ps) (j : ℕ) (h : suc j < length ps) (new : Page) (low : length (page_at ps (suc j)) ≤ length new + 1) where
  pub well_joined_before : 1 ≤ length new → length (page_at ps j) + length new ≤ 128 → Well 128 (replaced ps j 2 ((page_at ps j ++ new) ∷ []))
  well_joined_before some few =
      let here : Well (end_of 128 (take j ps)) (page_at ps j ∷ drop (suc j) ps) = from_place ps are j (omega arith) in
      let rest : Well (length (page_at ps j)) (page_at ps (suc j) ∷ drop (suc (suc j)) ps) =
      subst (λ l. Well (length (page_at ps j)) l) (drop_more ps (suc j) [] h ∙ ap (λ i. page_at ps (suc j) ∷ drop i ps) (one_more (suc j))) here.1.1.1 in
      let one = here.0 in
      let fits = here.1.1.0 in
      let long : length (page_at ps j ++ new) ≡ length (page_at ps j) + length new = length-append (page_at ps j) new in
      well_replaced ps are j 2 ((page_at ps j ++ new) ∷ []) (subst (λ i. Well (end_of 128 (take j ps)) ((page_at ps j ++ new) ∷ drop i ps)) (sym (two_more j))
      (omega arith, (omega arith, (omega arith, grow (length (page_at ps (suc j))) (length (page_at ps j ++ new)) (drop (suc (suc j)) ps) rest.1.1.1 (inl (omega arith))))))
