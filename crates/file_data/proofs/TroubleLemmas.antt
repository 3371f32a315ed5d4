-- What a way over staged pieces comes to, and that it is what the statements on the whole list say.
use Rattle.std.proofs.Common.{◌≡◌, ◌≢◌, ◌⊎◌, inl, inr, ℕ, ◌+◌, ◌<◌, ◌≤◌, true, false, List, [], ◌∷◌, ◌++◌, length, map, Option, Some, None, Ok, Err, refl, sym, ap, subst, ◌∙◌, arith}
use Rattle.std.specs.Prelude.{nat_lt, ◌↔◌}
use Rattle.std.proofs.lemmas.List.{append-nil}
use Rattle.file_data.specs.declared.fault.DataFault.{DataFault}
use Rattle.file_data.specs.declared.fault.DataFault.TheVariants.{BelowLength, Gap, Overlap, WrongPosition, TooLarge}
use Rattle.file_data.specs.Staging.{start_of, end_of, pieces_below, Covers, first_trouble}
use Rattle.file_data.specs.Troubles.{BeginsAbove, HasGap, HasOverlap, EndsAbove}
use Rattle.file_data.specs.FileRecord.{FileRecord, CanFlush, refusal, flush_answer}
use Rattle.file_data.proofs.StagingLemmas.{Pieces, lt_true, lt_false, true_lt, false_lt}

pub either_side : (a b : ℕ) → (a < b) ⊎ (b ≤ a)
either_side a b =
    elim (nat_lt a b) as (λ t. nat_lt a b ≡ t → (a < b) ⊎ (b ≤ a)) [ true ↦ (λ e. inl (true_lt a b e)) | false ↦ (λ e. inr (false_lt a b e)) ] refl

same_or_less : (a b : ℕ) → a ≤ b → (a < b) ⊎ (a ≡ b)
same_or_less a b h = elim (either_side a b) [ inl l ↦ inl l | inr l ↦ inr (omega arith) ]

pub inj : (x y : ℕ) (xs ys : List ℕ) → x ∷ xs ≡ y ∷ ys → (x ≡ y) × (xs ≡ ys)
inj x y xs ys e = (cc, cc)

pub covers_more : (p : ℕ × List ℕ) (ps : Pieces) (n q : ℕ) → p.0 ≡ n → Covers ps (n + length p.1) q → Covers (p ∷ ps) n q
covers_more p ps n q e c =
    ap (λ (r : List ℕ). p.0 ∷ r) (c ∙ ap (λ (s : ℕ). (s + length p.1) ∷ map end_of ps) (sym e)) ∙ ap (λ (s : ℕ). s ∷ map end_of (p ∷ ps)) e

pub covers_first : (p : ℕ × List ℕ) (ps : Pieces) (n q : ℕ) → Covers (p ∷ ps) n q → (p.0 ≡ n) × Covers ps (n + length p.1) q
covers_first p ps n q c =
    let h : (p.0 ≡ n) × (map start_of ps ++ q ∷ [] ≡ map end_of (p ∷ ps)) = inj p.0 n (map start_of ps ++ q ∷ []) (map end_of (p ∷ ps)) c in
    (h.0, h.1 ∙ ap (λ (s : ℕ). (s + length p.1) ∷ map end_of ps) h.0)

pub ends_gap : (n q : ℕ) → n < q → first_trouble [] n q ≡ Some (Gap n)
ends_gap n q l = rw (lt_true n q l) refl

ends_wrong : (n q : ℕ) → q < n → first_trouble [] n q ≡ Some WrongPosition
ends_wrong n q l = rw (lt_false n q (omega arith), lt_true q n l) refl

pub ends_well : (n : ℕ) → first_trouble [] n n ≡ None
ends_well n = rw (lt_false n n (omega arith)) refl

pub goes_gap : (p : ℕ × List ℕ) (ps : Pieces) (n q : ℕ) → n < p.0 → first_trouble (p ∷ ps) n q ≡ Some (Gap n)
goes_gap p ps n q l = rw (lt_true n p.0 l) refl

pub goes_overlap : (p : ℕ × List ℕ) (ps : Pieces) (n q : ℕ) → p.0 < n → first_trouble (p ∷ ps) n q ≡ Some (Overlap p.0)
goes_overlap p ps n q l = rw (lt_false n p.0 (omega arith), lt_true p.0 n l) refl

pub goes_on : (p : ℕ × List ℕ) (ps : Pieces) (n q : ℕ) → p.0 ≡ n → first_trouble (p ∷ ps) n q ≡ first_trouble ps (n + length p.1) q
goes_on p ps n q e = rw (lt_false n p.0 (omega arith), lt_false p.0 n (omega arith)) refl

-- what the way over pieces comes to
pub data Outcome (ps : Pieces) (n q : ℕ) : Type 0 where
  covered : Covers ps n q → first_trouble ps n q ≡ None → Outcome ps n q
  has_gap : (at : ℕ) → HasGap ps n q at → first_trouble ps n q ≡ Some (Gap at) → Outcome ps n q
  has_overlap : (start : ℕ) → HasOverlap ps n start → first_trouble ps n q ≡ Some (Overlap start) → Outcome ps n q
  ends_above : EndsAbove ps n q → first_trouble ps n q ≡ Some WrongPosition → Outcome ps n q

further : (p : ℕ × List ℕ) (ps : Pieces) (n q : ℕ) → p.0 ≡ n → Outcome ps (n + length p.1) q → Outcome (p ∷ ps) n q
further p ps n q s (covered c e) = covered (covers_more p ps n q s c) (goes_on p ps n q s ∙ e)
further p ps n q s (has_gap at h e) =
    has_gap at (p ∷ h.0, h.1, ap (λ (r : Pieces). p ∷ r) h.2, covers_more p h.0 n at s h.3, h.4) (goes_on p ps n q s ∙ e)
further p ps n q s (has_overlap start h e) =
    has_overlap start (p ∷ h.0, h.1, h.2, h.3, ap (λ (r : Pieces). p ∷ r) h.4, covers_more p h.0 n h.3 s h.5, h.6) (goes_on p ps n q s ∙ e)
further p ps n q s (ends_above h e) = ends_above (h.0, covers_more p ps n h.0 s h.1, h.2) (goes_on p ps n q s ∙ e)

pub outcome : (ps : Pieces) (n q : ℕ) → Outcome ps n q
outcome [] n q =
    elim (either_side n q) [
      | inl l ↦ has_gap n ([], [], refl, refl, l) (ends_gap n q l)
      | inr l ↦ elim (same_or_less q n l) [
        | inl k ↦ ends_above (n, refl, k) (ends_wrong n q k)
        | inr k ↦ covered (ap (λ (s : ℕ). s ∷ []) k) (ap (λ (s : ℕ). first_trouble [] n s) k ∙ ends_well n)
      ]
    ]
outcome (p ∷ ps) n q =
    elim (either_side n p.0) [
      | inl l ↦ has_gap n ([], p ∷ ps, refl, refl, l) (goes_gap p ps n q l)
      | inr l ↦ elim (same_or_less p.0 n l) [
        | inl k ↦ has_overlap p.0 ([], p.1, ps, n, refl, refl, k) (goes_overlap p ps n q k)
        | inr k ↦ further p ps n q k (outcome ps (n + length p.1) q)
      ]
    ]

-- behind pieces that lie end to end the way goes on from their end
pub past : (front back : Pieces) (n at q : ℕ) → Covers front n at → first_trouble (front ++ back) n q ≡ first_trouble back at q
past [] back n at q c = ap (λ (s : ℕ). first_trouble back s q) (sym (inj at n [] [] c).0)
past (p ∷ front) back n at q c =
    let h : (p.0 ≡ n) × Covers front (n + length p.1) at = covers_first p front n at c in
    goes_on p (front ++ back) n q h.0 ∙ past front back (n + length p.1) at q h.1

begins : (back : Pieces) (at q : ℕ) → BeginsAbove back at q → first_trouble back at q ≡ Some (Gap at)
begins [] at q l = ends_gap at q l
begins (p ∷ ps) at q l = goes_gap p ps at q l

covers_none : (ps : Pieces) (n q : ℕ) → Covers ps n q → first_trouble ps n q ≡ None
covers_none ps n q c = ap (λ (r : Pieces). first_trouble r n q) (sym (append-nil ps)) ∙ past ps [] n q q c ∙ ends_well q

pub none_covers : (ps : Pieces) (n q : ℕ) → first_trouble ps n q ≡ None → Covers ps n q
none_covers ps n q e = told (outcome ps n q)
  where
    told : Outcome ps n q → Covers ps n q
    told (covered c f) = c
    told (has_gap at h f) = absurd (cc)
    told (has_overlap start h f) = absurd (cc)
    told (ends_above h f) = absurd (cc)

pub no_trouble : (ps : Pieces) (n q : ℕ) → ((first_trouble ps n q ≡ None) ↔ Covers ps n q)
no_trouble ps n q = (none_covers ps n q, covers_none ps n q)

pub gap_is : (ps : Pieces) (n q at : ℕ) → ((first_trouble ps n q ≡ Some (Gap at)) ↔ HasGap ps n q at)
gap_is ps n q at = ((λ e. told e (outcome ps n q)), (λ h. ap (λ (r : Pieces). first_trouble r n q) h.2 ∙ past h.0 h.1 n at q h.3 ∙ begins h.1 at q h.4))
  where
    told : first_trouble ps n q ≡ Some (Gap at) → Outcome ps n q → HasGap ps n q at
    told e (covered c f) = absurd (cc)
    told e (has_gap at' h f) = let s : at' ≡ at = cc in subst (λ k. HasGap ps n q k) s h
    told e (has_overlap start h f) = absurd (cc)
    told e (ends_above h f) = absurd (cc)

pub overlap_is : (ps : Pieces) (n q start : ℕ) → ((first_trouble ps n q ≡ Some (Overlap start)) ↔ HasOverlap ps n start)
overlap_is ps n q start = (
  (λ e. told e (outcome ps n q)),
  (λ h. ap (λ (r : Pieces). first_trouble r n q) h.4 ∙ past h.0 ((start, h.1) ∷ h.2) n h.3 q h.5 ∙ goes_overlap (start, h.1) h.2 h.3 q h.6),
)
  where
    told : first_trouble ps n q ≡ Some (Overlap start) → Outcome ps n q → HasOverlap ps n start
    told e (covered c f) = absurd (cc)
    told e (has_gap at h f) = absurd (cc)
    told e (has_overlap start' h f) = let s : start' ≡ start = cc in subst (λ k. HasOverlap ps n k) s h
    told e (ends_above h f) = absurd (cc)

pub wrong_is : (ps : Pieces) (n q : ℕ) → ((first_trouble ps n q ≡ Some WrongPosition) ↔ EndsAbove ps n q)
wrong_is ps n q = (
  (λ e. told e (outcome ps n q)),
  (λ h. ap (λ (r : Pieces). first_trouble r n q) (sym (append-nil ps)) ∙ past ps [] n h.0 q h.1 ∙ ends_wrong h.0 q h.2),
)
  where
    told : first_trouble ps n q ≡ Some WrongPosition → Outcome ps n q → EndsAbove ps n q
    told e (covered c f) = absurd (cc)
    told e (has_gap at h f) = absurd (cc)
    told e (has_overlap start h f) = absurd (cc)
    told e (ends_above h f) = h

-- an answer to a flush, taken apart
below_answer : (f : FileRecord) (q : ℕ) → q < length f.committed → flush_answer f q ≡ Err BelowLength
below_answer f q l = rw (lt_true q (length f.committed) l) refl

walk_answer : (f : FileRecord) (q : ℕ) → length f.committed ≤ q
    → flush_answer f q ≡ refusal (first_trouble (pieces_below f.staged q) (length f.committed) q)
walk_answer f q l = rw (lt_false q (length f.committed) l) refl

refused_with : (r : Option DataFault) (e : DataFault) → refusal r ≡ Err e → r ≡ Some e
refused_with None e h = absurd (cc)
refused_with (Some x) e h = let s : x ≡ e = cc in ap (λ (y : DataFault). Some y) s

allowed_with : (r : Option DataFault) → refusal r ≡ Ok tt → r ≡ None
allowed_with None h = refl
allowed_with (Some x) h = absurd (cc)

pub fault_is : (f : FileRecord) (q : ℕ) (e : DataFault) → e ≢ BelowLength
    → ((flush_answer f q ≡ Err e) ↔ ((length f.committed ≤ q) × (first_trouble (pieces_below f.staged q) (length f.committed) q ≡ Some e)))
fault_is f q e ne = (
  (λ h. elim (either_side q (length f.committed)) [
    | inl l ↦ let b = below_answer f q l in absurd (ne (let s : e ≡ BelowLength = cc in s))
    | inr l ↦ (l, refused_with (first_trouble (pieces_below f.staged q) (length f.committed) q) e (sym (walk_answer f q l) ∙ h))
  ]),
  (λ h. walk_answer f q h.0 ∙ ap refusal h.1),
)

pub never_below : (ps : Pieces) (n q : ℕ) → first_trouble ps n q ≡ Some BelowLength → ⊥
never_below ps n q e = told (outcome ps n q)
  where
    told : Outcome ps n q → ⊥
    told (covered c f) = cc
    told (has_gap at h f) = cc
    told (has_overlap start h f) = cc
    told (ends_above h f) = cc

pub never_large : (ps : Pieces) (n q : ℕ) → first_trouble ps n q ≡ Some TooLarge → ⊥
never_large ps n q e = told (outcome ps n q)
  where
    told : Outcome ps n q → ⊥
    told (covered c f) = cc
    told (has_gap at h f) = cc
    told (has_overlap start h f) = cc
    told (ends_above h f) = cc

pub flush_below_length : (f : FileRecord) (q : ℕ) → ((flush_answer f q ≡ Err BelowLength) ↔ (q < length f.committed))
flush_below_length f q = (
  (λ h. elim (either_side q (length f.committed)) [
    | inl l ↦ l
    | inr l ↦ absurd (never_below (pieces_below f.staged q) (length f.committed) q
        (refused_with (first_trouble (pieces_below f.staged q) (length f.committed) q) BelowLength (sym (walk_answer f q l) ∙ h)))
  ]),
  below_answer f q,
)

pub flush_gap : (f : FileRecord) (q at : ℕ) → ((flush_answer f q ≡ Err (Gap at)) ↔ ((length f.committed ≤ q) × HasGap (pieces_below f.staged q) (length f.committed) q at))
flush_gap f q at =
    let w = fault_is f q (Gap at) (λ e. cc) in let g = gap_is (pieces_below f.staged q) (length f.committed) q at in
    ((λ h. let k = w.0 h in (k.0, g.0 k.1)), (λ h. w.1 (h.0, g.1 h.1)))

pub flush_overlap : (f : FileRecord) (q start : ℕ) → ((flush_answer f q ≡ Err (Overlap start)) ↔ ((length f.committed ≤ q) × HasOverlap (pieces_below f.staged q) (length f.committed) start))
flush_overlap f q start =
    let w = fault_is f q (Overlap start) (λ e. cc) in let g = overlap_is (pieces_below f.staged q) (length f.committed) q start in
    ((λ h. let k = w.0 h in (k.0, g.0 k.1)), (λ h. w.1 (h.0, g.1 h.1)))

pub flush_wrong : (f : FileRecord) (q : ℕ) → ((flush_answer f q ≡ Err WrongPosition) ↔ ((length f.committed ≤ q) × EndsAbove (pieces_below f.staged q) (length f.committed) q))
flush_wrong f q =
    let w = fault_is f q WrongPosition (λ e. cc) in let g = wrong_is (pieces_below f.staged q) (length f.committed) q in
    ((λ h. let k = w.0 h in (k.0, g.0 k.1)), (λ h. w.1 (h.0, g.1 h.1)))

pub flush_never_too_large : (f : FileRecord) (q : ℕ) → flush_answer f q ≡ Err TooLarge → ⊥
flush_never_too_large f q h =
    never_large (pieces_below f.staged q) (length f.committed) q ((fault_is f q TooLarge (λ e. cc)).0 h).1

pub flush_allowed : (f : FileRecord) (q : ℕ) → ((flush_answer f q ≡ Ok tt) ↔ CanFlush f q)
flush_allowed f q = (
  (λ h. elim (either_side q (length f.committed)) [
    | inl l ↦ let b = below_answer f q l in absurd (cc)
    | inr l ↦ (
      l,
      none_covers (pieces_below f.staged q) (length f.committed) q
          (allowed_with (first_trouble (pieces_below f.staged q) (length f.committed) q) (sym (walk_answer f q l) ∙ h)),
    )
  ]),
  (λ h. walk_answer f q h.0 ∙ ap refusal (covers_none (pieces_below f.staged q) (length f.committed) q h.1)),
)
